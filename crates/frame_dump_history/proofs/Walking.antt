-- A walk over the memory of a machine with the invariant: each address passes its tests, and each back chain leads to the next. Assumes nothing.
use Prim.Native.Nat.{ℕ, zero, suc, ◌+◌, ◌-◌, ◌*◌, ◌/◌, ◌%◌, ◌^◌, ◌∣◌, ◌≤◌, ◌<◌}
use mathlib.Core.Path.{◌≡◌, refl, sym, ap, ◌∙◌, subst}
use mathlib.Core.Logic.{⊎_elim}
use mathlib.Core.Bool.{Bool, true, false, ◌&&◌}
use mathlib.Core.List.{List, [], ◌∷◌}
use native.Mathlib.Omega.{arith}
use native.Mathlib.Nat.{dvd-zero, dvd-mul_left, dvd_trans, dvd-add, dvd-sub, dvd_of_mod-eq-zero, mod-eq-zero_of_dvd}
use lib.ListN.{length, get_or}
use lib.Dec.{leb, eqb}
use borrow.Author.Tests.{le-leb, eq-eqb, ne_eqb, eqb-true}
use Rattle.base_words.specs.Basics.{round_up}
use Rattle.base_words.proofs.Tests.{and_yes, either}
use Rattle.frame_saves.specs.Saves.{load}
use Rattle.base_conventions.specs.declared.Convention.{Convention}
use Rattle.base_conventions.specs.declared.Convention.TheVariants.{Ppc64, Z, Aix, Ppc64b}
use Rattle.frame_rules.specs.declared.FrameRules.{FrameRules}
use Rattle.frame_rules.specs.declared.Frame.{Frame}
use Rattle.frame_rules.specs.Rules.{rules}
use Rattle.frame_rules.specs.Frames.{outgoing_length, below, full_size, frame_size}
use Rattle.frame_rules.specs.Helpers.{LawfulFrames}
use Rattle.frame_rules.proofs.Places.{leaf-size, solid-size, size-parts}
use Rattle.frame_machine.specs.declared.State.{State}
use Rattle.frame_machine.specs.Machine.{stack_pointer, offset, frame_at, ok_memory, sizes}
use Rattle.frame_machine.specs.Helpers.{Sound}
use Rattle.frame_history.specs.Calls.{Machine}
use Rattle.frame_history.specs.Preserved.{OpenEnter, caller_of}
use Rattle.frame_history.proofs.Invariant.{Invariant, base-of}
use Rattle.frame_dump.specs.Walk.{Walked, frames, ok_address, walk_from}
use Rattle.frame_dump.proofs.Laws.{word_some}
use Rattle.frame_dump_history.proofs.Pointers.{callers}
use Rattle.frame_dump_history.proofs.Chains.{Chains}

-- what the walk asks of a convention's numbers besides: the ends of a machine's memory are multiples of 16, and so the start's pointer is aligned
pub record Aligned (k : FrameRules) : Type 0 where
  pub divides : 16 % k.alignment ≡ 0
  pub room : k.room % k.alignment ≡ 0

pub aligned : (c : Convention) → Aligned (rules c)
aligned Ppc64 = record { divides = refl; room = refl }
aligned Z = record { divides = refl; room = refl }
aligned Aix = record { divides = refl; room = refl }
aligned Ppc64b = record { divides = refl; room = refl }

-- ---- alignment

module _ (k : FrameRules) (law : LawfulFrames k) (even : Aligned k) where
  -- a frame moves the pointer by a multiple of the alignment
  size-aligned : (f : Frame) → k.alignment ∣ frame_size k f
  unfolding full_size round_up
  size-aligned f =
      either f.leaf (λ e. rw (leaf-size k f e) (dvd-zero k.alignment))
      (λ e. rw (solid-size k f e) (dvd-mul_left k.alignment ((k.header + outgoing_length k f + f.locals + below k.linkage k f + (k.alignment - 1)) / k.alignment)))

  sizes-aligned : (fs : List Frame) (d : ℕ) → k.alignment ∣ sizes k fs d
  unfolding sizes
  sizes-aligned fs zero = dvd-zero k.alignment
  sizes-aligned fs (suc d) = dvd-add k.alignment (sizes-aligned fs d) (size-aligned (frame_at fs d))

  by-16 : (n : ℕ) → n % 16 ≡ 0 → k.alignment ∣ n
  by-16 n e = dvd_trans k.alignment (dvd_of_mod-eq-zero k.alignment even.divides) (dvd_of_mod-eq-zero 16 e)

  memory-16 : (b n : ℕ) → ok_memory k b n ≡ true → (n % 16 ≡ 0) × (b % 16 ≡ 0)
  unfolding ok_memory
  memory-16 b n e =
      let p = and_yes (eqb (n % 16) 0) _ e in
      let q = and_yes (leb 256 n) _ p.1 in
      let r = and_yes (leb n 65536) _ q.1 in
      let s = and_yes (eqb (b % 16) 0) _ r.1 in
      (eqb-true (n % 16) 0 p.0, eqb-true (b % 16) 0 s.0)

  -- the pointer of a sound state is aligned
  pointer-aligned : (s : State) (n : ℕ) → Sound k s n → stack_pointer k s % k.alignment ≡ 0
  pointer-aligned s n y =
      let m = memory-16 s.base s.size y.memory in
      let up = dvd-add k.alignment (by-16 s.base m.1) (by-16 s.size m.0) in
      let down = dvd-add k.alignment (sizes-aligned s.frames s.depth) (dvd_of_mod-eq-zero k.alignment even.room) in
      let e : stack_pointer k s ≡ s.base + s.size - (sizes k s.frames s.depth + k.room) = omega (arith, y.sum) in
      mod-eq-zero_of_dvd k.alignment (rw e (dvd-sub k.alignment up down))

  -- ---- one address

  -- the pointer passes the tests of a walk
  address-ok : (s : State) (n least : ℕ) → Sound k s n → least ≤ stack_pointer k s → ok_address k s.base n least (stack_pointer k s) ≡ true
  unfolding ok_address
  address-ok s n least y h =
      rw (
        pointer-aligned s n y,
        le-leb s.base (stack_pointer k s) (omega (arith, y.over)),
        le-leb (stack_pointer k s + k.header) (s.base + n) (omega (arith, y.sum, y.length, law.head)),
        le-leb least (stack_pointer k s) h,
      )

  -- ---- all of them

  pub memory-walk : (os : List OpenEnter) (m : Machine) (l : List ℕ) (n least : ℕ) → Invariant k os m → (caller_of k os).leaf ≡ false → Chains k os m l → length l ≡ m.state.size
      → length os < n → least ≤ stack_pointer k m.state → walk_from n k m.state.base l least (stack_pointer k m.state) ≡ frames (stack_pointer k m.state ∷ callers k os)
  unfolding walk_from
  memory-walk os m l zero least i z c e h p = absurd (omega arith)
  memory-walk [] m l (suc n) least i z c e h p =
      let y = i.0.sound in
      let size : length l ≡ length m.memory = e ∙ sym y.length in
      rw (size, address-ok m.state (length m.memory) least y p, c)
  memory-walk (o ∷ os) m l (suc n) least i z c e h p =
      let t = i.1 in
      let y = i.0.sound in
      let size : length l ≡ length m.memory = e ∙ sym y.length in
      let up : stack_pointer k m.state + 1 ≤ stack_pointer k o.before.state = omega (arith, t.pointer, size-parts k law o.request t.request z, law.chain, word_some k law) in
      let more : eqb (stack_pointer k o.before.state) 0 ≡ false = ne_eqb (stack_pointer k o.before.state) 0 (λ q. omega arith) in
      let rest = memory-walk os o.before l n (stack_pointer k m.state + 1) i.2 t.solid c.1 (e ∙ t.size) (omega arith) up in
      rw (size, address-ok m.state (length m.memory) least y p, c.0, more, t.base, rest)
