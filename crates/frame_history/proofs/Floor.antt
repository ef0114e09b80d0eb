-- The floor is kept, in every list of calls from every accepted start: the enter of a frame saves and chains at or above the pointer that it leaves behind, writes lie in
-- areas above the pointer, but for a leaf's, and a leave writes nothing. Assumes nothing.
use Prim.Native.Nat.{ℕ, suc, ◌+◌, ◌-◌, ◌≤◌, ◌<◌}
use mathlib.Core.Path.{◌≡◌, refl, ◌∙◌}
use mathlib.Core.Logic.{◌⊎◌, inl, inr, ⊎_elim}
use mathlib.Core.Bool.{true}
use mathlib.Core.List.{List, [], ◌∷◌}
use native.Mathlib.Omega.{arith}
use lib.ListN.{length, get_or}
use lib.Dec.{leb}
use borrow.Author.Tests.{leb-true}
use Rattle.base_words.specs.Basics.{All}
use Rattle.base_words.specs.Splice.{splice}
use Rattle.base_words.proofs.Splices.{splice-at-other}
use Rattle.frame_saves.specs.Saves.{store}
use Rattle.frame_saves.proofs.Words.{store_below}
use Rattle.frame_saves.proofs.Saving.{all-outside, outside_below}
use Rattle.base_words.proofs.Basics.{le-or-lt}
use Rattle.base_words.proofs.Tests.{either, and_yes}
use Rattle.frame_rules.specs.declared.FrameRules.{FrameRules}
use Rattle.frame_rules.specs.declared.Frame.{Frame}
use Rattle.frame_rules.specs.Rules.{rules}
use Rattle.frame_rules.specs.Frames.{with_pointer, below, frame_size, chain_width, saves}
use Rattle.frame_rules.specs.Helpers.{LawfulFrames}
use Rattle.frame_rules.proofs.Conventions.{lawful}
use Rattle.frame_rules.proofs.Places.{leaf-size, size-parts, below-reach, ascending}
use Rattle.frame_machine.specs.Answers.{FrameAnswer}
use Rattle.std.specs.Prelude.{Ok, Err}
use Rattle.frame_machine.specs.Machine.{stack_pointer, offset, top, caller, state_tests, outgoing_from, writable_address, write_memory_answer, written_memory, entered, entered_memory, start_outcome, enter_outcome, enter_memory, write_register_outcome, write_memory_outcome, write_memory_memory, leave_outcome}
use Rattle.frame_machine.specs.Helpers.{CanEnter}
use Rattle.frame_machine.proofs.Judging.{holds-yes, judge-both}
use Rattle.frame_machine.proofs.States.{enter-yes}
use Rattle.frame_machine.proofs.Areas.{solid-outgoing, outgoing-le, areas}
use Rattle.frame_history.specs.Calls.{Call, enter, write_register, write_memory, leave, Machine, answer, after}
use Rattle.frame_history.specs.Preserved.{OpenEnter, open_after, CallsFit}
use Rattle.frame_history.specs.Floor.{FloorInside, Untouched, FloorHolds, KeepsFloorOfStates}
use Rattle.frame_history.proofs.Invariant.{Base, Invariant, base-of}
use Rattle.frame_history.proofs.Entering.{new-pointer}
use Rattle.frame_history.proofs.Theorem.{step, start-invariant}

floor-inside : (k : FrameRules) (m : Machine) → Base k m → FloorInside k m
floor-inside k m b = record { first = b.sound.over; last = omega (arith, b.sound.sum, b.sound.length) }

-- 19 cannot occur for a leaf: it needs the floor, which is there in every state that can be
pub leaf_room : (k : FrameRules) (m : Machine) → Base k m → (f : Frame) → f.leaf ≡ true → m.state.base + frame_size k f + k.floor ≤ stack_pointer k m.state
leaf_room k m b f e = omega (arith, leaf-size k f e, b.sound.over)

enter-untouched : (k : FrameRules) → LawfulFrames k → (m : Machine) (f : Frame) → Base k m → CanEnter k m.state f
    → Untouched k (enter f) m (record { state = entered k m.state f; memory = entered_memory k m.state m.memory f })
unfolding entered entered_memory with_pointer
enter-untouched k law m f b y c p =
    let s = offset k m.state in
    let u = below k.linkage k f in
    let vs = saves k f s m.state.registers in
    let reach = below-reach k law f y.request in
    let fits : u ≤ s = omega (arith, y.room, reach) in
    let low : c < s - frame_size k f = omega (arith, new-pointer k law m f b y) in
    ⊎_elim (λ q. inl (all-outside vs (store m.memory (s - frame_size k f) (chain_width k f) (stack_pointer k m.state)) c
    (outside_below vs (s - u) (s + k.header) c (ascending k law f y.request s fits m.state.registers) (omega arith))
    ∙ store_below m.memory (s - frame_size k f) (chain_width k f) (stack_pointer k m.state) c low))
    (λ q. either f.leaf (λ e. inr (omega (arith, new-pointer k law m f b y, leaf-size k f e, reach, fits), (e, omega arith))) (λ e. absurd (omega (arith, low, size-parts k law f y.request e))))
    (le-or-lt (suc c) (s - u))

-- a leaf writes from the floor's first byte on
leaf-outgoing : (k : FrameRules) (f : Frame) (o : ℕ) → f.leaf ≡ true → outgoing_from k f o ≡ o - k.floor
leaf-outgoing k f o e = rw e

write-untouched : (k : FrameRules) (m : Machine) (a : ℕ) (bs : List ℕ) → write_memory_answer k m.state (length m.memory) a (length bs) ≡ Ok tt
    → Untouched k (write_memory a bs) m (record { state = m.state; memory = written_memory m.state m.memory a bs })
unfolding write_memory_answer written_memory writable_address
write-untouched k m a bs e c p =
    let s = m.state in
    let f = top k s in
    let o = offset k s in
    let t = judge-both (state_tests k s (length m.memory)) _ e in
    let w = and_yes (leb s.base a) _ (holds-yes _ _ t.1).0 in
    let base = leb-true s.base a w.0 in
    let least : (outgoing_from k f o ≤ a - s.base) ⊎ (o ≤ a - s.base)
    = ⊎_elim (λ u. inl u.0) (λ u. ⊎_elim (λ v. inl (omega (arith, outgoing-le k f o))) (λ v. inr (omega arith)) u.1) (areas k s (a - s.base) (length bs) w.1 f refl (caller k s) refl) in
    let beside : (c < a - s.base) ⊎ (a - s.base + length bs ≤ c) → get_or (splice m.memory (a - s.base) bs) c 0 ≡ get_or m.memory c 0
    = λ h. splice-at-other m.memory (a - s.base) bs c 0 (⊎_elim (λ q. inl (omega arith)) (λ q. inr q) h) in
    ⊎_elim (λ q. inl (beside (inl (omega arith))))
    (λ q. ⊎_elim (λ r. inl (beside (inr r)))
    (λ r. either f.leaf (λ z. inr (⊎_elim (λ u. omega (arith, leaf-outgoing k f o z)) (λ u. omega arith) least, (z, omega arith, omega (arith, base))))
    (λ z. absurd (⊎_elim (λ u. omega (arith, solid-outgoing k f o z, p)) (λ u. omega arith) least)))
    (le-or-lt (a - s.base + length bs) c))
    (le-or-lt (suc c) (a - s.base))

module _ (k : FrameRules) (law : LawfulFrames k) where
  untouched : (c : Call) (os : List OpenEnter) (m : Machine) → Invariant k os m → (a : FrameAnswer) → answer c m ≡ a → Untouched k c m (after c m)
  unfolding enter_outcome enter_memory write_register_outcome write_memory_outcome write_memory_memory leave_outcome
  untouched (enter f) os m i (Ok tt) e =
      let b = base-of k os m i in
      rw (e, b.rules) (enter-untouched k law m f b (enter-yes k m.state (length m.memory) f (rw b.rules at e)).1)
  untouched (enter f) os m i (Err x) e = rw e (λ b p. inl refl)
  untouched (write_register b n v) os m i a e = λ b p. inl refl
  untouched (write_memory a bs) os m i (Ok tt) e = rw e (write-untouched k m a bs (rw (base-of k os m i).rules at e))
  untouched (write_memory a bs) os m i (Err x) e = rw e (λ b p. inl refl)
  untouched leave os m i a e = λ b p. inl refl

  floor-holds : (cs : List Call) → CallsFit cs → (os : List OpenEnter) (m : Machine) → Invariant k os m → FloorHolds k cs m
  unfolding All
  floor-holds [] w os m i = floor-inside k m (base-of k os m i)
  floor-holds (c ∷ cs) w os m i = (
    floor-inside k m (base-of k os m i),
    untouched c os m i (answer c m) refl,
    floor-holds cs w.1 (open_after c (answer c m) m os) (after c m) (step k law c w.0 os m i (answer c m) refl).1,
  )

pub floor-kept : KeepsFloorOfStates
unfolding start_outcome
floor-kept c b l r fit e cs w = floor-holds (rules c) (lawful c) cs w [] _ (start-invariant c b l r fit e)
