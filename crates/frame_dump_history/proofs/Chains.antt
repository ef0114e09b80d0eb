-- The back chains of all open frames stand in the present memory, down to the start's zero word. Assumes nothing.
use Prim.Native.Nat.{ℕ, ◌+◌, ◌-◌, ◌≤◌, ◌<◌}
use mathlib.Core.Path.{◌≡◌, refl, sym, ◌∙◌}
use mathlib.Core.Logic.{inl, inr}
use mathlib.Core.Bool.{false}
use mathlib.Core.List.{List, [], ◌∷◌}
use native.Mathlib.Omega.{arith}
use lib.ListN.{length, get_or}
use Rattle.frame_saves.specs.Saves.{load}
use Rattle.frame_saves.proofs.Words.{load-agree}
use Rattle.frame_saves.proofs.Saving.{outside_above}
use Rattle.frame_rules.specs.declared.FrameRules.{FrameRules}
use Rattle.frame_rules.specs.Frames.{outgoing_length, below, frame_size, saves}
use Rattle.frame_rules.specs.Helpers.{LawfulFrames}
use Rattle.frame_rules.proofs.Places.{size-parts, ascending, chain-outside}
use Rattle.frame_machine.specs.Machine.{stack_pointer, offset}
use Rattle.frame_history.specs.Calls.{Machine}
use Rattle.frame_history.specs.Preserved.{OpenEnter, caller_of}
use Rattle.frame_history.proofs.Invariant.{Invariant, base-of, saves-below}

-- in the memory l: at the pointer of the machine m its caller's, and so on; at the start's zero
abbrev pub Chains : FrameRules → List OpenEnter → Machine → List ℕ → Type 0
Chains k [] m l = load l (offset k m.state) k.word ≡ 0
Chains k (o ∷ os) m l = (load l (offset k m.state) k.word ≡ stack_pointer k o.before.state) × Chains k os o.before l

-- memories that agree on the present chain word and past the present frame's outgoing area have the same chains
chains-same : (k : FrameRules) → LawfulFrames k → (os : List OpenEnter) (m : Machine) (l l' : List ℕ) → Invariant k os m → (caller_of k os).leaf ≡ false → length l' ≡ length l
    → ((b : ℕ) → offset k m.state ≤ b → b < offset k m.state + k.word → get_or l' b 0 ≡ get_or l b 0)
    → ((b : ℕ) → offset k m.state + k.header + outgoing_length k (caller_of k os) ≤ b → get_or l' b 0 ≡ get_or l b 0)
    → Chains k os m l → Chains k os m l'
chains-same k law [] m l l' i z n e f c = load-agree l' l (offset k m.state) k.word n e ∙ c
chains-same k law (o ∷ os) m l l' i z n e f c =
    let t = i.1 in
    let at : offset k o.before.state ≡ offset k m.state + frame_size k o.request = omega (arith, t.pointer, t.base, i.0.sound.over) in
    let parts = size-parts k law o.request t.request z in (
      load-agree l' l (offset k m.state) k.word n e ∙ c.0,
      chains-same k law os o.before l l' i.2 t.solid n (λ b p q. f b (omega arith)) (λ b p. f b (omega arith)) c.1,
    )

pub chains : (k : FrameRules) → LawfulFrames k → (os : List OpenEnter) (m : Machine) → Invariant k os m → (caller_of k os).leaf ≡ false → Chains k os m m.memory
chains k law [] m i z = i.2
chains k law (o ∷ os) m i z =
    let t = i.1 in
    let s = offset k o.before.state in
    let r = o.before.state.registers in
    let at : offset k m.state ≡ s - frame_size k o.request = omega (arith, t.pointer, t.base) in
    let fits = saves-below k law o os m i.0 t in
    let was = base-of k os o.before i.2 in
    let lengths : length m.memory ≡ length o.before.memory = i.0.sound.length ∙ t.size ∙ sym was.sound.length in
    let vs = saves k o.request s r in
    let asc = ascending k law o.request t.request s fits r in (
      rw at (t.chain z),
      chains-same k law os o.before o.before.memory m.memory i.2 t.solid lengths
          (λ b p q. t.bytes b p (chain-outside k law o.request t.request s fits r b p q) (inl (omega (arith, law.chain))))
          (λ b p. t.bytes b (omega arith) (outside_above vs (s - below k.linkage k o.request) (s + k.header) b asc (omega arith)) (inr p))
          (chains k law os o.before i.2 t.solid),
    )
