-- An accepted enter changes no argument register, and no byte from the caller's outgoing area on. Assumes nothing.
use mathlib.Core.Path.{◌≡◌, refl, ap, ◌∙◌, subst}
use mathlib.Core.List.{List}
use Prim.Native.Nat.{ℕ, ◌+◌, ◌-◌, ◌≤◌}
use native.Mathlib.Omega.{arith}
use lib.ListN.{length, get_or}
use lib.Seq.{get_or-set_other}
use Rattle.base_words.specs.Splice.{part}
use Rattle.base_words.proofs.Splices.{part-agree}
use Rattle.frame_saves.specs.Saves.{Save, store, save_all}
use Rattle.frame_saves.proofs.Words.{store_length, store-above}
use Rattle.frame_saves.proofs.Saving.{all-length, all-outside, outside_above}
use Rattle.plan_places.specs.declared.Bank.{Bank}
use Rattle.base_conventions.specs.declared.Convention.{Convention}
use Rattle.frame_rules.specs.declared.FrameRules.{FrameRules}
use Rattle.frame_rules.specs.declared.Frame.{Frame}
use Rattle.frame_rules.specs.Rules.{rules}
use Rattle.frame_rules.specs.Frames.{with_pointer, below, frame_size, chain_width, saves}
use Rattle.frame_rules.specs.Helpers.{LawfulFrames}
use Rattle.frame_rules.proofs.Conventions.{lawful}
use Rattle.frame_rules.proofs.Places.{chain-in, below-reach, ascending}
use Rattle.std.specs.Prelude.{Ok}
use Rattle.frame_machine.specs.declared.State.{State}
use Rattle.frame_machine.specs.Machine.{state_rules, stack_pointer, offset, enter_answer, entered, entered_memory, enter_outcome}
use Rattle.frame_machine.specs.Helpers.{CanEnter}
use Rattle.frame_machine.proofs.States.{enter-yes}
use Rattle.frame_machine.proofs.Outcomes.{enter-accepted}
use Rattle.frame_history.specs.Calls.{enter, Machine, answer, after}
use Rattle.frame_history.specs.Preserved.{OpenEnter}
use Rattle.frame_history.proofs.Invariant.{Base, Invariant, base-of}
use Rattle.both_whole_call.specs.Put.{file_of}

-- bytes from the header's end on
entered-part : (k : FrameRules) → LawfulFrames k → (s : State) (l : List ℕ) (f : Frame) (at n : ℕ) → CanEnter k s f → offset k s + k.header ≤ at → part at n (entered_memory k s l f) ≡ part at n l
unfolding entered_memory
entered-part k law s l f at n y above =
    let fits : frame_size k f ≤ offset k s = omega (arith, y.room) in
    let vs : List Save = saves k f (offset k s) s.registers in
    let l₁ : List ℕ = store l (offset k s - frame_size k f) (chain_width k f) (stack_pointer k s) in
    let saved : below k.linkage k f ≤ offset k s = omega (arith, y.room, below-reach k law f y.request) in
    let asc = ascending k law f y.request (offset k s) saved s.registers in
    part-agree (save_all l₁ vs) l at n (all-length vs l₁ ∙ store_length l (offset k s - frame_size k f) (chain_width k f) (stack_pointer k s))
    (λ b p q. all-outside vs l₁ b (outside_above vs (offset k s - below k.linkage k f) (offset k s + k.header) b asc (omega arith))
    ∙ store-above l (offset k s - frame_size k f) (chain_width k f) (stack_pointer k s) b (omega (arith, chain-in k law f y.request (offset k s) fits)))

-- registers but the stack pointer
entered-register : (k : FrameRules) (s : State) (f : Frame) (b : Bank) (n : ℕ) → (n ≡ k.pointer → b ≡ Bank.General → ⊥)
    → get_or (file_of b (entered k s f).registers) n 0 ≡ get_or (file_of b s.registers) n 0
unfolding entered with_pointer
entered-register k s f Bank.General n h = get_or-set_other s.registers.gpr k.pointer n (stack_pointer k s - frame_size k f) 0 (λ e. h e refl)
entered-register k s f Bank.Floating n h = refl

module _ (c : Convention) (os : List OpenEnter) (m : Machine) (i : Invariant (rules c) os m) (f : Frame) (e : answer (enter f) m ≡ Ok tt) where
  abbrev k : FrameRules
  k = rules c

  base : Base k m
  base = base-of k os m i

  judged : enter_answer (state_rules m.state) m.state (length m.memory) f ≡ Ok tt
  unfolding enter_outcome
  judged = e

  can : CanEnter k m.state f
  can = (enter-yes k m.state (length m.memory) f (subst (λ (r : FrameRules). enter_answer r m.state (length m.memory) f ≡ Ok tt) base.rules judged)).1

  enter-state : (after (enter f) m).state ≡ entered k m.state f
  enter-state = ap (λ o. o.state) (enter-accepted m.state m.memory f judged).0 ∙ ap (λ (r : FrameRules). entered r m.state f) base.rules

  enter-memory : (after (enter f) m).memory ≡ entered_memory k m.state m.memory f
  enter-memory = (enter-accepted m.state m.memory f judged).1 ∙ ap (λ (r : FrameRules). entered_memory r m.state m.memory f) base.rules

  pub enter-part : (at n : ℕ) → offset k m.state + k.header ≤ at → part at n (after (enter f) m).memory ≡ part at n m.memory
  enter-part at n h = ap (part at n) enter-memory ∙ entered-part k (lawful c) m.state m.memory f at n can h

  pub enter-base : (after (enter f) m).state.base ≡ m.state.base
  unfolding entered
  enter-base = ap (λ (s : State). s.base) enter-state

  pub enter-register : (b : Bank) (n : ℕ) → (n ≡ k.pointer → b ≡ Bank.General → ⊥)
      → get_or (file_of b (after (enter f) m).state.registers) n 0 ≡ get_or (file_of b m.state.registers) n 0
  enter-register b n h = ap (λ (s : State). get_or (file_of b s.registers) n 0) enter-state ∙ entered-register k m.state f b n h
