-- Registers put by writes: every write is accepted, and afterwards each register has what the image has for it. All values are of one image, so that a later write never
-- changes what an earlier one put. Assumes nothing.
use mathlib.Core.Path.{◌≡◌, refl, sym, ap, ◌∙◌, subst}
use mathlib.Core.Bool.{true}
use mathlib.Core.List.{List, [], ◌∷◌, map}
use Prim.Native.Nat.{ℕ, ◌-◌, ◌^◌, ◌≤◌, ◌<◌}
use native.Mathlib.Omega.{arith}
use borrow.Author.Tests.{le-leb}
use lib.ListN.{length, get_or}
use lib.Seq.{get_or-set_same}
use Rattle.base_words.specs.Basics.{All}
use Rattle.base_words.proofs.Basics.{set_holds}
use Rattle.plan_places.specs.declared.Bank.{Bank}
use Rattle.base_conventions.specs.declared.Convention.{Convention}
use Rattle.frame_rules.specs.declared.FrameRules.{FrameRules}
use Rattle.frame_rules.specs.declared.Registers.{Registers}
use Rattle.frame_rules.specs.Rules.{rules}
use Rattle.frame_rules.specs.Frames.{bank_of, writable, writable_register, with_register}
use Rattle.frame_rules.specs.Helpers.{LawfulFrames}
use Rattle.frame_rules.proofs.Conventions.{lawful, writable-lt}
use Rattle.frame_rules.proofs.Places.{limit-64}
use Rattle.std.specs.Prelude.{Ok}
use Rattle.frame_machine.specs.declared.FrameRefusal.TheVariants.{NotPermitted}
use Rattle.frame_machine.specs.Answers.{require, judge}
use Rattle.frame_machine.specs.Machine.{state_rules, stack_pointer, top, sizes, state_tests, write_register_answer, written_register, write_register_outcome}
use Rattle.frame_machine.proofs.Judging.{judge-next}
use Rattle.frame_machine.proofs.States.{state-accepted}
use Rattle.frame_machine.proofs.Outcomes.{write-register-accepted}
use Rattle.frame_history.specs.Calls.{Call, write_register, Machine, answer, after}
use Rattle.frame_history.specs.Preserved.{OpenEnter, caller_of, CallsFit}
use Rattle.frame_history.proofs.Invariant.{Base, Invariant, base-of, top-is}
use Rattle.both_whole_call.specs.Put.{Register, file_of, held_in, bank_number, in_image}
use Rattle.both_whole_call.specs.Caller.{bank_in, first_saved, Free}
use Rattle.both_whole_call.proofs.Steps.{run, AllAccepted, opened_by, call-keeps}

-- register x holds what the image has for it
abbrev pub Holds : List ℕ → Registers → Register → Type 0
Holds image r x = held_in r x ≡ in_image image x

-- the largest number that a register of a bank takes: a word's, and 64 bits in a floating register
abbrev pub most_in : FrameRules → Bank → ℕ
most_in k Bank.General = k.limit
most_in k Bank.Floating = 2 ^ 64 - 1

pub most-64 : (k : FrameRules) → LawfulFrames k → (b : Bank) (v : ℕ) → v ≤ most_in k b → v < 2 ^ 64
most-64 k law Bank.General v h = omega (arith, limit-64 k law)
most-64 k law Bank.Floating v h = omega arith

-- the machine's own call that writes it
abbrev pub write_of : List ℕ → Register → Call
write_of image x = write_register (bank_number x.bank) x.number (in_image image x)

-- ---- one write

abbrev written : List ℕ → Registers → Register → Registers
written image r y = with_register r (bank_of (bank_number y.bank)) y.number (in_image image y)

-- what was put stays put
written_keeps : (image : List ℕ) (r : Registers) (y : Register) → y.number < length (file_of y.bank r) → (x : Register) → Holds image r x → Holds image (written image r y) x
unfolding bank_of with_register
written_keeps image r y h x e = go y.bank x.bank h e
  where
    go : (b c : Bank) → y.number < length (file_of b r) → get_or (file_of c r) x.number 0 ≡ in_image image (record { bank = c; number = x.number })
        → get_or (file_of c (written image r (record { bank = b; number = y.number }))) x.number 0 ≡ in_image image (record { bank = c; number = x.number })
    go Bank.General Bank.General h e =
        set_holds r.gpr y.number x.number _ _ h (λ q. ap (λ (n : ℕ). in_image image (record { bank = Bank.General; number = n })) (sym q)) e
    go Bank.General Bank.Floating h e = e
    go Bank.Floating Bank.General h e = e
    go Bank.Floating Bank.Floating h e =
        set_holds r.fpr y.number x.number _ _ h (λ q. ap (λ (n : ℕ). in_image image (record { bank = Bank.Floating; number = n })) (sym q)) e

written-holds : (image : List ℕ) (r : Registers) (y : Register) → y.number < length (file_of y.bank r) → Holds image (written image r y) y
unfolding bank_of with_register
written-holds image r y h = go y.bank h
  where
    go : (b : Bank) → y.number < length (file_of b r) → Holds image (written image r (record { bank = b; number = y.number })) (record { bank = b; number = y.number })
    go Bank.General h = get_or-set_same r.gpr y.number _ 0 h
    go Bank.Floating h = get_or-set_same r.fpr y.number _ 0 h

-- what a frame may write is one of the 32
pub free-below : (k : FrameRules) → LawfulFrames k → (from n : ℕ) (b : Bank) → writable (bank_in k b) from n ≡ true → n < 32
free-below k law from n Bank.General p = writable-lt k.gpr k.end law.gpr from n p
free-below k law from n Bank.Floating p = writable-lt k.fpr k.end law.fpr from n p

pub file-length : (k : FrameRules) (m : Machine) → Base k m → (b : Bank) → length (file_of b m.state.registers) ≡ 32
file-length k m h Bank.General = h.fit.gprs
file-length k m h Bank.Floating = h.fit.fprs

free-writable : (k : FrameRules) (f : _) (x : Register) (v : ℕ) → Free k f x → v ≤ most_in k x.bank → writable_register k f (bank_of (bank_number x.bank)) x.number v ≡ true
unfolding bank_of writable_register
free-writable k f x v = go x.bank
  where
    go : (b : Bank) → writable (bank_in k b) (first_saved b f) x.number ≡ true → v ≤ most_in k b → writable_register k f (bank_of (bank_number b)) x.number v ≡ true
    go Bank.General p q = rw (p, le-leb v k.limit q)
    go Bank.Floating p q = p

module _ (c : Convention) (os : List OpenEnter) (image : List ℕ) where
  abbrev k : FrameRules
  k = rules c

  -- a register that may be written, of a value that it takes
  abbrev pub Putable : Register → Type 0
  Putable y = Free k (caller_of k os) y × (in_image image y ≤ most_in k y.bank)

  module _ (m : Machine) (i : Invariant k os m) (y : Register) (p : Putable y) where
    base : Base k m
    base = base-of k os m i

    allowed : write_register_answer k m.state (length m.memory) (bank_number y.bank) y.number (in_image image y) ≡ Ok tt
    unfolding write_register_answer judge
    allowed =
        let v : ℕ = in_image image y in
        judge-next (state_tests k m.state (length m.memory)) (require (writable_register k (top k m.state) (bank_of (bank_number y.bank)) y.number v) NotPermitted ∷ [])
        (state-accepted k m.state (length m.memory) base.sound)
        ∙ rw (top-is k os m i, free-writable k (caller_of k os) y v p.0 p.1)

    judged : write_register_answer (state_rules m.state) m.state (length m.memory) (bank_number y.bank) y.number (in_image image y) ≡ Ok tt
    judged =
        subst (λ (r : FrameRules). write_register_answer r m.state (length m.memory) (bank_number y.bank) y.number (in_image image y) ≡ Ok tt) (sym base.rules) allowed

    put-accepted : answer (write_of image y) m ≡ Ok tt
    unfolding write_register_outcome
    put-accepted = judged

    put-state : (after (write_of image y) m).state ≡ written_register m.state (bank_number y.bank) y.number (in_image image y)
    put-state = ap (λ o. o.state) (write-register-accepted m.state (length m.memory) (bank_number y.bank) y.number (in_image image y) judged)

    put-invariant : Invariant k os (after (write_of image y) m)
    put-invariant = call-keeps c (write_of image y) (most-64 k (lawful c) y.bank (in_image image y) p.1) os m i

    below : y.number < length (file_of y.bank m.state.registers)
    below = omega (arith, file-length k m base y.bank, free-below k (lawful c) (first_saved y.bank (caller_of k os)) y.number y.bank p.0)

    put-registers : (after (write_of image y) m).state.registers ≡ written image m.state.registers y
    unfolding written_register
    put-registers = ap (λ s. s.registers) put-state

    put_keeps : (x : Register) → Holds image m.state.registers x → Holds image (after (write_of image y) m).state.registers x
    put_keeps x h = subst (λ (r : Registers). Holds image r x) (sym put-registers) (written_keeps image m.state.registers y below x h)

    put_holds : Holds image (after (write_of image y) m).state.registers y
    put_holds = subst (λ (r : Registers). Holds image r y) (sym put-registers) (written-holds image m.state.registers y below)

    -- a write moves no frame, so that the stack pointer stays
    put-sizes : ((after (write_of image y) m).state.base ≡ m.state.base) × ((after (write_of image y) m).state.size ≡ m.state.size)
        × (sizes k (after (write_of image y) m).state.frames (after (write_of image y) m).state.depth ≡ sizes k m.state.frames m.state.depth)
    unfolding written_register
    put-sizes = rw put-state (refl, refl, refl)

    put-pointer : stack_pointer k (after (write_of image y) m).state ≡ stack_pointer k m.state
    put-pointer = omega (arith, put-sizes, base.sound.sum, (base-of k os (after (write_of image y) m) put-invariant).sound.sum)

-- ---- several

-- the machine m' after the writes of the registers ys on the machine m
pub record AfterPut (c : Convention) (os : List OpenEnter) (image : List ℕ) (ys : List Register) (m m' : Machine) : Type 0 where
  pub accepted : AllAccepted (map (write_of image) ys) m
  pub opened : opened_by (map (write_of image) ys) m os ≡ os
  pub invariant : Invariant (rules c) os m'
  pub memory : m'.memory ≡ m.memory
  pub base : m'.state.base ≡ m.state.base
  pub pointer : stack_pointer (rules c) m'.state ≡ stack_pointer (rules c) m.state
  pub keeps : (x : Register) → Holds image m.state.registers x → Holds image m'.state.registers x
  pub holds : All (Holds image m'.state.registers) ys

pub after-put : (c : Convention) (os : List OpenEnter) (image : List ℕ) (ys : List Register) (m : Machine) → Invariant (rules c) os m → All (Putable c os image) ys
    → AfterPut c os image ys m (run (map (write_of image) ys) m)
unfolding AllAccepted opened_by run All
after-put c os image [] m i p = record {
  accepted = tt;
  opened = refl;
  invariant = i;
  memory = refl;
  base = refl;
  pointer = refl;
  keeps = λ x h. h;
  holds = tt;
}
after-put c os image (y ∷ ys) m i p =
    let m₁ : Machine = after (write_of image y) m in
    let r = after-put c os image ys m₁ (put-invariant c os image m i y p.0) p.1 in
    record {
      accepted = (put-accepted c os image m i y p.0, r.accepted);
      opened = r.opened;
      invariant = r.invariant;
      memory = r.memory;
      base = r.base ∙ (put-sizes c os image m i y p.0).0;
      pointer = r.pointer ∙ put-pointer c os image m i y p.0;
      keeps = λ x h. r.keeps x (put_keeps c os image m i y p.0 x h);
      holds = (r.keeps y (put_holds c os image m i y p.0), r.holds);
    }

pub registers-fit : (c : Convention) (os : List OpenEnter) (image : List ℕ) (ys : List Register) → All (Putable c os image) ys → CallsFit (map (write_of image) ys)
unfolding All
registers-fit c os image [] p = tt
registers-fit c os image (y ∷ ys) p = (most-64 (rules c) (lawful c) y.bank (in_image image y) p.0.1, registers-fit c os image ys p.1)
