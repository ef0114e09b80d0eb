-- An answer in the surface's words. Assumes nothing.
use Prim.Native.Nat.{ℕ}
use mathlib.Core.Path.{◌≡◌}
use Rattle.sig_items.specs.declared.Fault.{Fault}
use Rattle.std.proofs.Common.{Err}
use Rattle.call_slots.specs.declared.CallError.{CallError}
use Rattle.call_slots.specs.declared.CallRefusal.{CallRefusal}
use Rattle.call_slots.specs.Refusals.{call_refusal_number}
use Rattle.c_answers.specs.Answers.{answer_of, yes}
use Rattle.c_faults.specs.Faults.{fault_answer}
use Rattle.c_call_answers.specs.Calls.{call_answer}
use Rattle.call_slots.specs.Answer.{CallAnswer, call_done, call_unread, call_refused}

pub done-answer : (a : CallAnswer) → a ≡ call_done → yes ≡ call_answer a
unfolding call_answer
done-answer a e = rw e

pub unread-answer : (a : CallAnswer) (f : Fault) → a ≡ call_unread f → fault_answer f ≡ call_answer a
unfolding call_answer
unread-answer a f e = rw e

pub refused-answer : (a : CallAnswer) (reason : CallRefusal) (n : ℕ) → a ≡ call_refused reason → n ≡ call_refusal_number reason → answer_of n 0 ≡ call_answer a
unfolding call_answer
refused-answer a reason n e is = rw (e, is)

-- an error by the name that a pattern gives it
pub at-error : (a : CallAnswer) (e x : CallError) → a ≡ Err e → e ≡ x → a ≡ Err x
at-error a e x p q = rw q at p
