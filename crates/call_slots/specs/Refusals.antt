-- The refusals after reading. Document 01, "When the bridge says no": their numbers, and the first that holds of several.
-- Assumes nothing.
use Rattle.sig_items.specs.declared.Fault.{Fault}
use Rattle.std.specs.Prelude.{ℕ, Bool, true, false, List, [], ◌∷◌, eqb, Option, Some, None, Ok, Err, Result}
use Rattle.base_words.specs.Basics.{pick}
use Rattle.base_ieee.specs.Narrowing.{narrow}
use Rattle.sig_types.specs.declared.Equivalent.{Equivalent}
use Rattle.sig_items.specs.Refusals.{refusal_number}
use Rattle.plan_places.specs.declared.CallRules.{CallRules}
use Rattle.call_slots.specs.declared.CallRefusal.{CallRefusal}
use Rattle.call_slots.specs.Answer.{CallAnswer, call_done, call_unread, call_refused}
use Rattle.call_slots.specs.declared.CallError.{CallError}

abbrev pub call_refusal_number : CallRefusal → ℕ
-- "value buffer not exactly the arguments' total size"
call_refusal_number CallRefusal.ValuesSize = 10
-- "parameter buffer shorter than the area"
call_refusal_number CallRefusal.AreaTooShort = 11
-- "filling only: last copy ends at C, C above 0, and copy buffer under C, base not a multiple of 8, or base + C over 2^64 - 1"
call_refusal_number CallRefusal.BadCopies = 12
-- "a by-pointer argument not wholly inside the copy buffer"
call_refusal_number CallRefusal.OutsideCopies = 13
-- "a single's PPC64 FPR that is no widened single"
call_refusal_number CallRefusal.NotWidened = 14
-- "register image not 512 bytes"
call_refusal_number CallRefusal.ImageSize = 15
-- 02, No. 5: "when the GPRs of a float argument hold other value bytes than its FPR"
call_refusal_number CallRefusal.FloatsDiffer = 26
-- "home or view asked of Z, or a view of an argument that isn't there"
call_refusal_number CallRefusal.NoView = 24

-- the number of an answer: 0 where nothing is refused
abbrev pub call_answer_number : CallAnswer → ℕ
call_answer_number (Ok tt) = 0
call_answer_number (Err (CallError.Unread f)) = refusal_number f.reason
call_answer_number (Err (CallError.Refused reason)) = call_refusal_number reason

-- "not exactly", "not 512 bytes": two numbers are not the same
abbrev pub differ : ℕ → ℕ → Bool
differ m n = pick (eqb m n) false true

-- a test that refuses where it holds
pub record Test : Type 0 where
  pub holds : Bool
  pub reason : CallRefusal

abbrev pub test : Bool → CallRefusal → Test
test b r = record { holds = b; reason = r }

-- the answer of tests in order: the first that holds refuses
unfoldable pub first_of : List Test → CallAnswer
first_of [] = call_done
first_of (t ∷ ts) = pick t.holds (call_refused t.reason) (first_of ts)

-- a signature's refusal comes before all others, and is handed on whole
abbrev pub after_reading : Result ℕ Fault → CallAnswer → CallAnswer
after_reading (Ok n) a = a
after_reading (Err f) a = call_unread f

-- of two answers, the first that refuses
abbrev pub or_else : CallAnswer → CallAnswer → CallAnswer
or_else (Ok tt) a = a
or_else (Err e) a = Err e

-- "by argument, left to right": of several, the first that refuses
unfoldable pub first_of_all : {A : Type 0} → (A → CallAnswer) → List A → CallAnswer
first_of_all f [] = call_done
first_of_all f (x ∷ xs) = or_else (f x) (first_of_all f xs)

-- ---- an FPR

abbrev pub narrowed_answer : Option ℕ → CallAnswer
narrowed_answer (Some x) = call_done
narrowed_answer None = call_refused CallRefusal.NotWidened

-- 14: "a single's PPC64 FPR that is no widened single"; x are the bits of a float's FPRs, which for a single are one FPR's 64
abbrev pub float_answer : CallRules → Equivalent → ℕ → CallAnswer
float_answer (CallRules.Power f) Equivalent.Single x = narrowed_answer (narrow x)
float_answer (CallRules.Power f) Equivalent.Double x = call_done
float_answer (CallRules.Power f) Equivalent.Nothing x = call_done
float_answer CallRules.Z e x = call_done
