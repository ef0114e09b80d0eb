-- The reading of a call: that of its signature, but where the papers leave open the place of an argument. 02, No. 12: "When only f13 is left the
-- editions we hold aren't clear, so give new refusal 29 at that argument's header, after reading and before 24". Assumes nothing.
use Rattle.sig_items.specs.declared.Fault.{Fault}
use Rattle.std.specs.Prelude.{ℕ, zero, suc, List, [], ◌∷◌, Result}
use Rattle.base_words.specs.Basics.{pick}
use Rattle.base_conventions.specs.declared.Convention.{Convention}
use Rattle.sig_types.specs.declared.ValueType.{ValueType}
use Rattle.sig_types.specs.Sizes.{size_of}
use Rattle.sig_items.specs.Reading.{Reading, got, no}
use Rattle.sig_signatures.specs.Signature.{Signature}
use Rattle.sig_signatures.specs.Read.{signature_of}
use Rattle.sig_signatures.specs.Answer.{result_type}
use Rattle.sig_signatures.specs.Types.{types_of}
use Rattle.sig_reader.specs.Argument.{unclear_fault}
use Rattle.plan_places.specs.declared.Cursor.{Cursor}
use Rattle.plan_places.specs.declared.CallRules.{CallRules}
use Rattle.plan_places.specs.Step.{rules_of, next_of, unclear_for}
use Rattle.plan_plans.specs.Plan.{start_in, plan_answer}

-- Of the arguments from the cursor k on, i of which came before: the number of the first that is unclear, counted from 1; 0 where none is.
unfoldable pub first_unclear : Convention → CallRules → Cursor → ℕ → List ValueType → ℕ
first_unclear c r k i [] = 0
first_unclear c r k i (t ∷ ts) = pick (unclear_for r k t) (suc i) (first_unclear c r (next_of r k t (size_of c t)) (suc i) ts)

-- of a whole signature
abbrev pub unclear_in : Signature → ℕ
unclear_in g =
    first_unclear g.convention (rules_of g.convention) (start_in g.convention (result_type g.convention g.result)) 0
    (types_of g.convention g.arguments)

-- 29 where the first unclear argument is number u, counted from 1
abbrev pub clear_read : ℕ → Signature → ℕ → ℕ → Reading Signature
clear_read zero g next n = got g next n
clear_read (suc i) g next n = no (unclear_fault i (got g next n))

unfoldable pub called : Reading Signature → Reading Signature
called (got g next n) = clear_read (unclear_in g) g next n
called (no f) = no f

-- of a signature's bytes: the reading's refusals come first
abbrev pub call_of : List ℕ → Reading Signature
call_of s = called (signature_of s)

-- what a call is accepted or refused with; all else of it is the plan's of its reading
abbrev pub outcome_for : List ℕ → Result ℕ Fault
outcome_for s = (plan_answer (call_of s)).outcome
