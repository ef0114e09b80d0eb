-- Document 02, No. 3, of what is printed: a listing keeps the lines of its arguments where arguments are appended. proofs/Printed.antt proves it.
-- Assumes nothing.
use Rattle.std.specs.Prelude.{ℕ, ◌≡◌, List, ◌++◌, take, Ok}
use Rattle.plan_plans.specs.declared.Plan.{Plan}
use Rattle.plan_plans.specs.Plan.{plan_answer}
use Rattle.plan_plans.specs.Call.{call_of, outcome_for}
use Rattle.plan_listing.specs.Text.{lines_text, head_text, result_text, listing_of}
use Rattle.call_appending.specs.Appending.{Appended}

abbrev pub call_plan : List ℕ → Plan
call_plan s = plan_answer (call_of s)

-- the first line, with the count of arguments and the area
abbrev pub first_line : List ℕ → List ℕ
first_line s = head_text (call_plan s).convention (call_plan s).ellipsis (call_plan s).count (call_plan s).area

-- the lines of the arguments
abbrev pub argument_lines : List ℕ → List ℕ
argument_lines s = lines_text (call_plan s).convention 0 (take (call_plan s).count (call_plan s).spans)

abbrev pub last_line : List ℕ → List ℕ
last_line s = result_text (call_plan s).result

-- the arguments' lines of s stand in the listing of u byte for byte, and those of the appended ones after them; the last line is the same
pub record LinesKept (s u : List ℕ) : Type 0 where
  pub more : List ℕ
  pub shorter : listing_of s ≡ first_line s ++ (argument_lines s ++ last_line s)
  pub longer : listing_of u ≡ first_line u ++ ((argument_lines s ++ more) ++ last_line s)

abbrev pub LinesStay : Type 0
LinesStay = (s u : List ℕ) → Appended s u → (n : ℕ) → outcome_for u ≡ Ok n → LinesKept s u
