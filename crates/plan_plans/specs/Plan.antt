-- The plan of a whole signature: a convention's step folded over the arguments from left to right. Document 01, "Places on
-- PPC64" and "Places on Z"; the step is the crate plan_places'. Assumes nothing.
use Rattle.std.specs.Prelude.{ℕ, ◌+◌, ◌-◌, Bool, false, List, [], ◌∷◌, ◌++◌, length, replicate, Ok, Err, Some, None, Result, Option}
use Rattle.base_conventions.specs.declared.Convention.{Convention}
use Rattle.sig_types.specs.declared.ValueType.{ValueType}
use Rattle.sig_types.specs.Sizes.{size_of}
use Rattle.sig_items.specs.declared.Fault.{Fault}
use Rattle.sig_items.specs.Reading.{Reading, got, no}
use Rattle.sig_signatures.specs.Signature.{Signature}
use Rattle.sig_signatures.specs.Limits.{max_arguments}
use Rattle.sig_signatures.specs.Answer.{result_type}
use Rattle.sig_signatures.specs.Types.{types_of, values_of}
use Rattle.plan_places.specs.declared.Cursor.{Cursor}
use Rattle.plan_places.specs.declared.Span.{Span}
use Rattle.plan_places.specs.declared.ResultPlaces.{ResultPlaces}
use Rattle.plan_places.specs.declared.CallRules.{CallRules}
use Rattle.plan_places.specs.Values.{registers, bytes}
use Rattle.plan_places.specs.Step.{rules_of, with_ellipsis, span_of, next_of, start_of, area_of, hidden_for, result_of}
use Rattle.plan_plans.specs.declared.Plan.{Plan}
use Rattle.plan_plans.specs.declared.Measured.{Measured}

-- ---- the fold, over any rules

-- the span of each argument, from the cursor k on
unfoldable pub spans_of : Convention → CallRules → Cursor → List ValueType → List Span
spans_of c r k [] = []
spans_of c r k (t ∷ ts) = span_of r k t (size_of c t) ∷ spans_of c r (next_of r k t (size_of c t)) ts

-- the cursor past the last argument
unfoldable pub last_of : Convention → CallRules → Cursor → List ValueType → Cursor
last_of c r k [] = k
last_of c r k (t ∷ ts) = last_of c r (next_of r k t (size_of c t)) ts

-- ---- the result

abbrev pub hidden_in : Convention → Option ValueType → Bool
hidden_in c None = false
hidden_in c (Some t) = hidden_for (rules_of c) t

abbrev pub result_places_in : Convention → Option ValueType → ResultPlaces
result_places_in c None = ResultPlaces.Nothing
result_places_in c (Some t) = result_of (rules_of c) t (size_of c t)

-- ---- the plan

abbrev pub no_span : Span
no_span = record { general = registers 0 0; floating = registers 0 0; home = bytes 0 0; memory = bytes 0 0; copy = bytes 0 0; indirect = false }

-- the program's table: the spans in order, and after them spans of nothing
unfoldable pub table_of : List Span → List Span
table_of l = l ++ replicate (max_arguments - length l) no_span

-- the cursor of the first argument
abbrev pub start_in : Convention → Option ValueType → Cursor
start_in c r = start_of (rules_of c) (hidden_in c r)

abbrev pub last_cursor_in : Convention → Option ValueType → List ValueType → Cursor
last_cursor_in c r ts = last_of c (rules_of c) (start_in c r) ts

-- a signature of n items: its convention, whether it has an ellipsis, its result and its arguments' types. 02, No. 5: an ellipsis puts floats in
-- more places, and moves none, so that the cursors and the sizes are by the convention's own rules
unfoldable pub plan_in : ℕ → Convention → Bool → Option ValueType → List ValueType → Plan
plan_in n c v r ts = record {
  outcome = Ok n;
  convention = c;
  ellipsis = v;
  result = result_places_in c r;
  count = length ts;
  area = area_of c (last_cursor_in c r ts);
  values = values_of c ts;
  copies = (last_cursor_in c r ts).copies;
  spans = table_of (spans_of c (with_ellipsis v (rules_of c)) (start_in c r) ts);
}

-- a plan without spans and sizes
abbrev pub blank_plan : Result ℕ Fault → Convention → Bool → ResultPlaces → ℕ → Plan
blank_plan o c v r n = record {
  outcome = o;
  convention = c;
  ellipsis = v;
  result = r;
  count = n;
  area = 0;
  values = 0;
  copies = 0;
  spans = replicate max_arguments no_span;
}

-- "Every refusal leaves all buffers and the state untouched"
abbrev pub refused_plan : Fault → Plan
refused_plan f = blank_plan (Err f) Convention.Ppc64 false ResultPlaces.Nothing 0

-- of what the reader finds in a signature's bytes
unfoldable pub plan_answer : Reading Signature → Plan
plan_answer (got g next n) = plan_in n g.convention g.ellipsis (result_type g.convention g.result) (types_of g.convention g.arguments)
plan_answer (no f) = refused_plan f

-- ---- the sizes alone

-- of a plan: its outcome and its sizes, without the places
abbrev pub measure_of : Plan → Measured
measure_of p = record { outcome = p.outcome; area = p.area; values = p.values; copies = p.copies }
