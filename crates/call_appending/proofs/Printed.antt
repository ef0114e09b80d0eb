-- The listing of a signature with arguments appended (specs/Printed.antt states it). Assumes nothing.
use mathlib.Core.Path.{◌≡◌, refl, sym, ap, ◌∙◌}
use mathlib.Core.List.{List, [], ◌∷◌, ◌++◌, append_assoc}
use Prim.Native.Nat.{ℕ, zero, suc, ◌+◌, ◌-◌}
use native.Mathlib.Omega.{arith}
use lib.ListN.{length, take, replicate}
use lib.Seq.{take_at}
use Rattle.base_conventions.specs.declared.Convention.{Convention}
use Rattle.sig_types.specs.declared.ValueType.{ValueType}
use Rattle.sig_types.specs.Trees.{Trees}
use Rattle.sig_items.specs.Reading.{Reading, got}
use Rattle.sig_signatures.specs.Limits.{max_arguments}
use Rattle.sig_signatures.specs.Signature.{Signature}
use Rattle.sig_signatures.specs.Answer.{result_type}
use Rattle.plan_places.specs.declared.Cursor.{Cursor}
use Rattle.plan_places.specs.declared.CallRules.{CallRules}
use Rattle.plan_places.specs.declared.Span.{Span}
use Rattle.plan_places.specs.Step.{rules_of, with_ellipsis}
use Rattle.plan_plans.specs.Plan.{spans_of, last_of, no_span, table_of, start_in, plan_in, plan_answer}
use Rattle.sig_signatures.specs.Types.{types_of}
use Rattle.plan_plans.proofs.Fold.{length-spans, spans-append}
use Rattle.plan_line.specs.Line.{line_text}
use Rattle.plan_listing.specs.Text.{lines_text, head_text, result_text, accepted_text, plan_text_of, listing_of}
use Rattle.call_appending.specs.Appending.{joined}
use Rattle.call_appending.specs.Printed.{LinesKept, LinesStay}
use Rattle.call_appending.proofs.Folds.{types-joined}
use Rattle.call_appending.proofs.Encoded.{extended}
use Rattle.call_appending.proofs.Theorems.{kept, readings}

lines-append : (c : Convention) (i : ℕ) (l m : List Span) → lines_text c i (l ++ m) ≡ lines_text c i l ++ lines_text c (i + length l) m
unfolding lines_text
lines-append c i [] m = let same : i + 0 ≡ i = omega arith in rw same
lines-append c i (x ∷ l) m =
    let same : suc i + length l ≡ i + suc (length l) = omega arith in
    ap (λ (t : List ℕ). line_text c i x ++ t) (lines-append c (suc i) l m ∙ ap (λ (j : ℕ). lines_text c (suc i) l ++ lines_text c j m) same)
    ∙ sym (append_assoc (line_text c i x) (lines_text c (suc i) l) (lines_text c (i + suc (length l)) m))

-- the spans that are printed
table-spans : (c : Convention) (r : CallRules) (k : Cursor) (ts : List ValueType) → take (length ts) (table_of (spans_of c r k ts)) ≡ spans_of c r k ts
unfolding table_of
table-spans c r k ts =
    let l : List Span = spans_of c r k ts in
    take_at l (replicate (max_arguments - length l) no_span) (length ts) (length-spans c r k ts)

-- the plan of g with the arguments us appended
module _ (g : Signature) (us : Trees) where
  c : Convention
  c = g.convention

  r : CallRules
  r = with_ellipsis g.ellipsis (rules_of g.convention)

  ts : List ValueType
  ts = types_of g.convention g.arguments

  k : Cursor
  k = start_in g.convention (result_type g.convention g.result)

  -- the lines of the arguments us
  more : List ℕ
  more = lines_text c (0 + length (spans_of c r k ts)) (spans_of c r (last_of c r k ts) (types_of c us))

  lines-kept : (next n l m : ℕ) → let p = plan_answer (got g next n) in let q = plan_answer (got (extended g us) l m) in
      lines_text q.convention 0 (take q.count q.spans) ≡ lines_text p.convention 0 (take p.count p.spans) ++ more
  unfolding plan_answer plan_in c r ts k more
  lines-kept next n l m =
      ap (lines_text c 0)
      (table-spans c r k (types_of c (joined g.arguments us))
      ∙ ap (spans_of c r k) (types-joined c g.arguments us)
      ∙ spans-append c r k ts (types_of c us))
      ∙ lines-append c 0 (spans_of c r k ts) (spans_of c r (last_of c r k ts) (types_of c us))
      ∙ ap (λ (l : List Span). lines_text c 0 l ++ more) (sym (table-spans c r k ts))

text_of : (g : Signature) (next n : ℕ) → let p = plan_answer (got g next n) in plan_text_of p ≡ accepted_text p
unfolding plan_text_of plan_answer plan_in
text_of g next n = refl

pub lines_stay : LinesStay
unfolding listing_of accepted_text
lines_stay s u a n e =
    let read = readings s u a n e in
    let g : Signature = a.shorter in
    let us : Trees = a.appends.more in
    record {
      more = more g us;
      shorter = rw read.shorter (text_of g a.next a.items);
      longer =
          rw (read.shorter, read.longer, sym (lines-kept g us a.next a.items a.longer-next a.longer-items), sym (kept g us a.next a.items a.longer-next a.longer-items).result)
          (text_of (extended g us) a.longer-next a.longer-items);
    }
