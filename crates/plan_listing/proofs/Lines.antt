-- A line more: what a turn of the loop over arguments adds. Assumes nothing.
use mathlib.Core.Path.{◌≡◌, sym, ap, ◌∙◌}
use mathlib.Core.List.{List, [], ◌∷◌, ◌++◌, append_assoc, append-nil}
use Prim.Native.Nat.{ℕ, suc, ◌+◌, ◌<◌}
use native.Mathlib.Omega.{arith}
use native.Mathlib.Nat.{add-zero, zero-add}
use native.Mathlib.Numerals.{add-one}
use lib.ListN.{length, get_or, take}
use lib.Seq.{take-suc, length-take-le}
use Rattle.base_conventions.specs.declared.Convention.{Convention}
use Rattle.plan_places.specs.declared.Span.{Span}
use Rattle.plan_plans.specs.Plan.{no_span}
use Rattle.plan_text.specs.Writing.{Wrote}
use Rattle.plan_text.proofs.Writing.{wrote_then}
use Rattle.plan_line.specs.Line.{line_text}
use Rattle.plan_listing.specs.Text.{lines_text}

lines_snoc : (c : Convention) (i : ℕ) (ss : List Span) (s : Span) → lines_text c i (ss ++ s ∷ []) ≡ lines_text c i ss ++ line_text c (i + length ss) s
unfolding lines_text
lines_snoc c i [] s = rw (add-zero i) (append-nil (line_text c i s))
lines_snoc c i (r ∷ ss) s =
    let e : suc i + length ss ≡ i + suc (length ss) = omega arith in
    ap (λ (l : List ℕ). line_text c i r ++ l) (lines_snoc c (suc i) ss s ∙ rw e)
    ∙ sym (append_assoc (line_text c i r) (lines_text c (suc i) ss) (line_text c (i + suc (length ss)) s))

pub wrote-line : {a b d : List ℕ} {n m k : ℕ} (c : Convention) (ss : List Span) (i : ℕ) → i < length ss
    → Wrote a b n m (lines_text c 0 (take i ss)) → Wrote b d m k (line_text c i (get_or ss i no_span)) → Wrote a d n k (lines_text c 0 (take (i + 1) ss))
wrote-line c ss i h x y =
    let n : length (take i ss) ≡ i = length-take-le i ss (omega arith) in
    rw (add-one i, take-suc ss i no_span h, lines_snoc c 0 (take i ss) (get_or ss i no_span), n, zero-add i) (wrote_then x y)
