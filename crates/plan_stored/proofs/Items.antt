-- The items of arguments, one more: for what is written so far, and for what is still to come. Assumes nothing.
use mathlib.Core.Path.{◌≡◌, sym, ap, subst, ◌∙◌}
use mathlib.Core.List.{List, [], ◌∷◌, ◌++◌, append_assoc, append-nil}
use Prim.Native.Nat.{ℕ, suc, ◌+◌, ◌/◌, ◌%◌, ◌<◌, ◌≤◌}
use native.Mathlib.Omega.{arith}
use native.Mathlib.Numerals.{add-one}
use lib.ListN.{length, get_or, take, drop, length-append, drop_of_length-le}
use lib.Seq.{take-suc, drop-cons, get_or-take, length-take-le}
use Rattle.plan_places.specs.declared.CallRules.{CallRules}
use Rattle.plan_places.specs.declared.Span.{Span}
use Rattle.plan_plans.specs.Plan.{no_span}
use Rattle.plan_text.specs.Writing.{Wrote}
use Rattle.plan_text.proofs.Writing.{wrote_then}
use Rattle.sig_items.specs.Encode.{item}
use Rattle.plan_places.specs.Step.{rules_of}
use Rattle.plan_plans.specs.declared.Plan.{Plan}
use Rattle.plan_stored_items.specs.Places.{argument_item, result_item}
use Rattle.plan_stored.specs.Stored.{argument_items, plan_bytes}
use Rattle.plan_stored_items.specs.Helpers.{Storable}
use Rattle.plan_stored.specs.Helpers.{Writable}
use Rattle.plan_stored.proofs.Alike.{Abreast, abreast-start}

items-snoc : (r : CallRules) (ss : List Span) (s : Span) → argument_items r (ss ++ s ∷ []) ≡ argument_items r ss ++ argument_item r s
unfolding argument_items
items-snoc r [] s = append-nil (argument_item r s)
items-snoc r (x ∷ ss) s =
    ap (λ (l : List ℕ). argument_item r x ++ l) (items-snoc r ss s) ∙ sym (append_assoc (argument_item r x) (argument_items r ss) (argument_item r s))

pub items_more : (r : CallRules) (ss : List Span) (i : ℕ) → i < length ss
    → argument_items r (take (i + 1) ss) ≡ argument_items r (take i ss) ++ argument_item r (get_or ss i no_span)
items_more r ss i h = rw (add-one i, take-suc ss i no_span h) (items-snoc r (take i ss) (get_or ss i no_span))

pub wrote-item : {a b d : List ℕ} {n m k : ℕ} (r : CallRules) (ss : List Span) (i : ℕ) → i < length ss
    → Wrote a b n m (argument_items r (take i ss)) → Wrote b d m k (argument_item r (get_or ss i no_span)) → Wrote a d n k (argument_items r (take (i + 1) ss))
wrote-item r ss i h x y = rw (items_more r ss i h) (wrote_then x y)

pub length_more : (r : CallRules) (ss : List Span) (i : ℕ) → i < length ss
    → length (argument_items r (take (i + 1) ss)) ≡ length (argument_items r (take i ss)) + length (argument_item r (get_or ss i no_span))
length_more r ss i h = ap length (items_more r ss i h) ∙ length-append (argument_items r (take i ss)) (argument_item r (get_or ss i no_span))

-- what is to come, and after it the end z
pub items-next : (r : CallRules) (ss : List Span) (i : ℕ) (z : List ℕ) → i < length ss
    → argument_items r (drop i ss) ++ z ≡ argument_item r (get_or ss i no_span) ++ (argument_items r (drop (i + 1) ss) ++ z)
unfolding argument_items
items-next r ss i z h =
    rw (drop-cons ss i no_span h, add-one i) (append_assoc (argument_item r (get_or ss i no_span)) (argument_items r (drop (suc i) ss)) z)

pub items-none : (r : CallRules) (ss : List Span) (i : ℕ) (z : List ℕ) → length ss ≤ i → argument_items r (drop i ss) ++ z ≡ z
unfolding argument_items
items-none r ss i z h = let none : drop i ss ≡ [] = drop_of_length-le ss h in rw none

-- all of a plan's bytes are to come: header, signature, arguments, result
pub plan-start : (xs s : List ℕ) (p : Plan)
    → Abreast xs (plan_bytes s p)
    ((0x20 ∷ length s / 256 ∷ length s % 256 ∷ []) ++ (s ++ (argument_items (rules_of p.convention) (take p.count p.spans) ++ result_item p.result))) 0
unfolding plan_bytes item
plan-start xs s p = abreast-start xs (plan_bytes s p)

-- each of a plan's spans can be stored
pub taken-storable : (p : Plan) (i : ℕ) → Writable p → i < length (take p.count p.spans) → Storable (get_or (take p.count p.spans) i no_span)
taken-storable p i w h =
    let many = length-take-le p.count p.spans w.printable.room in
    let same = get_or-take p.count p.spans i no_span (omega arith) in
    subst Storable (sym same) (w.spans i)
