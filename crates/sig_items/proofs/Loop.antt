-- The loop over a struct's fields: its invariant, and what each way out of a turn gives. Assumes nothing.
use Rattle.sig_items.specs.declared.Item.{Item}
use Rattle.std.proofs.Common.{Err, Result}
use Prim.Native.Nat.{ℕ, ◌+◌, ◌-◌, ◌*◌, ◌≤◌, ◌<◌}
use mathlib.Core.Path.{◌≡◌, refl, sym, ap, ◌∙◌}
use mathlib.Core.List.{List}
use native.Mathlib.Omega.{arith}
use Rattle.base_conventions.specs.declared.Convention.{Convention}
use Rattle.sig_types.specs.declared.ValueType.{ValueType}
use Rattle.sig_types.specs.declared.Fields.{Fields}
use Rattle.sig_types.specs.Structs.{no_fields, with_field, closed}
use Rattle.sig_types.specs.Trees.{Trees, none, ◌▸◌, fields_of}
use Rattle.sig_types.proofs.Laws.{Aligned, none-aligned, more-aligned, more-end}
use Rattle.sig_items.specs.declared.Fault.{Fault}
use Rattle.sig_items.specs.Reading.{later}
use Rattle.sig_items.specs.Read.{sequence, struct_at, item_at}
use Rattle.sig_items.specs.Answer.{item_answer, closed_answer, item_found}
use Rattle.sig_items.proofs.Laws.{contents, sequence-done, sequence-more, sequence-no, struct-refused, struct-read, item-got, item-no, sized-answer}
use Rattle.sig_items.proofs.Sound.{Taken, item-taken}
use Rattle.sig_items.proofs.HowFar.{fault-third}

-- what an answer says of an item within the end e; the tree is gone, its type is there
pub item-answered : (c : Convention) (d : ℕ) (s : List ℕ) (e at : ℕ) (r : Result Item Fault) (t : ValueType) (next n : ℕ) → d ≤ 8 →
    r ≡ item_answer c (item_at c d s e at) → r ≡ item_found t next n → Taken c e at t next n
item-answered c d s e at r t next n h found q =
    let (tree, is, same) = item-got c (item_at c d s e at) t next n (sym q ∙ found) in
    rw same (item-taken c d s e at tree next n h is)

-- and of a refused one: three bytes or more for each header that had passed
pub fault-answered : (c : Convention) (d : ℕ) (s : List ℕ) (e at : ℕ) (r : Result Item Fault) (f : Fault) → at ≤ e →
    r ≡ item_answer c (item_at c d s e at) → r ≡ Err f → at + 3 * f.passed ≤ e
fault-answered c d s e at r f h found q = fault-third c d s e at f h (item-no c (item_at c d s e at) f (sym q ∙ found))

-- the fields so far, and that reading on from here gives what the struct's contents are
pub record Turn (c : Convention) (d : ℕ) (s : List ℕ) (at b : ℕ) (fields : Fields) (next n : ℕ) : Type 0 where
  pub ts : Trees
  pub left : ℕ
  pub enough : b - next ≤ left
  pub layout : fields ≡ fields_of c ts
  pub rest : contents c d s at b ≡ sequence (item_at c (d - 1) s b) b left next n ts
  pub within : next ≤ b
  pub own : 0 < n
  pub third : at + 3 * n ≤ next
  pub aligned : Aligned fields
  pub end : fields.end ≤ 272 * next

same-field : (c : Convention) {l k : Fields} {t u : ValueType} → l ≡ k → t ≡ u → with_field c l t ≡ with_field c k u
same-field c p q = cc

module _ (c : Convention) (d : ℕ) (s : List ℕ) (at b : ℕ) where
  pub turn-start : (l : Fields) → l ≡ no_fields → at + 3 < b → Turn c d s at b l (at + 3) 1
  unfolding fields_of
  turn-start l q h = record {
    ts = none;
    left = b - (at + 3);
    enough = omega arith;
    layout = q;
    rest = refl;
    within = omega arith;
    own = omega arith;
    third = omega arith;
    aligned = rw q none-aligned;
    end = rw q (omega arith);
  }

  module _ (l : Fields) (next n : ℕ) (turn : Turn c d s at b l next n) (h : next < b) (r : Result Item Fault)
      (found : r ≡ item_answer c (item_at c (d - 1) s b next)) where
    pub turn_more : d ≤ 8 → (t : ValueType) (after m : ℕ) → r ≡ item_found t after m → (k : Fields) → k ≡ with_field c l t →
        Turn c d s at b k after (n + m)
    unfolding fields_of
    turn_more deep t after m q k is =
        let (tree, read, same) = item-got c (item_at c (d - 1) s b next) t after m (sym q ∙ found) in
        let a = item-answered c (d - 1) s b next r t after m (omega arith) found q in
        let grown = more-end c l t a.sized in
        record {
          ts = turn.ts ▸ tree;
          left = turn.left - 1;
          enough = omega arith;
          layout = is ∙ same-field c turn.layout same;
          rest = sequence-more (item_at c (d - 1) s b) b (contents c d s at b) turn.left next n turn.ts turn.rest h (omega arith) tree after m read;
          within = a.inside;
          own = omega arith;
          third = omega arith;
          aligned = rw is (more-aligned c l t a.sized turn.aligned);
          end = rw is (omega arith);
        }

    pub turn-no : 0 < d → at + 3 < b → (f : Fault) → r ≡ Err f →
        Err (later n f) ≡ item_answer c (struct_at c d s at b)
    turn-no some more f q =
        let read = item-no c (item_at c (d - 1) s b next) f (sym q ∙ found) in
        sym (ap (item_answer c) (struct-refused c d s at b some more (later n f)
        (sequence-no (item_at c (d - 1) s b) b (contents c d s at b) turn.left next n turn.ts turn.rest h (omega arith) f read)))

  pub turn_end : (l : Fields) (next n : ℕ) → Turn c d s at b l next n → b ≤ next → 0 < d → at + 3 < b →
      closed_answer at b n (closed l) ≡ item_answer c (struct_at c d s at b)
  turn_end l next n turn h some more =
      let read = sequence-done (item_at c (d - 1) s b) b (contents c d s at b) turn.left next n turn.ts turn.rest h in
      ap (λ (k : Fields). closed_answer at b n (closed k)) turn.layout
      ∙ sym (ap (item_answer c) (struct-read c d s at b some more turn.ts next n read) ∙ sized-answer c at b n turn.ts)
