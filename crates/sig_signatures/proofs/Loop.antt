-- The loop over the arguments: its invariant, and what each way out of a turn gives. Assumes nothing.
use Rattle.sig_items.specs.declared.Item.{Item}
use Rattle.std.proofs.Common.{Ok, Err, Result, Option}
use Prim.Native.Nat.{ℕ, ◌+◌, ◌-◌, ◌*◌, ◌≤◌, ◌<◌}
use mathlib.Core.Path.{◌≡◌, refl, sym, ◌∙◌}
use mathlib.Core.Bool.{Bool}
use mathlib.Core.List.{List}
use lib.ListN.{length, set, length-append}
use native.Mathlib.Omega.{arith}
use borrow.Author.Tests.{lt-ltb, le-ltb}
use Rattle.base_words.proofs.Tables.{filled_more}
use Rattle.base_conventions.specs.declared.Convention.{Convention}
use Rattle.sig_types.specs.declared.IntegerKind.{IntegerKind}
use Rattle.sig_types.specs.declared.ValueType.{ValueType}
use Rattle.sig_types.specs.Trees.{Tree, Trees, none, ◌▸◌, type_of, count_of}
use Rattle.sig_items.specs.declared.Refusal.{Refusal}
use Rattle.sig_items.specs.declared.Fault.{Fault}
use Rattle.sig_items.specs.Reading.{fault, got, no, later}
use Rattle.sig_items.specs.Read.{sequence, item_at}
use Rattle.sig_items.specs.Answer.{item_answer, item_found}
use Rattle.sig_items.specs.Encode.{encode_tree, encode_trees}
use Rattle.sig_items.proofs.Laws.{sequence-done, sequence-full, sequence-more, sequence-no, item-got, item-no}
use Rattle.sig_items.proofs.Loop.{item-answered}
use Rattle.sig_items.proofs.Sound.{item-read}
use Rattle.sig_signatures.specs.Limits.{max_arguments}
use Rattle.sig_signatures.specs.declared.Argument.{Argument}
use Rattle.sig_signatures.specs.declared.SignatureRead.{SignatureRead}
use Rattle.sig_signatures.specs.Read.{arguments_in}
use Rattle.sig_signatures.specs.Answer.{argument, no_arguments, listed, table, refused_signature}
use Rattle.sig_signatures.specs.Helpers.{with_arguments}

-- the table

pub listed-length : (c : Convention) (ts : Trees) → length (listed c ts) ≡ count_of ts
unfolding listed count_of
listed-length c none = refl
listed-length c (ts ▸ t) = simp (length-append, listed-length c ts)

table_none : (c : Convention) → no_arguments ≡ table c none
unfolding table listed count_of
table_none c = refl

table_more : (c : Convention) (ts : Trees) (t : Tree) → count_of ts < max_arguments → set (table c ts) (count_of ts) (argument (type_of c t)) ≡ table c (ts ▸ t)
unfolding table listed count_of
table_more c ts t h =
    filled_more max_arguments (argument (ValueType.Integer IntegerKind.I8)) (listed c ts) (count_of ts) (argument (type_of c t)) (listed-length c ts) h

same_set : {l k : List Argument} {i j : ℕ} {t u : ValueType} → l ≡ k → i ≡ j → t ≡ u → set l i (argument t) ≡ set k j (argument u)
same_set p q r = cc

-- the arguments so far, each of three bytes or more, with the place after their items, and that reading on from here gives all of them
pub record Turn (c : Convention) (s : List ℕ) (start e : ℕ) (ts : Trees) (count next n : ℕ) : Type 0 where
  pub left : ℕ
  pub few : count + left ≡ max_arguments
  pub many : count ≡ count_of ts
  pub within : next ≤ e
  pub third : start + 3 * n ≤ next + 3
  pub apart : start + 3 * count ≤ next
  pub ends : next ≡ start + length (encode_trees ts)
  pub rest : arguments_in c s start e ≡ sequence (item_at c 8 s e) e left next n ts

-- an argument more, whose tree is known to the definitions alone
pub record More (c : Convention) (s : List ℕ) (start e : ℕ) (ts : Trees) (t : ValueType) (count next n : ℕ) : Type 0 where
  pub tree : Tree
  pub same : t ≡ type_of c tree
  pub turn : Turn c s start e (ts ▸ tree) count next n

module _ (c : Convention) (s : List ℕ) (start e : ℕ) where
  pub turn-start : start ≤ e → Turn c s start e none 0 start 1
  unfolding arguments_in count_of encode_trees
  turn-start h = record { left = max_arguments; few = refl; many = refl; within = h; third = omega arith; apart = omega arith; ends = omega arith; rest = refl }

  module _ (ts : Trees) (count next n : ℕ) (turn : Turn c s start e ts count next n) where
    module _ (h : next < e) where
      pub turn-full : count ≡ max_arguments → arguments_in c s start e ≡ no (fault Refusal.TooManyArguments next n)
      turn-full q = sequence-full (item_at c 8 s e) e (arguments_in c s start e) turn.left next n ts turn.rest h (omega arith)

      module _ (some : count ≡ max_arguments → ⊥) (r : Result Item Fault) (found : r ≡ item_answer c (item_at c 8 s e next)) where
        pub turn-no : (f : Fault) → r ≡ Err f → arguments_in c s start e ≡ no (later n f)
        turn-no f q =
            sequence-no (item_at c 8 s e) e (arguments_in c s start e) turn.left next n ts turn.rest h (omega arith) f
            (item-no c (item_at c 8 s e next) f (sym q ∙ found))

        pub turn_more : (t : ValueType) (after m : ℕ) → r ≡ item_found t after m → More c s start e ts t (count + 1) after (n + m)
        unfolding count_of encode_trees
        turn_more t after m q =
            let (tree, read, same) = item-got c (item_at c 8 s e next) t after m (sym q ∙ found) in
            let a = item-answered c 8 s e next r t after m (omega arith) found q in
            record {
              tree = tree;
              same = same;
              turn = record {
                left = turn.left - 1;
                few = omega arith;
                many = omega arith;
                within = a.inside;
                third = omega arith;
                apart = omega (arith, turn.apart, a.on);
                ends =
                    let r = item-read c 8 s e next tree after m read in
                    omega (arith, turn.ends, r.ends, length-append (encode_trees ts) (encode_tree tree));
                rest = sequence-more (item_at c 8 s e) e (arguments_in c s start e) turn.left next n ts turn.rest h (omega arith) tree after m read;
              };
            }

    pub turn_last : e ≤ next → arguments_in c s start e ≡ got ts next n
    turn_last last = sequence-done (item_at c 8 s e) e (arguments_in c s start e) turn.left next n ts turn.rest last

-- the same with the table of their types
pub record Tabled (c : Convention) (s : List ℕ) (start e : ℕ) (arguments : List Argument) (count next n : ℕ) : Type 0 where
  pub ts : Trees
  pub turn : Turn c s start e ts count next n
  pub types : arguments ≡ table c ts

module _ (c : Convention) (s : List ℕ) (start e : ℕ) where
  pub tabled_start : (l : List Argument) → l ≡ no_arguments → start ≤ e → Tabled c s start e l 0 start 1
  tabled_start l q h = record { ts = none; turn = turn-start c s start e h; types = q ∙ table_none c }

  module _ (l : List Argument) (count next n : ℕ) (tabled : Tabled c s start e l count next n) where
    pub tabled-more : next < e → (count ≡ max_arguments → ⊥) → (r : Result Item Fault) → r ≡ item_answer c (item_at c 8 s e next) → (t : ValueType) (after m : ℕ) →
        r ≡ item_found t after m → Tabled c s start e (set l count (argument t)) (count + 1) after (n + m)
    tabled-more h some r found t after m q =
        let turn = tabled.turn in
        let more = turn_more c s start e tabled.ts count next n turn h some r found t after m q in
        record {
          ts = tabled.ts ▸ more.tree;
          turn = more.turn;
          types = same_set tabled.types turn.many more.same ∙ table_more c tabled.ts more.tree (omega (arith, turn.few, turn.many));
        }

    module _ (last : e ≤ next) (result : Option ValueType) (v : Bool) (before : ℕ) where
      pub tabled-trailing : next < length s → refused_signature (fault Refusal.TrailingBytes next (before + n)) ≡ with_arguments c result v before (length s) (arguments_in c s start e)
      tabled-trailing h = rw (turn_last c s start e tabled.ts count next n tabled.turn last, lt-ltb next (length s) h)

      pub tabled-end : length s ≤ next →
          ◌≡◌ {A = SignatureRead} (record { outcome = Ok (before + n); convention = c; result = result; ellipsis = v; count = count; arguments = l })
          (with_arguments c result v before (length s) (arguments_in c s start e))
      tabled-end h = rw (turn_last c s start e tabled.ts count next n tabled.turn last, le-ltb next (length s) h) (cc (tabled.turn.many, tabled.types))

  pub arguments-no : (f : Fault) → arguments_in c s start e ≡ no f → (result : Option ValueType) (v : Bool) (before all : ℕ) →
      refused_signature (later before f) ≡ with_arguments c result v before all (arguments_in c s start e)
  arguments-no f q result v before all = rw q
