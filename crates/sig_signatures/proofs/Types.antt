-- The types in the reader's table are the signature's, and what the reader answers can be planned. Assumes nothing.
use mathlib.Core.Path.{◌≡◌, refl, sym, ap, subst, ◌∙◌}
use mathlib.Core.List.{List, [], ◌∷◌, ◌++◌, map}
use Prim.Native.Nat.{ℕ, zero, suc, ◌-◌, ◌≤◌, ◌<◌}
use native.Mathlib.Omega.{arith}
use lib.ListN.{length, get_or, take, drop, replicate, length-append, get_or-append}
use lib.Seq.{take_at}
use Rattle.base_words.specs.Basics.{All}
use Rattle.base_words.proofs.Basics.{map-append}
use Rattle.base_words.proofs.Each.{each_both, each_map, each-get}
use Rattle.base_conventions.specs.declared.Convention.{Convention}
use Rattle.sig_types.specs.declared.IntegerKind.{IntegerKind}
use Rattle.sig_types.specs.declared.ValueType.{ValueType}
use Rattle.sig_types.specs.Sizes.{size_of, Sized}
use Rattle.sig_types.specs.Trees.{Tree, Trees, none, ◌▸◌, type_of, count_of}
use Rattle.sig_types.specs.Limits.{AllSized}
use Rattle.sig_items.specs.Reading.{Reading, got, no}
use Rattle.sig_signatures.specs.declared.Argument.{Argument}
use Rattle.sig_signatures.specs.Signature.{ResultTree, nothing, value, Signature}
use Rattle.sig_signatures.specs.Limits.{max_arguments}
use Rattle.sig_signatures.specs.Read.{signature_of}
use Rattle.sig_signatures.specs.Answer.{argument, listed, table, result_type, signature_answer}
use Rattle.sig_signatures.specs.Exact.{ResultSized}
use Rattle.sig_signatures.specs.Types.{types_of, argument_type}
use Rattle.sig_signatures.specs.Helpers.{SmallResult, Plannable}
use Rattle.sig_signatures.proofs.Loop.{listed-length}
use Rattle.sig_signatures.proofs.Theorems.{accepted}

abbrev pub blank : Argument
blank = argument (ValueType.Integer IntegerKind.I8)

listed-types : (c : Convention) (ts : Trees) → map argument_type (listed c ts) ≡ types_of c ts
unfolding listed types_of
listed-types c none = refl
listed-types c (ts ▸ t) = map-append argument_type (listed c ts) (argument (type_of c t) ∷ []) ∙ ap (λ (l : List ValueType). l ++ type_of c t ∷ []) (listed-types c ts)

-- the types of the table's first places are the signature's
pub table-types : (c : Convention) (ts : Trees) → map argument_type (take (count_of ts) (table c ts)) ≡ types_of c ts
unfolding table
table-types c ts =
    ap (map argument_type) (take_at (listed c ts) (replicate (max_arguments - count_of ts) blank) (count_of ts) (listed-length c ts)) ∙ listed-types c ts

-- what holds of each type that a signature may have
listed-each : (c : Convention) (P : ValueType → Type 0) → ((t : Tree) → Sized c (type_of c t) → P (type_of c t)) → (ts : Trees) → AllSized c ts
    → All (λ (a : Argument). P a.ty) (listed c ts)
unfolding listed AllSized All
listed-each c P f none a = tt
listed-each c P f (ts ▸ t) a = each_both (λ (x : Argument). P x.ty) (listed c ts) (argument (type_of c t) ∷ []) (listed-each c P f ts a.0) (f t a.1, tt)

pub types-each : (c : Convention) (P : ValueType → Type 0) → ((t : Tree) → Sized c (type_of c t) → P (type_of c t)) → (ts : Trees) → AllSized c ts → All P (types_of c ts)
types-each c P f ts a = subst (All P) (listed-types c ts) (each_map argument_type P (listed c ts) (listed-each c P f ts a))

table-small : (c : Convention) (ts : Trees) → AllSized c ts → (i : ℕ) → i < count_of ts → size_of c (get_or (table c ts) i blank).ty ≤ 256
unfolding table
table-small c ts a i h =
    let before : i < length (listed c ts) = omega (arith, listed-length c ts) in
    rw (get_or-append (listed c ts) (replicate (max_arguments - count_of ts) blank) blank i before)
    (each-get (λ (x : Argument). size_of c x.ty ≤ 256) blank (listed c ts) i before (listed-each c (λ t. size_of c t ≤ 256) (λ t h. h.small) ts a))

length-table : (c : Convention) (ts : Trees) → count_of ts ≤ length (table c ts)
unfolding table
length-table c ts = simp length-append (omega (arith, listed-length c ts))

small_result : (c : Convention) (r : ResultTree) → ResultSized c r → SmallResult c (result_type c r)
small_result c nothing h = tt
small_result c (value t) h = h.small

pub answer-plannable : (s : List ℕ) → Plannable (signature_answer (signature_of s))
answer-plannable s = go (signature_of s) refl
  where
    go : (x : Reading Signature) → signature_of s ≡ x → Plannable (signature_answer x)
    go (got g next n) e =
        let a = accepted s g next n e in
        record {
          few = a.within.few;
          room = length-table g.convention g.arguments;
          result = small_result g.convention g.result a.result;
          small = table-small g.convention g.arguments a.arguments;
        }
    go (no f) e = record { few = omega arith; room = omega arith; result = tt; small = λ i h. absurd (omega arith) }

pub length-of-types : (c : Convention) (ts : Trees) → length (types_of c ts) ≡ count_of ts
length-of-types c ts = sym (ap length (listed-types c ts)) ∙ length-map (listed c ts) ∙ listed-length c ts
  where
    length-map : (l : List Argument) → length (map argument_type l) ≡ length l
    length-map [] = refl
    length-map (a ∷ l) = ap suc (length-map l)

pub length_types : (n : ℕ) (l : List Argument) → n ≤ length l → length (map argument_type (take n l)) ≡ n
length_types zero l h = refl
length_types (suc n) [] h = absurd (omega arith)
length_types (suc n) (a ∷ l) h = ap suc (length_types n l (omega arith))

-- the next type, and those after it
pub types-drop : (n : ℕ) (l : List Argument) (i : ℕ) → i < n → n ≤ length l
    → drop i (map argument_type (take n l)) ≡ (get_or l i blank).ty ∷ drop (suc i) (map argument_type (take n l))
types-drop zero l i h k = absurd (omega arith)
types-drop (suc n) [] i h k = absurd (omega arith)
types-drop (suc n) (a ∷ l) zero h k = refl
types-drop (suc n) (a ∷ l) (suc i) h k = types-drop n l i (omega arith) (omega arith)
