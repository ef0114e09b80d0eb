-- What reading a type item finds: document 01, "A signature's bytes", with the refusals in the order "At an item: header
-- room, tag, length room, then depth (6), body (4), long double (5), contents, size (8)", and No. 1's 25 after 5. The list s is the whole signature,
-- `at` the place of an item's header, e the enclosing end and b the end of an item's body. Assumes nothing.
use Rattle.sig_types.specs.Codes.{integer_code, float_code}
use Rattle.sig_types.specs.declared.UnknownCode.{UnknownCode}
use Rattle.std.specs.Prelude.{ℕ, zero, suc, ◌+◌, ◌-◌, ◌*◌, Bool, List, get_or, ltb, eqb, Ok, Err, Result}
use Rattle.base_words.specs.Basics.{pick}
use Rattle.base_conventions.specs.declared.Convention.{Convention}
use Rattle.sig_types.specs.declared.IntegerKind.{IntegerKind}
use Rattle.sig_types.specs.declared.FloatFormat.{FloatFormat}
use Rattle.sig_types.specs.Sizes.{lacks_float, max_depth}
use Rattle.sig_types.specs.Structs.{shape_of, too_large}
use Rattle.sig_types.specs.Trees.{Tree, Trees, integer, float, struct, none, ◌▸◌, fields_of}
use Rattle.sig_items.specs.declared.Refusal.{Refusal}
use Rattle.sig_items.specs.Reading.{Reading, fault, got, no, later_reading, choose, and_then, in_body}

-- "a two-byte length", big-endian, after the "one-byte tag"
abbrev pub length_at : List ℕ → ℕ → ℕ
length_at s at = get_or s (at + 1) 0 * 256 + get_or s (at + 2) 0

-- "header room, tag, length room", where the tags from `low` to `high` are allowed
unfoldable pub body_at : List ℕ → ℕ → ℕ → ℕ → ℕ → Result ℕ Refusal
body_at s low high e at =
    pick (ltb e (at + 3)) (Err Refusal.Truncated)
    (pick (ltb (get_or s at 0) low) (Err Refusal.UnexpectedTag)
    (pick (ltb high (get_or s at 0)) (Err Refusal.UnexpectedTag)
    (pick (ltb e (at + 3 + length_at s at)) (Err Refusal.Truncated)
    (Ok (at + 3 + length_at s at)))))

abbrev pub integer_by : Result IntegerKind UnknownCode → ℕ → ℕ → Reading Tree
integer_by (Ok k) at b = got (integer k) b 1
integer_by (Err _) at b = no (fault Refusal.Malformed at 0)

-- "0x10 whole number, length 1"
unfoldable pub integer_at : List ℕ → ℕ → ℕ → Reading Tree
integer_at s at b = pick (eqb b (at + 4)) (integer_by (integer_code (get_or s (at + 3) 0)) at b) (no (fault Refusal.Malformed at 0))

-- 25: a float that the convention has not
unfoldable pub float_of : Convention → FloatFormat → Bool → ℕ → ℕ → Reading Tree
float_of c f inside at b = pick (lacks_float c inside f) (no (fault Refusal.FloatNotCarried at 0)) (got (float f) b 1)

-- 5: "long double inside a struct"; 25 is "tested after 5"
abbrev pub float_by : Convention → Result FloatFormat UnknownCode → Bool → ℕ → ℕ → Reading Tree
float_by c (Ok FloatFormat.Single) inside at b = float_of c FloatFormat.Single inside at b
float_by c (Ok FloatFormat.Double) inside at b = float_of c FloatFormat.Double inside at b
float_by c (Ok FloatFormat.LongDouble) inside at b = pick inside (no (fault Refusal.LongDoubleInStruct at 0)) (float_of c FloatFormat.LongDouble inside at b)
float_by c (Err _) inside at b = no (fault Refusal.Malformed at 0)

-- "0x11 float, length 1"
unfoldable pub float_at : Convention → List ℕ → Bool → ℕ → ℕ → Reading Tree
float_at c s inside at b = pick (eqb b (at + 4)) (float_by c (float_code (get_or s (at + 3) 0)) inside at b) (no (fault Refusal.Malformed at 0))

-- Type items one after the other up to the end e, at most `most` of them, after the types ts; n headers came before, those of
-- the types and the enclosing one. Only arguments are limited: a struct's `most` is its body's length, and no item is shorter
-- than its header. "bytes left over (4, 7, 9) are no item": all n count.
unfoldable pub sequence : (ℕ → Reading Tree) → ℕ → ℕ → ℕ → ℕ → Trees → Reading Trees
sequence item e zero next n ts = pick (ltb next e) (no (fault Refusal.TooManyArguments next n)) (got ts next n)
sequence item e (suc most) next n ts =
    choose (ltb next e) (λ _. and_then (later_reading n (item next)) (λ t onward m. sequence item e most onward m (ts ▸ t))) (λ _. got ts next n)

-- "size (8)": a struct of the types ts, whose body ends at b; of its n headers "the refused item's own header isn't counted"
unfoldable pub sized_at : Convention → ℕ → ℕ → ℕ → Trees → Reading Tree
sized_at c at b n ts = pick (too_large (shape_of (fields_of c ts))) (no (fault Refusal.StructTooLarge at (n - 1))) (got (struct ts) b n)

-- "0x12 struct: one or more type items"; n counts its own header first
unfoldable pub contents_at : Convention → (ℕ → Reading Tree) → ℕ → ℕ → Reading Tree
contents_at c item at b =
    choose (eqb b (at + 3)) (λ _. no (fault Refusal.Malformed at 0))
    (λ _. and_then (sequence item b (b - (at + 3)) (at + 3) 1 none) (λ ts next n. sized_at c at b n ts))

-- by the tag, 0x10, 0x11 or 0x12
abbrev pub by_tag : ℕ → Reading Tree → Reading Tree → (Unit {0} → Reading Tree) → Reading Tree
by_tag tag i f s = choose (eqb tag 0x10) (λ _. i) (λ _. choose (eqb tag 0x11) (λ _. f) s)

-- a type item, by what a struct's is
unfoldable pub item_by : Convention → (ℕ → ℕ → Reading Tree) → Bool → List ℕ → ℕ → ℕ → Reading Tree
item_by c structure inside s e at =
    in_body (body_at s 0x10 0x12 e at) at (λ b. by_tag (get_or s at 0) (integer_at s at b) (float_at c s inside at b) (λ _. structure at b))

-- "Reading a struct and reading a field call each other, and the depth left falls": d levels of structs are left, 8 outside
-- any struct. 6: "struct depth over 8"
unfoldable pub struct_at : Convention → ℕ → List ℕ → ℕ → ℕ → Reading Tree
struct_at c zero s at b = no (fault Refusal.TooDeep at 0)
struct_at c (suc d) s at b = contents_at c (λ k. item_by c (struct_at c d s) (ltb d max_depth) s b k) at b

unfoldable pub item_at : Convention → ℕ → List ℕ → ℕ → ℕ → Reading Tree
item_at c d s e at = item_by c (struct_at c d s) (ltb d max_depth) s e at
