-- Every encoding of a type within the limits is read, and gives the type back. Assumes nothing.
use Rattle.sig_types.specs.Codes.{integer_code, float_code, integer_number, float_number}
use Rattle.std.proofs.Common.{Ok}
use Prim.Native.Nat.{ℕ, ◌+◌, ◌-◌, ◌≤◌}
use mathlib.Core.Path.{◌≡◌, refl, sym, ap, ◌∙◌}
use mathlib.Core.Bool.{false}
use mathlib.Core.List.{List, [], ◌∷◌}
use lib.ListN.{length, get_or, length-append}
use lib.Dec.{ltb}
use native.Mathlib.Omega.{arith}
use borrow.Author.Tests.{le-ltb, eq-eqb}
use Rattle.base_conventions.specs.declared.Convention.{Convention}
use Rattle.sig_types.specs.declared.IntegerKind.{IntegerKind}
use Rattle.sig_types.specs.declared.FloatFormat.{FloatFormat}
use Rattle.sig_types.specs.Sizes.{size_of, lacks_float}
use Rattle.sig_types.specs.Structs.{shape_of}
use Rattle.sig_types.specs.Trees.{Tree, Trees, integer, float, struct, none, ◌▸◌, type_of, fields_of, count_of}
use Rattle.sig_items.specs.Reading.{Reading, got}
use Rattle.sig_items.specs.Read.{body_at, integer_at, float_of, float_at, sequence, sized_at, item_at}
use Rattle.sig_items.specs.Encode.{item, encode_tree, encode_trees, items_of, items_in}
use Rattle.sig_items.proofs.Laws.{body-to, sequence-done, sequence-more, struct-read, item-integer, item-float, item-struct}
use Rattle.sig_items.proofs.Levels.{FloatLeft, Left, AllLeft}
use Rattle.sig_items.proofs.Has.{Has, has_left, has_right, item-tag, item-length, item-body, item-byte, length-item}
use Rattle.sig_items.proofs.Trees.{tree-long, some-long, count_most}

-- the codes

integer-code : (k : IntegerKind) → integer_code (integer_number k) ≡ Ok k
unfolding integer_code
integer-code IntegerKind.I8 = refl
integer-code IntegerKind.U8 = refl
integer-code IntegerKind.I16 = refl
integer-code IntegerKind.U16 = refl
integer-code IntegerKind.I32 = refl
integer-code IntegerKind.U32 = refl
integer-code IntegerKind.I64 = refl
integer-code IntegerKind.U64 = refl
integer-code IntegerKind.Pointer = refl

-- the bodies

integer-reads : (s : List ℕ) (at b : ℕ) (k : IntegerKind) → b ≡ at + 4 → get_or s (at + 3) 0 ≡ integer_number k → integer_at s at b ≡ got (integer k) b 1
unfolding integer_at
integer-reads s at b k h q = rw (eq-eqb b (at + 4) h, q, integer-code k)

float-reads : (c : Convention) (s : List ℕ) (d at b : ℕ) (f : FloatFormat) → FloatLeft d f → lacks_float c (ltb d 8) f ≡ false → b ≡ at + 4 → get_or s (at + 3) 0 ≡ float_number f →
    float_at c s (ltb d 8) at b ≡ got (float f) b 1
unfolding float_at float_code float_of
float-reads c s d at b FloatFormat.Single w l h q = rw (eq-eqb b (at + 4) h, q, l)
float-reads c s d at b FloatFormat.Double w l h q = rw (eq-eqb b (at + 4) h, q, l)
float-reads c s d at b FloatFormat.LongDouble w l h q =
    let outside : ltb d 8 ≡ false = le-ltb d 8 w in
    rw (eq-eqb b (at + 4) h, q, l, outside)

sized-small : (c : Convention) (at b n : ℕ) (ts : Trees) → size_of c (type_of c (struct ts)) ≤ 256 → sized_at c at b n ts ≡ got (struct ts) b n
unfolding sized_at type_of
sized-small c at b n ts h = rw (le-ltb 256 (shape_of (fields_of c ts)).size h)

same-sequence : (reader : ℕ → Reading Tree) (e : ℕ) (ts : Trees) {k k' a a' n n' : ℕ} → k ≡ k' → a ≡ a' → n ≡ n' →
    sequence reader e k a n ts ≡ sequence reader e k' a' n' ts
same-sequence reader e ts p q r = cc

module _ (c : Convention) (s : List ℕ) where
  -- the header of an encoded item
  pub header-reads : (low high tag : ℕ) (body : List ℕ) (e at next : ℕ) → low ≤ tag → tag ≤ high → Has s at (item tag body) →
      next ≡ at + 3 + length body → next ≤ e → body_at s low high e at ≡ Ok next
  header-reads low high tag body e at next l u h q room =
      let is = item-tag s tag body at h in
      body-to s low high e at (omega arith) (omega arith) (omega arith) (length body) (item-length s tag body at h) (omega arith)
      ∙ ap Ok (sym q)

  mutual
    unfolding encode_tree Left items_of count_of

    pub tree-reads : (t : Tree) (d e at next : ℕ) → Left c d t → Has s at (encode_tree t) → next ≡ at + length (encode_tree t) → next ≤ e →
        item_at c d s e at ≡ got t next (items_of t)
    tree-reads (integer k) d e at next w h q room =
        let body = integer_number k ∷ [] in
        let size = length-item 0x10 body in
        let to = header-reads 0x10 0x12 0x10 body e at next (omega arith) (omega arith) h (omega arith) room in
        item-integer c d s e at next to (item-tag s 0x10 body at h)
        ∙ integer-reads s at next k (omega arith) (item-byte s 0x10 (integer_number k) at h)
    tree-reads (float f) d e at next w h q room =
        let body = float_number f ∷ [] in
        let size = length-item 0x11 body in
        let to = header-reads 0x10 0x12 0x11 body e at next (omega arith) (omega arith) h (omega arith) room in
        item-float c d s e at next to (item-tag s 0x11 body at h)
        ∙ float-reads c s d at next f w.0 w.1 (omega arith) (item-byte s 0x11 (float_number f) at h)
    tree-reads (struct ts) d e at next w h q room =
        let body = encode_trees ts in
        let size = length-item 0x12 body in
        let tag = item-tag s 0x12 body at h in
        let some = some-long ts w.1 in
        let few = count_most ts in
        let to = header-reads 0x10 0x12 0x12 body e at next (omega arith) (omega arith) h (omega arith) room in
        let rest = trees-read ts (d - 1) next (next - (at + 3)) (at + 3) 1 w.2 (item-body s 0x12 body at h) (omega arith) (omega arith)
        (next - (at + 3) - count_of ts) next (1 + items_in ts) refl (omega arith) refl in
        item-struct c d s e at next to (λ z. omega arith) (λ z. omega arith)
        ∙ struct-read c d s at next w.0 (omega arith) ts next (1 + items_in ts)
        (sequence-done (item_at c (d - 1) s next) next _ (next - (at + 3) - count_of ts) next (1 + items_in ts) ts rest (omega arith))
        ∙ sized-small c at next (1 + items_in ts) ts w.3

    -- types one after the other, from `start` on, come to the place after them
    pub trees-read : (ts : Trees) (d b most start n : ℕ) → AllLeft c d ts → Has s start (encode_trees ts) → start + length (encode_trees ts) ≤ b →
        count_of ts ≤ most → (left next m : ℕ) → left ≡ most - count_of ts → next ≡ start + length (encode_trees ts) → m ≡ n + items_in ts →
        sequence (item_at c d s b) b most start n none ≡ sequence (item_at c d s b) b left next m ts
    trees-read none d b most start n w h room few left next m p q r = same-sequence (item_at c d s b) b none (omega arith) (omega arith) (omega arith)
    trees-read (ts ▸ t) d b most start n w h room few left next m p q r =
        let size = length-append (encode_trees ts) (encode_tree t) in
        let long = tree-long t in
        let at = start + length (encode_trees ts) in
        let rest = trees-read ts d b most start n w.0 (has_left s (encode_trees ts) (encode_tree t) start h) (omega arith) (omega arith)
        (most - count_of ts) at (n + items_in ts) refl refl refl in
        sequence-more (item_at c d s b) b _ (most - count_of ts) at (n + items_in ts) ts rest (omega arith) (omega arith) t next (items_of t)
        (tree-reads t d b at next w.1 (has_right s (encode_trees ts) (encode_tree t) start h) (omega arith) (omega arith))
        ∙ same-sequence (item_at c d s b) b (ts ▸ t) (omega arith) refl (omega arith)
