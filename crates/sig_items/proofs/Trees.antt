-- The lengths and counts of encodings, and that they are bytes. Assumes nothing.
use Rattle.sig_types.specs.Codes.{integer_number, float_number}
use Prim.Native.Nat.{ℕ, ◌+◌, ◌*◌, ◌/◌, ◌%◌, ◌≤◌, ◌<◌}
use mathlib.Core.Path.{◌≡◌}
use mathlib.Core.List.{List, [], ◌∷◌}
use lib.ListN.{length, length-append}
use native.Mathlib.Omega.{arith}
use Rattle.base_words.specs.Numbers.{Bytes}
use Rattle.base_words.proofs.Numbers.{bytes-append, bytes-none, bytes-cons}
use Rattle.sig_types.specs.declared.IntegerKind.{IntegerKind}
use Rattle.sig_types.specs.declared.FloatFormat.{FloatFormat}
use Rattle.sig_types.specs.Trees.{Tree, Trees, integer, float, struct, none, ◌▸◌, count_of}
use Rattle.sig_types.specs.Limits.{Some}
use Rattle.sig_items.specs.Encode.{item, encode_tree, encode_trees, items_of, items_in}
use Rattle.sig_items.proofs.Has.{length-item}

pub length_more : (ts : Trees) (t : Tree) → length (encode_trees (ts ▸ t)) ≡ length (encode_trees ts) + length (encode_tree t)
unfolding encode_trees
length_more ts t = length-append (encode_trees ts) (encode_tree t)

pub tree-long : (t : Tree) → 3 ≤ length (encode_tree t)
unfolding encode_tree
tree-long (integer k) = omega (arith, length-item 0x10 (integer_number k ∷ []))
tree-long (float f) = omega (arith, length-item 0x11 (float_number f ∷ []))
tree-long (struct ts) = omega (arith, length-item 0x12 (encode_trees ts))

pub some-long : (ts : Trees) → Some ts → 0 < length (encode_trees ts)
some-long none h = absurd h
some-long (ts ▸ t) h = omega (arith, length_more ts t, tree-long t)

pub long-some : (ts : Trees) → 0 < length (encode_trees ts) → Some ts
unfolding encode_trees
long-some none h = absurd (omega arith)
long-some (ts ▸ t) h = tt

pub count_most : (ts : Trees) → count_of ts ≤ length (encode_trees ts)
unfolding count_of encode_trees
count_most none = omega arith
count_most (ts ▸ t) = omega (arith, length-append (encode_trees ts) (encode_tree t), count_most ts, tree-long t)

-- "at most a third of the input length"
mutual
  unfolding encode_tree items_of

  pub tree-third : (t : Tree) → 3 * items_of t ≤ length (encode_tree t)
  tree-third (integer k) = omega (arith, length-item 0x10 (integer_number k ∷ []))
  tree-third (float f) = omega (arith, length-item 0x11 (float_number f ∷ []))
  tree-third (struct ts) = omega (arith, length-item 0x12 (encode_trees ts), trees-third ts)

  pub trees-third : (ts : Trees) → 3 * items_in ts ≤ length (encode_trees ts)
  trees-third none = omega arith
  trees-third (ts ▸ t) = omega (arith, length-append (encode_trees ts) (encode_tree t), trees-third ts, tree-third t)

-- bytes

pub bytes-item : (tag : ℕ) (body : List ℕ) → tag < 256 → length body < 65536 → Bytes body → Bytes (item tag body)
unfolding item
bytes-item tag body t l b =
    bytes-cons tag (length body / 256 ∷ length body % 256 ∷ body) t
    (bytes-cons (length body / 256) (length body % 256 ∷ body) (omega arith)
    (bytes-cons (length body % 256) body (omega arith) b))

integer-byte : (k : IntegerKind) → integer_number k < 256
integer-byte IntegerKind.I8 = omega arith
integer-byte IntegerKind.U8 = omega arith
integer-byte IntegerKind.I16 = omega arith
integer-byte IntegerKind.U16 = omega arith
integer-byte IntegerKind.I32 = omega arith
integer-byte IntegerKind.U32 = omega arith
integer-byte IntegerKind.I64 = omega arith
integer-byte IntegerKind.U64 = omega arith
integer-byte IntegerKind.Pointer = omega arith

float-byte : (f : FloatFormat) → float_number f < 256
float-byte FloatFormat.Single = omega arith
float-byte FloatFormat.Double = omega arith
float-byte FloatFormat.LongDouble = omega arith

mutual
  unfolding encode_tree

  pub tree-bytes : (t : Tree) → length (encode_tree t) < 65536 → Bytes (encode_tree t)
  tree-bytes (integer k) l = bytes-item 0x10 (integer_number k ∷ []) (omega arith) (omega arith) (bytes-cons (integer_number k) [] (integer-byte k) bytes-none)
  tree-bytes (float f) l = bytes-item 0x11 (float_number f ∷ []) (omega arith) (omega arith) (bytes-cons (float_number f) [] (float-byte f) bytes-none)
  tree-bytes (struct ts) l =
      let size = length-item 0x12 (encode_trees ts) in
      bytes-item 0x12 (encode_trees ts) (omega arith) (omega arith) (trees-bytes ts (omega arith))

  pub trees-bytes : (ts : Trees) → length (encode_trees ts) < 65536 → Bytes (encode_trees ts)
  trees-bytes none l = bytes-none
  trees-bytes (ts ▸ t) l =
      let size = length-append (encode_trees ts) (encode_tree t) in
      bytes-append (encode_trees ts) (encode_tree t) (trees-bytes ts (omega arith)) (tree-bytes t (omega arith))
