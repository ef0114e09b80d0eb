-- The bytes of a type: the format of document 01, "A signature's bytes", the other way round. It shares no definition with
-- the reader, so that the two check each other. Assumes nothing.
use Rattle.std.specs.Prelude.{ℕ, ◌+◌, ◌/◌, ◌%◌, List, [], ◌∷◌, ◌++◌, length}
use Rattle.sig_types.specs.Codes.{integer_number, float_number}
use Rattle.sig_types.specs.Trees.{Tree, Trees, integer, float, struct, none, ◌▸◌}

-- "An item is a one-byte tag, a two-byte length and a body"
unfoldable pub item : ℕ → List ℕ → List ℕ
item tag body = tag ∷ length body / 256 ∷ length body % 256 ∷ body

unfoldable mutual
  pub encode_tree : Tree → List ℕ
  encode_tree (integer k) = item 0x10 (integer_number k ∷ [])
  encode_tree (float f) = item 0x11 (float_number f ∷ [])
  encode_tree (struct ts) = item 0x12 (encode_trees ts)

  pub encode_trees : Trees → List ℕ
  encode_trees none = []
  encode_trees (ts ▸ t) = encode_trees ts ++ encode_tree t

-- "its count of items, headers of nested ones included"
unfoldable mutual
  pub items_of : Tree → ℕ
  items_of (integer k) = 1
  items_of (float f) = 1
  items_of (struct ts) = 1 + items_in ts

  pub items_in : Trees → ℕ
  items_in none = 0
  items_in (ts ▸ t) = items_in ts + items_of t
