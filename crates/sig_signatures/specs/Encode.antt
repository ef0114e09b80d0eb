-- The bytes of a signature, and the signatures that the bridge carries: document 01, "A signature's bytes", from a signature
-- to its bytes. Assumes nothing.
use Rattle.std.specs.Prelude.{ℕ, ◌+◌, ◌≤◌, Bool, true, false, List, [], ◌∷◌, ◌++◌, length}
use Rattle.base_conventions.specs.declared.Convention.{Convention}
use Rattle.base_conventions.specs.Numbers.{code_of}
use Rattle.sig_types.specs.Trees.{count_of}
use Rattle.sig_types.specs.Limits as types
use Rattle.sig_items.specs.Encode.{item, encode_tree, encode_trees, items_of, items_in}
use Rattle.sig_signatures.specs.Limits.{max_length, max_arguments}
use Rattle.sig_signatures.specs.Signature.{ResultTree, nothing, value, Signature}

unfoldable pub encode_result : ResultTree → List ℕ
encode_result nothing = []
encode_result (value t) = encode_tree t

-- "an optional tag 0x04, empty body .. meaning an ellipsis" (document 02, No. 5)
unfoldable pub ellipsis_item : Bool → List ℕ
ellipsis_item true = item 0x04 []
ellipsis_item false = []

-- "A signature is three items in this order, and nothing after", but for the ellipsis
unfoldable pub encode : Signature → List ℕ
encode g =
    item 0x01 (code_of g.convention ∷ [])
    ++ (item 0x02 (encode_result g.result) ++ (ellipsis_item g.ellipsis ++ item 0x03 (encode_trees g.arguments)))

unfoldable pub result_items : ResultTree → ℕ
result_items nothing = 0
result_items (value t) = items_of t

unfoldable pub ellipsis_items : Bool → ℕ
ellipsis_items true = 1
ellipsis_items false = 0

-- "its count of items, headers of nested ones included"
unfoldable pub signature_items : Signature → ℕ
signature_items g = 3 + result_items g.result + ellipsis_items g.ellipsis + items_in g.arguments

unfoldable pub ResultWithin : Convention → ResultTree → Type 0
ResultWithin c nothing = Unit {0}
ResultWithin c (value t) = types.TypeWithin c t

-- the limits of refusals 1, 4 to 8
pub record SignatureWithin (g : Signature) : Type 0 where
  pub result : ResultWithin g.convention g.result
  pub arguments : types.AllWithin g.convention g.arguments
  pub few : count_of g.arguments ≤ max_arguments
  pub short : length (encode g) ≤ max_length
