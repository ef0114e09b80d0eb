-- A signature: a calling convention, a result's type or none, whether it has an ellipsis (a variable argument list: document 02,
-- No. 5), and the arguments' types in order. Assumes nothing.
use Rattle.std.specs.Prelude.{ℕ, Bool}
use Rattle.base_conventions.specs.declared.Convention.{Convention}
use Rattle.sig_types.specs.Trees.{Tree, Trees}

pub data ResultTree : Type 0 where
  nothing : ResultTree
  value : Tree → ResultTree

pub record Signature : Type 0 where
  pub convention : Convention
  pub result : ResultTree
  pub ellipsis : Bool
  pub arguments : Trees

-- what stands before the arguments, whose item's body ends at `end`
pub record HeadTree : Type 0 where
  pub convention : Convention
  pub result : ResultTree
  pub ellipsis : Bool
  pub end : ℕ
