-- A type whole, as a signature's bytes describe it: a struct with its fields in order. What a program keeps of it, its
-- `ValueType`, is computed here from the tree. Assumes nothing.
use Rattle.std.specs.Prelude.{ℕ, ◌+◌}
use Rattle.base_conventions.specs.declared.Convention.{Convention}
use Rattle.sig_types.specs.declared.IntegerKind.{IntegerKind}
use Rattle.sig_types.specs.declared.FloatFormat.{FloatFormat}
use Rattle.sig_types.specs.declared.ValueType.{ValueType}
use Rattle.sig_types.specs.declared.Fields.{Fields}
use Rattle.sig_types.specs.Structs.{no_fields, with_field, shape_of}

infixl 20 ◌▸◌
-- "A type is one of these kinds, and each kind carries its own code set"; types in order, the last one outermost
mutual
  pub data Tree : Type 0 where
    integer : IntegerKind → Tree
    float : FloatFormat → Tree
    struct : Trees → Tree

  pub data Trees : Type 0 where
    none : Trees
    ◌▸◌ : Trees → Tree → Trees

unfoldable mutual
  pub type_of : Convention → Tree → ValueType
  type_of c (integer k) = ValueType.Integer k
  type_of c (float f) = ValueType.Float f
  type_of c (struct ts) = ValueType.Struct (shape_of (fields_of c ts))

  pub fields_of : Convention → Trees → Fields
  fields_of c none = no_fields
  fields_of c (ts ▸ t) = with_field c (fields_of c ts) (type_of c t)

-- how many types
unfoldable pub count_of : Trees → ℕ
count_of none = 0
count_of (ts ▸ t) = count_of ts + 1
