-- The types of a signature's arguments, of what is read and of the reader's answer. Assumes nothing.
use Rattle.std.specs.Prelude.{ℕ, ◌+◌, List, [], ◌∷◌, ◌++◌, map, take}
use Rattle.base_conventions.specs.declared.Convention.{Convention}
use Rattle.sig_types.specs.declared.ValueType.{ValueType}
use Rattle.sig_types.specs.Sizes.{size_of}
use Rattle.sig_types.specs.Trees.{Trees, none, ◌▸◌, type_of}
use Rattle.sig_signatures.specs.declared.Argument.{Argument}
use Rattle.sig_signatures.specs.declared.SignatureRead.{SignatureRead}

-- the arguments' types in order
unfoldable pub types_of : Convention → Trees → List ValueType
types_of c none = []
types_of c (ts ▸ t) = types_of c ts ++ type_of c t ∷ []

-- "The value buffer holds the arguments in order without gaps": all their bytes
unfoldable pub values_of : Convention → List ValueType → ℕ
values_of c [] = 0
values_of c (t ∷ ts) = size_of c t + values_of c ts

abbrev pub argument_type : Argument → ValueType
argument_type a = a.ty

abbrev pub types_in : SignatureRead → List ValueType
types_in g = map argument_type (take g.count g.arguments)
