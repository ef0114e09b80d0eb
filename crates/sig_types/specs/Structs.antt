-- The layout of a struct: its fields one after the other, each at the next multiple of its alignment.
-- Document 01, "A signature's bytes". Assumes nothing.
use Rattle.std.specs.Prelude.{◌+◌, max, Bool, true, false, ltb, Some, None, Option}
use Rattle.base_words.specs.Basics.{round_up}
use Rattle.base_conventions.specs.declared.Convention.{Convention}
use Rattle.sig_types.specs.declared.Equivalent.{Equivalent}
use Rattle.sig_types.specs.declared.Shape.{Shape}
use Rattle.sig_types.specs.declared.ValueType.{ValueType}
use Rattle.sig_types.specs.declared.Fields.{Fields}
use Rattle.sig_types.specs.Sizes.{size_of, align_of, equivalent_of, max_size}

abbrev pub no_fields : Fields
no_fields = record { end = 0; align = 1; empty = true; equivalent = Equivalent.Nothing }

-- "a struct with one field that is either [single or double] or again such a struct": the first field's float, while it
-- is the only field
abbrev pub equivalent_after : Bool → ValueType → Equivalent
equivalent_after true t = equivalent_of t
equivalent_after false t = Equivalent.Nothing

-- one field more; the struct's alignment is "its largest field alignment"
unfoldable pub with_field : Convention → Fields → ValueType → Fields
with_field c l t = record {
  end = round_up l.end (align_of c t) + size_of c t;
  align = max l.align (align_of c t);
  empty = false;
  equivalent = equivalent_after l.empty t;
}

-- "a struct's size is rounded up to its alignment"
unfoldable pub shape_of : Fields → Shape
shape_of l = record { size = round_up l.end l.align; align = l.align; equivalent = l.equivalent }

abbrev pub unless_too_large : Bool → Shape → Option Shape
unless_too_large true s = None
unless_too_large false s = Some s

-- refusal 8: "struct size over 256"
abbrev pub too_large : Shape → Bool
too_large s = ltb max_size s.size

unfoldable pub closed : Fields → Option Shape
closed l = unless_too_large (too_large (shape_of l)) (shape_of l)
