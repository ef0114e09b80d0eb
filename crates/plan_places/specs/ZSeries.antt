-- One argument on Z. Document 01, "Places on Z" (001, "Parameter passing"). The cursor's bytes of the area count from the area's
-- first byte, which is stack offset 160. Assumes nothing.
use Rattle.std.specs.Prelude.{ℕ, ◌+◌, ◌-◌, ◌*◌, min, Bool, true, false, eqb}
use Rattle.base_words.specs.Basics.{pick, round_up}
use Rattle.base_conventions.specs.declared.Convention.{Convention}
use Rattle.base_conventions.specs.Numbers.{word_bytes}
use Rattle.sig_types.specs.declared.Equivalent.{Equivalent}
use Rattle.sig_types.specs.declared.FloatFormat.{FloatFormat}
use Rattle.sig_types.specs.declared.ValueType.{ValueType}
use Rattle.plan_places.specs.declared.Cursor.{Cursor}
use Rattle.plan_places.specs.declared.ByteRange.{ByteRange}
use Rattle.plan_places.specs.declared.Span.{Span}
use Rattle.plan_places.specs.declared.ZClass.{ZClass}
use Rattle.plan_places.specs.Values.{cursor, registers, bytes}

-- "Structs of 1, 2, 4 or 8 bytes go by value; other structs .. by pointer to a copy"
abbrev pub by_size : ℕ → ZClass
by_size n =
    pick (eqb n 1) ZClass.Simple
    (pick (eqb n 2) ZClass.Simple (pick (eqb n 4) ZClass.Simple (pick (eqb n 8) ZClass.Simple ZClass.Reference)))

-- "a struct with one field that is either [single or double] or again such a struct" goes as that float
abbrev pub by_equivalent : Equivalent → ℕ → ZClass
by_equivalent Equivalent.Nothing n = by_size n
by_equivalent Equivalent.Single n = ZClass.Float
by_equivalent Equivalent.Double n = ZClass.Float

-- 001's classes: DOUBLE_OR_FLOAT, SIMPLE_ARG, and of the latter those passed "as a pointer to the object, or to a copy"
unfoldable pub z_class : ValueType → ℕ → ZClass
z_class (ValueType.Integer k) n = ZClass.Simple
z_class (ValueType.Float FloatFormat.Single) n = ZClass.Float
z_class (ValueType.Float FloatFormat.Double) n = ZClass.Float
z_class (ValueType.Float FloatFormat.LongDouble) n = ZClass.Reference
z_class (ValueType.Struct s) n = by_equivalent s.equivalent n

-- "r2 to r6", one where it is left
abbrev pub z_general : Cursor → ℕ
z_general c = min 1 (7 - c.general)

-- "f0, f2, f4, f6", one where it is left
abbrev pub z_floating : Cursor → ℕ
z_floating c = min 1 (8 - c.floating)

-- the bytes of a place in memory
abbrev pub z_word : ℕ
z_word = word_bytes Convention.Z

-- in g GPRs and f FPRs, one or none of both, "then 8 stack bytes"
abbrev pub z_span : Cursor → ℕ → ℕ → ByteRange → Bool → Span
z_span c g f copy indirect = record {
  general = registers c.general g;
  floating = registers c.floating f;
  home = bytes c.stack (z_word * (1 - (g + f)));
  memory = bytes c.stack (z_word * (1 - (g + f)));
  copy = copy;
  indirect = indirect;
}

-- the copies end at e
abbrev pub z_next : Cursor → ℕ → ℕ → ℕ → Cursor
z_next c g f e = cursor (c.general + g) (c.floating + 2 * f) (c.stack + z_word * (1 - (g + f))) e

-- "by pointer to a copy, at the next multiple of 8 in the copy buffer"
unfoldable pub z_span_of : Cursor → ZClass → ℕ → Span
z_span_of c ZClass.Float n = z_span c 0 (z_floating c) (bytes c.copies 0) false
z_span_of c ZClass.Simple n = z_span c (z_general c) 0 (bytes c.copies 0) false
z_span_of c ZClass.Reference n = z_span c (z_general c) 0 (bytes (round_up c.copies 8) n) true

unfoldable pub z_next_of : Cursor → ZClass → ℕ → Cursor
z_next_of c ZClass.Float n = z_next c 0 (z_floating c) c.copies
z_next_of c ZClass.Simple n = z_next c (z_general c) 0 c.copies
z_next_of c ZClass.Reference n = z_next c (z_general c) 0 (round_up c.copies 8 + n)
