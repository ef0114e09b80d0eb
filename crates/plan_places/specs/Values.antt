-- Short names for the values of the declared types. Assumes nothing.
use Rattle.std.specs.Prelude.{ℕ}
use Rattle.sig_types.specs.declared.IntegerKind.{IntegerKind}
use Rattle.sig_types.specs.declared.ValueType.{ValueType}
use Rattle.plan_places.specs.declared.Cursor.{Cursor}
use Rattle.plan_places.specs.declared.RegisterRange.{RegisterRange}
use Rattle.plan_places.specs.declared.ByteRange.{ByteRange}
use Rattle.plan_places.specs.declared.Share.{Share}

abbrev pub cursor : ℕ → ℕ → ℕ → ℕ → Cursor
cursor g f s c = record { general = g; floating = f; stack = s; copies = c }

abbrev pub registers : ℕ → ℕ → RegisterRange
registers first n = record { first = first; count = n }

abbrev pub bytes : ℕ → ℕ → ByteRange
bytes start n = record { start = start; length = n }

abbrev pub share : ℕ → ℕ → ℕ → Share
share g f m = record { general = g; floating = f; memory = m }

abbrev pub pointer : ValueType
pointer = ValueType.Integer IntegerKind.Pointer
