-- For proofs and helpers alone: no claim cites this file.
-- That a span moves with its offset in the area: a step may start from offset 0 of the part of the area that starts at its own. Assumes nothing.
use Rattle.std.specs.Prelude.{ℕ, ◌+◌, ◌≡◌, length}
use Rattle.sig_types.specs.declared.ValueType.{ValueType}
use Rattle.plan_places.specs.declared.Cursor.{Cursor}
use Rattle.plan_places.specs.declared.Span.{Span}
use Rattle.plan_places.specs.declared.CallRules.{CallRules}
use Rattle.plan_places.specs.Values.{cursor}
use Rattle.plan_places.specs.Step.{span_of}

-- the cursor at the same registers, at offset 0 of the area
abbrev pub local : Cursor → Cursor
local k = cursor k.general k.floating 0 0

-- s is s' moved by d bytes of the area; of a copy only its length is told
pub record Shifted (d : ℕ) (s s' : Span) : Type 0 where
  pub general : s.general ≡ s'.general
  pub floating : s.floating ≡ s'.floating
  pub home-start : s.home.start ≡ d + s'.home.start
  pub home-length : s.home.length ≡ s'.home.length
  pub memory_start : s.memory.start ≡ d + s'.memory.start
  pub memory-length : s.memory.length ≡ s'.memory.length
  pub copy-length : s.copy.length ≡ s'.copy.length
  pub indirect : s.indirect ≡ s'.indirect

-- a step may start from offset 0 of the part of the area that starts at its own
abbrev pub SpansShift : Type 0
SpansShift = (r : CallRules) (k : Cursor) (t : ValueType) (n : ℕ) → Shifted k.stack (span_of r k t n) (span_of r (local k) t n)
