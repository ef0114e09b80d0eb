-- For proofs and helpers alone: no claim cites this file.
-- What putting a value asks of the buffers: room for the argument's words and copy. Assumes nothing.
use Rattle.std.specs.Prelude.{ℕ, ◌+◌, ◌-◌, ◌*◌, ◌^◌, ◌≤◌, ◌<◌, ◌≡◌, List, ◌++◌, length, replicate}
use Rattle.sig_types.specs.declared.Equivalent.{Equivalent}
use Rattle.plan_places.specs.declared.CallRules.{CallRules}
use Rattle.plan_places.specs.declared.Span.{Span}
use Rattle.plan_places.specs.Spots.{image_bytes}
use Rattle.call_slots.specs.Placements.{Placement}
use Rattle.call_slots.specs.Helpers.{InImage}

-- v, and zeros to the end of a span's words of w bytes
abbrev pub padded : ℕ → Span → List ℕ → List ℕ
padded w s v = v ++ replicate (w * s.general.count + s.memory.length - length v) 0

-- a span's words of w bytes lie in the image and the area
abbrev pub SpanTakes : ℕ → Span → List ℕ → List ℕ → Type 0
SpanTakes w s image area =
    (1 ≤ w)
    × (w ≤ 8)
    × (s.general.first + s.general.count ≤ 32)
    × (length image ≡ image_bytes)
    × (s.memory.start + s.memory.length ≤ length area)
    × (0 < s.memory.length → w ≤ s.memory.length)

-- a number of at most eight bytes has no word too many: a doubleword is its only one
abbrev pub NumberFits : ℕ → Span → Type 0
NumberFits w s = (w * s.general.count + s.memory.length < w + 8) × (w ≡ 8 → 8 * s.general.count + s.memory.length ≡ 8)

-- room for a float of n bytes in FPRs, of which l bytes are there
abbrev pub FprsTake : Equivalent → ℕ → ℕ → Type 0
FprsTake Equivalent.Single n l = (n ≡ 4) × (8 ≤ l)
FprsTake Equivalent.Double n l = n ≤ l
FprsTake Equivalent.Nothing n l = n ≤ l

-- an argument, and the lengths of the buffers that it is put in
pub record CanPut (r : CallRules) (base i a c : ℕ) (p : Placement) : Type 0 where
  pub registers : InImage r i p
  pub memory : p.span.memory.start + p.span.memory.length ≤ a
  pub copies : p.span.copy.start + p.span.copy.length ≤ c
  pub low : base + (p.span.copy.start + p.span.copy.length) < 2 ^ 64
