-- For proofs and helpers alone: no claim cites this file.
-- What taking values asks: places that lie in the buffers, and that neither 13 nor 14 refuses an argument. Every
-- reading that nothing refuses has it (law `all-readable` of the crate call_read). Assumes nothing.
use Rattle.std.specs.Prelude.{ℕ, ◌+◌, ◌-◌, ◌≤◌, ◌<◌, ◌≡◌, true, List, length}
use Rattle.base_words.specs.Numbers.{value_of}
use Rattle.sig_types.specs.declared.Equivalent.{Equivalent}
use Rattle.sig_types.specs.Sizes.{equivalent_of}
use Rattle.plan_places.specs.declared.CallRules.{CallRules}
use Rattle.plan_places.specs.declared.Span.{Span}
use Rattle.plan_places.specs.Step.{word_of}
use Rattle.plan_places.specs.Spots.{image_bytes}
use Rattle.call_slots.specs.Buffers.{Buffers}
use Rattle.call_slots.specs.Placements.{Placement, fpr_bytes_at, address_at}
use Rattle.call_slots.specs.Refusals.{float_answer}
use Rattle.call_slots.specs.Helpers.{InImage}
use Rattle.call_slots.specs.Answer.{call_done}

-- m bytes at s lie in an area of a bytes; none may start anywhere: an argument in registers asks nothing of the area
abbrev pub LiesIn : ℕ → ℕ → ℕ → Type 0
LiesIn s m a = 0 < m → s + m ≤ a

-- a span's words of w bytes lie in the image and the area
abbrev pub SpanHolds : ℕ → Span → List ℕ → List ℕ → Type 0
SpanHolds w s image area =
    (1 ≤ w) × (w ≤ 8) × (s.general.first + s.general.count ≤ 32) × (length image ≡ image_bytes) × LiesIn s.memory.start s.memory.length (length area)

-- room of l bytes for a float whose FPRs have n bytes
abbrev pub FprsHold : Equivalent → ℕ → ℕ → Type 0
FprsHold Equivalent.Single n l = (n ≡ 8) × (4 ≤ l)
FprsHold Equivalent.Double n l = (n ≡ 8) × (8 ≤ l)
FprsHold Equivalent.Nothing n l = n ≤ l

-- an argument, and the lengths of the image and the area
pub record InBuffers (r : CallRules) (i a : ℕ) (p : Placement) : Type 0 where
  pub registers : InImage r i p
  pub memory : LiesIn p.span.memory.start p.span.memory.length a

-- an argument that can be read
pub record Readable (r : CallRules) (base : ℕ) (p : Placement) (b : Buffers) : Type 0 where
  pub ready : InBuffers r (length b.image) (length b.area) p
  -- 14 is not given
  pub exact : 0 < p.span.floating.count → float_answer r (equivalent_of p.ty) (value_of (fpr_bytes_at p.span b)) ≡ call_done
  -- 13 is not given
  pub inside : p.span.floating.count ≤ 0 → p.span.indirect ≡ true
      → (base ≤ address_at (word_of r) p.span b) × (address_at (word_of r) p.span b - base + p.size ≤ length b.copies)
