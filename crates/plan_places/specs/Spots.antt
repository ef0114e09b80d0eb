-- What belongs to an argument, byte by byte and register by register. Document 01 asks that no byte of the image, the area or
-- the copies belongs to two arguments. Assumes nothing.
use Rattle.std.specs.Prelude.{ℕ, ◌+◌, ◌-◌, ◌/◌, ◌%◌, ◌≤◌, ◌<◌, ◌≡◌, Bool, true, false, ltb}
use Rattle.plan_places.specs.declared.RegisterRange.{RegisterRange}
use Rattle.plan_places.specs.declared.ByteRange.{ByteRange}
use Rattle.plan_places.specs.declared.Span.{Span}
use Rattle.plan_places.specs.declared.CallRules.{CallRules}

-- a register, a byte of the parameter area or a byte of the copies
pub data Spot : Type 0 where
  general : ℕ → Spot
  floating : ℕ → Spot
  area : ℕ → Spot
  copies : ℕ → Spot

abbrev pub InRegisters : RegisterRange → ℕ → Type 0
InRegisters r n = (r.first ≤ n) × (n < r.first + r.count)

abbrev pub InBytes : ByteRange → ℕ → Type 0
InBytes b n = (b.start ≤ n) × (n < b.start + b.length)

-- of the area an argument owns its whole home, of which `memory` is a part
abbrev pub Owns : Span → Spot → Type 0
Owns s (general n) = InRegisters s.general n
Owns s (floating n) = InRegisters s.floating n
Owns s (area n) = InBytes s.home n
Owns s (copies n) = InBytes s.copy n

-- "The image holds GPR n at 8n, FPR n at 256 + 8n": its bytes, and where the FPRs start
abbrev pub image_bytes : ℕ
image_bytes = 512

abbrev pub fprs_at : ℕ
fprs_at = 256

abbrev spot_at : Bool → ℕ → Spot
spot_at true b = general (b / 8)
spot_at false b = floating ((b - fprs_at) / 8)

-- the register that byte b of the image is of
abbrev pub image_spot : ℕ → Spot
image_spot b = spot_at (ltb b fprs_at) b

-- the registers that arguments may have: r3 to r10 and f1 to f13; Z: "r2 to r6" and "f0, f2, f4, f6"
abbrev pub ArgumentRegister : CallRules → Spot → Type 0
ArgumentRegister (CallRules.Power f) (general n) = (3 ≤ n) × (n ≤ 10)
ArgumentRegister (CallRules.Power f) (floating n) = (1 ≤ n) × (n ≤ 13)
ArgumentRegister CallRules.Z (general n) = (2 ≤ n) × (n ≤ 6)
ArgumentRegister CallRules.Z (floating n) = (n ≤ 6) × (n % 2 ≡ 0)
ArgumentRegister r (area n) = Unit {0}
ArgumentRegister r (copies n) = Unit {0}
