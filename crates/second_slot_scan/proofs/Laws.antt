-- A law for each way of a slot. Assumes nothing.
use mathlib.Core.Path.{◌≡◌}
use mathlib.Core.Bool.{Bool, true, false}
use Prim.Native.Nat.{◌≤◌, ◌<◌}
use borrow.Author.Tests.{lt-ltb, le-ltb}
use Rattle.second_slot_scan.specs.declared.Scan.{Scan}
use Rattle.second_slot_scan.specs.declared.Copied.{Copied}
use Rattle.second_slot_scan.specs.Slots.{in_floating, in_general, in_other, slot_by}

-- ---- slots

pub float-other : (b : Bool) (s : Scan) (k : Copied) → b ≡ true → 6 < s.fr → slot_by b s k ≡ in_other s k
unfolding slot_by
float-other b s k h l = rw (h, lt-ltb 6 s.fr l)

pub float-floating : (b : Bool) (s : Scan) (k : Copied) → b ≡ true → s.fr ≤ 6 → slot_by b s k ≡ in_floating s k
unfolding slot_by
float-floating b s k h l = rw (h, le-ltb 6 s.fr l)

pub simple-other : (b : Bool) (s : Scan) (k : Copied) → b ≡ false → 6 < s.gr → slot_by b s k ≡ in_other s k
unfolding slot_by
simple-other b s k h l = rw (h, lt-ltb 6 s.gr l)

pub simple-general : (b : Bool) (s : Scan) (k : Copied) → b ≡ false → s.gr ≤ 6 → slot_by b s k ≡ in_general s k
unfolding slot_by
simple-general b s k h l = rw (h, le-ltb 6 s.gr l)
