-- For proofs and helpers alone: no claim cites this file.
-- What a slot asks of the scan, so that no sum passes its type: it holds of every scan of a signature (law `near-roomy`). Assumes nothing.
use Rattle.std.specs.Prelude.{◌^◌, ◌≤◌}
use Rattle.second_slot_scan.specs.declared.Scan.{Scan}

abbrev pub RoomyScan : Scan → Type 0
RoomyScan s = (s.gr ≤ 2 ^ 16) × (s.fr ≤ 2 ^ 16) × (s.starg ≤ 2 ^ 16) × (s.copies ≤ 2 ^ 16)
