-- A turn of the scan: what is in the table so far and what is left make up the whole list. Assumes nothing.
use mathlib.Core.Path.{◌≡◌, refl}
use mathlib.Core.Bool.{Bool, true, false}
use mathlib.Core.List.{List, ◌∷◌}
use Prim.Native.Nat.{ℕ, suc, ◌+◌, ◌*◌, ◌≤◌, ◌<◌}
use native.Mathlib.Omega.{arith}
use native.Mathlib.Numerals.{add-one}
use lib.ListN.{set, drop, replicate}
use lib.Dec.{ltb}
use Rattle.base_words.specs.Basics.{pick, round_up}
use Rattle.base_words.proofs.Tables.{Table, table-start, table_more}
use Rattle.base_conventions.specs.declared.Convention.{Convention}
use Rattle.sig_types.specs.declared.ValueType.{ValueType}
use Rattle.sig_types.specs.Sizes.{size_of}
use Rattle.sig_signatures.specs.Limits.{max_arguments}
use Rattle.second_parameters.specs.declared.Parameter.{Parameter}
use Rattle.second_slot_scan.specs.declared.Scan.{Scan}
use Rattle.second_slot_scan.specs.declared.ScannedSlot.{ScannedSlot}
use Rattle.second_slot_scan.specs.declared.Copied.{Copied}
use Rattle.second_parameters.specs.Values.{no_parameter}
use Rattle.second_slot_scan.specs.Slots.{initial, double_or_float, copied, copy_at, in_floating, in_general, in_other, slot_by, slot_of, slots_from, scanned_to}
use Rattle.second_slot_scan.specs.Helpers.{RoomyScan}

-- ---- the slots

-- where 001's counters are after i arguments
pub record Near (s : Scan) (i : ℕ) : Type 0 where
  pub gr : s.gr ≤ i + 3
  pub fr : s.fr ≤ 2 * i
  pub starg : s.starg ≤ 8 * i
  pub copies : s.copies ≤ 264 * i

pub near-start : (hidden : Bool) → Near (initial hidden) 0
unfolding initial
near-start true = record { gr = omega arith; fr = omega arith; starg = omega arith; copies = omega arith }
near-start false = record { gr = omega arith; fr = omega arith; starg = omega arith; copies = omega arith }

near-copy : (b : Bool) (at n : ℕ) → n ≤ 256 → (copy_at b at n).end ≤ at + 264
unfolding round_up
near-copy true at n h = omega arith
near-copy false at n h = omega arith

pub near-more : (s : Scan) (t : ValueType) (n i : ℕ) → n ≤ 256 → Near s i → Near (slot_of s t n).next (i + 1)
unfolding slot_of slot_by
near-more s t n i h g = go (double_or_float t) (copy_at (copied t n) s.copies n) (near-copy (copied t n) s.copies n h)
  where
    by : (b over : Bool) (k : Copied) → k.end ≤ s.copies + 264 → Near (pick over (in_other s k) (pick b (in_floating s k) (in_general s k))).next (i + 1)
    by b true k e = record { gr = omega (arith, g.gr); fr = omega (arith, g.fr); starg = omega (arith, g.starg); copies = omega (arith, g.copies) }
    by true false k e = record { gr = omega (arith, g.gr); fr = omega (arith, g.fr); starg = omega (arith, g.starg); copies = omega (arith, g.copies) }
    by false false k e = record { gr = omega (arith, g.gr); fr = omega (arith, g.fr); starg = omega (arith, g.starg); copies = omega (arith, g.copies) }

    go : (b : Bool) (k : Copied) → k.end ≤ s.copies + 264 → Near (slot_by b s k).next (i + 1)
    go true k e = by true (ltb 6 s.fr) k e
    go false k e = by false (ltb 6 s.gr) k e

pub near-roomy : (s : Scan) (i : ℕ) → i ≤ max_arguments → Near s i → RoomyScan s
near-roomy s i h g = (omega (arith, g.gr), omega (arith, g.fr), omega (arith, g.starg), omega (arith, g.copies))

pub record Scanning (c : Convention) (start : Scan) (ts : List ValueType) (ps : List Parameter) (s : Scan) (i : ℕ) : Type 0 where
  pub table : Table max_arguments no_parameter ps (slots_from c s (drop i ts)) (slots_from c start ts) i
  pub last : scanned_to c s (drop i ts) ≡ scanned_to c start ts
  pub near : Near s i

pub scanning-start : (c : Convention) (hidden : Bool) (ts : List ValueType) → Scanning c (initial hidden) ts (replicate max_arguments no_parameter) (initial hidden) 0
scanning-start c hidden ts = record { table = table-start max_arguments no_parameter (slots_from c (initial hidden) ts); last = refl; near = near-start hidden }

pub scanning-more : (c : Convention) (start : Scan) (ts : List ValueType) (ps : List Parameter) (s : Scan) (i : ℕ) (t : ValueType)
    → i < max_arguments → size_of c t ≤ 256 → drop i ts ≡ t ∷ drop (suc i) ts → Scanning c start ts ps s i
    → Scanning c start ts (set ps i (slot_of s t (size_of c t)).parameter) (slot_of s t (size_of c t)).next (i + 1)
unfolding slots_from scanned_to
scanning-more c start ts ps s i t few small d g =
    let p : ScannedSlot = slot_of s t (size_of c t) in
    record {
      table = table_more max_arguments no_parameter p.parameter ps (slots_from c p.next (drop (i + 1) ts)) (slots_from c start ts) i few (rw add-one (rw d at g.table));
      last = rw add-one (rw d at g.last);
      near = near-more s t (size_of c t) i small g.near;
    }
