-- For proofs and helpers alone: no claim cites this file.
-- A step in the part of the area that starts at the walker's offset: what its functions ask and give. Assumes nothing.
use Rattle.std.specs.Prelude.{ℕ, ◌+◌, ◌-◌, ◌/◌, ◌^◌, ◌≤◌, ◌≡◌}
use Rattle.base_conventions.specs.declared.Convention.{Convention}
use Rattle.sig_types.specs.declared.ValueType.{ValueType}
use Rattle.sig_types.specs.Sizes.{Sized}
use Rattle.sig_types.specs.Trees.{Tree, type_of}
use Rattle.plan_places.specs.declared.Cursor.{Cursor}
use Rattle.plan_places.specs.declared.CallRules.{CallRules}
use Rattle.call_walker.specs.declared.Counters.{Counters}
use Rattle.call_walker.specs.Walker.{counters, area_offset, max_counter}

-- a type that an item was read as
pub record Declared (c : Convention) (t : ValueType) : Type 0 where
  pub tree : Tree
  pub same : type_of c tree ≡ t
  pub sized : Sized c t

-- counters whose offset in the area is a number: their words' bytes, or what is past the header
abbrev pub Offset : CallRules → Counters → Type 0
Offset (CallRules.Power f) k = f.word ≤ 8
Offset CallRules.Z k = area_offset ≤ k.stack

-- a cursor whose counters are numbers
abbrev pub Countable : CallRules → Cursor → Type 0
Countable (CallRules.Power f) d = (1 ≤ f.word) × (1 ≤ d.floating) × (d.stack ≤ max_counter)
Countable CallRules.Z d = d.stack ≤ max_counter

-- the counters k, and from offset 0 on those of the cursor d
unfoldable pub counters_after : CallRules → Counters → Cursor → Counters
counters_after (CallRules.Power f) k d = counters (k.general + d.stack / f.word) (d.floating - 1) 0
counters_after CallRules.Z k d = counters d.general d.floating (k.stack + d.stack)
