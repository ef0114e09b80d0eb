-- For proofs and helpers alone: no claim cites this file.
-- What the writers ask for: numbers that fit their bytes; every plan has them. Assumes nothing.
use Rattle.std.specs.Prelude.{◌+◌, ◌*◌, ◌≤◌}
use Rattle.plan_places.specs.declared.Span.{Span}
use Rattle.plan_places.specs.Places.{Numbered}
use Rattle.plan_stored_items.specs.declared.PlaceRun.{PlaceRun}

pub record RunFits (q : PlaceRun) : Type 0 where
  pub on : q.on ≤ 1
  pub by : q.by ≤ 8
  pub numbers : q.number + q.count ≤ 255
  pub offsets : q.offset + 8 * q.count ≤ 65535

pub record Storable (s : Span) : Type 0 where
  pub numbered : Numbered s
  pub home : s.home.start ≤ 60000
  pub memory : s.memory.start ≤ 60000
  pub short : s.memory.length ≤ 264
  pub copy : s.copy.start ≤ 60000
