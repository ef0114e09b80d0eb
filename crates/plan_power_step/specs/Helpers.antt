-- For proofs and helpers alone: no claim cites this file.
-- The bounds of what an argument takes, which its span and the next cursor both need. Assumes nothing.
use Rattle.std.specs.Prelude.{◌≡◌, ℕ, ◌-◌, ◌*◌, ◌≤◌, min}
use Rattle.plan_places.specs.declared.Cursor.{Cursor}
use Rattle.plan_places.specs.declared.Share.{Share}
use Rattle.plan_places.specs.Helpers.{Shared}

-- an argument of n words of w bytes, k of which have a GPR, with its share
pub record Counted (w : ℕ) (c : Cursor) (n k : ℕ) (s : Share) : Type 0 where
  pub whole : w * n ≤ 264
  pub held : k ≡ min n (11 - c.general)
  pub shared : Shared s n k
