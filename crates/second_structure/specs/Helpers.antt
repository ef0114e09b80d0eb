-- For proofs and helpers alone: no claim cites this file.
-- What the registers ask of a structure, so that no sum passes its type: it holds of every structure of a signature
-- (law `fields-bounded`). Assumes nothing.
use Rattle.std.specs.Prelude.{ℕ, ◌+◌, ◌^◌, ◌≤◌, List, length, get_or}
use Rattle.sig_signatures.specs.Limits.{max_arguments}
use Rattle.second_parameters.specs.declared.Run.{Run}
use Rattle.second_parameters.specs.Values.{no_run}

-- a table of fields that end in a structure
pub record Bounded (fs : List Run) : Type 0 where
  pub room : max_arguments ≤ length fs
  pub ends : (i : ℕ) → (get_or fs i no_run).first + (get_or fs i no_run).count ≤ 2 ^ 16
