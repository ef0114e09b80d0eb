-- An argument's places, where the table has such a number and where it has not. Assumes nothing.
use mathlib.Core.Path.{◌≡◌, refl}
use mathlib.Core.Bool.{Bool, true, false}
use Prim.Native.Nat.{ℕ, ◌≤◌, ◌<◌}
use borrow.Author.Tests.{lt-ltb, le-ltb}
use lib.ListN.{get_or}
use Rattle.std.specs.Int.{from_bool}
use Rattle.base_words.specs.Basics.{flag}
use Rattle.sig_signatures.specs.Limits.{max_arguments}
use Rattle.second_parameters.specs.Values.{no_parameter}
use Rattle.second_planner.specs.declared.SecondPlan.{SecondPlan}
use Rattle.c_second.specs.Words.{place_words, no_second_place, place_at}

pub place-within : (p : SecondPlan) (i : ℕ) → i < max_arguments → place_words (get_or p.parameters i no_parameter) ≡ place_at p i
unfolding place_at
place-within p i h = rw (lt-ltb i max_arguments h)

pub place-past : (p : SecondPlan) (i : ℕ) → max_arguments ≤ i → no_second_place ≡ place_at p i
unfolding place_at
place-past p i h = rw (le-ltb i max_arguments h)

-- a test as a number, as Rust has it
pub flag-is : (b : Bool) → from_bool b ≡ flag b
flag-is true = refl
flag-is false = refl
