-- For proofs and helpers alone: no claim cites this file.
-- What the laws of a step and the functions over it ask; how the loops find the first unclear argument. Assumes nothing.
use Rattle.std.specs.Prelude.{ℕ, zero, suc, ◌≤◌, ◌+◌, Bool, true, false}
use Rattle.plan_places.specs.declared.Edition.{Edition}
use Rattle.plan_places.specs.declared.CallRules.{CallRules}
use Rattle.plan_places.specs.declared.Cursor.{Cursor}
use Rattle.plan_places.specs.declared.Span.{Span}
use Rattle.plan_places.specs.declared.ResultPlaces.{ResultPlaces}
use Rattle.plan_places.specs.Places.{Numbered}
use Rattle.plan_places.specs.declared.Share.{Share}

-- what the laws ask of a convention
abbrev pub LawfulCalls : CallRules → Type 0
LawfulCalls (CallRules.Power f) = (4 ≤ f.word) × (f.word ≤ 8)
LawfulCalls CallRules.Z = Unit {0}

-- a cursor whose numbers leave room for an argument more in their types
abbrev pub Roomy : Cursor → Type 0
Roomy c = (c.general ≤ 11) × (c.floating ≤ 14) × (c.stack ≤ 60000) × (c.copies ≤ 60000)

abbrev pub is_earlier : Edition → Bool
is_earlier Edition.Earlier = true
is_earlier Edition.Later = false

-- the rules by which no argument's place is open (29): all but the later edition's
unfoldable pub always_clear : CallRules → Bool
always_clear (CallRules.Power f) = is_earlier f.edition
always_clear CallRules.Z = true

-- The number of the first unclear argument, counted from 1, or 0 where none is: u of the first i, and after one more.
unfoldable pub unclear_after : ℕ → Bool → ℕ → ℕ
unclear_after zero true i = suc i
unclear_after zero false i = 0
unclear_after (suc u) b i = suc u

-- how many registers a span names
abbrev pub register_count : Span → ℕ
register_count s = s.floating.count + s.general.count

-- register numbers of a result that fit their type
abbrev pub ResultNumbered : ResultPlaces → Type 0
ResultNumbered ResultPlaces.Nothing = Unit {0}
ResultNumbered (ResultPlaces.Registers s) = Numbered s
ResultNumbered (ResultPlaces.Hidden s) = Numbered s

-- what a share is of: at most k words in GPRs, at most n in memory, at most two FPRs
pub record Shared (s : Share) (n k : ℕ) : Type 0 where
  pub general : s.general ≤ k
  pub memory : s.memory ≤ n
  pub floating : s.floating ≤ 2
