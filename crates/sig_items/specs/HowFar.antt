-- How far a refused reading got, said without the reader: by a flat walk from header to header, which knows nothing of codes,
-- depths, sizes, limits or enclosing ends. Document 02, No. 10: "A refused reading now reports how many headers had passed header
-- room, tag and length room when it stopped, enclosing and nested ones alike". proofs/HowFar.antt proves it. Assumes nothing.
use Rattle.std.specs.Prelude.{ℕ, zero, suc, ◌+◌, ◌≤◌, ◌<◌, ◌≡◌, ◌⊎◌, Bool, true, false, List, get_or, eqb}
use Rattle.base_words.specs.Basics.{pick}
use Rattle.sig_items.specs.declared.Refusal.{Refusal}
use Rattle.sig_items.specs.declared.Fault.{Fault}
use Rattle.sig_items.specs.Read.{length_at}

-- the items that have items in them: the result, the arguments, a struct
abbrev pub encloses : ℕ → Bool
encloses tag = pick (eqb tag 0x02) true (pick (eqb tag 0x03) true (eqb tag 0x12))

-- the place after the header at `at`: in the body of an item that encloses others, past that of any other
unfoldable pub next_header : List ℕ → ℕ → ℕ
next_header s at = pick (encloses (get_or s at 0)) (at + 3) (at + 3 + length_at s at)

-- the place after n headers from `at` on, which is that of header n, counted from 0
unfoldable pub place_of_header : List ℕ → ℕ → ℕ → ℕ
place_of_header s at zero = at
place_of_header s at (suc n) = place_of_header s (next_header s at) n

-- 8 is found once a struct's contents are read; any other fault where it stands: "bytes left over (4, 7, 9)" stand where the next
-- header would
abbrev pub is_large : Refusal → Bool
is_large Refusal.TooLong = false
is_large Refusal.Truncated = false
is_large Refusal.UnexpectedTag = false
is_large Refusal.Malformed = false
is_large Refusal.LongDoubleInStruct = false
is_large Refusal.TooDeep = false
is_large Refusal.TooManyArguments = false
is_large Refusal.StructTooLarge = true
is_large Refusal.TrailingBytes = false
is_large Refusal.FloatNotCarried = false
is_large Refusal.UnclearPlace = false

-- where the reading stopped: at the fault's place; for 8 at the end of the struct's body
abbrev pub stop_of : List ℕ → Fault → ℕ
stop_of s f = pick (is_large f.reason) (f.place + 3 + length_at s f.place) f.place

-- the headers that the walk meets before that: those counted; for 8 also the struct's own, since "The refused item's own header isn't
-- counted"
abbrev pub met_by : Fault → ℕ
met_by f = pick (is_large f.reason) (f.passed + 1) f.passed

-- the tags of a signature's own items, an ellipsis's among them, and of types
abbrev pub IsTag : ℕ → Type 0
IsTag tag = ((0x01 ≤ tag) × (tag ≤ 0x04)) ⊎ ((0x10 ≤ tag) × (tag ≤ 0x12))

-- a header that passed: "header room, tag and length room", before the end e
pub record PassedHeader (s : List ℕ) (e at : ℕ) : Type 0 where
  pub tag : IsTag (get_or s at 0)
  pub room : at + 3 + length_at s at ≤ e

-- each of the first n headers from `at` on did
unfoldable pub HeadersPassed : List ℕ → ℕ → ℕ → ℕ → Type 0
HeadersPassed s e at n = (i : ℕ) → i < n → PassedHeader s e (place_of_header s at i)

-- A reading from `at` on, within e, that was refused. `stop` fixes the count, since each step of the walk goes at least three bytes on
-- (law `far-unique`).
pub record HowFar (s : List ℕ) (e at : ℕ) (f : Fault) : Type 0 where
  -- the headers passed lead from the first item to where the reading stopped
  pub stop : place_of_header s at (met_by f) ≡ stop_of s f
  pub inside : stop_of s f ≤ e
  pub passed : HeadersPassed s e at (met_by f)
  -- and the faulty item is met on the way
  pub met : ℕ
  pub place : place_of_header s at met ≡ f.place
