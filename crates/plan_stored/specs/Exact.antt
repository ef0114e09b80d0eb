-- What is proved of stored plans, besides the functions' own answers. 02, No. 7: the check "accepts exactly if the stored bytes are what the writer
-- would give for that signature today"; "One plan has one byte form"; "27 with the place of the first byte that differs, or the shorter length".
-- proofs/Theorems.antt proves all of it. Assumes nothing.
use Rattle.std.specs.Prelude.{ℕ, ◌≤◌, ◌<◌, ◌≡◌, List, [], ◌++◌, length, get_or, set, take, drop, Some, None, Ok}
use Rattle.plan_plans.specs.Call.{outcome_for}
use Rattle.plan_stored.specs.Stored.{stored_of, store_answer, stored_buffer, alike, check_answer}

-- bytes whose call is accepted
pub record Accepts (s : List ℕ) : Type 0 where
  pub items : ℕ
  pub outcome : outcome_for s ≡ Ok items

-- ---- the check accepts exactly what the writer gives

pub record ExactCheck (stored s : List ℕ) : Type 0 where
  pub only : check_answer stored s ≡ Ok None → Accepts s × (stored ≡ stored_of s)
  pub all : Accepts s → stored ≡ stored_of s → check_answer stored s ≡ Ok None

abbrev pub ChecksExactly : Type 0
ChecksExactly = (stored s : List ℕ) → ExactCheck stored s

-- an accepted writing of n bytes: the check takes them, and the bytes past them are as before
pub record Written (s buffer : List ℕ) (n : ℕ) : Type 0 where
  pub bytes : take n (stored_buffer s buffer) ≡ stored_of s
  pub fresh : check_answer (take n (stored_buffer s buffer)) s ≡ Ok None
  pub past : drop n (stored_buffer s buffer) ≡ drop n buffer

abbrev pub WrittenIsFresh : Type 0
WrittenIsFresh = (s buffer : List ℕ) (n : ℕ) → store_answer s (length buffer) ≡ Ok n → Written s buffer n

-- ---- two signatures never share a form

-- any two strings of bytes
abbrev pub FormsApart : Type 0
FormsApart = (s u : List ℕ) → stored_of s ≡ stored_of u → s ≡ u

-- so the plan that was stored of another signature is stale
abbrev pub OthersStale : Type 0
OthersStale = (s u : List ℕ) → (s ≡ u → ⊥) → Accepts u → check_answer (stored_of s) u ≡ Ok (Some (alike (stored_of s) (stored_of u)))

-- ---- 27's place

-- the bytes before are the same, and those from there on have not the same first byte
pub record FirstDifference (xs ys : List ℕ) (i : ℕ) : Type 0 where
  pub same : take i xs ≡ take i ys
  pub within : i ≤ length xs
  pub inside : i ≤ length ys
  pub differ : take 1 (drop i xs) ≡ take 1 (drop i ys) → ⊥

abbrev pub DiffersFirst : Type 0
DiffersFirst = (stored s : List ℕ) (i : ℕ) → check_answer stored s ≡ Ok (Some i) → FirstDifference stored (stored_of s) i

-- after any change of any one byte: at that byte
abbrev pub ChangeFound : Type 0
ChangeFound = (s : List ℕ) (i b : ℕ) → Accepts s → i < length (stored_of s) → (b ≡ get_or (stored_of s) i 0 → ⊥)
    → check_answer (set (stored_of s) i b) s ≡ Ok (Some i)

-- after any cut: at the new length
abbrev pub CutFound : Type 0
CutFound = (s : List ℕ) (n : ℕ) → Accepts s → n < length (stored_of s) → check_answer (take n (stored_of s)) s ≡ Ok (Some n)

-- after any extension: at the old length
abbrev pub ExtensionFound : Type 0
ExtensionFound = (s more : List ℕ) → Accepts s → (more ≡ [] → ⊥) → check_answer (stored_of s ++ more) s ≡ Ok (Some (length (stored_of s)))
