-- Document 02, No. 3: "with the same convention and result, appending arguments never changes a place, offset, or copy position of any earlier
-- argument, provided that the longer signature is accepted. The area may only grow. State it over all conventions at once." And No. 5: "No. 3
-- holds with the same tag on both sides." proofs/Theorems.antt proves it. Assumes nothing.
use Rattle.std.specs.Prelude.{ℕ, ◌≤◌, ◌<◌, ◌≡◌, List, length, Ok}
use Rattle.sig_types.specs.Trees.{Trees, none, ◌▸◌}
use Rattle.sig_items.specs.declared.Fault.{Fault}
use Rattle.sig_items.specs.Reading.{Reading, got, no}
use Rattle.sig_signatures.specs.Signature.{Signature}
use Rattle.sig_signatures.specs.Read.{signature_of}
use Rattle.sig_signatures.specs.Encode.{encode, signature_items}
use Rattle.plan_plans.specs.Plan.{plan_answer}
use Rattle.plan_plans.specs.Call.{call_of, outcome_for}
use Rattle.plan_plans.specs.Disjoint.{span_at}
use Rattle.plan_words.specs.Entries.{value_start, entry_at}

-- ---- which signatures

-- the types us after the types ts
unfoldable pub joined : Trees → Trees → Trees
joined ts none = ts
joined ts (us ▸ u) = joined ts us ▸ u

-- "Makers add arguments at the end": h is g with more arguments, "with the same convention and result", and "the same tag"
pub record Appends (g h : Signature) : Type 0 where
  pub convention : h.convention ≡ g.convention
  pub result : h.result ≡ g.result
  pub ellipsis : h.ellipsis ≡ g.ellipsis
  pub more : Trees
  pub arguments : h.arguments ≡ joined g.arguments more

-- the bytes s and u are read as two such signatures
pub record Appended (s u : List ℕ) : Type 0 where
  pub shorter : Signature
  pub longer : Signature
  pub appends : Appends shorter longer
  pub next : ℕ
  pub items : ℕ
  pub read : signature_of s ≡ got shorter next items
  pub longer-next : ℕ
  pub longer-items : ℕ
  pub longer-read : signature_of u ≡ got longer longer-next longer-items

-- ---- what stays

-- of the readings x and y of two calls: "never changes a place, offset, or copy position of any earlier argument"
pub record AppendingKeeps (x y : Reading Signature) : Type 0 where
  pub convention : (plan_answer y).convention ≡ (plan_answer x).convention
  pub ellipsis : (plan_answer y).ellipsis ≡ (plan_answer x).ellipsis
  pub result : (plan_answer y).result ≡ (plan_answer x).result
  pub count : (plan_answer x).count ≤ (plan_answer y).count
  -- an argument's registers, its home and its memory in the area, and its copy
  pub places : (i : ℕ) → i < (plan_answer x).count → span_at (plan_answer y) i ≡ span_at (plan_answer x) i
  -- where its value starts among the values
  pub offset : (i : ℕ) → i < (plan_answer x).count → value_start y i ≡ value_start x i
  -- all words that a program is told of it
  pub words : (i : ℕ) → i < (plan_answer x).count → entry_at y i ≡ entry_at x i
  -- "The area may only grow"; so may values and copies
  pub area : (plan_answer x).area ≤ (plan_answer y).area
  pub values : (plan_answer x).values ≤ (plan_answer y).values
  pub copies : (plan_answer x).copies ≤ (plan_answer y).copies

-- ---- the claims

-- "provided that the longer signature is accepted": then the shorter one is accepted too, and keeps all its places
pub record Stays (s u : List ℕ) : Type 0 where
  pub accepted : call_of s ≡ signature_of s
  pub kept : AppendingKeeps (call_of s) (call_of u)

abbrev pub PlacesStay : Type 0
PlacesStay = (s u : List ℕ) → Appended s u → (n : ℕ) → outcome_for u ≡ Ok n → Stays s u

-- from the longer one's bytes alone: the shorter one can be written, and is accepted
abbrev pub ShorterAccepted : Type 0
ShorterAccepted = (u : List ℕ) (g h : Signature) (next n : ℕ) → call_of u ≡ got h next n → Appends g h
    → call_of (encode g) ≡ got g (length (encode g)) (signature_items g)

-- 29, which planning alone gives: where it refuses the shorter one, it refuses the longer one at the same place
abbrev pub RefusedAlike : Type 0
RefusedAlike = (s u : List ℕ) → Appended s u → (f : Fault) → call_of s ≡ no f → call_of u ≡ no f
