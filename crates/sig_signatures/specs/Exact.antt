-- What reading a signature is proved to be, besides its definition: the encoder theorem, the bounds that document 01 gives for what is
-- accepted, and how far a refused reading got. proofs/Theorems.antt and proofs/HowFar.antt prove them. Assumes nothing.
use Rattle.std.specs.Prelude.{ℕ, ◌+◌, ◌*◌, ◌≤◌, ◌<◌, ◌≡◌, List, length}
use Rattle.base_conventions.specs.declared.Convention.{Convention}
use Rattle.sig_types.specs.Sizes.{Sized}
use Rattle.sig_types.specs.Trees.{type_of}
use Rattle.sig_types.specs.Limits.{AllSized}
use Rattle.sig_items.specs.declared.Fault.{Fault}
use Rattle.sig_items.specs.Reading.{fault, got, no}
use Rattle.sig_items.specs.HowFar.{place_of_header, stop_of, met_by, HowFar}
use Rattle.sig_signatures.specs.Signature.{ResultTree, nothing, value, Signature}
use Rattle.sig_signatures.specs.Read.{signature_of}
use Rattle.sig_signatures.specs.Encode.{encode, signature_items, SignatureWithin}

-- the bytes s are those of the signature g, which has n items
pub record Encodes (s : List ℕ) (g : Signature) (n : ℕ) : Type 0 where
  pub within : SignatureWithin g
  pub bytes : s ≡ encode g
  pub items : n ≡ signature_items g

-- The encoder theorem: reading accepts exactly the byte strings that the encoder gives for a signature within the limits, and
-- gives that signature back with the count of its items.
pub record ReadsExactly (s : List ℕ) : Type 0 where
  pub only : (g : Signature) (next n : ℕ) → signature_of s ≡ got g next n → Encodes s g n
  pub all : (g : Signature) (n : ℕ) → Encodes s g n → signature_of s ≡ got g (length s) n

abbrev pub ResultSized : Convention → ResultTree → Type 0
ResultSized c nothing = Unit {0}
ResultSized c (value t) = Sized c (type_of c t)

-- of an accepted signature: "its count of items .. is .. at most a third of the input length", and every type has a size of 1
-- to 256 bytes and an alignment of 1 to 16
pub record Accepted (s : List ℕ) (g : Signature) (n : ℕ) : Type 0 where
  pub within : SignatureWithin g
  pub third : 3 * n ≤ length s
  pub result : ResultSized g.convention g.result
  pub arguments : AllSized g.convention g.arguments

-- of a refused one: where its reading stopped
pub record Stopped (s : List ℕ) (f : Fault) : Type 0 where
  -- "Still no more than the input length divided by 3"
  pub third : 3 * f.passed ≤ length s
  -- the headers that had passed lead, one after the other, from the first byte to where the reading stopped
  pub far : HowFar s (length s) 0 f
  -- each of them begins before that place, and three bytes or more after the one before
  pub before : (i : ℕ) → i < met_by f → place_of_header s 0 i + 3 ≤ stop_of s f
  pub ascending : (i j : ℕ) → i < j → place_of_header s 0 i + 3 ≤ place_of_header s 0 j
  -- and no other count would be so
  pub only : (n : ℕ) → HowFar s (length s) 0 (fault f.reason f.place n) → n ≡ f.passed

-- How far is what it says: document 02, No. 10.
abbrev pub SaysHowFar : List ℕ → Type 0
SaysHowFar s = (f : Fault) → signature_of s ≡ no f → Stopped s f
