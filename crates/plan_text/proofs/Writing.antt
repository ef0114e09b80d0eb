-- The laws of `Wrote`: lengths, nothing, one byte, and one text after another. Assumes nothing.
use mathlib.Core.Path.{◌≡◌, refl, sym, ap, ◌∙◌}
use mathlib.Core.List.{List, [], ◌∷◌, ◌++◌}
use Prim.Native.Nat.{ℕ, ◌+◌, ◌≤◌, ◌<◌}
use native.Mathlib.Nat.{add_assoc, add-zero}
use native.Mathlib.Numerals.{add-one}
use lib.ListN.{length, get_or, set, take, length-append}
use lib.Seq.{set_out, take-suc}
use Rattle.base_words.proofs.Splices.{length-splice, splice-one, splice-nothing, splice-append}
use Rattle.plan_text.specs.Writing.{Wrote}

-- the buffer keeps its length
pub wrote-length : {a b : List ℕ} {n m : ℕ} {t : List ℕ} → Wrote a b n m t → length b ≡ length a
wrote-length {a} {b} {n} {m} {t} w = ap length w.bytes ∙ length-splice a n t

pub wrote_nothing : (a : List ℕ) (n : ℕ) → Wrote a a n n []
wrote_nothing a n = record { bytes = sym (splice-nothing a n); end = sym (add-zero n) }

pub wrote-byte : (a : List ℕ) (n b : ℕ) → Wrote a (set a n b) n (n + 1) (b ∷ [])
wrote-byte a n b = record { bytes = sym (splice-one a n b); end = refl }

-- past the end it is lost
pub wrote-past : (a : List ℕ) (n b : ℕ) → length a ≤ n → Wrote a a n (n + 1) (b ∷ [])
wrote-past a n b h = record { bytes = sym (splice-one a n b ∙ set_out a n b h); end = refl }

pub wrote_then : {a b c : List ℕ} {n m k : ℕ} {t u : List ℕ} → Wrote a b n m t → Wrote b c m k u → Wrote a c n k (t ++ u)
wrote_then {a} {b} {c} {n} {m} {k} {t} {u} x y = record {
  bytes = y.bytes ∙ rw (x.end, x.bytes) (sym (splice-append a n t u));
  end = y.end ∙ rw (x.end, length-append t u, add_assoc n (length t) (length u));
}

-- one byte more of a text
pub wrote-more : {a b c : List ℕ} {n m k : ℕ} (t : List ℕ) (i : ℕ) → i < length t
    → Wrote a b n m (take i t) → Wrote b c m k (get_or t i 0 ∷ []) → Wrote a c n k (take (i + 1) t)
wrote-more t i h x y = rw (add-one i, take-suc t i 0 h) (wrote_then x y)
