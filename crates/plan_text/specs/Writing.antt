-- What a function that writes a text leaves in a lent buffer. Assumes nothing.
use Rattle.std.specs.Prelude.{ℕ, ◌+◌, ◌≡◌, List, length}
use Rattle.base_words.specs.Splice.{splice}

-- the text t was put at the offset `at`, what passes the buffer's end being lost; `next` is where it ends
pub record Wrote (before after : List ℕ) (at next : ℕ) (t : List ℕ) : Type 0 where
  pub bytes : after ≡ splice before at t
  pub end : next ≡ at + length t
