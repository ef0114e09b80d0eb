-- Registers in memory. Document 01, "Frames": an enter saves runs of registers in ascending words ("r(g) to r31 .. f(n) at S - 8(32 - n)"), and "Leave restores these" from the lent bytes.
-- Everything is over the width of a word in bytes: 8 on PPC64 and Z, 4 on AIX and in the word that holds CR.
-- Assumes nothing.
use Rattle.std.specs.Prelude.{ℕ, zero, suc, ◌+◌, ◌*◌, ◌<◌, ◌≤◌, ◌⊎◌, List, [], ◌∷◌, set, get_or}
use Rattle.base_words.specs.Splice.{splice, part}
use Rattle.base_words.specs.Numbers.{bytes_of, value_of}

-- the memory l with the number v in the word of w bytes at the offset `at`
unfoldable pub store : List ℕ → ℕ → ℕ → ℕ → List ℕ
store l at w v = splice l at (bytes_of w v)

-- the number in the word of w bytes at the offset `at` of l
unfoldable pub load : List ℕ → ℕ → ℕ → ℕ
load l at w = value_of (part at w l)

-- l with the c registers of xs from number n on, in ascending words of w bytes from `at` on
unfoldable pub save_run : List ℕ → List ℕ → ℕ → ℕ → ℕ → ℕ → List ℕ
save_run l xs at w n zero = l
save_run l xs at w n (suc c) = save_run (store l at w (get_or xs n 0)) xs (at + w) w (n + 1) c

-- the registers xs with the c from number n on taken from the words of w bytes of l from `at` on
unfoldable pub load_run : List ℕ → List ℕ → ℕ → ℕ → ℕ → ℕ → List ℕ
load_run xs l at w n zero = xs
load_run xs l at w n (suc c) = load_run (set xs n (load l at w)) l (at + w) w (n + 1) c

-- A run of saved registers: `count` of `values` from number `from` on, in words of `width` bytes from the offset `at` on.
pub record Save : Type 0 where
  pub values : List ℕ
  pub from : ℕ
  pub count : ℕ
  pub at : ℕ
  pub width : ℕ

-- the offset after a run's last byte
abbrev pub end_of : Save → ℕ
end_of v = v.at + v.width * v.count

-- l with one run saved, and with several, one after the other
abbrev pub saved : List ℕ → Save → List ℕ
saved l v = save_run l v.values v.at v.width v.from v.count

abbrev pub save_all : List ℕ → List Save → List ℕ
save_all l [] = l
save_all l (v ∷ vs) = save_all (saved l v) vs

-- the registers xs with those of a run taken back from l
abbrev pub taken : List ℕ → List ℕ → Save → List ℕ
taken xs l v = load_run xs l v.at v.width v.from v.count

-- the byte at the offset b lies in none of the runs
abbrev pub Outside : ℕ → List Save → Type 0
Outside b [] = Unit {0}
Outside b (v ∷ vs) = ((b < v.at) ⊎ (end_of v ≤ b)) × Outside b vs
