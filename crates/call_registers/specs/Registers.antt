-- Words in general registers of the image. The image has eight bytes for each GPR; a word of w bytes stands in the low ones, zeros
-- above: request No. 1, "Its image keeps each GPR in the low half of its 8 bytes, high half zero". Where a word is a doubleword,
-- both definitions change nothing (laws `spread-doublewords` and `gather-doublewords`). Assumes nothing.
use Rattle.std.specs.Prelude.{ℕ, zero, suc, ◌-◌, List, [], ◌++◌, take, drop, replicate}
use Rattle.base_words.specs.Splice.{part}

-- a word as a register's eight bytes
abbrev pub in_register : ℕ → List ℕ → List ℕ
in_register w bs = replicate (8 - w) 0 ++ bs

-- k words of w bytes as the bytes of k registers that follow each other
unfoldable pub spread : ℕ → ℕ → List ℕ → List ℕ
spread w zero bs = []
spread w (suc k) bs = in_register w (take w bs) ++ spread w k (drop w bs)

-- the k words of w bytes that stand in the bytes of k registers; what stands above them is ignored
unfoldable pub gather : ℕ → ℕ → List ℕ → List ℕ
gather w zero bs = []
gather w (suc k) bs = part (8 - w) w bs ++ gather w k (drop 8 bs)
