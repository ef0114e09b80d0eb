-- The words of an argument's line, as bytes of ASCII. Document 01, "Sums to check against". Assumes nothing.
use Rattle.std.specs.Prelude.{ℕ, List, [], ◌∷◌}

-- " r"
abbrev pub general_mark : List ℕ
general_mark = 32 ∷ 114 ∷ []

-- " f"
abbrev pub floating_mark : List ℕ
floating_mark = 32 ∷ 102 ∷ []

-- " mem"
abbrev pub memory_word : List ℕ
memory_word = 32 ∷ 109 ∷ 101 ∷ 109 ∷ []

-- " @"
abbrev pub offset_mark : List ℕ
offset_mark = 32 ∷ 64 ∷ []

-- " ref"
abbrev pub reference_word : List ℕ
reference_word = 32 ∷ 114 ∷ 101 ∷ 102 ∷ []

-- "newline after each line"
abbrev pub newline : List ℕ
newline = 10 ∷ []
