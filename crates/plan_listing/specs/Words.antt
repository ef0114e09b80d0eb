-- The words of a printed plan's first and last line and of a refusal, as bytes of ASCII; `plan_line` has those of an argument's line. Document
-- 01, "Sums to check against". Assumes nothing.
use Rattle.std.specs.Prelude.{ℕ, List, [], ◌∷◌}

-- "PPC64"
abbrev pub ppc64_name : List ℕ
ppc64_name = 80 ∷ 80 ∷ 67 ∷ 54 ∷ 52 ∷ []

-- "PPC64B"
abbrev pub ppc64b_name : List ℕ
ppc64b_name = 80 ∷ 80 ∷ 67 ∷ 54 ∷ 52 ∷ 66 ∷ []

-- "Z"
abbrev pub z_name : List ℕ
z_name = 90 ∷ []

-- "AIX"
abbrev pub aix_name : List ℕ
aix_name = 65 ∷ 73 ∷ 88 ∷ []

-- " args "
abbrev pub args_word : List ℕ
args_word = 32 ∷ 97 ∷ 114 ∷ 103 ∷ 115 ∷ 32 ∷ []

-- " area "
abbrev pub area_word : List ℕ
area_word = 32 ∷ 97 ∷ 114 ∷ 101 ∷ 97 ∷ 32 ∷ []

-- " var"
abbrev pub var_word : List ℕ
var_word = 32 ∷ 118 ∷ 97 ∷ 114 ∷ []

-- "result"
abbrev pub result_word : List ℕ
result_word = 114 ∷ 101 ∷ 115 ∷ 117 ∷ 108 ∷ 116 ∷ []

-- " none"
abbrev pub none_word : List ℕ
none_word = 32 ∷ 110 ∷ 111 ∷ 110 ∷ 101 ∷ []

-- " hidden"
abbrev pub hidden_word : List ℕ
hidden_word = 32 ∷ 104 ∷ 105 ∷ 100 ∷ 100 ∷ 101 ∷ 110 ∷ []

-- "refused "
abbrev pub refused_word : List ℕ
refused_word = 114 ∷ 101 ∷ 102 ∷ 117 ∷ 115 ∷ 101 ∷ 100 ∷ 32 ∷ []

-- " at "
abbrev pub at_word : List ℕ
at_word = 32 ∷ 97 ∷ 116 ∷ 32 ∷ []

-- " after "
abbrev pub after_word : List ℕ
after_word = 32 ∷ 97 ∷ 102 ∷ 116 ∷ 101 ∷ 114 ∷ 32 ∷ []
