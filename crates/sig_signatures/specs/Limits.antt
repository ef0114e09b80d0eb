-- The limits on a signature: of its refusals 1 and 7; those on its types are in crates/sig_types/specs/Sizes.antt. Assumes nothing.
use Rattle.std.specs.Prelude.{ℕ}

-- 1: "signature over" 16,384 bytes (document 02, No. 6)
abbrev pub max_length : ℕ
max_length = 16384

-- 7: "bytes left after the" 128th "argument" (document 02, No. 6)
abbrev pub max_arguments : ℕ
max_arguments = 128
