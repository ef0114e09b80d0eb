-- The numbers of each convention that calls and frames share, each once. The published papers are 000 (PPC64), 001 (Z) and 003 (AIX). 02, No. 12:
-- code 4 is "PPC64 with that rule", on long doubles, and so has PPC64's numbers.
-- Assumes nothing.
use Rattle.base_conventions.specs.declared.UnknownConvention.{UnknownConvention}
use Rattle.std.specs.Prelude.{ℕ, ◌*◌, eqb, Ok, Err, Result}
use Rattle.base_words.specs.Basics.{pick}
use Rattle.base_conventions.specs.declared.Convention.{Convention}

-- the bytes of a word: of a pointer ("pointer (8 bytes)"), of a general register and of a back chain ("r(n) at S - 8(32 - m) - 8(32 - n)",
-- "at S + 8n"), of a place in the argument list ("Sizes in doublewords", "then 8 stack bytes"); 02, No. 1: "Registers are 4 bytes wide",
-- "Pointers are 4 bytes", "The argument list counts words"
abbrev pub word_bytes : Convention → ℕ
word_bytes Convention.Ppc64 = 8
word_bytes Convention.Z = 8
word_bytes Convention.Aix = 4
word_bytes Convention.Ppc64b = 8

-- the bytes of a frame's header, below the outgoing or parameter area: "Outgoing areas start at 48, at least 64 long, on PPC64, at 160 on Z";
-- 000, 3.2.2, "for a total of 48 bytes"; 001, "160 bytes above the initial stack pointer"; 02, No. 1: "Header 24 bytes"
abbrev pub header_bytes : Convention → ℕ
header_bytes Convention.Ppc64 = 48
header_bytes Convention.Z = 160
header_bytes Convention.Aix = 24
header_bytes Convention.Ppc64b = 48

-- what a stack pointer is a multiple of: "rounded up to 16", "rounded up to 8"; 02, No. 1: "rounded up to 16 (ours)"
abbrev pub stack_alignment : Convention → ℕ
stack_alignment Convention.Ppc64 = 16
stack_alignment Convention.Z = 8
stack_alignment Convention.Aix = 16
stack_alignment Convention.Ppc64b = 16

-- the words of the least area: "8 times the larger of 8 and the final w", "at least 64 long"; Z: "the stack bytes used, possibly 0";
-- 02, No. 1: "4 times the larger of 8 and w"
abbrev pub least_words : Convention → ℕ
least_words Convention.Ppc64 = 8
least_words Convention.Z = 0
least_words Convention.Aix = 8
least_words Convention.Ppc64b = 8

-- the same in bytes
abbrev pub least_area : Convention → ℕ
least_area c = word_bytes c * least_words c

-- "code 1 PPC64, 2 Z"; 02, No. 1: "convention code 3"; No. 12: "Add code 4"
abbrev pub code_of : Convention → ℕ
code_of Convention.Ppc64 = 1
code_of Convention.Z = 2
code_of Convention.Aix = 3
code_of Convention.Ppc64b = 4

-- what a code that is no convention's is refused with
abbrev pub unknown_convention : UnknownConvention
unknown_convention = record {}

-- the convention of a code
unfoldable pub convention_code : ℕ → Result Convention UnknownConvention
convention_code x =
    pick (eqb x (code_of Convention.Ppc64)) (Ok Convention.Ppc64)
    (pick (eqb x (code_of Convention.Z)) (Ok Convention.Z)
    (pick (eqb x (code_of Convention.Aix)) (Ok Convention.Aix)
    (pick (eqb x (code_of Convention.Ppc64b)) (Ok Convention.Ppc64b) (Err unknown_convention))))
