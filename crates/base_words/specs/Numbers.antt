-- Numbers as bytes. Document 01, "What the bridge carries": "All numbers in memory are big-endian"; "What stands in a slot": "Wholes are sign- or zero-extended to 64 bits"
-- (a "whole number" there is an integer here). Every definition is over the width n in bytes; the integers of document 01 have n = 1, 2, 4 and 8.
-- Assumes nothing.
use Rattle.std.specs.Prelude.{ℕ, zero, suc, ◌+◌, ◌-◌, ◌*◌, ◌/◌, ◌%◌, ◌^◌, ◌<◌, List, [], ◌∷◌, length, get_or}

-- each element of bs is a byte of eight bits, as document 01 takes for granted ("bytes", "64 bits", "8 bytes"). Past the end of bs, 0 stands for no byte
abbrev pub Bytes : List ℕ → Type 0
Bytes bs = (i : ℕ) → get_or bs i 0 < 256

-- the n lowest bytes of x, the highest first ("big-endian")
unfoldable pub bytes_of : ℕ → ℕ → List ℕ
bytes_of zero x = []
bytes_of (suc n) x = x / 2 ^ (8 * n) % 256 ∷ bytes_of n x

-- the number that bs stand for, the highest byte first ("big-endian")
unfoldable pub value_of : List ℕ → ℕ
value_of [] = 0
value_of (b ∷ bs) = b * 2 ^ (8 * length bs) + value_of bs

-- the n lowest bytes of x as an unsigned number ("zero-extended")
unfoldable pub zero_extended : ℕ → ℕ → ℕ
zero_extended n x = x % 2 ^ (8 * n)

-- the sign in "sign-extended": the top bit of the n lowest bytes of x, in two's complement 1 for a negative number, else 0
unfoldable pub sign_bit : ℕ → ℕ → ℕ
sign_bit n x = x / 2 ^ (8 * n - 1) % 2

-- the n lowest bytes of x as a number of 64 bits in two's complement ("sign-extended to 64 bits"): all bits above them are the sign
unfoldable pub sign_extended : ℕ → ℕ → ℕ
sign_extended n x = sign_bit n x * (2 ^ 64 - 2 ^ (8 * n)) + zero_extended n x
