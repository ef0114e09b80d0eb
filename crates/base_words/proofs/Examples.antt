-- Worked examples of the definitions, for a reader to compare with what these words mean elsewhere. Each computes. Assumes nothing.
use mathlib.Core.Path.{◌≡◌, refl}
use mathlib.Core.List.{[], ◌∷◌}
use Rattle.base_words.specs.Splice.{overlay, splice, part}
use Rattle.base_words.specs.Numbers.{bytes_of, value_of, zero_extended, sign_bit, sign_extended}

-- 0x01020304 in four bytes, and in two: the low ones
four_bytes : bytes_of 4 0x01020304 ≡ 1 ∷ 2 ∷ 3 ∷ 4 ∷ []
unfolding bytes_of
four_bytes = refl

low-bytes : bytes_of 2 0x01020304 ≡ 3 ∷ 4 ∷ []
unfolding bytes_of
low-bytes = refl

four-back : value_of (1 ∷ 2 ∷ 3 ∷ 4 ∷ []) ≡ 0x01020304
unfolding value_of
four-back = refl

-- the byte 0x80 is -128 as an i8 and 128 as a u8
byte_signed : sign_extended 1 0x80 ≡ 0xffffffffffffff80
unfolding sign_extended zero_extended sign_bit
byte_signed = refl

byte-unsigned : zero_extended 1 0x80 ≡ 0x80
unfolding zero_extended
byte-unsigned = refl

-- 127 stays, whatever stands above its byte
byte-positive : sign_extended 1 0xff7f ≡ 0x7f
unfolding sign_extended zero_extended sign_bit
byte-positive = refl

-- the least i32, and a number of all 64 bits
word-signed : sign_extended 4 0x80000000 ≡ 0xffffffff80000000
unfolding sign_extended zero_extended sign_bit
word-signed = refl

doubleword-signed : sign_extended 8 0x8000000000000001 ≡ 0x8000000000000001
unfolding sign_extended zero_extended sign_bit
doubleword-signed = refl

-- bytes put at the head, at an offset, and past the end, where they are lost
at_head : overlay (1 ∷ 2 ∷ 3 ∷ []) (9 ∷ []) ≡ 9 ∷ 2 ∷ 3 ∷ []
unfolding overlay
at_head = refl

at_offset : splice (1 ∷ 2 ∷ 3 ∷ 4 ∷ []) 1 (8 ∷ 9 ∷ []) ≡ 1 ∷ 8 ∷ 9 ∷ 4 ∷ []
unfolding splice
at_offset = refl

past_end : splice (1 ∷ 2 ∷ 3 ∷ []) 2 (8 ∷ 9 ∷ []) ≡ 1 ∷ 2 ∷ 8 ∷ []
unfolding splice
past_end = refl

two-from-one : part 1 2 (5 ∷ 6 ∷ 7 ∷ 8 ∷ []) ≡ 6 ∷ 7 ∷ []
two-from-one = refl
