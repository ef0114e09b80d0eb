-- The buffers that a call's arguments stand in, and bytes put in a place of them. Document 01, "What stands in a slot". A place is
-- where a slot or a copy starts, a `Spot`: a register, a byte of the parameter area, or a byte of the copies.
-- Assumes nothing.
use Rattle.std.specs.Prelude.{ℕ, ◌+◌, ◌*◌, List, [], ◌∷◌}
use Rattle.base_words.specs.Splice.{splice, part}
use Rattle.plan_places.specs.Spots.{Spot, general, floating, area, copies, fprs_at}

-- the register image, the parameter area and the copy buffer
pub record Buffers : Type 0 where
  pub image : List ℕ
  pub area : List ℕ
  pub copies : List ℕ

abbrev pub buffers : List ℕ → List ℕ → List ℕ → Buffers
buffers i a c = record { image = i; area = a; copies = c }

-- "The image holds GPR n at 8n, FPR n at 256 + 8n"
abbrev pub general_at : ℕ → ℕ
general_at n = 8 * n

abbrev pub floating_at : ℕ → ℕ
floating_at n = fprs_at + 8 * n

-- the bytes bs from a spot on: registers of one bank that follow each other follow each other in the image too
unfoldable pub put : Spot → List ℕ → Buffers → Buffers
put (general n) bs b = buffers (splice b.image (general_at n) bs) b.area b.copies
put (floating n) bs b = buffers (splice b.image (floating_at n) bs) b.area b.copies
put (area n) bs b = buffers b.image (splice b.area n bs) b.copies
put (copies n) bs b = buffers b.image b.area (splice b.copies n bs)

-- a named slot or copy: where it starts, and the bytes that stand there
pub record Slot : Type 0 where
  pub spot : Spot
  pub bytes : List ℕ

abbrev pub slot : Spot → List ℕ → Slot
slot p bs = record { spot = p; bytes = bs }

-- "Filling changes only named slots and copies": each of them is put, in order, and nothing else is changed
unfoldable pub put_all : List Slot → Buffers → Buffers
put_all [] b = b
put_all (s ∷ ss) b = put_all ss (put s.spot s.bytes b)

-- the m bytes from a spot on
unfoldable pub bytes_at : Spot → ℕ → Buffers → List ℕ
bytes_at (general n) m b = part (general_at n) m b.image
bytes_at (floating n) m b = part (floating_at n) m b.image
bytes_at (area n) m b = part n m b.area
bytes_at (copies n) m b = part n m b.copies
