-- The frame addresses of a dump, found by following its back chain. Document 02, No. 13. The dump l has its first byte at the address b; addresses are integers without wrap.
-- Assumes nothing.
use Rattle.std.specs.Prelude.{ℕ, zero, suc, ◌+◌, ◌-◌, ◌%◌, ◌^◌, Bool, ◌&&◌, List, [], ◌∷◌, length, leb, eqb, Result, Ok, Err}
use Rattle.base_words.specs.Basics.{pick}
use Rattle.base_words.specs.Splice.{splice}
use Rattle.frame_saves.specs.Saves.{load}
use Rattle.frame_rules.specs.declared.FrameRules.{FrameRules}
pub use Rattle.frame_dump.specs.declared.WalkRefusal.{WalkRefusal}
pub use Rattle.frame_dump.specs.declared.WalkRefusal.TheVariants.{BadAddress, ChainTooLong, ListTooShort}

-- the frame addresses in walking order, or why there are none
pub data Walked : Type 0 where
  frames : List ℕ → Walked
  refused : WalkRefusal → Walked

-- "Each address must be aligned (to 16, on Z to 8), wholly inside the dump with its header (48 bytes, AIX 24, Z 160), and above the one before", that is, at least
-- `least`; n is the dump's length
unfoldable pub ok_address : FrameRules → ℕ → ℕ → ℕ → ℕ → Bool
ok_address k b n least a = eqb (a % k.alignment) 0 && (leb b a && (leb (a + k.header) (b + n) && leb least a))

-- a frame at a, and after it those that the rest of the walk finds
abbrev pub prepend : ℕ → Walked → Walked
prepend a (frames xs) = frames (a ∷ xs)
prepend a (refused r) = refused r

-- The walk from the address a on, with n frames left to find: "At most 4,096 frames, else 31, tested before the next address is"; "otherwise new refusal 30 with the
-- bad address"; "following the back chain until a zero word (8 bytes, or 4 on AIX)", that was read: address 0 may be a frame.
unfoldable pub walk_from : ℕ → FrameRules → ℕ → List ℕ → ℕ → ℕ → Walked
walk_from zero k b l least a = refused ChainTooLong
walk_from (suc n) k b l least a =
    let next = load l (a - b) k.word in
    pick (ok_address k b (length l) least a) (pick (eqb next 0) (frames (a ∷ [])) (prepend a (walk_from n k b l (a + 1) next))) (refused (BadAddress a))

-- "At most 4,096 frames"
abbrev pub max_frames : ℕ
max_frames = 4096

-- the whole walk from the stack pointer p: "A base plus length over 2^64 - 1 gives 30 with the base, first of all"; the first address is above none
unfoldable pub walk : FrameRules → ℕ → List ℕ → ℕ → Walked
walk k b l p = pick (leb (b + length l) (2 ^ 64 - 1)) (walk_from max_frames k b l 0 p) (refused (BadAddress b))

-- a walk into a slice of m numbers: "too short a slice is 32, tested after the whole walk and before any write"
abbrev pub fitted : ℕ → Walked → Walked
fitted m (frames xs) = pick (leb (length xs) m) (frames xs) (refused ListTooShort)
fitted m (refused r) = refused r

unfoldable pub walk_into : FrameRules → ℕ → List ℕ → ℕ → ℕ → Walked
walk_into k b l p m = fitted m (walk k b l p)

-- ---- what the code hands back

-- the frames found, none where the walk is refused
abbrev pub found_in : Walked → List ℕ
found_in (frames xs) = xs
found_in (refused r) = []

-- "its count is returned", with c found before
abbrev pub counted : ℕ → Walked → Result ℕ WalkRefusal
counted c (frames xs) = Ok (c + length xs)
counted c (refused r) = Err r

-- "The list is written to a lent slice of 64-bit numbers; it goes in walking order": the slice l after the walk. Numbers past the list stay, and all do where it is refused.
abbrev pub frames_listed : Walked → List ℕ → List ℕ
frames_listed (frames xs) l = splice l 0 xs
frames_listed (refused r) l = l

-- ---- numbers

-- the refusals of No. 13: 30, 31 and 32
abbrev pub walk_refusal_number : WalkRefusal → ℕ
walk_refusal_number (BadAddress a) = 30
walk_refusal_number ChainTooLong = 31
walk_refusal_number ListTooShort = 32

-- "30 with the bad address", or "with the base"; 31 and 32 have no place
abbrev pub refusal_place : WalkRefusal → ℕ
refusal_place (BadAddress a) = a
refusal_place ChainTooLong = 0
refusal_place ListTooShort = 0
