-- Walks of small dumps at the edges. Assumes nothing.
use Prim.Native.Nat.{◌-◌, ◌^◌}
use mathlib.Core.Path.{◌≡◌, refl}
use mathlib.Core.List.{List, [], ◌∷◌, ◌++◌}
use lib.ListN.{replicate}
use Rattle.base_words.specs.Splice.{splice}
use Rattle.base_words.specs.Numbers.{value_of}
use Rattle.frame_saves.specs.Saves.{load}
use Rattle.frame_rules.specs.Rules.{ppc64_frames, z_frames, aix_frames}
use Rattle.frame_dump.specs.Walk.{BadAddress, ListTooShort, frames, refused, ok_address, walk_from, walk, walk_into}

-- Address 0 may be a frame, and its zero word ends the walk; its whole header must be in the dump, and a list of no numbers is too short. A chain to itself and one to an
-- address that isn't aligned are refused, on Z one of 8 bytes is not; and so is a dump that ends past 2^64 - 1.
pub edges : (walk_into aix_frames 0 (replicate 24 0) 0 1 ≡ frames (0 ∷ []))
    × (walk_into aix_frames 0 (replicate 24 0) 0 0 ≡ refused ListTooShort)
    × (walk_into aix_frames 0 (replicate 23 0) 0 1 ≡ refused (BadAddress 0))
    × (walk_into aix_frames 16 (0 ∷ 0 ∷ 0 ∷ 16 ∷ replicate 20 0) 16 1 ≡ refused (BadAddress 16))
    × (walk_into aix_frames 16 (0 ∷ 0 ∷ 0 ∷ 24 ∷ replicate 36 0) 16 1 ≡ refused (BadAddress 24))
    × (walk_into z_frames 16 (replicate 7 0 ++ 24 ∷ replicate 160 0) 16 2 ≡ frames (16 ∷ 24 ∷ []))
    × (walk_into ppc64_frames (2 ^ 64 - 16) (replicate 48 0) (2 ^ 64 - 16) 1 ≡ refused (BadAddress (2 ^ 64 - 16)))
unfolding splice value_of load ok_address walk_from walk walk_into
edges = (refl, refl, refl, refl, refl, refl, refl)
