-- The laws of one word in memory: its length, the same place, another place.
-- Assumes nothing.
use Prim.Native.Nat.{ℕ, ◌+◌, ◌*◌, ◌^◌, ◌<◌, ◌≤◌}
use mathlib.Core.Path.{◌≡◌, ap}
use mathlib.Core.Logic.{inl, inr}
use mathlib.Core.List.{List}
use native.Mathlib.Omega.{arith}
use lib.ListN.{length, get_or}
use Rattle.base_words.specs.Numbers.{bytes_of, value_of}
use Rattle.base_words.proofs.Splices.{length-splice, splice-at-other, part-agree}
use Rattle.base_words.proofs.Numbers.{length-bytes_of, load-after-store}
use Rattle.frame_saves.specs.Saves.{store, load}

pub store_length : (l : List ℕ) (at w v : ℕ) → length (store l at w v) ≡ length l
unfolding store
store_length l at w v = length-splice l at (bytes_of w v)

-- the number stored is loaded, where it fits the word
pub load_store : (l : List ℕ) (at w v : ℕ) → v < 2 ^ (8 * w) → at + w ≤ length l → load (store l at w v) at w ≡ v
unfolding store load
load_store l at w v fits room = load-after-store l at w v room fits

-- a byte below or above the word stays
pub store_below : (l : List ℕ) (at w v b : ℕ) → b < at → get_or (store l at w v) b 0 ≡ get_or l b 0
unfolding store
store_below l at w v b h = splice-at-other l at (bytes_of w v) b 0 (inl (omega arith))

pub store-above : (l : List ℕ) (at w v b : ℕ) → at + w ≤ b → get_or (store l at w v) b 0 ≡ get_or l b 0
unfolding store
store-above l at w v b h = splice-at-other l at (bytes_of w v) b 0 (inr (omega (arith, length-bytes_of w v)))

-- two memories of one length that agree on a word's bytes hold the same number there
pub load-agree : (l l' : List ℕ) (at w : ℕ) → length l ≡ length l' → ((b : ℕ) → at ≤ b → b < at + w → get_or l b 0 ≡ get_or l' b 0) → load l at w ≡ load l' at w
unfolding load
load-agree l l' at w e same = ap value_of (part-agree l l' at w e same)
