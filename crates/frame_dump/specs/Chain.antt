-- What an accepted walk says, without a word on how it is made. Document 02, No. 13; `WalksExactly` is the claim, of which `walks-exactly` in proofs/Exactly.antt is a
-- value: a walk is accepted exactly where its list has the properties that No. 13 names, and then gives that list. Assumes nothing.
use Rattle.std.specs.Prelude.{ℕ, ◌+◌, ◌-◌, ◌%◌, ◌^◌, ◌≤◌, ◌<◌, ◌≡◌, List, [], ◌∷◌, length}
use Rattle.frame_saves.specs.Saves.{load}
use Rattle.frame_rules.specs.declared.FrameRules.{FrameRules}
use Rattle.frame_dump.specs.Walk.{Walked, frames, max_frames, walk_into}

-- the first of the addresses, or zero where there is none
abbrev pub first_address : List ℕ → ℕ
first_address [] = 0
first_address (x ∷ xs) = x

-- "following the back chain until a zero word": the word at each address is the next one, that at the last is zero
abbrev pub Linked : FrameRules → ℕ → List ℕ → List ℕ → Type 0
Linked k b l [] = Unit {0}
Linked k b l (x ∷ xs) = (load l (x - b) k.word ≡ first_address xs) × Linked k b l xs

-- "Each address must be aligned", "wholly inside the dump with its header"; n is the dump's length
abbrev pub Inside : FrameRules → ℕ → ℕ → List ℕ → Type 0
Inside k b n [] = Unit {0}
Inside k b n (x ∷ xs) = (x % k.alignment ≡ 0) × (b ≤ x) × (x + k.header ≤ b + n) × Inside k b n xs

-- "and above the one before"; the first is at least `least`
abbrev pub Ascending : ℕ → List ℕ → Type 0
Ascending least [] = Unit {0}
Ascending least (x ∷ xs) = (least ≤ x) × Ascending (x + 1) xs

-- the list xs is that of the dump's frames, from the stack pointer p on
pub record Chain (k : FrameRules) (b : ℕ) (l : List ℕ) (p : ℕ) (xs : List ℕ) : Type 0 where
  pub end : b + length l ≤ 2 ^ 64 - 1
  pub some : 0 < length xs
  pub first : first_address xs ≡ p
  pub linked : Linked k b l xs
  pub inside : Inside k b (length l) xs
  pub ascending : Ascending 0 xs
  pub count : length xs ≤ max_frames

-- m is the length of the slice
abbrev pub WalksExactly : Type 0
WalksExactly = (k : FrameRules) (b : ℕ) (l : List ℕ) (p m : ℕ) (xs : List ℕ)
    → (walk_into k b l p m ≡ frames xs → Chain k b l p xs × (length xs ≤ m)) × (Chain k b l p xs → length xs ≤ m → walk_into k b l p m ≡ frames xs)
