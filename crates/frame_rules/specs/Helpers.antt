-- For proofs and helpers alone: no claim cites this file.
-- What the machine asks of a convention's numbers: that the parts of a frame and the sets of registers do not meet, and that sizes stay small;
-- and what the functions that save, restore and write ask of their numbers. Assumes nothing.
use Rattle.std.specs.Prelude.{ℕ, ◌+◌, ◌-◌, ◌*◌, ◌^◌, ◌≤◌, ◌<◌, ◌≡◌, ◌⊎◌, Bool, true, false, ◌&&◌, ◌||◌, List, [], ◌∷◌, ltb, Option, Some, None}
use Rattle.frame_rules.specs.Rules.{RegisterSpan, within, BankRules, Linkage, LinkRegister, SaveArea, FrameRules, Frame, RegisterBank, General, Floating, Link, ConditionField}
use Rattle.frame_rules.specs.Frames.{ok_request, below, max_memory}

-- no register of the span, and of the spans, is in the others
abbrev pub apart : RegisterSpan → List RegisterSpan → Bool
apart v [] = true
apart v (w ∷ ws) = (ltb v.last w.first || ltb w.last v.first) && apart v ws

abbrev pub disjoint : List RegisterSpan → List RegisterSpan → Bool
disjoint [] ws = true
disjoint (v ∷ vs) ws = apart v ws && disjoint vs ws

-- every register of the spans is below e
abbrev pub before : List RegisterSpan → ℕ → Bool
before [] e = true
before (v ∷ vs) e = ltb v.last e && before vs e

-- a bank whose saved registers end before `end`
pub record BankLaw (b : BankRules) (end : ℕ) : Type 0 where
  pub most : b.request.last ≤ end
  pub last : b.last < 32
  pub free : before b.volatile 32 ≡ true
  pub split : disjoint b.volatile b.preserved ≡ true
  pub inside : before b.preserved end ≡ true

-- the slots above the caller's pointer lie in its header, clear of the back chain; all that may be saved below it lies in the floor, as a leaf's saves must
abbrev pub LinkageLaw : Linkage → FrameRules → Type 0
LinkageLaw (LinkRegister c l) k =
    (k.word ≤ c) × (c + 4 ≤ l) × (l + k.word ≤ k.header)
    × (8 * (k.end - k.fpr.request.first) + k.word * (k.end - k.gpr.request.first) ≤ k.floor)
LinkageLaw (SaveArea r) k =
    (1 ≤ k.gpr.request.first) × (k.word * k.end ≤ k.header) × (k.gpr.request.last ≤ r) × (r < k.pointer) × (k.pointer < k.end)

pub record LawfulFrames (k : FrameRules) : Type 0 where
  pub word : k.word ≤ 8
  pub chain : k.word ≤ k.header
  pub head : k.header + k.least ≤ k.room
  pub room : k.room ≤ 256
  pub floor : k.floor ≤ 512
  pub least : k.least ≤ 256
  pub some : 0 < k.alignment
  pub alignment : k.alignment ≤ 16
  pub end : k.end ≤ 32
  pub pointer : k.pointer < 32
  pub limit : k.limit + 1 ≡ 2 ^ (8 * k.word)
  pub memory : max_memory ≤ k.limit
  pub unkept : within k.gpr.preserved k.pointer ≡ false
  pub unfree : within k.gpr.volatile k.pointer ≡ false
  pub unsaved : (k.pointer < k.gpr.request.first) ⊎ (k.gpr.last < k.pointer)
  pub ends : k.gpr.request.first ≤ k.gpr.request.last
  pub gpr : BankLaw k.gpr k.end
  pub fpr : BankLaw k.fpr k.end
  pub linkage : LinkageLaw k.linkage k

-- a request in range whose saves fit below the offset s of the caller's pointer, with the caller's header inside n bytes of memory
pub record SavesFit (k : FrameRules) (f : Frame) (s n : ℕ) : Type 0 where
  pub lawful : LawfulFrames k
  pub request : ok_request k f ≡ true
  pub fits : below k.linkage k f ≤ s
  pub room : s + k.header ≤ n

-- register n of the bank is there, and v is a value of it
abbrev pub Named : Option RegisterBank → ℕ → ℕ → Type 0
Named (Some General) n v = n < 32
Named (Some Floating) n v = n < 32
Named (Some Link) n v = Unit {0}
Named (Some ConditionField) n v = (n ≤ 7) × (v ≤ 15)
Named None n v = Unit {0}
