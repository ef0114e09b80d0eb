-- For proofs and helpers alone: no claim cites this file.
-- What the functions of one home ask and answer. Assumes nothing.
use Rattle.std.specs.Prelude.{Option, Some, None, ℕ, ◌+◌, ◌-◌, ◌*◌, ◌≤◌, ◌<◌, ◌≡◌, Bool, true, false, List, ◌++◌, replicate}
use Rattle.base_words.specs.Numbers.{bytes_of, value_of}
use Rattle.base_ieee.specs.Narrowing.{narrow}
use Rattle.sig_types.specs.declared.Equivalent.{Equivalent}
use Rattle.sig_types.specs.declared.ValueType.{ValueType}
use Rattle.sig_types.specs.Sizes.{equivalent_of}
use Rattle.plan_places.specs.declared.CallRules.{CallRules}
use Rattle.plan_places.specs.declared.Span.{Span}
use Rattle.plan_places.specs.Step.{word_of}
use Rattle.plan_places.specs.Spots.{image_bytes}
use Rattle.call_slots.specs.Forms.{room_of, starts_at_head}
use Rattle.call_slots.specs.Placements.{Placement}
use Rattle.call_slots.specs.Helpers.{FloatSized, InImage}
use Rattle.call_home_slot.specs.Homes.{homeless}

-- the 64 bits in memory of a single or a double whose FPR has the bits x; 0 of a single that is none
abbrev pub narrowed_word : Option ℕ → ℕ
narrowed_word (Some x) = x
narrowed_word None = 0

abbrev pub home_word : Equivalent → ℕ → ℕ
home_word Equivalent.Single x = narrowed_word (narrow x)
home_word Equivalent.Double x = x
home_word Equivalent.Nothing x = x

-- the memory form of a float in a home of `room` bytes, from the n bytes of its FPRs: a long double stands in memory as in its FPRs
abbrev pub float_home : ℕ → ℕ → Equivalent → List ℕ → List ℕ
float_home room n Equivalent.Single bs = bytes_of room (home_word Equivalent.Single (value_of bs))
float_home room n Equivalent.Double bs = bytes_of room (home_word Equivalent.Double (value_of bs))
float_home room n Equivalent.Nothing bs = bs ++ replicate (room - n) 0

-- a single and a double have one FPR, and the home of another float has room for all of its FPRs
abbrev pub HomeSized : Equivalent → ℕ → ℕ → Type 0
HomeSized Equivalent.Single n room = n ≡ 8
HomeSized Equivalent.Double n room = n ≡ 8
HomeSized Equivalent.Nothing n room = n ≤ room

-- of the types that have FPRs, only a long double starts at the head of its words
abbrev pub fills_words : Equivalent → Bool
fills_words Equivalent.Single = false
fills_words Equivalent.Double = false
fills_words Equivalent.Nothing = true

-- What holds of each argument on PowerPC in an area of a bytes (law `Homed-all`): it is passed by value, its home holds all its words
-- and lies in the area, only a single, a double or a long double has FPRs, and the words in memory follow those in general registers.
pub record Homed (r : CallRules) (a : ℕ) (p : Placement) : Type 0 where
  pub homes : homeless r ≡ false
  pub direct : p.span.indirect ≡ false
  pub room : p.span.home.length ≡ room_of r p.size
  pub within : p.span.home.start + room_of r p.size ≤ a
  pub float : 0 < p.span.floating.count → starts_at_head r p.ty ≡ fills_words (equivalent_of p.ty)
  pub follows : 0 < p.span.memory.length → p.span.memory.start ≡ p.span.home.start + word_of r * p.span.general.count

-- a type's FPRs lie in an image of i bytes, and hold a value of some size
abbrev pub FprsFit : ValueType → Span → ℕ → Type 0
FprsFit t s i =
    (s.floating.first + s.floating.count ≤ 32) × (i ≡ image_bytes) × (0 < s.floating.count → (n : ℕ) × FloatSized (equivalent_of t) s.floating.count n)

-- such an argument, and that its registers lie in an image of i bytes
pub record Registered (r : CallRules) (a i : ℕ) (p : Placement) : Type 0 where
  pub registers : InImage r i p
  pub homed : Homed r a p
