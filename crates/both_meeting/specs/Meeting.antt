-- Where the two families meet: the numbers that calls and frames share, the argument registers among those that a frame may write, and the parameter area of a call as the
-- outgoing area of its caller's frame. Document 01, "Frames"; document 02, No. 1 and No. 6. `FamiliesAgree` and `AreaRequested` are the claims; proofs/Theorem.antt proves them.
-- Assumes nothing.
use Rattle.std.specs.Prelude.{ℕ, ◌%◌, ◌≤◌, ◌≡◌, ◌⊎◌, true, false, List, Ok}
use Rattle.base_words.specs.Basics.{round_up}
use Rattle.base_conventions.specs.declared.Convention.{Convention}
use Rattle.base_conventions.specs.Numbers.{word_bytes, header_bytes, stack_alignment, least_area}
use Rattle.plan_places.specs.Step.{rules_of, word_of}
use Rattle.plan_places.specs.Spots.{general, floating, ArgumentRegister}
use Rattle.plan_plans.specs.declared.Plan.{Plan}
use Rattle.plan_plans.specs.Call.{outcome_for}
use Rattle.call_slots.specs.Arguments.{plan_for}
use Rattle.frame_rules.specs.declared.Frame.{Frame}
use Rattle.frame_rules.specs.Rules.{within, rules}
use Rattle.frame_rules.specs.Frames.{first_gpr_of, first_fpr_of, saves_cr_of, max_outgoing, ok_request, outgoing_length}

-- ---- the numbers

-- The frames of a convention have the words, the header, the alignment and the least area that its calls have: "Outgoing areas start at 48, at least 64 long, on PPC64, at 160 on
-- Z", on AIX "starting at 24, at least 32 long". No argument register is the stack pointer, and a frame may write each of them without having saved it, but for r6 on Z.
pub record FramesAgree (c : Convention) : Type 0 where
  pub word : (rules c).word ≡ word_of (rules_of c)
  pub header : (rules c).header ≡ header_bytes c
  pub alignment : (rules c).alignment ≡ stack_alignment c
  pub least : (rules c).least ≡ least_area c
  pub pointer : ArgumentRegister (rules_of c) (general (rules c).pointer) → ⊥
  pub general-free : (n : ℕ) → ArgumentRegister (rules_of c) (general n) → (within (rules c).gpr.volatile n ≡ true) ⊎ ((c ≡ Convention.Z) × (n ≡ 6))
  pub floating-free : (n : ℕ) → ArgumentRegister (rules_of c) (floating n) → within (rules c).fpr.volatile n ≡ true

abbrev pub FamiliesAgree : Type 0
FamiliesAgree = (c : Convention) → FramesAgree c

-- ---- the area

-- what a caller asks for to call by the plan p: "outgoing P, a multiple of 8". An AIX area, of words of 4 bytes, asks for the next one.
abbrev pub asked_area : Plan → ℕ
asked_area p = round_up p.area 8

-- the request f, but for an outgoing area of a bytes
abbrev pub asking : Frame → ℕ → Frame
asking f a = record { first_gpr = first_gpr_of f; first_fpr = first_fpr_of f; saves_cr = saves_cr_of f; locals = f.locals; outgoing = a; leaf = f.leaf }

-- Of a plan: its area is whole words; what it asks for holds it and may be asked for, "up to 32,776", whatever else a request asks that is for no leaf; and the frame of such a
-- request has an outgoing area of exactly that.
pub record Requested (p : Plan) : Type 0 where
  pub whole : p.area % word_bytes p.convention ≡ 0
  pub holds : p.area ≤ asked_area p
  pub most : asked_area p ≤ max_outgoing
  pub accepted : (f : Frame) → f.leaf ≡ false → ok_request (rules p.convention) f ≡ true → ok_request (rules p.convention) (asking f (asked_area p)) ≡ true
  pub exact : (f : Frame) → outgoing_length (rules p.convention) (asking f (asked_area p)) ≡ asked_area p

-- every accepted call's area is an outgoing area that enter accepts
abbrev pub AreaRequested : Type 0
AreaRequested = (s : List ℕ) (n : ℕ) → outcome_for s ≡ Ok n → Requested (plan_for s)
