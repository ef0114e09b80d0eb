-- Answers and refusals. Document 01, "When the bridge says no"; document 02, No. 9. Assumes nothing.
use Rattle.std.specs.Prelude.{ℕ, Bool, List, [], ◌∷◌, Result, Ok, Err}
use Rattle.base_words.specs.Basics.{pick}
pub use Rattle.frame_machine.specs.declared.FrameRefusal.{FrameRefusal}
pub use Rattle.frame_machine.specs.declared.FrameRefusal.TheVariants.{BadMemory, BadRequest, TooManyFrames, NoRoom, NotPermitted, BrokenChain, NothingEntered, BadState, AboveLeaf}

-- what a call answers: it is accepted, or refused and why
abbrev pub FrameAnswer : Type 0
FrameAnswer = Result (Unit {0}) FrameRefusal

-- document 01's number of each refusal ("No"), and document 02's 28; its place is 0 for all of them
abbrev pub frame_refusal_number : FrameRefusal → ℕ
frame_refusal_number BadMemory = 16
frame_refusal_number BadRequest = 17
frame_refusal_number TooManyFrames = 18
frame_refusal_number NoRoom = 19
frame_refusal_number NotPermitted = 20
frame_refusal_number BrokenChain = 21
frame_refusal_number NothingEntered = 22
frame_refusal_number BadState = 23
frame_refusal_number AboveLeaf = 28

-- an answer's number: 0 for an accepted call
abbrev pub frame_answer_number : FrameAnswer → ℕ
frame_answer_number (Ok tt) = 0
frame_answer_number (Err r) = frame_refusal_number r

-- What must hold for a call to be accepted, and the refusal given where it does not.
pub record Requirement : Type 0 where
  pub holds : Bool
  pub refusal : FrameRefusal

abbrev pub require : Bool → FrameRefusal → Requirement
require b r = record { holds = b; refusal = r }

-- the first test that does not hold refuses the call
unfoldable pub judge : List Requirement → FrameAnswer
judge [] = Ok tt
judge (t ∷ ts) = pick t.holds (judge ts) (Err t.refusal)

-- what stands after a call: a where it is accepted, else b as before ("Every refusal leaves all buffers and the state untouched")
abbrev pub settle : {A : Type 0} → FrameAnswer → A → A → A
settle (Ok tt) a b = a
settle (Err r) a b = b
