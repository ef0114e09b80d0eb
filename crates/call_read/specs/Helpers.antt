-- For proofs and helpers alone: no claim cites this file.
-- What the parts of reading ask and answer, and the arguments that the first pass need not look at. Assumes nothing.
use Rattle.std.specs.Prelude.{ℕ, ◌<◌, ◌≡◌, Bool, true, List, ltb, length}
use Rattle.base_words.specs.Basics.{pick}
use Rattle.base_words.specs.Numbers.{value_of}
use Rattle.sig_types.specs.Sizes.{equivalent_of}
use Rattle.plan_places.specs.declared.CallRules.{CallRules}
use Rattle.plan_places.specs.declared.Span.{Span}
use Rattle.call_slots.specs.Buffers.{Buffers}
use Rattle.call_slots.specs.Placements.{Placement, fpr_bytes_at}
use Rattle.call_slots.specs.Refusals.{first_of, after_reading, float_answer}
use Rattle.call_slots.specs.Helpers.{InImage}
use Rattle.call_slots.specs.Arguments.{plan_for}
use Rattle.plan_plans.specs.Call.{outcome_for}
use Rattle.call_read.specs.declared.ReadLengths.{ReadLengths}
use Rattle.call_read.specs.Read.{read_tests}
use Rattle.call_slots.specs.Answer.{CallAnswer, call_done}

-- what 13, 14 or 26 can refuse: an argument in FPRs, or one that is passed by pointer to a copy (law `nothing-asked`)
abbrev pub asks : Span → Bool
asks s = pick (ltb 0 s.floating.count) true s.indirect

-- what comparing asks: a float in FPRs that 14 doesn't refuse, and in general registers, all of them in the image
pub record Compared (r : CallRules) (p : Placement) (b : Buffers) : Type 0 where
  pub registers : InImage r (length b.image) p
  pub float : 0 < p.span.floating.count
  pub also : 0 < p.span.general.count
  pub exact : float_answer r (equivalent_of p.ty) (value_of (fpr_bytes_at p.span b)) ≡ call_done

-- the answer for a call without arguments: of the lengths alone
abbrev pub lengths_answer : List ℕ → ReadLengths → CallAnswer
lengths_answer s have = after_reading (outcome_for s) (first_of (read_tests have (plan_for s).values (plan_for s).area))
