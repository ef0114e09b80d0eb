-- The home of one argument in the parameter area. Document 01, "What stands in a slot": "Home (PPC64) copies each argument's register doublewords
-- into the area at its offset: GPRs as they stand, an FPR in its memory form (14 possible)". Assumes nothing.
use Rattle.std.specs.Prelude.{ℕ, ◌*◌, Bool, true, false, List, ltb}
use Rattle.base_words.specs.Basics.{pick}
use Rattle.base_words.specs.Splice.{part}
use Rattle.base_words.specs.Numbers.{value_of}
use Rattle.sig_types.specs.declared.ValueType.{ValueType}
use Rattle.sig_types.specs.Sizes.{equivalent_of}
use Rattle.plan_places.specs.declared.CallRules.{CallRules}
use Rattle.plan_places.specs.declared.Span.{Span}
use Rattle.plan_places.specs.Step.{word_of}
use Rattle.call_slots.specs.Buffers.{general_at, floating_at}
use Rattle.call_registers.specs.Registers.{gather}
use Rattle.call_slots.specs.Forms.{home_bytes, float_value}
use Rattle.call_slots.specs.Placements.{Placement}
use Rattle.call_slots.specs.Refusals.{float_answer}
use Rattle.call_slots.specs.Answer.{CallAnswer, call_done}

-- "asked of Z": only PowerPC has homes for its register arguments
abbrev pub homeless : CallRules → Bool
homeless (CallRules.Power f) = false
homeless CallRules.Z = true

-- the bytes of an argument's FPRs, eight of each
abbrev pub fprs_of : Span → List ℕ → List ℕ
fprs_of s image = part (floating_at s.floating.first) (8 * s.floating.count) image

-- 14, of one argument: general registers hold anything
unfoldable pub register_answer : CallRules → ValueType → Span → List ℕ → CallAnswer
register_answer r t s image = pick (ltb 0 s.floating.count) (float_answer r (equivalent_of t) (value_of (fprs_of s image))) call_done

-- ---- the bytes

-- an argument's register words, as memory holds them: "GPRs as they stand", on AIX their low halves; "an FPR in its memory form". Of a float that
-- is in both, with an ellipsis, "home uses the FPR" (02, No. 5): all its words, whatever memory held of them
unfoldable pub homed_bytes : CallRules → Placement → List ℕ → List ℕ
homed_bytes r p image =
    pick (ltb 0 p.span.floating.count) (home_bytes r p.ty p.size (float_value r p.ty (fprs_of p.span image)))
    (gather (word_of r) p.span.general.count (part (general_at p.span.general.first) (8 * p.span.general.count) image))
