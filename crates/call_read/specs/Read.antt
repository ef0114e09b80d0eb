-- Reading: its answer, and what the value buffer holds afterwards. Document 01, "When the bridge says no" and "What stands in a slot".
-- The values themselves are `values_at`, of the crate call_slots. Assumes nothing.
use Rattle.std.specs.Prelude.{ℕ, ◌+◌, ◌-◌, ◌*◌, Bool, true, false, List, [], ◌∷◌, eqb, ltb, leb, length, take, is_ok}
use Rattle.base_words.specs.Basics.{pick}
use Rattle.base_words.specs.Splice.{overlay, part}
use Rattle.base_words.specs.Numbers.{value_of}
use Rattle.sig_types.specs.Sizes.{equivalent_of}
use Rattle.plan_places.specs.declared.CallRules.{CallRules}
use Rattle.plan_places.specs.Step.{word_of}
use Rattle.call_slots.specs.declared.CallRefusal.{CallRefusal}
use Rattle.plan_places.specs.Spots.{general, image_bytes}
use Rattle.call_registers.specs.Registers.{gather}
use Rattle.call_slots.specs.Buffers.{Buffers, bytes_at}
use Rattle.call_slots.specs.Forms.{own_start, float_value}
use Rattle.call_slots.specs.Placements.{Placement, fpr_bytes_at, address_at, values_at}
use Rattle.call_slots.specs.Refusals.{Test, test, differ, first_of, after_reading, or_else, first_of_all, float_answer}
use Rattle.plan_plans.specs.Call.{outcome_for}
use Rattle.call_slots.specs.Arguments.{arguments_of, plan_for, rules_for}
use Rattle.call_read.specs.declared.ReadLengths.{ReadLengths}
use Rattle.call_slots.specs.Answer.{CallAnswer, call_done, call_refused}

-- ---- one argument
-- n bytes at an address lie wholly in a copy buffer of c bytes at its base, in unbounded integers
abbrev pub in_copies : ℕ → ℕ → ℕ → ℕ → Bool
in_copies address base n c = pick (leb base address) (leb (address - base + n) c) false

-- 13: "a by-pointer argument not wholly inside the copy buffer"
abbrev pub copy_answer : Bool → CallAnswer
copy_answer true = call_done
copy_answer false = call_refused CallRefusal.OutsideCopies

abbrev pub words_answer : CallRules → ℕ → Placement → Buffers → CallAnswer
words_answer r base p b =
    pick p.span.indirect (copy_answer (in_copies (address_at (word_of r) p.span b) base p.size (length b.copies))) call_done

-- the bytes of one list are those of another
unfoldable pub same_bytes : List ℕ → List ℕ → Bool
same_bytes [] [] = true
same_bytes [] (y ∷ ys) = false
same_bytes (x ∷ xs) [] = false
same_bytes (x ∷ xs) (y ∷ ys) = pick (eqb x y) (same_bytes xs ys) false

-- a value's own bytes that stand in general registers: neither padding nor what is in memory
unfoldable pub own_held : CallRules → Placement → Buffers → List ℕ
own_held r p b =
    part (own_start r p.ty p.size) p.size
    (gather (word_of r) p.span.general.count (bytes_at (general p.span.general.first) (8 * p.span.general.count) b))

-- they are the first bytes of the value in its FPRs
unfoldable pub agrees : CallRules → Placement → Buffers → Bool
agrees r p b = same_bytes (own_held r p b) (take (length (own_held r p b)) (float_value r p.ty (fpr_bytes_at p.span b)))

-- 26, 02, No. 5: "when the GPRs of a float argument hold other value bytes than its FPR"
abbrev pub agree_answer : Bool → CallAnswer
agree_answer true = call_done
agree_answer false = call_refused CallRefusal.FloatsDiffer

-- "Reading refuses with 26 .., right after 14 at each argument"
unfoldable pub argument_answer : CallRules → ℕ → Placement → Buffers → CallAnswer
argument_answer r base p b =
    pick (ltb 0 p.span.floating.count)
    (or_else (float_answer r (equivalent_of p.ty) (value_of (fpr_bytes_at p.span b))) (agree_answer (agrees r p b)))
    (words_answer r base p b)

-- "13 and 14 by argument, left to right", and 26
unfoldable pub arguments_answer : CallRules → ℕ → List Placement → Buffers → CallAnswer
arguments_answer r base ps b = first_of_all (λ (p : Placement). argument_answer r base p b) ps

-- ---- the whole

-- "After reading: .. 15, 10, 11": of buffers of these lengths, where the plan asks for values and an area of these sizes
unfoldable pub read_tests : ReadLengths → ℕ → ℕ → List Test
read_tests have values area =
    test (differ have.image image_bytes) CallRefusal.ImageSize
    ∷ test (differ have.values values) CallRefusal.ValuesSize
    ∷ test (ltb have.area area) CallRefusal.AreaTooShort
    ∷ []

unfoldable pub read_answer : List ℕ → ReadLengths → ℕ → Buffers → CallAnswer
read_answer s have base b =
    after_reading (outcome_for s)
    (or_else (first_of (read_tests have (plan_for s).values (plan_for s).area)) (arguments_answer (rules_for s) base (arguments_of s) b))

-- "Every refusal leaves all buffers .. untouched"
unfoldable pub read_values : List ℕ → ℕ → CallAnswer → Buffers → List ℕ → List ℕ
read_values s base answer b values = pick (is_ok answer) (overlay values (values_at (rules_for s) base (arguments_of s) b)) values

abbrev pub read_lengths : List ℕ → List ℕ → List ℕ → ReadLengths
read_lengths values image area = record { values = length values; image = length image; area = length area }
