-- Runs of FPRs, and the sizes of arguments that have one word. Assumes nothing.
use mathlib.Core.Path.{◌≡◌, refl, sym, subst, ◌∙◌}
use mathlib.Core.Bool.{true}
use mathlib.Core.List.{List}
use Prim.Native.Nat.{ℕ, ◌+◌, ◌*◌, ◌≤◌}
use native.Mathlib.Omega.{arith}
use lib.ListN.{length}
use Rattle.base_words.specs.Splice.{part}
use Rattle.base_words.specs.Numbers.{value_of}
use Rattle.base_words.proofs.Numbers.{length-bytes_of}
use Rattle.sig_types.specs.declared.Equivalent.{Equivalent}
use Rattle.plan_places.specs.declared.CallRules.{CallRules}
use Rattle.plan_places.specs.Power.{words}
use Rattle.plan_places.specs.Step.{word_of}
use Rattle.call_slots.specs.Forms.{room_of, single_word, float_form}
use Rattle.call_slots.specs.Placements.{Placement}
use Rattle.call_slots.specs.Helpers.{FloatSized, Held}
use Rattle.call_slots.specs.Refusals.{float_answer}

-- a float fills its FPRs
pub form-length : (r : CallRules) (e : Equivalent) (m : ℕ) (v : List ℕ) → FloatSized e m (length v) → length (float_form r e v) ≡ 8 * m
form-length r Equivalent.Single m v h = length-bytes_of 8 (single_word r (value_of v)) ∙ rw h.0
form-length r Equivalent.Double m v h = h.1 ∙ rw h.0
form-length r Equivalent.Nothing m v h = h.1 ∙ rw h.0

-- 14 looks at a single's one FPR: of a run of m, the first tells
pub answer-first : (r : CallRules) (e : Equivalent) (m n at : ℕ) (l : List ℕ) → FloatSized e m n → float_answer r e (value_of (part at 8 l)) ≡ float_answer r e (value_of (part at (8 * m) l))
answer-first (CallRules.Power f) Equivalent.Single m n at l h = rw h.0
answer-first (CallRules.Power f) Equivalent.Double m n at l h = refl
answer-first (CallRules.Power f) Equivalent.Nothing m n at l h = refl
answer-first CallRules.Z e m n at l h = refl

-- an argument that is passed by pointer has one word
pub one_word : (r : CallRules) (p : Placement) → Held r p → p.span.floating.count ≤ 0 → p.span.indirect ≡ true
    → word_of r * p.span.general.count + p.span.memory.length ≡ word_of r
one_word r p h none e =
    let no : p.span.floating.count ≡ 0 = omega arith in
    let a = h.address e in
    h.words no ∙ a.1 ∙ sym a.0

-- which is a doubleword
pub one_address : (r : CallRules) (p : Placement) → Held r p → p.span.floating.count ≤ 0 → p.span.indirect ≡ true
    → 8 * p.span.general.count + p.span.memory.length ≡ 8
one_address r p h none e =
    subst (λ (w : ℕ). w * p.span.general.count + p.span.memory.length ≡ w) (h.address e).0 (one_word r p h none e)

-- a value of at most eight bytes has one word, where a word is a doubleword
pub one-doubleword : (r : CallRules) (n : ℕ) → word_of r ≡ 8 → 1 ≤ n → n ≤ 8 → room_of r n ≡ 8
unfolding words
one-doubleword (CallRules.Power f) n e some most = rw e (omega arith)
one-doubleword CallRules.Z n e some most = refl
