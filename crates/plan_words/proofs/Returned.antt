-- A result's words by the registers that a convention begins with. Assumes nothing.
use Prim.Native.Nat.{ℕ, ◌≤◌}
use mathlib.Core.Path.{◌≡◌, refl}
use lib.Dec.{ltb}
use Rattle.base_words.specs.Basics.{pick}
use Rattle.base_conventions.specs.declared.Convention.{Convention}
use Rattle.base_conventions.specs.Numbers.{word_bytes}
use Rattle.sig_types.specs.declared.IntegerKind.{IntegerKind}
use Rattle.sig_types.specs.declared.FloatFormat.{FloatFormat}
use Rattle.sig_types.specs.declared.Shape.{Shape}
use Rattle.sig_types.specs.declared.ValueType.{ValueType}
use Rattle.sig_types.specs.Sizes.{integer_size}
use Rattle.plan_places.specs.declared.PowerRules.{PowerRules}
use Rattle.plan_places.specs.declared.CallRules.{CallRules}
use Rattle.plan_places.specs.Power.{words, fprs, share_of, power_share}
use Rattle.plan_places.specs.ZSeries.{z_class, z_span_of}
use Rattle.plan_places.specs.Step.{rules_of, span_of, fresh_cursor, hidden_for, returning, result_of}
use Rattle.plan_entries.specs.declared.ResultWords.{ResultWords}
use Rattle.plan_entries.specs.Results.{result_words}

-- n registers from the first on
abbrev pub in_general : ℕ → CallRules → ℕ → ResultWords
in_general kind r n = record { kind = kind; gpr = (fresh_cursor r).general; gprs = n; fpr = 0; fprs = 0 }

abbrev pub in_floating : CallRules → ℕ → ResultWords
in_floating r n = record { kind = 1; gpr = 0; gprs = 0; fpr = (fresh_cursor r).floating; fprs = n }

-- a float in one FPR
pub single-result : (r : CallRules) (n : ℕ) → in_floating r 1 ≡ result_words (result_of r (ValueType.Float FloatFormat.Single) n)
unfolding result_of hidden_for returning span_of fresh_cursor power_share fprs share_of z_class z_span_of
single-result (CallRules.Power f) n = refl
single-result CallRules.Z n = refl

pub double-result : (r : CallRules) (n : ℕ) → in_floating r 1 ≡ result_words (result_of r (ValueType.Float FloatFormat.Double) n)
unfolding result_of hidden_for returning span_of fresh_cursor power_share fprs share_of z_class z_span_of
double-result (CallRules.Power f) n = refl
double-result CallRules.Z n = refl

-- a long double: in two, or hidden
pub long-power : (f : PowerRules) (n : ℕ) → in_floating (CallRules.Power f) 2 ≡ result_words (result_of (CallRules.Power f) (ValueType.Float FloatFormat.LongDouble) n)
unfolding result_of hidden_for returning span_of fresh_cursor power_share fprs share_of
long-power f n = refl

pub long-z : (n : ℕ) → in_general 2 CallRules.Z 1 ≡ result_words (result_of CallRules.Z (ValueType.Float FloatFormat.LongDouble) n)
unfolding result_of hidden_for span_of fresh_cursor z_class z_span_of
long-z n = refl

-- a struct is hidden
pub struct-result : (c : Convention) (s : Shape) (n : ℕ) → in_general 2 (rules_of c) 1 ≡ result_words (result_of (rules_of c) (ValueType.Struct s) n)
unfolding result_of hidden_for span_of fresh_cursor words power_share fprs share_of z_class z_span_of
struct-result Convention.Ppc64 s n = refl
struct-result Convention.Z s n = refl
struct-result Convention.Aix s n = refl
struct-result Convention.Ppc64b s n = refl

-- an integer has one word, or two
pub integer-result : (c : Convention) (k : IntegerKind) →
    in_general 1 (rules_of c) (pick (ltb (word_bytes c) (integer_size c k)) 2 1) ≡ result_words (result_of (rules_of c) (ValueType.Integer k) (integer_size c k))
unfolding result_of hidden_for returning span_of fresh_cursor words power_share fprs share_of z_class z_span_of
integer-result Convention.Ppc64 IntegerKind.I8 = refl
integer-result Convention.Ppc64 IntegerKind.U8 = refl
integer-result Convention.Ppc64 IntegerKind.I16 = refl
integer-result Convention.Ppc64 IntegerKind.U16 = refl
integer-result Convention.Ppc64 IntegerKind.I32 = refl
integer-result Convention.Ppc64 IntegerKind.U32 = refl
integer-result Convention.Ppc64 IntegerKind.I64 = refl
integer-result Convention.Ppc64 IntegerKind.U64 = refl
integer-result Convention.Ppc64 IntegerKind.Pointer = refl
integer-result Convention.Z IntegerKind.I8 = refl
integer-result Convention.Z IntegerKind.U8 = refl
integer-result Convention.Z IntegerKind.I16 = refl
integer-result Convention.Z IntegerKind.U16 = refl
integer-result Convention.Z IntegerKind.I32 = refl
integer-result Convention.Z IntegerKind.U32 = refl
integer-result Convention.Z IntegerKind.I64 = refl
integer-result Convention.Z IntegerKind.U64 = refl
integer-result Convention.Z IntegerKind.Pointer = refl
integer-result Convention.Aix IntegerKind.I8 = refl
integer-result Convention.Aix IntegerKind.U8 = refl
integer-result Convention.Aix IntegerKind.I16 = refl
integer-result Convention.Aix IntegerKind.U16 = refl
integer-result Convention.Aix IntegerKind.I32 = refl
integer-result Convention.Aix IntegerKind.U32 = refl
integer-result Convention.Aix IntegerKind.I64 = refl
integer-result Convention.Aix IntegerKind.U64 = refl
integer-result Convention.Aix IntegerKind.Pointer = refl
integer-result Convention.Ppc64b IntegerKind.I8 = refl
integer-result Convention.Ppc64b IntegerKind.U8 = refl
integer-result Convention.Ppc64b IntegerKind.I16 = refl
integer-result Convention.Ppc64b IntegerKind.U16 = refl
integer-result Convention.Ppc64b IntegerKind.I32 = refl
integer-result Convention.Ppc64b IntegerKind.U32 = refl
integer-result Convention.Ppc64b IntegerKind.I64 = refl
integer-result Convention.Ppc64b IntegerKind.U64 = refl
integer-result Convention.Ppc64b IntegerKind.Pointer = refl
