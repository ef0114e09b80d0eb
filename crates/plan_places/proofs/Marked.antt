-- What an ellipsis leaves alone: the rules' numbers, every cursor, the registers that may be used, what is unclear, and the places of a result. Assumes nothing.
use mathlib.Core.Path.{◌≡◌, refl, sym, ◌∙◌}
use mathlib.Core.Bool.{Bool, true, false}
use Prim.Native.Nat.{ℕ, ◌-◌}
use Rattle.base_conventions.specs.declared.Convention.{Convention}
use Rattle.sig_types.specs.declared.ValueType.{ValueType}
use Rattle.plan_places.specs.declared.Cursor.{Cursor}
use Rattle.plan_places.specs.declared.PowerRules.{PowerRules}
use Rattle.plan_places.specs.declared.CallRules.{CallRules}
use Rattle.plan_places.specs.Values.{pointer}
use Rattle.plan_places.specs.Power.{words, fprs, covered, share_of, power_share, power_next, unclear}
use Rattle.plan_places.specs.Step.{rules_of, with_ellipsis, word_of, span_of, next_of, unclear_for, fresh_cursor, start_of, hidden_for, returning, result_of}
use Rattle.plan_places.specs.Helpers.{LawfulCalls, always_clear}
use Rattle.plan_places.specs.Spots.{Spot, general, floating, area, copies, ArgumentRegister}
use Rattle.plan_places.proofs.Shares.{share-marked}
use Rattle.plan_places.proofs.Bounds.{Named}

-- ---- the rules

pub lawful-marked : (v : Bool) (r : CallRules) → LawfulCalls r → LawfulCalls (with_ellipsis v r)
unfolding with_ellipsis
lawful-marked v (CallRules.Power f) h = h
lawful-marked v CallRules.Z h = tt

pub word-marked : (v : Bool) (r : CallRules) → word_of (with_ellipsis v r) ≡ word_of r
unfolding with_ellipsis
word-marked v (CallRules.Power f) = refl
word-marked v CallRules.Z = refl

-- a convention's own rules are those without one
pub rules-plain : (c : Convention) → with_ellipsis false (rules_of c) ≡ rules_of c
unfolding with_ellipsis
rules-plain Convention.Ppc64 = refl
rules-plain Convention.Z = refl
rules-plain Convention.Aix = refl
rules-plain Convention.Ppc64b = refl

-- ---- the cursor: the next argument starts where it would without one

-- so that it can be found without looking for one
pub next-plain : (f : PowerRules) (c : Cursor) (t : ValueType) (n : ℕ)
    → power_next f.word c (words f.word n) (power_share (record { word = f.word; edition = f.edition; ellipsis = false }) c t n) ≡ next_of (CallRules.Power f) c t n
unfolding next_of power_share
next-plain f c t n =
    let len : ℕ = words f.word n in
    rw (share-marked f.ellipsis (fprs f.edition t) (14 - c.floating) len (covered c len))

pub next-marked : (v : Bool) (r : CallRules) (c : Cursor) (t : ValueType) (n : ℕ) → next_of (with_ellipsis v r) c t n ≡ next_of r c t n
unfolding with_ellipsis
next-marked v (CallRules.Power f) c t n = sym (next-plain (record { word = f.word; edition = f.edition; ellipsis = v }) c t n) ∙ next-plain f c t n
next-marked v CallRules.Z c t n = refl

pub fresh-marked : (v : Bool) (r : CallRules) → fresh_cursor (with_ellipsis v r) ≡ fresh_cursor r
unfolding with_ellipsis fresh_cursor
fresh-marked v (CallRules.Power f) = refl
fresh-marked v CallRules.Z = refl

pub start-marked : (v : Bool) (r : CallRules) (hidden : Bool) → start_of (with_ellipsis v r) hidden ≡ start_of r hidden
unfolding start_of
start-marked v r true = rw (word-marked v r, fresh-marked v r) (next-marked v r (fresh_cursor r) pointer (word_of r))
start-marked v r false = fresh-marked v r

-- ---- the registers are those of any argument

pub named-marked : (v : Bool) (r : CallRules) (c : Cursor) → Named r c → Named (with_ellipsis v r) c
unfolding with_ellipsis
named-marked v (CallRules.Power f) c h = h
named-marked v CallRules.Z c h = h

pub register-marked : (v : Bool) (r : CallRules) (x : Spot) → ArgumentRegister (with_ellipsis v r) x → ArgumentRegister r x
unfolding with_ellipsis
register-marked v (CallRules.Power f) (general n) h = h
register-marked v (CallRules.Power f) (floating n) h = h
register-marked v (CallRules.Power f) (area n) h = tt
register-marked v (CallRules.Power f) (copies n) h = tt
register-marked v CallRules.Z x h = h

-- ---- 29

pub unclear-marked : (v : Bool) (r : CallRules) (c : Cursor) (t : ValueType) → unclear_for (with_ellipsis v r) c t ≡ unclear_for r c t
unfolding with_ellipsis unclear_for unclear
unclear-marked v (CallRules.Power f) c t = refl
unclear-marked v CallRules.Z c t = refl

pub always-marked : (v : Bool) (r : CallRules) → always_clear (with_ellipsis v r) ≡ always_clear r
unfolding with_ellipsis always_clear
always-marked v (CallRules.Power f) = refl
always-marked v CallRules.Z = refl

-- ---- the result

pub hidden-marked : (v : Bool) (r : CallRules) (t : ValueType) → hidden_for (with_ellipsis v r) t ≡ hidden_for r t
unfolding with_ellipsis hidden_for
hidden-marked v (CallRules.Power f) (ValueType.Integer k) = refl
hidden-marked v (CallRules.Power f) (ValueType.Float x) = refl
hidden-marked v (CallRules.Power f) (ValueType.Struct s) = refl
hidden-marked v CallRules.Z t = refl

-- a float result is in its FPRs alone
pub result-marked : (v : Bool) (r : CallRules) (t : ValueType) (n : ℕ) → result_of (with_ellipsis v r) t n ≡ result_of r t n
unfolding with_ellipsis result_of hidden_for returning span_of fresh_cursor power_share share_of fprs
result-marked v (CallRules.Power f) (ValueType.Integer k) n = refl
result-marked v (CallRules.Power f) (ValueType.Float x) n = refl
result-marked v (CallRules.Power f) (ValueType.Struct s) n = refl
result-marked v CallRules.Z t n = refl
