-- 23, exactly (specs/Walks.antt): the test says what it says, and that is where arguments lead. Assumes nothing.
use mathlib.Core.Path.{◌≡◌, ap, ◌∙◌, subst}
use mathlib.Core.Logic.{◌⊎◌, inl, inr}
use mathlib.Core.Bool.{Bool, true, false, not, ◌||◌}
use Prim.Native.Nat.{ℕ, ◌≤◌}
use borrow.Author.Tests.{le-leb, leb-true, eq-eqb, eqb-true}
use lib.Dec.{leb}
use Rattle.base_words.proofs.Tests.{and_yes, and_both, or_yes, or_left, or_right, not-no}
use Rattle.sig_types.proofs.Sized.{all-within-sized}
use Rattle.plan_places.specs.declared.CallRules.{CallRules}
use Rattle.plan_places.specs.Step.{rules_of, start_of}
use Rattle.plan_places.proofs.Bounds.{rules-lawful}
use Rattle.sig_signatures.specs.Types.{types_of}
use Rattle.call_slots.proofs.Typed.{all_typed}
use Rattle.call_walker.specs.declared.Counters.{Counters}
use Rattle.call_walker.specs.declared.Walker.{Walker}
use Rattle.call_walker.specs.Walker.{counters_of, power_possible, z_possible, possible, in_range, lost}
use Rattle.call_walker.specs.Walks.{Led, Small, LostExactly}
use Rattle.call_walker.proofs.Reached.{Possible, reached-start, reached-last, reached-possible, counters-back, possible-led}

-- ---- the test

-- three ways to stand on the stack
ways : (s g f : ℕ) → (leb s 160 || (leb 7 g || leb 8 f)) ≡ true → (s ≤ 160) ⊎ ((7 ≤ g) ⊎ (8 ≤ f))
ways s g f e = first (or_yes (leb s 160) (leb 7 g || leb 8 f) e)
  where
    second : (leb 7 g ≡ true) ⊎ (leb 8 f ≡ true) → (s ≤ 160) ⊎ ((7 ≤ g) ⊎ (8 ≤ f))
    second (inl x) = inr (inl (leb-true 7 g x))
    second (inr x) = inr (inr (leb-true 8 f x))

    first : (leb s 160 ≡ true) ⊎ ((leb 7 g || leb 8 f) ≡ true) → (s ≤ 160) ⊎ ((7 ≤ g) ⊎ (8 ≤ f))
    first (inl x) = inl (leb-true s 160 x)
    first (inr x) = second (or_yes (leb 7 g) (leb 8 f) x)

ways-back : (s g f : ℕ) → (s ≤ 160) ⊎ ((7 ≤ g) ⊎ (8 ≤ f)) → (leb s 160 || (leb 7 g || leb 8 f)) ≡ true
ways-back s g f (inl x) = or_left (leb s 160) (leb 7 g || leb 8 f) (le-leb s 160 x)
ways-back s g f (inr (inl x)) = or_right (leb s 160) (leb 7 g || leb 8 f) (or_left (leb 7 g) (leb 8 f) (le-leb 7 g x))
ways-back s g f (inr (inr x)) = or_right (leb s 160) (leb 7 g || leb 8 f) (or_right (leb 7 g) (leb 8 f) (le-leb 8 f x))

tested-possible : (r : CallRules) (hidden : Bool) (k : Counters) → possible r hidden k ≡ true → Possible r hidden k
unfolding possible power_possible z_possible
tested-possible (CallRules.Power f) hidden k e =
    let a = and_yes _ _ e in
    let b = and_yes _ _ a.1 in
    (leb-true _ _ a.0, leb-true _ _ b.0, eqb-true _ _ b.1)
tested-possible CallRules.Z hidden k e =
    let a = and_yes _ _ e in
    let b = and_yes _ _ a.1 in
    let c = and_yes _ _ b.1 in
    let d = and_yes _ _ c.1 in
    let f = and_yes _ _ d.1 in
    let g = and_yes _ _ f.1 in (
      leb-true _ _ a.0,
      leb-true _ _ b.0,
      leb-true _ _ c.0,
      eqb-true _ _ d.0,
      leb-true _ _ f.0,
      eqb-true _ _ g.0,
      ways k.stack k.general k.floating g.1,
    )

possible-tested : (r : CallRules) (hidden : Bool) (k : Counters) → Possible r hidden k → possible r hidden k ≡ true
unfolding possible power_possible z_possible
possible-tested (CallRules.Power f) hidden k h = and_both _ _ (le-leb _ _ h.0) (and_both _ _ (le-leb _ _ h.1) (eq-eqb _ _ h.2))
possible-tested CallRules.Z hidden k h =
    and_both _ _ (le-leb _ _ h.0)
    (and_both _ _ (le-leb _ _ h.1)
    (and_both _ _ (le-leb _ _ h.2)
    (and_both _ _ (eq-eqb _ _ h.3)
    (and_both _ _ (le-leb _ _ h.4) (and_both _ _ (eq-eqb _ _ h.5) (ways-back k.stack k.general k.floating h.6))))))

-- ---- a walker that is not lost

module _ (w : Walker) (e : lost w ≡ false) where
  pub found-possible : Possible (rules_of w.convention) w.hidden w.at
  unfolding lost
  found-possible = tested-possible (rules_of w.convention) w.hidden w.at (and_yes (in_range w.at) _ (not-no _ e)).1

  pub found-small : Small w.at
  unfolding lost in_range
  found-small =
      let a = and_yes _ _ (and_yes (in_range w.at) _ (not-no _ e)).0 in
      let b = and_yes _ _ a.1 in
      record { general = leb-true _ _ a.0; floating = leb-true _ _ b.0; stack = leb-true _ _ b.1 }

pub possible-found : (w : Walker) → Small w.at → Possible (rules_of w.convention) w.hidden w.at → lost w ≡ false
unfolding lost in_range
possible-found w s h =
    ap not
    (and_both _ _ (and_both _ _ (le-leb _ _ s.general) (and_both _ _ (le-leb _ _ s.floating) (le-leb _ _ s.stack)))
    (possible-tested (rules_of w.convention) w.hidden w.at h))

-- the theorem
pub lost-exactly : (w : Walker) → LostExactly w
lost-exactly w = record { small = found-small w; led = led; found = found }
  where
    led : lost w ≡ false → Led w
    led e =
        let p = found-possible w e in
        let l = rules-lawful w.convention in
        let t = possible-led w.convention (rules_of w.convention) w.hidden w.at l p in
        record {
          arguments = t.arguments;
          within = t.within;
          last = ap (counters_of (rules_of w.convention)) t.last ∙ counters-back (rules_of w.convention) w.hidden w.at l p;
        }

    found : Small w.at → Led w → lost w ≡ false
    found s t =
        let r = rules_of w.convention in
        let l = rules-lawful w.convention in
        let typed = all_typed w.convention t.arguments (all-within-sized w.convention t.arguments t.within) in
        let reached = reached-last w.convention r w.hidden (start_of r w.hidden) (types_of w.convention t.arguments) l typed (reached-start r w.hidden l) in
        possible-found w s (subst (Possible r w.hidden) t.last (reached-possible r w.hidden _ l reached))
