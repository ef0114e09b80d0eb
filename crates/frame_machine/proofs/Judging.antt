-- The laws of a list of tests: all hold where the call is accepted, and a list goes on with the next where it is. Assumes nothing.
use mathlib.Core.Path.{◌≡◌, refl, sym}
use mathlib.Core.Bool.{Bool, true, false}
use mathlib.Core.List.{List, [], ◌∷◌, ◌++◌}
use native.Mathlib.Omega.{arith}
use Prim.Native.Nat.{ℕ}
use Rattle.base_words.specs.Basics.{pick}
use Rattle.frame_machine.specs.Answers.{FrameRefusal, FrameAnswer, Requirement, judge}
use Rattle.std.specs.Prelude.{Ok, Err}

pub never : {A : Type 0} (r : FrameRefusal) → ◌≡◌ {A = FrameAnswer} (Err r) (Ok tt) → A
never r e = let z : ◌≡◌ {A = ℕ} 0 1 = cc in absurd (omega arith)

-- one test
pub holds-yes : (t : Requirement) (ts : List Requirement) → judge (t ∷ ts) ≡ Ok tt → (t.holds ≡ true) × (judge ts ≡ Ok tt)
unfolding judge
holds-yes t ts e = go t.holds e
  where
    go : (b : Bool) → pick b (judge ts) (Err t.refusal) ≡ Ok tt → (b ≡ true) × (judge ts ≡ Ok tt)
    go true e = (refl, e)
    go false e = never t.refusal e

-- two lists of tests
pub judge-next : (a b : List Requirement) → judge a ≡ Ok tt → judge (a ++ b) ≡ judge b
unfolding judge
judge-next [] b e = refl
judge-next (t ∷ a) b e = let y = holds-yes t a e in rw y.0 (judge-next a b y.1)

pub judge-stops : (a b : List Requirement) (r : FrameRefusal) → judge a ≡ Err r → judge (a ++ b) ≡ Err r
unfolding judge
judge-stops [] b r e = never r (sym e)
judge-stops (t ∷ a) b r e = go t.holds (λ y. judge-stops a b r y) e
  where
    go : (y : Bool) → (judge a ≡ Err r → judge (a ++ b) ≡ Err r) → pick y (judge a) (Err t.refusal) ≡ Err r
        → pick y (judge (a ++ b)) (Err t.refusal) ≡ Err r
    go true next e = next e
    go false next e = e

pub judge-both : (a b : List Requirement) → judge (a ++ b) ≡ Ok tt → (judge a ≡ Ok tt) × (judge b ≡ Ok tt)
unfolding judge
judge-both [] b e = (refl, e)
judge-both (t ∷ a) b e = let y = holds-yes t (a ++ b) e in let z = judge-both a b y.1 in (rw y.0 z.0, z.1)
