-- What tests say of two tests joined, of one turned round, and of a choice by one; a test as a number. Assumes nothing.
use mathlib.Core.Path.{◌≡◌, refl, sym}
use mathlib.Core.Logic.{◌⊎◌, inl, inr}
use mathlib.Core.Bool.{Bool, true, false, not, ◌&&◌, ◌||◌, false≢true}
use Prim.Native.Nat.{◌≤◌}
use native.Mathlib.Omega.{arith}
use borrow.Author.Tests.{le-leb}
use lib.Dec.{leb, eqb}
use Rattle.base_words.specs.Basics.{pick, flag}

-- by cases on a test
pub either : {A : Type 0} (b : Bool) → (b ≡ true → A) → (b ≡ false → A) → A
either true t f = t refl
either false t f = f refl

pub not_yes : (b : Bool) → not b ≡ true → b ≡ false
not_yes true e = absurd (false≢true e)
not_yes false e = refl

pub not-no : (b : Bool) → not b ≡ false → b ≡ true
not-no true e = refl
not-no false e = sym e

-- of a choice: what holds in each case of its test
pub by-pick : {A : Type 0} (G : A → Type 0) (b : Bool) (x y : A) → (b ≡ true → G x) → (b ≡ false → G y) → G (pick b x y)
by-pick G true x y f g = f refl
by-pick G false x y f g = g refl

-- both

pub and_yes : (a b : Bool) → (a && b) ≡ true → (a ≡ true) × (b ≡ true)
and_yes true b e = (refl, e)
and_yes false b e = absurd (false≢true e)

pub and_both : (a b : Bool) → a ≡ true → b ≡ true → (a && b) ≡ true
and_both a b x y = rw (x, y)

pub and_no : (b : Bool) → (b && false) ≡ false
and_no true = refl
and_no false = refl

-- as a number

pub flag-le : (b : Bool) → flag b ≤ 1
flag-le true = omega arith
flag-le false = omega arith

pub flag-leb : (b : Bool) → leb (flag b) 1 ≡ true
flag-leb b = le-leb (flag b) 1 (flag-le b)

pub flag-eqb : (b : Bool) → eqb (flag b) 1 ≡ b
flag-eqb true = refl
flag-eqb false = refl

pub flag-pick : (b : Bool) → flag b ≡ pick b 1 0
flag-pick true = refl
flag-pick false = refl

-- one at least

pub or_yes : (a b : Bool) → (a || b) ≡ true → (a ≡ true) ⊎ (b ≡ true)
or_yes true b e = inl refl
or_yes false b e = inr e

pub or_left : (a b : Bool) → a ≡ true → (a || b) ≡ true
or_left a b e = rw e

pub or_right : (a b : Bool) → b ≡ true → (a || b) ≡ true
or_right true b e = refl
or_right false b e = e

pub or-false : (b : Bool) → (b || false) ≡ b
or-false true = refl
or-false false = refl
