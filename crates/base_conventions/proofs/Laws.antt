-- The laws of the conventions' numbers: a word's bounds, and that codes and conventions go back and forth. Assumes nothing.
use Rattle.base_conventions.specs.declared.UnknownConvention.{UnknownConvention}
use Rattle.std.proofs.Common.{Ok, Err, Result}
use Prim.Native.Nat.{ℕ, ◌≤◌, ◌<◌}
use mathlib.Core.Path.{◌≡◌, refl}
use mathlib.Core.Bool.{Bool, true, false}
use native.Mathlib.Omega.{arith}
use lib.Dec.{eqb}
use borrow.Author.Tests.{eqb-true}
use Rattle.base_words.specs.Basics.{pick}
use Rattle.base_conventions.specs.declared.Convention.{Convention}
use Rattle.base_conventions.specs.Numbers.{word_bytes, code_of, convention_code}

pub word-bounds : (c : Convention) → (4 ≤ word_bytes c) × (word_bytes c ≤ 8)
word-bounds Convention.Ppc64 = omega arith
word-bounds Convention.Z = omega arith
word-bounds Convention.Aix = omega arith
word-bounds Convention.Ppc64b = omega arith

-- a code is a byte
pub code-byte : (c : Convention) → code_of c < 256
code-byte Convention.Ppc64 = omega arith
code-byte Convention.Z = omega arith
code-byte Convention.Aix = omega arith
code-byte Convention.Ppc64b = omega arith

-- the code of a convention is read as it
pub code-back : (c : Convention) → convention_code (code_of c) ≡ Ok c
unfolding convention_code
code-back Convention.Ppc64 = refl
code-back Convention.Z = refl
code-back Convention.Aix = refl
code-back Convention.Ppc64b = refl

-- what is read as a convention is its code
abbrev pub CodeIs : ℕ → Result Convention UnknownConvention → Type 0
CodeIs x (Ok c) = x ≡ code_of c
CodeIs x (Err _) = Unit {0}

by-test : (P : Result Convention UnknownConvention → Type 0) (b : Bool) (x y : Result Convention UnknownConvention) → (b ≡ true → P x) → P y → P (pick b x y)
by-test P true x y f g = f refl
by-test P false x y f g = g

pub code_is : (x : ℕ) → CodeIs x (convention_code x)
unfolding convention_code
code_is x =
    by-test (CodeIs x) (eqb x (code_of Convention.Ppc64)) _ _ (eqb-true x (code_of Convention.Ppc64))
    (by-test (CodeIs x) (eqb x (code_of Convention.Z)) _ _ (eqb-true x (code_of Convention.Z))
    (by-test (CodeIs x) (eqb x (code_of Convention.Aix)) _ _ (eqb-true x (code_of Convention.Aix))
    (by-test (CodeIs x) (eqb x (code_of Convention.Ppc64b)) _ _ (eqb-true x (code_of Convention.Ppc64b)) tt)))
