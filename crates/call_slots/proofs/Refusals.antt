-- The laws of tests in order. Assumes nothing.
use mathlib.Core.Path.{◌≡◌, refl, sym, ap, ◌∙◌}
use mathlib.Core.Bool.{Bool, true, false}
use mathlib.Core.List.{List, ◌∷◌}
use Prim.Native.Nat.{ℕ}
use native.Mathlib.Omega.{arith}
use borrow.Author.Tests.{eqb-true}
use lib.Dec.{eqb}
use Rattle.base_words.specs.Basics.{pick}
use Rattle.call_slots.specs.Refusals.{Test, differ, first_of, or_else}
use Rattle.std.proofs.Common.{Ok, Err, is_err, IsErrAnd}
use Rattle.call_slots.specs.declared.CallError.{CallError}
use Rattle.call_slots.specs.Answer.{CallAnswer, call_done, call_refused}

-- where nothing is refused, no test holds
pub first_done : (t : Test) (ts : List Test) → first_of (t ∷ ts) ≡ call_done → (t.holds ≡ false) × (first_of ts ≡ call_done)
unfolding first_of
first_done t ts = go t.holds
  where
    go : (b : Bool) → pick b (call_refused t.reason) (first_of ts) ≡ call_done → (b ≡ false) × (first_of ts ≡ call_done)
    go true e = let z : ◌≡◌ {A = ℕ} 0 1 = cc in absurd (omega arith)
    go false e = (refl, e)

pub differ-false : (m n : ℕ) → differ m n ≡ false → m ≡ n
differ-false m n = go (eqb m n) refl
  where
    go : (b : Bool) → eqb m n ≡ b → pick b false true ≡ false → m ≡ n
    go true q e = eqb-true m n q
    go false q e = let z : ◌≡◌ {A = ℕ} 0 1 = cc in absurd (omega arith)

-- ---- one answer before another

pub or-refused : (a b : CallAnswer) → is_err a ≡ true → or_else a b ≡ a
or-refused (Ok tt) b e = let z : ◌≡◌ {A = ℕ} 0 1 = cc in absurd (omega arith)
or-refused (Err x) b e = refl

pub not-refused : (a : CallAnswer) → is_err a ≡ false → a ≡ call_done
not-refused (Ok tt) e = refl
not-refused (Err x) e = let z : ◌≡◌ {A = ℕ} 0 1 = cc in absurd (omega arith)

pub or-done : (a b : CallAnswer) → or_else a b ≡ call_done → (a ≡ call_done) × (b ≡ call_done)
or-done (Ok tt) b e = (refl, e)
or-done (Err x) b e = let z : ◌≡◌ {A = ℕ} 0 1 = cc in absurd (omega arith)

-- ---- an answer handed on

pub handed : (r : CallAnswer) (e : CallError) → IsErrAnd r (λ x. x ≡ e) → r ≡ Err e
handed (Ok tt) e h = absurd h
handed (Err x) e h = ap Err h

pub handed_on : (r a : CallAnswer) (e : CallError) → IsErrAnd r (λ x. x ≡ e) → a ≡ Err e → r ≡ a
handed_on r a e h q = handed r e h ∙ sym q

pub err-refused : (a : CallAnswer) (e : CallError) → a ≡ Err e → is_err a ≡ true
err-refused a e q = rw q

pub ok-passed : (a : CallAnswer) (u : Unit {0}) → a ≡ Ok u → is_err a ≡ false
ok-passed a u q = rw q

pub ok-done : (a : CallAnswer) (u : Unit {0}) → a ≡ Ok u → a ≡ call_done
ok-done a u q = not-refused a (ok-passed a u q)
