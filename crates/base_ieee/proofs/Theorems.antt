-- What widening and narrowing are, without their formulas. Assumes nothing.
use mathlib.Core.Path.{◌≡◌, refl, sym, ap, ◌∙◌, subst}
use Prim.Native.Nat.{ℕ}
use Rattle.std.proofs.Common.{Option, Some, None}
use Rattle.base_ieee.specs.Format.{single, double, split}
use Rattle.base_ieee.specs.Widening.{WideningKeeps, WidenExactly}
use Rattle.base_ieee.specs.Narrowing.{narrow, WidensTo, NarrowExactly}
use Rattle.base_ieee.proofs.Fields.{split-fits}
use Rattle.base_ieee.proofs.Values.{widen_keeps}
use Rattle.base_ieee.proofs.Laws.{split-widen, narrow-widen, widen-narrow, not_widened}

-- Widening keeps the sign, a number's value, and the fraction of an infinity or a NaN: "widened bit for bit, never
-- quieted" of document 01.
pub widen-exactly : (x : ℕ) → WidenExactly x
widen-exactly x =
    subst (WideningKeeps single double (split single x)) (sym (split-widen x)) (widen_keeps (split single x) (split-fits single x))

-- What narrowing accepts is exactly the widened singles: document 01's refusal 14 is given exactly when the 64 bits are
-- no widened single.
pub narrow-exactly : (d : ℕ) → NarrowExactly d
narrow-exactly d = record {
  accepts = λ x. (widen-narrow d x, λ w. ap narrow (sym w.1) ∙ narrow-widen x w.0);
  refuses = (not_widened d, λ none. only-refused none (narrow d) refl);
}
  where
    only-refused : ((x : ℕ) → WidensTo x d → ⊥) → (n : Option ℕ) → narrow d ≡ n → narrow d ≡ None
    only-refused none (Some x) e = absurd (none x (widen-narrow d x e))
    only-refused none None e = e
