-- Doublewords are plain bytes (the law `spread-plain`); smaller words go one by one.
use mathlib.Core.Path.{◌≡◌, sym, ap, subst, ◌∙◌}
use mathlib.Core.List.{◌++◌}
use Prim.Native.Nat.{ℕ, ◌-◌, ◌*◌}
use native.Mathlib.Omega.{arith}
use lib.ListN.{length, replicate}
use Rattle.base_words.specs.Splice.{overlay}
use Rattle.call_registers.specs.Registers.{spread}
use Rattle.call_registers.specs.Helpers.{RegistersTake}
use Rattle.call_registers.proofs.Registers.{spread-plain}
use Rattle.call_registers.proofs.put_registers.Goals as goal

-- what is asked, of doublewords
plain : (w k n i : ℕ) → w ≡ 8 → RegistersTake w k n i → RegistersTake 8 k n i
plain w k n i e h = subst (λ (x : ℕ). RegistersTake x k n i) e h

pub overflow_sub-count : goal.overflow_sub-count
overflow_sub-count c = (plain _ _ _ _ c.if-word-eq8.true c.requires).2

pub put_padded-requires : goal.put_padded-requires
put_padded-requires c = omega (arith, plain _ _ _ _ c.if-word-eq8.true c.requires)

pub returns-then-word-eq8 : goal.returns-then-word-eq8
returns-then-word-eq8 c =
    c.put_padded.ensures
    ∙ ap (overlay c.args.s.now) (sym (spread-plain c.args.count c.args.v.now (plain _ _ _ _ c.if-word-eq8.true c.requires).2))
    ∙ ap (λ (w : ℕ). overlay c.args.s.now (spread w c.args.count (c.args.v.now ++ replicate (w * c.args.count - length c.args.v.now) 0))) (sym c.if-word-eq8.true)
