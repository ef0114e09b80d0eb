-- Doublewords are plain bytes (the law `gather-plain`); smaller words go one by one.
use mathlib.Core.Path.{◌≡◌, sym, ap, subst, ◌∙◌}
use Prim.Native.Nat.{ℕ, ◌*◌}
use native.Mathlib.Omega.{arith}
use Rattle.base_words.specs.Splice.{overlay, part}
use Rattle.call_registers.specs.Registers.{gather}
use Rattle.call_registers.specs.Helpers.{RegistersHold}
use Rattle.call_registers.proofs.Registers.{gather-plain}
use Rattle.call_registers.proofs.take_registers.Goals as goal

-- what is asked, of doublewords
plain : (w first k lo n i : ℕ) → w ≡ 8 → RegistersHold w first k lo n i → RegistersHold 8 first k lo n i
plain w first k lo n i e h = subst (λ (x : ℕ). RegistersHold x first k lo n i) e h

pub take_part-requires : goal.take_part-requires
take_part-requires c =
    (omega (arith, plain _ _ _ _ _ _ c.if-word-eq8.true c.requires.0), c.requires.1)

pub returns-then-word-eq8 : goal.returns-then-word-eq8
returns-then-word-eq8 c =
    c.take_part.ensures
    ∙ ap (overlay c.args.out.now) (sym (gather-plain c.args.first c.args.count c.args.lo c.args.n c.args.image.now (plain _ _ _ _ _ _ c.if-word-eq8.true c.requires.0).3))
    ∙ ap (λ (w : ℕ). overlay c.args.out.now (part c.args.lo c.args.n (gather w c.args.count (part (8 * c.args.first) (8 * c.args.count) c.args.image.now)))) (sym c.if-word-eq8.true)
