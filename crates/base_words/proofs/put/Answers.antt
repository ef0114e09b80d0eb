-- A turn puts one byte more; the last one leaves them all.
use Rattle.std.proofs.Common.{ℕ, List, ◌≡◌, ◌+◌, ◌<◌, length, take, set, get_or, refl, sym, ap, ◌∙◌, arith}
use native.Mathlib.Numerals.{add-one}
use lib.Seq.{take-suc}
use Rattle.std.proofs.lemmas.List.{length-take-le, take_all}
use Rattle.base_words.specs.Splice.{overlay}
use Rattle.base_words.proofs.Splices.{overlay-more, length-overlay}
use Rattle.base_words.proofs.put.Goals as goal

-- a turn
more : (l bs : List ℕ) (i : ℕ) → i < length bs → set (overlay l (take i bs)) i (get_or bs i 0) ≡ overlay l (take (i + 1) bs)
more l bs i h = rw (add-one i, take-suc bs i 0 h) (sym (overlay-more l (take i bs) (get_or bs i 0) i (length-take-le i bs (omega arith))))

pub loop-i-init : goal.loop-i-init
unfolding overlay
loop-i-init c = refl

pub bounds-s-i : goal.bounds-s-i
bounds-s-i c = let same = ap length c.loop-i.invariant ∙ length-overlay _ _ in omega arith

pub loop-i-preserved : goal.loop-i-preserved
loop-i-preserved c =
    ap (λ (l : List ℕ). set l c.loop-i.i (get_or c.args.bs.now c.loop-i.i 0)) c.loop-i.invariant ∙ more c.args.s.now c.args.bs.now c.loop-i.i (omega arith)

pub returns : goal.returns
returns c = c.loop-i.invariant ∙ ap (overlay c.args.s.now) (take_all c.loop-i.i c.args.bs.now (omega arith))
