-- Only FPRs are tested, and of these only a single's.
use mathlib.Core.Path.{◌∙◌}
use Prim.Native.Nat.{◌+◌, ◌*◌}
use Rattle.sig_types.specs.Sizes.{equivalent_of}
use Rattle.call_slots.proofs.Limits.{answer-first}
use borrow.Author.Tests.{lt-ltb, le-ltb}
use Rattle.call_home_slot.specs.Homes.{register_answer}
use Rattle.call_home_slot.proofs.register_answer.Goals as goal

pub returns-then-floating-gt0 : goal.returns-then-floating-gt0
unfolding register_answer
returns-then-floating-gt0 c =
    let sized = c.requires.2 c.if-floating-gt0.true in
    simp (lt-ltb _ _ c.if-floating-gt0.true)
    (c.float_answer.ensures
    ∙ rw (c.equivalent_of.ensures, c.load-x.ensures)
    (answer-first c.args.r (equivalent_of c.args.t) c.args.s.floating.count sized.0 (256 + 8 * c.args.s.floating.first) c.args.image.now sized.1))

pub returns : goal.returns
unfolding register_answer
returns c = simp (le-ltb _ _ c.if-floating-gt0.false)
