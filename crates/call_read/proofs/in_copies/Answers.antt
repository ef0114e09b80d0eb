-- The tests in turn, each without a wrap.
use Prim.Native.Nat.{◌+◌, ◌-◌, ◌<◌}
use native.Mathlib.Omega.{arith}
use borrow.Author.Tests.{le-leb, lt-leb}
use Rattle.base_words.proofs.Basics.{leb-sub}
use Rattle.call_read.proofs.in_copies.Goals as goal

pub returns-then-address-base : goal.returns-then-address-base
returns-then-address-base c = simp (lt-leb _ _ c.if-address-base.true)

pub returns-then-length-n : goal.returns-then-length-n
returns-then-length-n c =
    let h : c.args.length < c.args.address - c.args.base + c.args.n = omega (arith, c.if-length-n.true) in
    simp (le-leb _ _ c.if-address-base.false, lt-leb _ _ h)

pub returns : goal.returns
returns c =
    simp (le-leb _ _ c.if-address-base.false) (leb-sub (c.args.address - c.args.base) c.args.n c.args.length c.if-length-n.false)
