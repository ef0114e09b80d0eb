-- The definition's tests in their order; the header is compared with a difference, which cannot wrap. Assumes nothing.
use Rattle.frame_dump.specs.Walk.{ok_address}
use borrow.Author.Tests.{lt-leb, le-leb, eq-eqb, ne_eqb}
use Prim.Native.Nat.{◌+◌, ◌%◌}
use native.Mathlib.Omega.{arith}
use Rattle.frame_dump_walk.proofs.address_ok.Goals as goal

pub nonzero_rem-a : goal.nonzero_rem-a
nonzero_rem-a c = omega (arith, c.requires.0.some)

pub returns-then-a-k-ne0 : goal.returns-then-a-k-ne0
unfolding ok_address
returns-then-a-k-ne0 c = rw (ne_eqb (c.args.a % c.args.k.alignment) 0 (λ e. c.if-a-k-ne0.true e))

pub returns-then-a-base : goal.returns-then-a-base
unfolding ok_address
returns-then-a-base c = rw (eq-eqb (c.args.a % c.args.k.alignment) 0 c.if-a-k-ne0.false, lt-leb c.args.base c.args.a c.if-a-base.true)

pub overflow_add-end : goal.overflow_add-end
overflow_add-end c = omega (arith, c.requires.1)

pub returns-then-end-a : goal.returns-then-end-a
unfolding ok_address
returns-then-end-a c =
    rw (
      eq-eqb (c.args.a % c.args.k.alignment) 0 c.if-a-k-ne0.false,
      le-leb c.args.base c.args.a c.if-a-base.false,
      lt-leb (c.args.a + c.args.k.header) (c.args.base + c.args.n) (omega (arith, c.if-end-a.true)),
    )

pub returns-then-end-a-2 : goal.returns-then-end-a-2
unfolding ok_address
returns-then-end-a-2 c =
    rw (
      eq-eqb (c.args.a % c.args.k.alignment) 0 c.if-a-k-ne0.false,
      le-leb c.args.base c.args.a c.if-a-base.false,
      lt-leb (c.args.a + c.args.k.header) (c.args.base + c.args.n) (omega (arith, c.if-end-a-2.true, c.if-end-a.false)),
    )

pub returns : goal.returns
unfolding ok_address
returns c =
    rw (
      eq-eqb (c.args.a % c.args.k.alignment) 0 c.if-a-k-ne0.false,
      le-leb c.args.base c.args.a c.if-a-base.false,
      le-leb (c.args.a + c.args.k.header) (c.args.base + c.args.n) (omega (arith, c.if-end-a-2.false, c.if-end-a.false)),
    )
