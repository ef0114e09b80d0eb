-- By the marks, and then by 23 of the counters. What is known of the first mark is found where it is asked for, so that no answer names its
-- limit. Assumes nothing.
use Prim.Native.Nat.{◌≤◌}
use native.Mathlib.Omega.{arith}
use lib.ListN.{get_or}
use borrow.Author.Tests.{le-leb, lt-leb}
use Rattle.call_walker_words.proofs.walker_by.Goals as goal

pub returns-then-hidden-gt1 : goal.returns-then-hidden-gt1
returns-then-hidden-gt1 c =
    let first : get_or c.args.words.now 1 0 ≤ 1 = omega arith in
    rw (le-leb _ 1 first, lt-leb _ 1 c.if-hidden-gt1.true)

pub returns-then-is_lost : goal.returns-then-is_lost
returns-then-is_lost c =
    let first : get_or c.args.words.now 1 0 ≤ 1 = omega arith in
    rw (le-leb _ 1 first, le-leb _ 1 c.if-hidden-gt1.false, ← c.is_lost.ensures, c.if-is_lost.true)

pub returns : goal.returns
returns c =
    let first : get_or c.args.words.now 1 0 ≤ 1 = omega arith in
    rw (le-leb _ 1 first, le-leb _ 1 c.if-hidden-gt1.false, ← c.is_lost.ensures, c.if-is_lost.false)
