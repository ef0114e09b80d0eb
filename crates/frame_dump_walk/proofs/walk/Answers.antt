-- The sum is tested first; then what the count says is what the walk gives, and only frames that fit are put. Assumes nothing.
use Rattle.std.proofs.Common.{Ok, Err}
use Rattle.std.proofs.lemmas.Result.{err_from_is_err_and}
use Rattle.frame_dump.specs.Walk.{walk_from, max_frames}
use Rattle.frame_dump.proofs.Laws.{into-over, into-refused, into-short, into-frames, counted-length}
use lib.ListN.{length}
use Prim.Native.Nat.{◌+◌, ◌-◌, ◌^◌, ◌≤◌}
use native.Mathlib.Omega.{arith}
use mathlib.Core.Path.{sym, ap, ◌∙◌}
use Rattle.frame_dump_walk.proofs.walk.Goals as goal

pub returns-then-length-base : goal.returns-then-length-base
returns-then-length-base c =
    let e = into-over c.args.k c.args.base c.args.memory.now c.args.pointer (length c.args.list.now) (omega (arith, c.if-length-base.true)) in
    record {
      value = rw e;
      list_after = rw e;
    }

pub count-requires : goal.count-requires
count-requires c = (c.requires, omega (arith, c.if-length-base.false))

pub returns-then-list-n : goal.returns-then-list-n
returns-then-list-n c =
    let bound : c.args.base + length c.args.memory.now ≤ 2 ^ 64 - 1 = omega (arith, c.if-length-base.false) in
    let e = into-short c.args.k c.args.base c.args.memory.now c.args.pointer (length c.args.list.now) bound _ (sym c.count.ensures ∙ c.in_ok-n.was) c.if-list-n.true in
    record {
      value = rw e;
      list_after = rw e;
    }

pub put-requires : goal.put-requires
put-requires c = record {
  lawful_frames = (c.requires, omega (arith, c.if-length-base.false), omega arith);
  pointer_value = sym c.count.ensures ∙ c.in_ok-n.was;
}

pub returns-in_err-n : goal.returns-in_err-n
returns-in_err-n c =
    let (y, is, same) = err_from_is_err_and c.from_residual.result c.from_residual.ensures.1 in
    let bound : c.args.base + length c.args.memory.now ≤ 2 ^ 64 - 1 = omega (arith, c.if-length-base.false) in
    let e = into-refused c.args.k c.args.base c.args.memory.now c.args.pointer (length c.args.list.now) bound _ (sym c.count.ensures ∙ c.in_err-n.was) in
    record {
      value = rw e (is ∙ ap Err same);
      list_after = rw e;
    }

pub returns : goal.returns
returns c =
    let bound : c.args.base + length c.args.memory.now ≤ 2 ^ 64 - 1 = omega (arith, c.if-length-base.false) in
    let count = sym c.count.ensures ∙ c.in_ok-n.was in
    let e = into-frames c.args.k c.args.base c.args.memory.now c.args.pointer (length c.args.list.now) bound _ count c.if-list-n.false in
    let size = counted-length (walk_from max_frames c.args.k c.args.base c.args.memory.now 0 c.args.pointer) _ count in
    record {
      value = rw e (ap Ok (omega (arith, size)));
      list_after = rw e c.put.ensures;
    }
