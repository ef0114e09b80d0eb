-- The length, then the code, then where a long double stands.
use Rattle.sig_types.specs.Codes.{float_code, unknown_code}
use Rattle.std.proofs.Common.{Ok, Err, ◌+◌, get_or}
use mathlib.Core.Path.{◌≡◌, sym, ap, ◌∙◌}
use mathlib.Core.Bool.{true, false}
use native.Mathlib.Omega.{arith}
use borrow.Author.Tests.{lt-ltb, le-ltb}
use Rattle.sig_types.specs.declared.FloatFormat.{FloatFormat}
use Rattle.sig_items.proofs.Laws.{float-length, float-by, long-double-by}
use Rattle.sig_nested_items.proofs.read_float.Goals as goal

pub returns-then-end-at-ne4 : goal.returns-then-end-at-ne4
returns-then-end-at-ne4 c = ap Err c.fault_here.ensures ∙ sym (float-length _ _ _ _ _ (omega arith))

pub returns-in-Ok-Single : goal.returns-in-Ok-Single
returns-in-Ok-Single c =
    let code : Ok FloatFormat.Single ≡ float_code (get_or c.args.s.now (c.args.at + 3) 0) = cc in
    c.float_item.ensures ∙ sym (float-by _ _ _ _ _ (omega arith) (Ok FloatFormat.Single) code)

pub returns-in-Ok-Double : goal.returns-in-Ok-Double
returns-in-Ok-Double c =
    let code : Ok FloatFormat.Double ≡ float_code (get_or c.args.s.now (c.args.at + 3) 0) = cc in
    c.float_item-in-Ok-Double.ensures ∙ sym (float-by _ _ _ _ _ (omega arith) (Ok FloatFormat.Double) code)

pub returns-then-depth-lt-MAX_DEPTH : goal.returns-then-depth-lt-MAX_DEPTH
returns-then-depth-lt-MAX_DEPTH c =
    let code : Ok FloatFormat.LongDouble ≡ float_code (get_or c.args.s.now (c.args.at + 3) 0) = cc in
    ap Err c.fault_here-then-depth-lt-MAX_DEPTH.ensures ∙ sym (long-double-by _ _ _ _ _ (omega arith) code true (lt-ltb _ _ c.if-depth-lt-MAX_DEPTH.true))

pub returns-else-depth-lt-MAX_DEPTH : goal.returns-else-depth-lt-MAX_DEPTH
returns-else-depth-lt-MAX_DEPTH c =
    let code : Ok FloatFormat.LongDouble ≡ float_code (get_or c.args.s.now (c.args.at + 3) 0) = cc in
    let outside = le-ltb _ _ c.if-depth-lt-MAX_DEPTH.false in
    rw outside at c.float_item-else-depth-lt-MAX_DEPTH.ensures ∙ sym (long-double-by _ _ _ _ _ (omega arith) code false outside)

pub returns-in-Err : goal.returns-in-Err
returns-in-Err c = ap Err c.fault_here-in-Err.ensures ∙ sym (float-by _ _ _ _ _ (omega arith) (Err unknown_code) (sym c.in-Err.is ∙ c.try_from.ensures))
