use Rattle.plan_text.proofs.Writing.{wrote-length, wrote_then}
use Rattle.plan_text.proofs.Decimals.{decimal-small, decimal-more, length-decimal}
use native.Mathlib.Omega.{arith}
use mathlib.Core.Path.{ap}
use lib.ListN.{length}
use Rattle.plan_text.proofs.+put_decimal.Goals as goal

pub shape_of-text-then-n-lt10 : goal.shape_of-text-then-n-lt10
shape_of-text-then-n-lt10 t c = wrote-length c.put_byte.ensures

pub returns-then-n-lt10 : goal.returns-then-n-lt10
returns-then-n-lt10 t c = let w = c.put_byte.ensures in (rw (decimal-small c.args.n (omega arith)) w, omega (arith, w.end))

pub put_byte-requires-2 : goal.put_byte-requires-2
put_byte-requires-2 t c = omega (arith, c.put_decimal-next.ensures.1)

pub shape_of-text : goal.shape_of-text
shape_of-text t c = wrote-length (wrote_then c.put_decimal-next.ensures.0 c.put_byte-2.ensures)

pub returns : goal.returns
returns t c =
    let n = c.args.n in
    let w = wrote_then c.put_decimal-next.ensures.0 c.put_byte-2.ensures in
    let more = decimal-more n (omega arith) (omega arith) in
    (rw more w, omega (arith, w.end, length-decimal n, ap length more))
