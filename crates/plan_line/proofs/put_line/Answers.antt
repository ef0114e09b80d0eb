-- Each part in its turn.
use Rattle.plan_text.proofs.Writing.{wrote_then}
use Rattle.plan_line.specs.Line.{line_text}
use native.Mathlib.Omega.{arith}
use Rattle.plan_line.proofs.put_line.Goals as goal

pub returns : goal.returns
unfolding line_text
returns c = (
  wrote_then c.put_decimal-a.ensures.0 (wrote_then c.put_registers-b.ensures.0 (wrote_then c.put_memory-m.ensures.0 (wrote_then c.put_offset-o.ensures.0 (wrote_then c.put_reference-e.ensures.0 c.put_byte.ensures)))),
  omega (arith, c.put_decimal-a.ensures.1, c.put_registers-b.ensures.1, c.put_memory-m.ensures.1, c.put_offset-o.ensures.1, c.put_reference-e.ensures.1, c.put_byte.ensures.end),
)
