-- No address of the memory wraps. Assumes nothing.
use Rattle.std.proofs.Common.{arith, sym, ◌∙◌}
use Rattle.frame_machine.proofs.States.{memory-yes}
use Rattle.frame_rules.proofs.Places.{limit-64}
use Rattle.frame_state_checks.proofs.state_ok.Goals as goal

pub overflow_add-end : goal.overflow_add-end
overflow_add-end c = omega (arith, memory-yes c.args.k c.args.s.base c.args.s.size (sym c.memory_ok.ensures ∙ c.if-not-memory_ok.false), limit-64 c.args.k c.requires)

pub overflow_add-s : goal.overflow_add-s
overflow_add-s c = omega (arith, memory-yes c.args.k c.args.s.base c.args.s.size (sym c.memory_ok.ensures ∙ c.if-not-memory_ok.false), limit-64 c.args.k c.requires)
