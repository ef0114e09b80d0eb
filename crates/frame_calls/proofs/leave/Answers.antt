-- The answer decides: a refused call hands the state back, an accepted one pops the frame. Assumes nothing.
use Rattle.frame_machine.proofs.States.{leave-yes}
use Rattle.frame_machine.proofs.Outcomes.{leave-accepted, leave-refused}
use Rattle.frame_rules.specs.Helpers.{LawfulFrames}
use Rattle.frame_rules.proofs.Conventions.{lawful}
use mathlib.Core.Path.{sym, ◌∙◌}
use Rattle.frame_calls.proofs.leave.Goals as goal

pub judge_leave-requires : goal.judge_leave-requires
judge_leave-requires c =
    rw c.frame_rules_of-k.ensures (lawful c.args.s.convention)

pub pop-requires : goal.pop-requires
pop-requires c =
    let law : LawfulFrames c.frame_rules_of-k.result = rw c.frame_rules_of-k.ensures (lawful c.args.s.convention) in
    (law, leave-yes c.frame_rules_of-k.result c.args.s c.args.memory.now (sym c.in-Ok.ensures))

pub returns-in-Err : goal.returns-in-Err
returns-in-Err c =
    sym (leave-refused c.args.s c.args.memory.now _ (rw c.frame_rules_of-k.ensures at (sym c.in-Err.ensures)))

pub returns-in-Ok : goal.returns-in-Ok
returns-in-Ok c =
    rw (c.pop.ensures, c.frame_rules_of-k.ensures) (sym (leave-accepted c.args.s c.args.memory.now (rw c.frame_rules_of-k.ensures at (sym c.in-Ok.ensures))))
