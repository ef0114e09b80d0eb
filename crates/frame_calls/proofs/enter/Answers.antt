-- The answer decides: a refused call hands back what it was lent, an accepted one pushes the record and saves. Assumes nothing.
use Rattle.frame_machine.proofs.States.{enter-yes}
use Rattle.frame_machine.proofs.Outcomes.{enter-accepted, enter-refused}
use Rattle.frame_rules.specs.Helpers.{LawfulFrames}
use Rattle.frame_rules.proofs.Conventions.{lawful}
use lib.ListN.{length}
use mathlib.Core.Path.{sym, ◌∙◌}
use Rattle.frame_calls.proofs.enter.Goals as goal

pub judge_enter-requires : goal.judge_enter-requires
judge_enter-requires c =
    rw c.frame_rules_of-k.ensures (lawful c.args.s.convention)

pub push-t-requires : goal.push-t-requires
push-t-requires c =
    let law : LawfulFrames c.frame_rules_of-k.result = rw c.frame_rules_of-k.ensures (lawful c.args.s.convention) in
    (law, (enter-yes c.frame_rules_of-k.result c.args.s (length c.args.memory.now) c.args.f (sym c.in-Ok.ensures)).1)

pub save_frame-requires : goal.save_frame-requires
save_frame-requires c =
    let law : LawfulFrames c.frame_rules_of-k.result = rw c.frame_rules_of-k.ensures (lawful c.args.s.convention) in
    let y = enter-yes c.frame_rules_of-k.result c.args.s (length c.args.memory.now) c.args.f (sym c.in-Ok.ensures) in
    (law, y.0, y.1)

pub returns-in-Err : goal.returns-in-Err
returns-in-Err c =
    let e = enter-refused c.args.s c.args.memory.now c.args.f _ (rw c.frame_rules_of-k.ensures at (sym c.in-Err.ensures)) in
    record {
      value = sym e.0;
      memory_after = sym e.1;
    }

pub returns-in-Ok : goal.returns-in-Ok
returns-in-Ok c =
    let e = enter-accepted c.args.s c.args.memory.now c.args.f (rw c.frame_rules_of-k.ensures at (sym c.in-Ok.ensures)) in
    record {
      value = rw (c.push-t.ensures, c.frame_rules_of-k.ensures) (sym e.0);
      memory_after = rw (c.save_frame.ensures, c.frame_rules_of-k.ensures) (sym e.1);
    }
