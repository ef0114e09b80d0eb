-- The answer decides: a refused call hands the state back, an accepted one stores the register. Assumes nothing.
use Rattle.std.specs.Prelude.{Ok}
use Rattle.frame_machine.specs.declared.State.{State}
use Rattle.frame_rules.proofs.Writing.{writable-named}
use Rattle.frame_machine.proofs.States.{write-register-yes}
use Rattle.frame_machine.proofs.Outcomes.{write-register-accepted, write-register-refused, registers-written}
use Rattle.frame_rules.specs.Frames.{bank_of}
use Rattle.frame_machine.specs.Machine.{top}
use Rattle.frame_rules.specs.Helpers.{LawfulFrames}
use Rattle.frame_rules.proofs.Conventions.{lawful}
use lib.ListN.{length}
use mathlib.Core.Path.{sym, ◌∙◌, ap}
use Rattle.frame_calls.proofs.write_register.Goals as goal

pub judge_write_register-requires : goal.judge_write_register-requires
judge_write_register-requires c =
    rw c.frame_rules_of-k.ensures (lawful c.args.s.convention)

pub with_register-r-requires : goal.with_register-r-requires
with_register-r-requires c =
    let law : LawfulFrames c.frame_rules_of-k.result = rw c.frame_rules_of-k.ensures (lawful c.args.s.convention) in
    rw c.bank_of-b.ensures (writable-named c.frame_rules_of-k.result law (top c.frame_rules_of-k.result c.args.s) (bank_of c.args.bank) c.args.number c.args.value (write-register-yes c.frame_rules_of-k.result c.args.s (length c.args.memory.now) c.args.bank c.args.number c.args.value (sym c.in-Ok.ensures)).1)

pub returns-in-Err : goal.returns-in-Err
returns-in-Err c =
    sym (write-register-refused c.args.s (length c.args.memory.now) c.args.bank c.args.number c.args.value _ (rw c.frame_rules_of-k.ensures at (sym c.in-Err.ensures)))

pub returns-in-Ok : goal.returns-in-Ok
returns-in-Ok c =
    let yes = write-register-accepted c.args.s (length c.args.memory.now) c.args.bank c.args.number c.args.value (rw c.frame_rules_of-k.ensures at (sym c.in-Ok.ensures)) in
    let r = rw c.bank_of-b.ensures at c.with_register-r.ensures in
    ap (λ (t : State). record { answer = Ok tt; state = t }) (registers-written c.args.s c.args.bank c.args.number c.args.value c.with_register-r.result r) ∙ sym yes
