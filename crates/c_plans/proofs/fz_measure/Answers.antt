-- By the outcome.
use Rattle.c_plans.proofs.Laws.{accepted-sizes, refused-sizes}
use Rattle.c_plans.proofs.fz_measure.Goals as goal

pub returns-in-Ok : goal.returns-in-Ok
returns-in-Ok c = accepted-sizes _ _ c.measure-m.ensures _ c.in-Ok.is

pub returns-in-Err : goal.returns-in-Err
returns-in-Err c = refused-sizes _ _ c.measure-m.ensures _ c.in-Err.is _ c.fault_answer.ensures
