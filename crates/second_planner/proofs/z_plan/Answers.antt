-- Each part is the definition's.
use Rattle.second_planner.specs.Answer.{z_plan}
use Rattle.sig_signatures.proofs.Types.{length_types}
use Rattle.second_planner.proofs.z_plan.Goals as goal

pub returns : goal.returns
unfolding z_plan
returns c =
    let many = length_types c.args.g.count c.args.g.arguments c.requires.room in
    rw (c.scan_all-s.ensures, c.z_hidden.ensures, c.values_in.ensures, c.z_returned.ensures, many)
