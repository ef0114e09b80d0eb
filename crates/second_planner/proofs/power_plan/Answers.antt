-- Each part is the definition's; the registers take the table of fields, whose places past the last are not looked at.
use Rattle.sig_signatures.specs.Types.{types_in}
use Rattle.sig_signatures.proofs.Types.{length_types}
use Rattle.second_structure.specs.Structure.{hidden_words, power_hidden}
use Rattle.second_structure.proofs.Turns.{fields-bounded, over-table}
use Rattle.second_planner.specs.Answer.{power_plan, power_parameters}
use Rattle.second_planner.proofs.power_plan.Goals as goal

pub lay_registers-parameters-requires : goal.lay_registers-parameters-requires
lay_registers-parameters-requires c =
    (c.requires.1, c.requires.2, rw c.lay_out-s.ensures.0 (fields-bounded _ _ _ _ (rw c.lay_out-s.ensures.0 at c.lay_out-s.ensures.1)))

pub returns : goal.returns
unfolding power_plan power_parameters
returns c =
    let many = length_types c.args.g.count c.args.g.arguments c.requires.2.room in
    let same = over-table c.args.g.ellipsis c.args.paired c.args.g.convention c.args.word 0 (hidden_words (power_hidden c.args.g.result)) (types_in c.args.g) in
    rw (c.lay_registers-parameters.ensures, c.area_bytes.ensures, c.lay_out-s.ensures.0, c.hidden_words.ensures.0, c.power_hidden-hidden.ensures, c.values_in.ensures, c.power_returned.ensures, many, same)
