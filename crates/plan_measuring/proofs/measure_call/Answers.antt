-- Where the rules are always clear no argument is unclear; else the first one is known, and judged.
use mathlib.Core.Path.{sym, ap, ◌∙◌}
use lib.ListN.{length}
use Rattle.sig_signatures.specs.Read.{arguments_in, signature_of}
use Rattle.plan_places.specs.Helpers.{always_clear}
use Rattle.plan_measuring.proofs.Sizing.{measured-clear, same-measured}
use Rattle.plan_measuring.proofs.measure_call.Goals as goal

pub returns-then-always_clear : goal.returns-then-always_clear
returns-then-always_clear c =
    let clear = sym (ap always_clear c.call_rules_of.ensures) ∙ sym c.always_clear.ensures ∙ c.if-always_clear.true in
    c.measure_plain.ensures
    ∙ measured-clear c.args.convention c.args.returned (length c.args.s.now) (arguments_in c.args.convention c.args.s.now c.args.at c.args.end) _ (signature_of c.args.s.now) clear

pub returns : goal.returns
returns c =
    c.judged.ensures ∙ same-measured (signature_of c.args.s.now) c.measure_arguments-a.ensures.1 c.measure_arguments-a.ensures.0
