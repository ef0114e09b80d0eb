-- By the call of home.
use mathlib.Core.Path.{ap, ◌∙◌}
use Rattle.call_home.specs.Home.{home_area}
use Rattle.c_call_answers.specs.Calls.{call_answer}
use Rattle.c_homes.proofs.fz_home.Goals as goal
use Rattle.call_slots.specs.Answer.{CallAnswer}

pub returns : goal.returns
returns c = record {
  value = c.answer_of.ensures ∙ ap call_answer c.home-a.ensures.value;
  area_after = c.home-a.ensures.area_after ∙ ap (λ (a : CallAnswer). home_area c.args.sig.now a c.args.image.now c.args.area.now) c.home-a.ensures.value;
}
