-- By the call of read.
use mathlib.Core.Path.{ap, ◌∙◌}
use Rattle.call_slots.specs.Buffers.{buffers}
use Rattle.call_read.specs.Read.{read_values}
use Rattle.c_call_answers.specs.Calls.{call_answer}
use Rattle.c_read.proofs.fz_read.Goals as goal
use Rattle.call_slots.specs.Answer.{CallAnswer}

pub returns : goal.returns
returns c =
    let lent = buffers c.args.image.now c.args.area.now c.args.copies.now in record {
      value = c.answer_of.ensures ∙ ap call_answer c.read-a.ensures.value;
      values_after = c.read-a.ensures.values_after ∙ ap (λ (a : CallAnswer). read_values c.args.sig.now c.args.base a lent c.args.values.now) c.read-a.ensures.value;
    }
