-- By the call of fill.
use mathlib.Core.Path.{ap, ◌∙◌}
use Rattle.call_slots.specs.Buffers.{buffers}
use Rattle.call_fill.specs.Fill.{fill_buffers}
use Rattle.c_call_answers.specs.Calls.{call_answer}
use Rattle.c_fill.proofs.fz_fill.Goals as goal
use Rattle.call_slots.specs.Answer.{CallAnswer}

pub returns : goal.returns
returns c =
    let lent = buffers c.args.image.now c.args.area.now c.args.copies.now in record {
      value = c.answer_of.ensures ∙ ap call_answer c.fill-a.ensures.value;
      copies_after = c.fill-a.ensures.copies_after ∙ ap (λ (a : CallAnswer). fill_buffers c.args.sig.now c.args.values.now c.args.base c.args.hidden a lent) c.fill-a.ensures.value;
    }
