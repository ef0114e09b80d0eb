-- By cases on what the check says, and on what plain filling answers.
use Rattle.std.proofs.Common.{◌≡◌, Ok, Err, Some, None, sym, ap, ◌∙◌}
use Rattle.plan_stored.specs.Stored.{check_answer}
use Rattle.call_fill_stored.specs.FillStored.{stored_fill_answer, stored_fill_buffers, filled_plain}
use Rattle.call_fill_stored.proofs.fill_stored.Goals as goal

pub returns-in-Ok-Some : goal.returns-in-Ok-Some
unfolding stored_fill_answer stored_fill_buffers
returns-in-Ok-Some c =
    let q : check_answer c.args.stored.now c.args.sig.now ≡ Ok (Some c.in-Ok-Some.place) = cc in
    record { value = rw q; copies_after = rw q }

pub returns-in-Err : goal.returns-in-Err
unfolding stored_fill_answer stored_fill_buffers
returns-in-Err c =
    let q = sym c.check_plan.ensures ∙ c.in-Err.is in
    record { value = rw q; copies_after = rw q }

pub returns-in-Ok : goal.returns-in-Ok
unfolding stored_fill_answer stored_fill_buffers
returns-in-Ok c =
    let q : check_answer c.args.stored.now c.args.sig.now ≡ Ok None = cc in
    let f = sym c.fill.ensures.value ∙ c.in-Ok.is in
    record {
      value = rw (q, f);
      copies_after = rw q (rw c.fill.ensures.value at c.fill.ensures.copies_after);
    }

pub returns-in-Err-fill : goal.returns-in-Err-fill
unfolding stored_fill_answer stored_fill_buffers
returns-in-Err-fill c =
    let q : check_answer c.args.stored.now c.args.sig.now ≡ Ok None = cc in
    let f = sym c.fill.ensures.value ∙ c.in-Err-fill.is in
    record {
      value = rw (q, f);
      copies_after = rw q (rw c.fill.ensures.value at c.fill.ensures.copies_after);
    }
