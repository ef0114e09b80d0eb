-- Each part in its turn.
use Rattle.plan_text.proofs.Writing.{wrote_then}
use Rattle.plan_listing.specs.Text.{refusal_text}
use Rattle.plan_listing.proofs.put_refusal.Goals as goal

pub returns : goal.returns
unfolding refusal_text
returns c =
    rw (← c.from-number.ensures) (wrote_then c.put_labelled-a.ensures.0 (wrote_then c.put_labelled-b.ensures.0 (wrote_then c.put_labelled-d.ensures.0 c.put_byte.ensures)))
