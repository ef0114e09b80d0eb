-- Each part in its turn.
use Rattle.plan_text.proofs.Writing.{wrote_then}
use Rattle.plan_listing.specs.Text.{result_text}
use Rattle.plan_listing.proofs.put_result.Goals as goal

pub returns : goal.returns
unfolding result_text
returns c = wrote_then c.put_bytes-a.ensures (wrote_then c.put_result_places-b.ensures.0 c.put_byte.ensures)
