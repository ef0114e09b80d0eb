-- By what was read of the signature. Assumes nothing.
use Rattle.sig_signatures.specs.Read.{signature_of}
use mathlib.Core.Path.{◌∙◌}
use Rattle.call_walking.proofs.Items.{start-refused, start-accepted}
use Rattle.call_walking.proofs.start.Goals as goal

pub returns-in-Err : goal.returns-in-Err
returns-in-Err c = let told = start-refused (signature_of c.args.sig.now) c.read_signature-g.result c.args.words.now c.read_signature-g.ensures _ c.in-Err.is in record {
  value = told.0;
  words_after = told.1;
}

pub returns-in-Ok : goal.returns-in-Ok
returns-in-Ok c = let e = start-accepted (signature_of c.args.sig.now) c.read_signature-g.result c.args.words.now c.read_signature-g.ensures _ c.in-Ok.is _ c.walker_of-w.ensures in record {
  value = e.0;
  words_after = c.put_walker.ensures ∙ e.1;
}
