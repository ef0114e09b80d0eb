-- What was found on the way, in the words of the definitions, tells each answer. Assumes nothing.
use mathlib.Core.Path.{sym, ap, ◌∙◌}
use lib.ListN.{length}
use Rattle.call_walker.specs.Words.{WalkerOutcome}
use Rattle.call_walker.proofs.Exactly.{found-small}
use Rattle.call_walking.proofs.Went.{Went, went-roomy, went-lawful, went-size, went-offset, went-unclear, went-countable, went-ready, went-readable, went-value, went-lengths, went-answer, went-done}
use Rattle.call_walking.proofs.step.Goals as goal

pub local_cursor-d-requires : goal.local_cursor-d-requires
local_cursor-d-requires c = found-small c.args.w c.requires.0

pub unclear_for-requires : goal.unclear_for-requires
unclear_for-requires c = let g : Went c.args.w c.args.t c.call_rules_of-plain.result c.rules_in-r.result c.local_cursor-d.result c.size_of-n.result = record { plain-is = c.call_rules_of-plain.ensures; rules-is = c.rules_in-r.ensures; cursor-is = c.local_cursor-d.ensures; size_is = c.size_of-n.ensures } in went-roomy c.args.w c.args.t c.call_rules_of-plain.result c.rules_in-r.result c.local_cursor-d.result c.size_of-n.result g c.args.base c.args.image.now c.args.area.now c.args.copies.now c.requires.0 c.requires.1

pub returns-then-unclear_for : goal.returns-then-unclear_for
returns-then-unclear_for c = let g : Went c.args.w c.args.t c.call_rules_of-plain.result c.rules_in-r.result c.local_cursor-d.result c.size_of-n.result = record { plain-is = c.call_rules_of-plain.ensures; rules-is = c.rules_in-r.ensures; cursor-is = c.local_cursor-d.ensures; size_is = c.size_of-n.ensures } in let E = went-unclear c.args.w c.args.t c.call_rules_of-plain.result c.rules_in-r.result c.local_cursor-d.result c.size_of-n.result g c.args.base c.args.image.now c.args.area.now c.args.copies.now c.args.words.now c.args.value.now (sym c.unclear_for.ensures ∙ c.if-unclear_for.true) in record {
  value = ap (λ (o : WalkerOutcome). o.answer) E;
  words_after = ap (λ (o : WalkerOutcome). o.words) E;
  value_after = ap (λ (o : WalkerOutcome). o.value) E;
}

pub step-p-requires : goal.step-p-requires
step-p-requires c = let g : Went c.args.w c.args.t c.call_rules_of-plain.result c.rules_in-r.result c.local_cursor-d.result c.size_of-n.result = record { plain-is = c.call_rules_of-plain.ensures; rules-is = c.rules_in-r.ensures; cursor-is = c.local_cursor-d.ensures; size_is = c.size_of-n.ensures } in (went-lawful c.args.w c.args.t c.call_rules_of-plain.result c.rules_in-r.result c.local_cursor-d.result c.size_of-n.result g c.args.base c.args.image.now c.args.area.now c.args.copies.now c.requires.0 c.requires.1, went-roomy c.args.w c.args.t c.call_rules_of-plain.result c.rules_in-r.result c.local_cursor-d.result c.size_of-n.result g c.args.base c.args.image.now c.args.area.now c.args.copies.now c.requires.0 c.requires.1, went-size c.args.w c.args.t c.call_rules_of-plain.result c.rules_in-r.result c.local_cursor-d.result c.size_of-n.result g c.args.base c.args.image.now c.args.area.now c.args.copies.now c.requires.0 c.requires.1)

pub offset_of-requires : goal.offset_of-requires
offset_of-requires c = let g : Went c.args.w c.args.t c.call_rules_of-plain.result c.rules_in-r.result c.local_cursor-d.result c.size_of-n.result = record { plain-is = c.call_rules_of-plain.ensures; rules-is = c.rules_in-r.ensures; cursor-is = c.local_cursor-d.ensures; size_is = c.size_of-n.ensures } in (found-small c.args.w c.requires.0, went-offset c.args.w c.args.t c.call_rules_of-plain.result c.rules_in-r.result c.local_cursor-d.result c.size_of-n.result g c.args.base c.args.image.now c.args.area.now c.args.copies.now c.requires.0 c.requires.1)

pub returns-then-is_err : goal.returns-then-is_err
returns-then-is_err c = let g : Went c.args.w c.args.t c.call_rules_of-plain.result c.rules_in-r.result c.local_cursor-d.result c.size_of-n.result = record { plain-is = c.call_rules_of-plain.ensures; rules-is = c.rules_in-r.ensures; cursor-is = c.local_cursor-d.ensures; size_is = c.size_of-n.ensures } in let E = went-lengths c.args.w c.args.t c.call_rules_of-plain.result c.rules_in-r.result c.local_cursor-d.result c.size_of-n.result g c.args.base c.args.image.now c.args.area.now c.args.copies.now c.step-p.result c.step-p.ensures c.offset_of.result c.min-from.result c.offset_of.ensures c.min-from.ensures (sym c.unclear_for.ensures ∙ c.if-unclear_for.false) c.args.words.now c.args.value.now c.tested-lengths.result c.tested-lengths.ensures (sym c.is_err.ensures.value ∙ c.if-is_err.true) in record {
  value = ap (λ (o : WalkerOutcome). o.answer) E;
  words_after = ap (λ (o : WalkerOutcome). o.words) E;
  value_after = ap (λ (o : WalkerOutcome). o.value) E;
}

pub argument_answer-answer-requires : goal.argument_answer-answer-requires
argument_answer-answer-requires c = let g : Went c.args.w c.args.t c.call_rules_of-plain.result c.rules_in-r.result c.local_cursor-d.result c.size_of-n.result = record { plain-is = c.call_rules_of-plain.ensures; rules-is = c.rules_in-r.ensures; cursor-is = c.local_cursor-d.ensures; size_is = c.size_of-n.ensures } in went-ready c.args.w c.args.t c.call_rules_of-plain.result c.rules_in-r.result c.local_cursor-d.result c.size_of-n.result g c.args.base c.args.image.now c.args.area.now c.args.copies.now c.step-p.result c.step-p.ensures c.offset_of.result c.min-from.result c.offset_of.ensures c.min-from.ensures c.requires.0 c.requires.1 (length c.args.value.now) c.tested-lengths.result c.tested-lengths.ensures (sym c.is_err.ensures.value ∙ c.if-is_err.false)

pub returns-then-is_err-2 : goal.returns-then-is_err-2
returns-then-is_err-2 c = let g : Went c.args.w c.args.t c.call_rules_of-plain.result c.rules_in-r.result c.local_cursor-d.result c.size_of-n.result = record { plain-is = c.call_rules_of-plain.ensures; rules-is = c.rules_in-r.ensures; cursor-is = c.local_cursor-d.ensures; size_is = c.size_of-n.ensures } in let E = went-answer c.args.w c.args.t c.call_rules_of-plain.result c.rules_in-r.result c.local_cursor-d.result c.size_of-n.result g c.args.base c.args.image.now c.args.area.now c.args.copies.now c.step-p.result c.step-p.ensures c.offset_of.result c.min-from.result c.offset_of.ensures c.min-from.ensures (sym c.unclear_for.ensures ∙ c.if-unclear_for.false) c.args.words.now c.args.value.now c.tested-lengths.result c.tested-lengths.ensures (sym c.is_err.ensures.value ∙ c.if-is_err.false) c.argument_answer-answer.result c.argument_answer-answer.ensures (sym c.is_err-2.ensures.value ∙ c.if-is_err-2.true) in record {
  value = ap (λ (o : WalkerOutcome). o.answer) E;
  words_after = ap (λ (o : WalkerOutcome). o.words) E;
  value_after = ap (λ (o : WalkerOutcome). o.value) E;
}

pub take_argument-requires : goal.take_argument-requires
take_argument-requires c = let g : Went c.args.w c.args.t c.call_rules_of-plain.result c.rules_in-r.result c.local_cursor-d.result c.size_of-n.result = record { plain-is = c.call_rules_of-plain.ensures; rules-is = c.rules_in-r.ensures; cursor-is = c.local_cursor-d.ensures; size_is = c.size_of-n.ensures } in let rest = (sym c.is_err.ensures.value ∙ c.if-is_err.false) in (went-readable c.args.w c.args.t c.call_rules_of-plain.result c.rules_in-r.result c.local_cursor-d.result c.size_of-n.result g c.args.base c.args.image.now c.args.area.now c.args.copies.now c.step-p.result c.step-p.ensures c.offset_of.result c.min-from.result c.offset_of.ensures c.min-from.ensures c.requires.0 c.requires.1 (length c.args.value.now) c.tested-lengths.result c.tested-lengths.ensures rest c.argument_answer-answer.result c.argument_answer-answer.ensures (sym c.is_err-2.ensures.value ∙ c.if-is_err-2.false), went-value c.args.w c.args.t c.call_rules_of-plain.result c.rules_in-r.result c.local_cursor-d.result c.size_of-n.result g c.args.base c.args.image.now c.args.area.now c.args.copies.now c.step-p.result c.step-p.ensures c.offset_of.result c.min-from.result c.offset_of.ensures c.min-from.ensures c.requires.0 c.requires.1 (length c.args.value.now) c.tested-lengths.result c.tested-lengths.ensures rest)

pub counters_after-at-requires : goal.counters_after-at-requires
counters_after-at-requires c = let g : Went c.args.w c.args.t c.call_rules_of-plain.result c.rules_in-r.result c.local_cursor-d.result c.size_of-n.result = record { plain-is = c.call_rules_of-plain.ensures; rules-is = c.rules_in-r.ensures; cursor-is = c.local_cursor-d.ensures; size_is = c.size_of-n.ensures } in (found-small c.args.w c.requires.0, went-countable c.args.w c.args.t c.call_rules_of-plain.result c.rules_in-r.result c.local_cursor-d.result c.size_of-n.result g c.args.base c.args.image.now c.args.area.now c.args.copies.now c.step-p.result c.step-p.ensures c.offset_of.result c.min-from.result c.offset_of.ensures c.min-from.ensures c.requires.0 c.requires.1)

pub returns : goal.returns
returns c = let g : Went c.args.w c.args.t c.call_rules_of-plain.result c.rules_in-r.result c.local_cursor-d.result c.size_of-n.result = record { plain-is = c.call_rules_of-plain.ensures; rules-is = c.rules_in-r.ensures; cursor-is = c.local_cursor-d.ensures; size_is = c.size_of-n.ensures } in let E = went-done c.args.w c.args.t c.call_rules_of-plain.result c.rules_in-r.result c.local_cursor-d.result c.size_of-n.result g c.args.base c.args.image.now c.args.area.now c.args.copies.now c.step-p.result c.step-p.ensures c.offset_of.result c.min-from.result c.offset_of.ensures c.min-from.ensures (sym c.unclear_for.ensures ∙ c.if-unclear_for.false) c.args.words.now c.args.value.now c.tested-lengths.result c.tested-lengths.ensures (sym c.is_err.ensures.value ∙ c.if-is_err.false) c.argument_answer-answer.result c.argument_answer-answer.ensures c.requires.0 c.requires.1 (sym c.is_err-2.ensures.value ∙ c.if-is_err-2.false) c.counters_after-at.result c.counters_after-at.ensures in record {
  value = ap (λ (o : WalkerOutcome). o.answer) E;
  words_after = c.put_walker.ensures ∙ ap (λ (o : WalkerOutcome). o.words) E;
  value_after = c.take_argument.ensures ∙ ap (λ (o : WalkerOutcome). o.value) E;
}
