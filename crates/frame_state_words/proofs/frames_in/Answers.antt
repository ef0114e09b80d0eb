-- One record more, and at the end all 32. Assumes nothing.
use Rattle.std.proofs.Common.{◌≡◌, ℕ, sym, ap, refl, ◌∙◌, add-one, arith, length-set}
use lib.Seq.{take-suc-set, take_all}
use Rattle.frame_word_layout.specs.Words.{frames_in}
use Rattle.frame_word_layout.proofs.Laws.{frames-next}
use Rattle.frame_state_words.proofs.frames_in.Goals as goal

pub loop-i-init : goal.loop-i-init
unfolding frames_in
loop-i-init c = (refl, refl)

pub loop-i-preserved : goal.loop-i-preserved
loop-i-preserved c = (
  rw (add-one, c.frame_in.ensures, take-suc-set c.loop-i.f-items c.loop-i.i _ (omega arith), c.loop-i.invariant.0) (sym (frames-next c.loop-i.i c.args.words.now)),
  simp length-set c.loop-i.invariant.1,
)

pub returns : goal.returns
returns c =
    let end : c.loop-i.i ≡ 32 = omega arith in
    sym (take_all c.loop-i.i c.loop-i.f-items (omega arith)) ∙ c.loop-i.invariant.0 ∙ ap (λ (n : ℕ). frames_in n c.args.words.now 0) end
