-- THE WHOLE CALL (specs/WholeCall.antt states it): what the caller fills is what the callee reads, and what must be kept is kept when it returns. Assumes nothing.
use mathlib.Core.Path.{refl, sym, ap₂, ◌∙◌, subst}
use mathlib.Core.List.{List, ◌∷◌, ◌++◌}
use Rattle.call_slots.specs.Buffers.{Buffers}
use Rattle.call_slots.specs.Arguments.{plan_for}
use Rattle.call_roundtrip.specs.RoundTrip.{left_by_fill}
use Rattle.frame_history.specs.Calls as states
use Rattle.frame_word_history.specs.Calls.{Call}
use Rattle.frame_word_history.specs.Demand3.{machine_in}
use Rattle.both_whole_call.specs.Put.{bytes_in, put_pieces}
use Rattle.both_whole_call.specs.WholeCall.{put_filled, WholeCall}
use Rattle.both_whole_call.proofs.Callee as callee
use Rattle.both_whole_call.proofs.Putting.{ready, ready-inside}
use Rattle.both_whole_call.proofs.Words.{calls-both, calls-pieces, calls-filled, able, claims-read}

pub whole-call : WholeCall
whole-call = record {
  outside = λ s values image area copies base hidden filled os m can pieces cut.
      let b : Buffers = left_by_fill s values image area copies base hidden in
      let can' = able (plan_for s) os m can in
      claims-read s values (λ _. b.copies) base hidden os m can (put_filled s b pieces m)
      (subst (callee.Claims s values (λ _. b.copies) base hidden os (machine_in m)) (sym (calls-filled s b pieces m))
      (callee.claims s values image area copies base hidden filled os (machine_in m) can' _ _ _ (ready s values image area copies base hidden filled os (machine_in m) can' pieces cut)));
  inside = λ s values image area copies base hidden filled o os m can local pieces cut more cut-more.
      let b : Buffers = left_by_fill s values image area copies base hidden in
      let can' = able (plan_for s) (o ∷ os) m can in
      let calls : List Call = put_filled s b pieces m ++ put_pieces base more in
      let same = calls-both (put_filled s b pieces m) (put_pieces base more) ∙ ap₂ (λ (x y : List states.Call). x ++ y) (calls-filled s b pieces m) (calls-pieces base more) in
      claims-read s values (bytes_in base (plan_for s).copies) base hidden (o ∷ os) m can calls
      (subst (callee.Claims s values (bytes_in base (plan_for s).copies) base hidden (o ∷ os) (machine_in m)) (sym same)
      (callee.claims s values image area copies base hidden filled (o ∷ os) (machine_in m) can' _ _ _
      (ready-inside s values image area copies base hidden filled (o ∷ os) (machine_in m) can' pieces cut o os refl local more cut-more)));
}
