-- A whole call: what the caller fills is what the callee reads, through the frame machine, and once the callee has left all that must be kept is kept. `WholeCall` is the claim,
-- of the exported calls; `whole-call` in proofs/Theorem.antt is a value of it. The machine is what C lends, 262 words and a memory; the state is what the words are read as. The
-- buffers are those of `fz_fill`, `fz_read`, `fz_home` and `fz_view`. Assumes nothing.
use Rattle.std.specs.Prelude.{ℕ, ◌≡◌, false, List, [], ◌∷◌, ◌++◌, length, get_or, take, Ok}
use Rattle.base_words.specs.Basics.{All}
use Rattle.plan_places.specs.declared.Span.{Span}
use Rattle.plan_places.specs.declared.ResultPlaces.{ResultPlaces}
use Rattle.plan_plans.specs.declared.Plan.{Plan}
use Rattle.call_slots.specs.Buffers.{Buffers}
use Rattle.call_slots.specs.Arguments.{plan_for, rules_for}
use Rattle.call_home_slot.specs.Homes.{homeless}
use Rattle.call_roundtrip.specs.RoundTrip.{Filled, left_by_fill, ReadBack}
use Rattle.call_roundtrip.specs.Views.{homed_area, Viewed}
use Rattle.frame_rules.specs.declared.FrameRules.{FrameRules}
use Rattle.frame_rules.specs.declared.Frame.{Frame}
use Rattle.frame_rules.specs.Rules.{rules}
use Rattle.frame_word_layout.specs.Words.{frame_in}
use Rattle.frame_history.specs.Calls.{Machine}
use Rattle.frame_history.specs.Preserved.{OpenEnter, Preserved, CallsFit}
use Rattle.frame_word_history.specs.Calls.{Call, enter, leave, Lent, answer, after, run}
use Rattle.frame_word_history.specs.Demand3.{machine_in, calls_in, opened_by}
use Rattle.both_whole_call.specs.Reached.{AllAccepted, Reached}
use Rattle.both_whole_call.specs.Caller.{CanCall, InLocals}
use Rattle.both_whole_call.specs.Put.{bytes_in, own_area, callers_area, found, Register, held_in, span_registers, result_spans, put_pieces, put_calls, Cut}

-- ---- what is claimed of the callee

-- the frames' rules of a signature's bytes s; and what a callee that was entered by the request f finds of its call
abbrev pub frames_for : List ℕ → FrameRules
frames_for s = rules (plan_for s).convention

abbrev pub seen : List ℕ → Frame → List ℕ → Machine → Buffers
seen s f copies m = found (frames_for s) f (plan_for s).area copies m

-- As the callee begins: its read of what it finds accepts and gives the values back, and a hidden address is in its register.
pub record PassedToCallee (s values copies : List ℕ) (base hidden : ℕ) (f : Frame) (m : Machine) : Type 0 where
  pub read : (into : List ℕ) → length into ≡ length values → ReadBack s values base (seen s f copies m) into
  pub address : (x : Span) → (plan_for s).result ≡ ResultPlaces.Hidden x → get_or m.state.registers.gpr x.general.first 0 ≡ hidden

-- On PowerPC too: home of what it finds accepts, and each view of the area that home leaves is the argument; and the callee may put that area, in any pieces, where it found it:
-- "caller's outgoing area".
pub record CalleeHomes (s values copies : List ℕ) (f : Frame) (m : Lent) : Type 0 where
  pub viewed : Viewed s values (seen s f copies (machine_in m))
  pub accepted : (pieces : List (List ℕ)) → Cut pieces (homed_area s (seen s f copies (machine_in m)))
      → AllAccepted (put_pieces (callers_area (frames_for s) f (machine_in m)) pieces) m
  pub area : (pieces : List (List ℕ)) → Cut pieces (homed_area s (seen s f copies (machine_in m)))
      → let m' = run (put_pieces (callers_area (frames_for s) f (machine_in m)) pieces) m in
      bytes_in (callers_area (frames_for s) f (machine_in m')) (plan_for s).area (machine_in m') ≡ homed_area s (seen s f copies (machine_in m))

-- As the callee of the enter o is about to leave: the leave is accepted and keeps all that demand 3 says, and a result that stands in its registers stays there. What is lent then
-- was reached with the same enters open, so that the caller can make its next call.
pub record ReturnedToCaller (p : Plan) (o : OpenEnter) (os : List OpenEnter) (m : Lent) : Type 0 where
  pub accepted : answer leave m ≡ Ok tt
  pub kept : Preserved (rules p.convention) o os (machine_in (after leave m))
  pub result : All (λ (x : Register). held_in (machine_in (after leave m)).state.registers x ≡ held_in (machine_in m).state.registers x) (span_registers (result_spans p.result))
  pub reached : Reached p.convention os (after leave m)

-- ---- what is claimed of the calls that put the arguments

-- after the calls `puts` on what m lends, an enter of the request's words q; and what is lent to the callee
abbrev pub calling : List Call → Lent → List ℕ → OpenEnter
calling puts m q = record { before = machine_in (run puts m); request = frame_in q 0 }

abbrev pub in_callee : List Call → Lent → List ℕ → Lent
in_callee puts m q = after (enter q) (run puts m)

-- Of the calls `puts` on what m lends, with the enters os open, where `copies` says which copies a callee has in its machine:
pub record Claims (s values : List ℕ) (copies : Machine → List ℕ) (base hidden : ℕ) (os : List OpenEnter) (m : Lent) (puts : List Call) : Type 0 where
  -- every one is accepted; they open and close nothing, and their values are of 64 bits
  pub accepted : AllAccepted puts m
  pub opened : opened_by puts m os ≡ os
  pub fit : CallsFit (calls_in puts)
  -- after any accepted enter, of a frame or of a leaf, the callee has its arguments, and can call in turn
  pub passed : (q : List ℕ) → answer (enter q) (run puts m) ≡ Ok tt
      → PassedToCallee s values (copies (machine_in (in_callee puts m q))) base hidden (frame_in q 0) (machine_in (in_callee puts m q))
  pub homed : homeless (rules_for s) ≡ false → (q : List ℕ) → answer (enter q) (run puts m) ≡ Ok tt
      → CalleeHomes s values (copies (machine_in (in_callee puts m q))) (frame_in q 0) (in_callee puts m q)
  pub reached : (q : List ℕ) → answer (enter q) (run puts m) ≡ Ok tt
      → Reached (plan_for s).convention (calling puts m q ∷ os) (in_callee puts m q)
  -- and whatever it calls then, accepted or refused, once it has closed what it opened it can leave
  pub returned : (q : List ℕ) → answer (enter q) (run puts m) ≡ Ok tt → (body : List Call) → CallsFit (calls_in body)
      → opened_by body (in_callee puts m q) (calling puts m q ∷ os) ≡ calling puts m q ∷ os
      → ReturnedToCaller (plan_for s) (calling puts m q) os (run body (in_callee puts m q))

-- the calls that put what filling left in b, by the running function's stack pointer
abbrev pub put_filled : List ℕ → Buffers → List (List ℕ) → Lent → List Call
put_filled s b pieces m = put_calls (plan_for s) b.image (own_area (frames_for s) (machine_in m)) pieces

-- ---- the claim

-- THE WHOLE CALL. Of each filling that is accepted, from each machine whose running function can call, with the plan's area cut in any pieces:
pub record WholeCall : Type 0 where
  -- where the copies stay outside the machine, and the callee is handed them as filling left them;
  pub outside : (s values image area copies : List ℕ) (base hidden : ℕ) → Filled s values image area copies base hidden
      → (os : List OpenEnter) (m : Lent) → CanCall (plan_for s) os m
      → let b = left_by_fill s values image area copies base hidden in
      (pieces : List (List ℕ)) → Cut pieces (take (plan_for s).area b.area)
      → Claims s values (λ _. b.copies) base hidden os m (put_filled s b pieces m)
  -- and where they are put in the locals of the running function, which was entered by o, from the copy base on, and the callee has them from the machine's memory.
  pub inside : (s values image area copies : List ℕ) (base hidden : ℕ) → Filled s values image area copies base hidden
      → (o : OpenEnter) (os : List OpenEnter) (m : Lent) → CanCall (plan_for s) (o ∷ os) m → InLocals (frames_for s) o.request (machine_in m) base (plan_for s).copies
      → let b = left_by_fill s values image area copies base hidden in
      (pieces : List (List ℕ)) → Cut pieces (take (plan_for s).area b.area)
      → (more : List (List ℕ)) → Cut more (take (plan_for s).copies b.copies)
      → Claims s values (bytes_in base (plan_for s).copies) base hidden (o ∷ os) m (put_filled s b pieces m ++ put_pieces base more)
