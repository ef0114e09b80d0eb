-- From the machine's own calls to the exported ones: a list of calls over words does what its reading does on the state that the words are read as. Assumes nothing.
use mathlib.Core.Path.{◌≡◌, refl, sym, ap, ap₂, ◌∙◌, subst}
use mathlib.Core.Bool.{false}
use mathlib.Core.List.{List, [], ◌∷◌, ◌++◌, map}
use Prim.Native.Nat.{ℕ, ◌+◌}
use native.Mathlib.Omega.{arith}
use lib.ListN.{length}
use Rattle.base_words.specs.Basics.{All}
use Rattle.base_conventions.specs.declared.Convention.{Convention}
use Rattle.plan_plans.specs.declared.Plan.{Plan}
use Rattle.call_slots.specs.Buffers.{Buffers}
use Rattle.call_slots.specs.Arguments.{plan_for, rules_for}
use Rattle.call_home_slot.specs.Homes.{homeless}
use Rattle.frame_rules.specs.declared.Frame.{Frame}
use Rattle.frame_rules.specs.Rules.{rules}
use Rattle.frame_machine.specs.Answers.{FrameAnswer}
use Rattle.std.specs.Prelude.{Ok}
use Rattle.frame_machine.specs.Machine.{start_outcome}
use Rattle.frame_word_layout.specs.Words.{machine_words, registers_in, frame_in}
use Rattle.frame_word_layout.proofs.Theorems.{start-state}
use Rattle.frame_history.specs.Calls as states
use Rattle.frame_history.specs.Preserved.{OpenEnter, open_after, Preserved, CallsFit}
use Rattle.frame_history.proofs.Invariant.{Invariant}
use Rattle.frame_history.proofs.Theorem.{start-invariant}
use Rattle.frame_word_history.specs.Calls.{Call, enter, leave, Lent, answer, after, fresh, run}
use Rattle.frame_word_history.specs.Demand3.{machine_in, call_in, calls_in, opened_by}
use Rattle.frame_word_history.proofs.Theorem.{reading-after, answer-read, words-length, start-length, registers-fit}
use Rattle.both_whole_call.specs.Put.{bytes_in, own_area, callers_area, Register, held_in, span_registers, result_spans, named, put_register, put_pieces, put_calls}
use Rattle.both_whole_call.specs.Reached.{AllAccepted, Reached}
use Rattle.both_whole_call.specs.Caller.{CanCall}
use Rattle.both_whole_call.specs.WholeCall.{frames_for, PassedToCallee, CalleeHomes, ReturnedToCaller, calling, in_callee, Claims, put_filled}
use Rattle.both_whole_call.proofs.Steps as steps
use Rattle.both_whole_call.proofs.Registers.{write_of}
use Rattle.both_whole_call.proofs.Memory as memory
use Rattle.both_whole_call.proofs.Callee as callee
use Rattle.both_whole_call.proofs.Putting.{puttings}

-- ---- lists of calls, and their readings

pub words-run : (cs : List Call) (m : Lent) → length (run cs m).words ≡ length m.words
unfolding run
words-run [] m = refl
words-run (c ∷ cs) m = words-run cs (after c m) ∙ words-length c m

pub run-read : (cs : List Call) (m : Lent) → length m.words ≡ machine_words → machine_in (run cs m) ≡ steps.run (calls_in cs) (machine_in m)
unfolding run steps.run
run-read [] m h = refl
run-read (c ∷ cs) m h = run-read cs (after c m) (words-length c m ∙ h) ∙ ap (steps.run (calls_in cs)) (reading-after c m h)

pub accepted-read : (cs : List Call) (m : Lent) → length m.words ≡ machine_words → steps.AllAccepted (calls_in cs) (machine_in m) → AllAccepted cs m
unfolding AllAccepted steps.AllAccepted
accepted-read [] m h a = tt
accepted-read (c ∷ cs) m h a = (
  answer-read c m ∙ a.0,
  accepted-read cs (after c m) (words-length c m ∙ h) (subst (steps.AllAccepted (calls_in cs)) (sym (reading-after c m h)) a.1),
)

pub opened-read : (cs : List Call) (m : Lent) (os : List OpenEnter) → length m.words ≡ machine_words → opened_by cs m os ≡ steps.opened_by (calls_in cs) (machine_in m) os
unfolding opened_by steps.opened_by
opened-read [] m os h = refl
opened-read (c ∷ cs) m os h =
    let os₁ : List OpenEnter = open_after (call_in c) (answer c m) (machine_in m) os in
    opened-read cs (after c m) os₁ (words-length c m ∙ h)
    ∙ ap₂ (λ (x : states.Machine) (l : List OpenEnter). steps.opened_by (calls_in cs) x l) (reading-after c m h)
    (ap (λ (a : FrameAnswer). open_after (call_in c) a (machine_in m) os) (answer-read c m))

-- ---- two lists one after the other

pub run-both : (xs ys : List Call) (m : Lent) → run (xs ++ ys) m ≡ run ys (run xs m)
unfolding run
run-both [] ys m = refl
run-both (x ∷ xs) ys m = run-both xs ys (after x m)

opened_both : (xs ys : List Call) (m : Lent) (os : List OpenEnter) → opened_by (xs ++ ys) m os ≡ opened_by ys (run xs m) (opened_by xs m os)
unfolding opened_by run
opened_both [] ys m os = refl
opened_both (x ∷ xs) ys m os = opened_both xs ys (after x m) (open_after (call_in x) (answer x m) (machine_in m) os)

pub calls-both : (xs ys : List Call) → calls_in (xs ++ ys) ≡ calls_in xs ++ calls_in ys
calls-both [] ys = refl
calls-both (x ∷ xs) ys = ap (λ (l : List states.Call). call_in x ∷ l) (calls-both xs ys)

fit-both : (xs ys : List Call) → CallsFit (calls_in xs) → CallsFit (calls_in ys) → CallsFit (calls_in (xs ++ ys))
fit-both xs ys h k = subst CallsFit (sym (calls-both xs ys)) (steps.fit-both (calls_in xs) (calls_in ys) h k)

-- ---- the calls that put a filling

calls-registers : (image : List ℕ) (ys : List Register) → calls_in (map (put_register image) ys) ≡ map (write_of image) ys
calls-registers image [] = refl
calls-registers image (y ∷ ys) = ap (λ (l : List states.Call). write_of image y ∷ l) (calls-registers image ys)

pub calls-pieces : (a : ℕ) (pieces : List (List ℕ)) → calls_in (put_pieces a pieces) ≡ memory.put_pieces a pieces
unfolding put_pieces memory.put_pieces
calls-pieces a [] = refl
calls-pieces a (bs ∷ rest) = ap (λ (l : List states.Call). states.write_memory a bs ∷ l) (calls-pieces (a + length bs) rest)

pub calls-filled : (s : List ℕ) (b : Buffers) (pieces : List (List ℕ)) (m : Lent) → calls_in (put_filled s b pieces m) ≡ puttings s b pieces (machine_in m)
unfolding put_calls
calls-filled s b pieces m =
    let a : ℕ = own_area (frames_for s) (machine_in m) in
    calls-both (map (put_register b.image) (named (plan_for s))) (put_pieces a pieces)
    ∙ ap₂ (λ (x y : List states.Call). x ++ y) (calls-registers b.image (named (plan_for s))) (calls-pieces a pieces)

-- ---- what was reached

module _ (c : Convention) (os : List OpenEnter) (m : Lent) (h : Reached c os m) where
  abbrev start : Lent
  start = fresh c h.base h.memory h.registers

  first-length : length start.words ≡ machine_words
  first-length = start-length c h.registers h.base (length h.memory) h.registers-fit.count

  pub reached-length : length m.words ≡ machine_words
  reached-length = ap (λ (x : Lent). length x.words) (sym h.lent) ∙ words-run h.calls start ∙ first-length

  started : Invariant (rules c) [] (machine_in start)
  unfolding start_outcome
  started =
      rw (start-state c h.registers h.base (length h.memory) h.registers-fit.count h.started)
      (start-invariant c h.base h.memory (registers_in h.registers 0) (registers-fit h.registers h.registers-fit) h.started)

  -- demand 3's invariant
  pub reached-keeps : Invariant (rules c) os (machine_in m)
  reached-keeps =
      let kept = steps.calls-keep c (calls_in h.calls) h.calls-fit [] (machine_in start) started in
      let is : steps.run (calls_in h.calls) (machine_in start) ≡ machine_in m = sym (run-read h.calls start first-length) ∙ ap machine_in h.lent in
      let opened : steps.opened_by (calls_in h.calls) (machine_in start) [] ≡ os = sym (opened-read h.calls start [] first-length) ∙ h.opened in
      subst (λ (l : List OpenEnter). Invariant (rules c) l (machine_in m)) opened
      (subst (Invariant (rules c) (steps.opened_by (calls_in h.calls) (machine_in start) [])) is kept)

  -- and more calls go on from there
  pub reached-more : (xs : List Call) → CallsFit (calls_in xs) → Reached c (opened_by xs m os) (run xs m)
  reached-more xs fit = record {
    base = h.base;
    memory = h.memory;
    registers = h.registers;
    calls = h.calls ++ xs;
    registers-fit = h.registers-fit;
    started = h.started;
    calls-fit = fit-both h.calls xs h.calls-fit fit;
    lent = run-both h.calls xs start ∙ ap (run xs) h.lent;
    opened = opened_both h.calls xs start [] ∙ ap₂ (λ (x : Lent) (l : List OpenEnter). opened_by xs x l) h.lent h.opened;
  }

pub able : (p : Plan) (os : List OpenEnter) (m : Lent) → CanCall p os m → callee.Able p os (machine_in m)
able p os m can = record { invariant = reached-keeps p.convention os m can.reached; suits = can.suits }

-- ---- the claims

homed-read : (s values copies : List ℕ) (f : Frame) (m : Lent) → length m.words ≡ machine_words → callee.Homed s values copies f (machine_in m) → CalleeHomes s values copies f m
homed-read s values copies f m h k =
    let a : ℕ = callers_area (frames_for s) f (machine_in m) in
    let same : (pieces : List (List ℕ)) → machine_in (run (put_pieces a pieces) m) ≡ steps.run (memory.put_pieces a pieces) (machine_in m) =
    λ pieces. run-read (put_pieces a pieces) m h ∙ ap (λ (l : List states.Call). steps.run l (machine_in m)) (calls-pieces a pieces) in
    record {
      viewed = k.viewed;
      accepted = λ pieces cut.
          accepted-read (put_pieces a pieces) m h (subst (λ (l : List states.Call). steps.AllAccepted l (machine_in m)) (sym (calls-pieces a pieces)) (k.accepted pieces cut));
      area = λ pieces cut. ap (λ (x : states.Machine). bytes_in (callers_area (frames_for s) f x) (plan_for s).area x) (same pieces) ∙ k.area pieces cut;
    }

module _ (s values : List ℕ) (copies : states.Machine → List ℕ) (base hidden : ℕ) (os : List OpenEnter) (m : Lent) (can : CanCall (plan_for s) os m) (puts : List Call)
    (k : callee.Claims s values copies base hidden os (machine_in m) (calls_in puts)) where
  abbrev c : Convention
  c = (plan_for s).convention

  size : length m.words ≡ machine_words
  size = reached-length c os m can.reached

  opens : opened_by puts m os ≡ os
  opens = opened-read puts m os size ∙ k.opened

  ran : machine_in (run puts m) ≡ steps.run (calls_in puts) (machine_in m)
  ran = run-read puts m size

  ran-size : length (run puts m).words ≡ machine_words
  ran-size = words-run puts m ∙ size

  put : Reached c os (run puts m)
  put = subst (λ (l : List OpenEnter). Reached c l (run puts m)) opens (reached-more c os m can.reached puts k.fit)

  module _ (q : List ℕ) (e : answer (enter q) (run puts m) ≡ Ok tt) where
    abbrev f : Frame
    f = frame_in q 0

    abbrev m' : Lent
    m' = in_callee puts m q

    abbrev o : OpenEnter
    o = calling puts m q

    -- the same enter of the machine's own
    accepts : states.answer (states.enter f) (steps.run (calls_in puts) (machine_in m)) ≡ Ok tt
    accepts = ap (states.answer (states.enter f)) (sym ran) ∙ e

    entered : machine_in m' ≡ callee.in_callee (calls_in puts) (machine_in m) f
    entered = reading-after (enter q) (run puts m) ran-size ∙ ap (states.after (states.enter f)) ran

    entered-size : length m'.words ≡ machine_words
    entered-size = words-length (enter q) (run puts m) ∙ ran-size

    opened : o ≡ callee.calling (calls_in puts) (machine_in m) f
    opened = ap (λ (x : states.Machine). record { before = x; request = f }) ran

    passes : PassedToCallee s values (copies (machine_in m')) base hidden f (machine_in m')
    passes = subst (λ (x : states.Machine). PassedToCallee s values (copies x) base hidden f x) (sym entered) (k.passed f accepts)

    homes : homeless (rules_for s) ≡ false → CalleeHomes s values (copies (machine_in m')) f m'
    homes power =
        homed-read s values (copies (machine_in m')) f m' entered-size
        (subst (λ (x : states.Machine). callee.Homed s values (copies x) f x) (sym entered) (k.homed power f accepts))

    in-callee : Reached c (o ∷ os) m'
    unfolding opened_by run All
    in-callee =
        subst (λ (a : FrameAnswer). Reached c (open_after (states.enter f) a (machine_in (run puts m)) os) m') e (reached-more c os (run puts m) put (enter q ∷ []) (tt, tt))

    module _ (body : List Call) (fit : CallsFit (calls_in body)) (closed : opened_by body m' (o ∷ os) ≡ o ∷ os) where
      abbrev m'' : Lent
      m'' = run body m'

      at-end : machine_in m'' ≡ steps.run (calls_in body) (callee.in_callee (calls_in puts) (machine_in m) f)
      at-end = run-read body m' entered-size ∙ ap (steps.run (calls_in body)) entered

      back : callee.Returned (plan_for s) o os (machine_in m'')
      back =
          let own : OpenEnter = callee.calling (calls_in puts) (machine_in m) f in
          let same : steps.opened_by (calls_in body) (callee.in_callee (calls_in puts) (machine_in m) f) (own ∷ os) ≡ own ∷ os =
          ap₂ (λ (x : states.Machine) (y : OpenEnter). steps.opened_by (calls_in body) x (y ∷ os)) (sym entered) (sym opened)
          ∙ sym (opened-read body m' (o ∷ os) entered-size) ∙ closed ∙ ap (λ (y : OpenEnter). y ∷ os) opened in
          subst (λ (y : OpenEnter). callee.Returned (plan_for s) y os (machine_in m'')) (sym opened)
          (subst (callee.Returned (plan_for s) own os) (sym at-end) (k.returned f accepts (calls_in body) fit same))

      left : machine_in (after leave m'') ≡ states.after states.leave (machine_in m'')
      left = reading-after leave m'' (words-run body m' ∙ entered-size)

      after_leave : Reached c os (after leave m'')
      unfolding opened_by run All
      after_leave =
          let inside : Reached c (o ∷ os) m'' = subst (λ (l : List OpenEnter). Reached c l m'') closed (reached-more c (o ∷ os) m' in-callee body fit) in
          subst (λ (a : FrameAnswer). Reached c (open_after states.leave a (machine_in m'') (o ∷ os)) (after leave m'')) back.accepted (reached-more c (o ∷ os) m'' inside (leave ∷ []) (tt, tt))

      returns : ReturnedToCaller (plan_for s) o os m''
      returns = record {
        accepted = back.accepted;
        kept = subst (Preserved (rules c) o os) (sym left) back.kept;
        result = subst (λ (x : states.Machine). All (λ (y : Register). held_in x.state.registers y ≡ held_in (machine_in m'').state.registers y) (span_registers (result_spans (plan_for s).result))) (sym left) back.result;
        reached = after_leave;
      }

  pub claims-read : Claims s values copies base hidden os m puts
  claims-read = record {
    accepted = accepted-read puts m size k.accepted;
    opened = opens;
    fit = k.fit;
    passed = passes;
    homed = λ power q e. homes q e power;
    reached = in-callee;
    returned = returns;
  }
