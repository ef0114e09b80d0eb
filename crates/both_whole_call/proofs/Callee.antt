-- Once the registers and the area of a filling are in the machine, a callee has its arguments, and its leave preserves: the claims of the specification, of the machine's own calls.
-- Assumes nothing.
use mathlib.Core.Path.{◌≡◌, refl, sym, ap, ap₂, ◌∙◌, subst}
use mathlib.Core.Bool.{false}
use mathlib.Core.List.{List, [], ◌∷◌, ◌++◌}
use Prim.Native.Nat.{ℕ, ◌+◌, ◌-◌, ◌≤◌}
use native.Mathlib.Omega.{arith}
use lib.ListN.{length, get_or, take, length-take}
use lib.Seq.{length-take-le}
use Rattle.base_words.specs.Basics.{All}
use Rattle.base_words.specs.Splice.{splice, part}
use Rattle.base_words.specs.Numbers.{value_of}
use Rattle.base_words.proofs.Splices.{splice-same}
use Rattle.base_words.proofs.Numbers.{value-back}
use Rattle.base_words.proofs.Each.{each_left, each_right, each_more, each-with, each_three}
use Rattle.base_conventions.specs.declared.Convention.{Convention}
use Rattle.sig_signatures.specs.declared.SignatureRead.{SignatureRead}
use Rattle.sig_signatures.specs.Read.{signature_of}
use Rattle.sig_signatures.specs.Answer.{signature_answer}
use Rattle.plan_places.specs.declared.Span.{Span}
use Rattle.plan_places.specs.declared.ResultPlaces.{ResultPlaces}
use Rattle.plan_places.specs.Step.{word_of}
use Rattle.plan_plans.specs.declared.Plan.{Plan}
use Rattle.sig_signatures.specs.Types.{types_in}
use Rattle.call_slots.specs.Buffers.{Buffers, buffers, bytes_at}
use Rattle.call_slots.specs.Helpers.{Fits}
use Rattle.call_slots.specs.Arguments.{placements_in, arguments_of, plan_for, rules_for}
use Rattle.call_slots.proofs.Answered.{carried}
use Rattle.call_home_slot.specs.Homes.{homeless}
use Rattle.call_home.specs.Home.{home_area}
use Rattle.call_roundtrip.specs.RoundTrip.{Filled, left_by_fill}
use Rattle.call_roundtrip.specs.Views.{homed_area, Viewed}
use Rattle.call_roundtrip.proofs.Arguments.{AllPut}
use Rattle.call_roundtrip.proofs.Theorems.{Left, filled-left, filled-answer, read_left}
use Rattle.call_roundtrip.proofs.Views.{length-homed, view-as-read}
use Rattle.call_roundtrip.proofs.HiddenAddress.{hidden-stands}
use Rattle.frame_rules.specs.declared.FrameRules.{FrameRules}
use Rattle.frame_rules.specs.declared.Frame.{Frame}
use Rattle.frame_rules.specs.declared.Registers.{Registers}
use Rattle.frame_rules.specs.Rules.{rules}
use Rattle.frame_rules.specs.Frames.{outgoing_length}
use Rattle.frame_rules.proofs.Conventions.{lawful}
use Rattle.frame_machine.specs.Answers.{FrameAnswer}
use Rattle.std.specs.Prelude.{Ok}
use Rattle.frame_machine.specs.declared.State.{State}
use Rattle.frame_machine.specs.Machine.{offset}
use Rattle.frame_history.specs.Calls.{Call, enter, leave, Machine, answer, after}
use Rattle.frame_history.specs.Preserved.{OpenEnter, open_after, caller_of, Preserved, CallsFit}
use Rattle.frame_history.proofs.Invariant.{Invariant, base-of}
use Rattle.both_meeting.proofs.Theorem.{agree}
use Rattle.both_whole_call.specs.Put.{bytes_in, own_area, callers_area, image_of, pieces_joined, Cut, Register, held_in, span_registers, hidden_spans, result_spans, named}
use Rattle.both_whole_call.specs.Caller.{first_saved, Free, CallerSuits}
use Rattle.both_whole_call.specs.WholeCall.{frames_for, seen, PassedToCallee}
use Rattle.both_whole_call.proofs.Steps.{run, AllAccepted, opened_by, call-keeps, calls-keep, leave-holds}
use Rattle.both_whole_call.proofs.Registers.{Holds, free-below}
use Rattle.both_whole_call.proofs.Memory.{callers-area, put_pieces, AfterPieces, after-pieces, area-inside}
use Rattle.both_whole_call.proofs.Entering.{enter-part, enter-register}
use Rattle.both_whole_call.proofs.Named.{OfSpan, of-spans, Argument, named-arguments, hidden-one}
use Rattle.both_whole_call.proofs.Filled.{OfBytes, named-bytes, hidden-64}
use Rattle.both_whole_call.proofs.Standing.{Same, image-length, image-bytes, image-same, all_found, of-arguments}
use Rattle.both_whole_call.proofs.Returning.{Volatile, result-volatile, leave-result}

-- ---- the specification's records, of the machine's own calls

-- what `CanCall` asks, with demand 3's invariant for how the machine was reached
pub record Able (p : Plan) (os : List OpenEnter) (m : Machine) : Type 0 where
  pub invariant : Invariant (rules p.convention) os m
  pub suits : CallerSuits p os

pub record Homed (s values copies : List ℕ) (f : Frame) (m : Machine) : Type 0 where
  pub viewed : Viewed s values (seen s f copies m)
  pub accepted : (pieces : List (List ℕ)) → Cut pieces (homed_area s (seen s f copies m)) → AllAccepted (put_pieces (callers_area (frames_for s) f m) pieces) m
  pub area : (pieces : List (List ℕ)) → Cut pieces (homed_area s (seen s f copies m))
      → let m' = run (put_pieces (callers_area (frames_for s) f m) pieces) m in
      bytes_in (callers_area (frames_for s) f m') (plan_for s).area m' ≡ homed_area s (seen s f copies m)

pub record Returned (p : Plan) (o : OpenEnter) (os : List OpenEnter) (m : Machine) : Type 0 where
  pub accepted : answer leave m ≡ Ok tt
  pub kept : Preserved (rules p.convention) o os (after leave m)
  pub result : All (λ (x : Register). held_in (after leave m).state.registers x ≡ held_in m.state.registers x) (span_registers (result_spans p.result))

abbrev pub calling : List Call → Machine → Frame → OpenEnter
calling puts m f = record { before = run puts m; request = f }

abbrev pub in_callee : List Call → Machine → Frame → Machine
in_callee puts m f = after (enter f) (run puts m)

pub record Claims (s values : List ℕ) (copies : Machine → List ℕ) (base hidden : ℕ) (os : List OpenEnter) (m : Machine) (puts : List Call) : Type 0 where
  pub accepted : AllAccepted puts m
  pub opened : opened_by puts m os ≡ os
  pub fit : CallsFit puts
  pub passed : (f : Frame) → answer (enter f) (run puts m) ≡ Ok tt
      → PassedToCallee s values (copies (in_callee puts m f)) base hidden f (in_callee puts m f)
  pub homed : homeless (rules_for s) ≡ false → (f : Frame) → answer (enter f) (run puts m) ≡ Ok tt
      → Homed s values (copies (in_callee puts m f)) f (in_callee puts m f)
  pub returned : (f : Frame) → answer (enter f) (run puts m) ≡ Ok tt → (body : List Call) → CallsFit body
      → opened_by body (in_callee puts m f) (calling puts m f ∷ os) ≡ calling puts m f ∷ os
      → Returned (plan_for s) (calling puts m f) os (run body (in_callee puts m f))

-- What the calls `puts` did on the machine m: the registers that the plan names, and the area, hold what filling left in b; and a callee has the first n bytes of the copies
pub record Ready (s : List ℕ) (b : Buffers) (cs : Machine → List ℕ) (n : ℕ) (os : List OpenEnter) (m : Machine) (puts : List Call) : Type 0 where
  pub accepted : AllAccepted puts m
  pub opened : opened_by puts m os ≡ os
  pub fit : CallsFit puts
  pub invariant : Invariant (frames_for s) os (run puts m)
  pub holds : All (Holds b.image (run puts m).state.registers) (named (plan_for s))
  pub area : bytes_in (own_area (frames_for s) (run puts m)) (plan_for s).area (run puts m) ≡ take (plan_for s).area b.area
  pub least : (plan_for s).copies ≤ n
  pub most : n ≤ length b.copies
  pub copies : (f : Frame) → answer (enter f) (run puts m) ≡ Ok tt → cs (in_callee puts m f) ≡ take n b.copies

module _ (s values image area copies : List ℕ) (base hidden : ℕ) (filled : Filled s values image area copies base hidden) where
  abbrev p : Plan
  p = plan_for s

  abbrev b : Buffers
  b = left_by_fill s values image area copies base hidden

  abbrev c : Convention
  c = p.convention

  abbrev k : FrameRules
  k = rules c

  stands : Left s values base b
  stands = filled-left s values image area copies base hidden filled

  pub all-bytes : All (OfBytes (word_of (rules_for s)) b.image) (named p)
  all-bytes = named-bytes s values image area copies base hidden filled stands.all

  module _ (os : List OpenEnter) (m : Machine) (able : Able p os m) (cs : Machine → List ℕ) (n : ℕ) (puts : List Call) (ready : Ready s b cs n os m puts)
      (f : Frame) (e : answer (enter f) (run puts m) ≡ Ok tt) where
    abbrev m₁ : Machine
    m₁ = run puts m

    abbrev m' : Machine
    m' = in_callee puts m f

    abbrev r : Registers
    r = m'.state.registers

    callee : Invariant k (calling puts m f ∷ os) m'
    callee = subst (λ (x : FrameAnswer). Invariant k (open_after (enter f) x m₁ os) m') e (call-keeps c (enter f) tt os m₁ ready.invariant)

    -- what the callee takes for its caller's outgoing area is that
    area-at : callers_area k f m' ≡ own_area k m₁
    area-at = ap (λ (x : ℕ). x + k.header) callee.1.pointer

    area-from : callers_area k f m' - m'.state.base ≡ own_area k m₁ - m₁.state.base
    area-from = ap₂ (λ (x y : ℕ). x - y) area-at callee.1.base

    area-offset : own_area k m₁ - m₁.state.base ≡ offset k m₁.state + k.header
    area-offset = omega (arith, (base-of k os m₁ ready.invariant).sound.over)

    -- ---- the registers

    -- an argument register is not the stack pointer
    entered-holds : (x : Register) → Holds b.image m₁.state.registers x → Argument c x → Holds b.image r x
    entered-holds x h arg = enter-register c os m₁ ready.invariant f e x.bank x.number (λ u v. (agree c).pointer (rw (u, v) at arg)) ∙ h

    all_hold : All (Holds b.image r) (named p)
    all_hold = each-with (Holds b.image m₁.state.registers) (Argument c) (Holds b.image r) entered-holds (named p) ready.holds (named-arguments s)

    same : All (Same (image_of r) b.image) (named p)
    same =
        each_three (Holds b.image r) (Free k (caller_of k os)) (OfBytes (word_of (rules_for s)) b.image) (Same (image_of r) b.image)
        (λ x h free bytes. image-same r callee.0.fit.gprs callee.0.fit.fprs b.image stands.image x
        (free-below k (lawful c) (first_saved x.bank (caller_of k os)) x.number x.bank free) bytes.0 h)
        (named p) all_hold able.suits.free all-bytes

    -- ---- the arguments

    found-area : bytes_in (callers_area k f m') p.area m' ≡ take p.area b.area
    found-area =
        ap (λ (i : ℕ). part i p.area m'.memory) area-from
        ∙ enter-part c os m₁ ready.invariant f e (own_area k m₁ - m₁.state.base) p.area (omega (arith, area-offset))
        ∙ ready.area

    fits : All (Fits p.area n) (arguments_of s)
    unfolding arguments_of
    fits =
        each-with (Fits p.area p.copies) (Fits p.area p.copies) (Fits p.area n)
        (λ q x y. record { general = x.general; floating = x.floating; memory = x.memory; copies = omega (arith, x.copies, ready.least) }) (arguments_of s) (carried s).fit (carried s).fit

    found-put : AllPut (rules_for s) base (arguments_of s) values (buffers (image_of r) (take p.area b.area) (take n b.copies))
    unfolding arguments_of placements_in
    found-put =
        let g : SignatureRead = signature_answer (signature_of s) in
        let spans = each_right (OfSpan (Same (image_of r) b.image)) (hidden_spans p.result) p.spans
        (of-spans (Same (image_of r) b.image) (hidden_spans p.result ++ p.spans) same) in
        all_found (rules_for s) base p.area n b (image_of r) (image-length r callee.0.fit.gprs callee.0.fit.fprs) stands.area ready.most (arguments_of s) values
        fits (of-arguments (OfSpan (Same (image_of r) b.image)) g.convention (types_in g) p.spans spans) stands.all

    abbrev found : Buffers
    found = seen s f (cs m') m'

    found_left : Left s values base found
    found_left =
        rw (found-area, ready.copies f e)
        (record {
          all = found-put;
          image = image-length r callee.0.fit.gprs callee.0.fit.fprs;
          total = stands.total;
          area = omega (arith, length-take p.area b.area, stands.area);
          copies = omega (arith, length-take n b.copies, ready.least, ready.most);
        })

    -- ---- the hidden address

    found-address : (x : Span) → p.result ≡ ResultPlaces.Hidden x → get_or r.gpr x.general.first 0 ≡ hidden
    unfolding bytes_at All
    found-address x q =
        let holds : All (OfSpan (Holds b.image r)) (hidden_spans p.result) = each_left (OfSpan (Holds b.image r)) (hidden_spans p.result) p.spans
        (of-spans (Holds b.image r) (hidden_spans p.result ++ p.spans) all_hold) in
        let here : All (OfSpan (Holds b.image r)) (x ∷ []) = subst (λ (y : ResultPlaces). All (OfSpan (Holds b.image r)) (hidden_spans y)) q holds in
        here.0.generals x.general.first (omega arith, omega (arith, (hidden-one (signature_of s) x q).0))
        ∙ ap value_of (hidden-stands s values image area copies base hidden x filled q)
        ∙ value-back 8 hidden (hidden-64 s values image area copies base hidden x filled q)

    passes : PassedToCallee s values (cs m') base hidden f m'
    passes = record {
      read = λ into size. read_left s values into base found (filled-answer s values image area copies base hidden filled) found_left size;
      address = found-address;
    }

    -- ---- home

    found-viewed : homeless (rules_for s) ≡ false → Viewed s values found
    found-viewed power =
        let back = passes.read values refl in
        subst (λ (v : List ℕ). Viewed s v found) back.same (view-as-read s values base found (image-bytes r) back.accepted power)

    module _ (pieces : List (List ℕ)) (cut : Cut pieces (homed_area s found)) where
      abbrev a : ℕ
      a = callers_area k f m'

      length-home : length (pieces_joined pieces) ≡ p.area
      unfolding home_area
      length-home =
          ap length cut.whole ∙ length-homed (rules_for s) (arguments_of s) found.image found.area ∙ ap length found-area ∙ length-take-le p.area b.area stands.area

      homes : AfterPieces c (calling puts m f ∷ os) a pieces m' (run (put_pieces a pieces) m')
      homes =
          after-pieces c (calling puts m f ∷ os) _ _ a pieces m' callee (callers-area k (calling puts m f) os m' callee) (omega (arith, callee.0.sound.over)) cut.short (omega arith)
          (omega (arith, length-home, able.suits.room))

      home-area : bytes_in (callers_area k f (run (put_pieces a pieces) m')) p.area (run (put_pieces a pieces) m') ≡ homed_area s found
      home-area =
          let inside = area-inside k (lawful c) os m₁ ready.invariant able.suits.solid in
          let at : ℕ = a - m'.state.base in
          ap (λ (y : State). part (callers_area k f (record { state = y; memory = m'.memory }) - y.base) p.area (run (put_pieces a pieces) m').memory) homes.state
          ∙ ap (part at p.area) homes.memory
          ∙ ap (λ (i : ℕ). part at i (splice m'.memory at (pieces_joined pieces))) (sym length-home)
          ∙ splice-same m'.memory at (pieces_joined pieces)
          (omega (arith, area-from, area-offset, length-home, able.suits.room, inside, callee.0.sound.length, callee.1.size, (base-of k os m₁ ready.invariant).sound.length))
          ∙ cut.whole

    homing : homeless (rules_for s) ≡ false → Homed s values (cs m') f m'
    homing power = record {
      viewed = found-viewed power;
      accepted = λ pieces cut. (homes pieces cut).accepted;
      area = λ pieces cut. home-area pieces cut;
    }

    -- ---- and back

    returns : (body : List Call) → CallsFit body → opened_by body m' (calling puts m f ∷ os) ≡ calling puts m f ∷ os → Returned p (calling puts m f) os (run body m')
    returns body fit closed =
        let i : Invariant k (calling puts m f ∷ os) (run body m')
        = subst (λ (l : List OpenEnter). Invariant k l (run body m')) closed (calls-keep c body fit (calling puts m f ∷ os) m' callee) in
        let h = leave-holds c (calling puts m f) os (run body m') i in
        record {
          accepted = h.0;
          kept = h.1;
          result = each_more (Volatile k) _ (leave-result k (calling puts m f) os (run body m') i h.0) (span_registers (result_spans p.result)) (result-volatile s);
        }

  pub claims : (os : List OpenEnter) (m : Machine) → Able p os m → (cs : Machine → List ℕ) (n : ℕ) (puts : List Call) → Ready s b cs n os m puts
      → Claims s values cs base hidden os m puts
  claims os m able cs n puts ready = record {
    accepted = ready.accepted;
    opened = ready.opened;
    fit = ready.fit;
    passed = passes os m able cs n puts ready;
    homed = λ power f e. homing os m able cs n puts ready f e power;
    returned = returns os m able cs n puts ready;
  }
