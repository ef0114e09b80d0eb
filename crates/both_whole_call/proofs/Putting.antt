-- The calls that put a filling are accepted and put it, so that a callee finds it: `Ready`, with the copies outside the machine and in the caller's locals. Of the machine's own
-- calls. Assumes nothing.
use mathlib.Core.Path.{◌≡◌, sym, ap, ◌∙◌, subst}
use mathlib.Core.Logic.{inl}
use mathlib.Core.Bool.{false}
use mathlib.Core.List.{List, ◌∷◌, ◌++◌, map}
use Prim.Native.Nat.{ℕ, ◌+◌, ◌-◌, ◌≤◌}
use native.Mathlib.Omega.{arith}
use lib.ListN.{length, take}
use lib.Seq.{length-take-le, take-length}
use Rattle.base_words.specs.Basics.{All}
use Rattle.base_words.specs.Splice.{splice, part}
use Rattle.base_words.proofs.Splices.{splice-same, splice-other}
use Rattle.base_words.proofs.Each.{each-with}
use Rattle.base_conventions.specs.declared.Convention.{Convention}
use Rattle.plan_places.specs.Step.{word_of}
use Rattle.plan_plans.specs.declared.Plan.{Plan}
use Rattle.call_slots.specs.Buffers.{Buffers}
use Rattle.call_slots.specs.Arguments.{plan_for, rules_for}
use Rattle.call_roundtrip.specs.RoundTrip.{Filled, left_by_fill}
use Rattle.call_roundtrip.proofs.Theorems.{Left, filled-left}
use Rattle.frame_rules.specs.declared.FrameRules.{FrameRules}
use Rattle.frame_rules.specs.declared.Frame.{Frame}
use Rattle.frame_rules.specs.Rules.{rules}
use Rattle.frame_rules.specs.Frames.{outgoing_length}
use Rattle.frame_rules.proofs.Conventions.{lawful}
use Rattle.std.specs.Prelude.{Ok}
use Rattle.frame_machine.specs.declared.State.{State}
use Rattle.frame_machine.specs.Machine.{stack_pointer, offset}
use Rattle.frame_history.specs.Calls.{Call, enter, Machine, answer}
use Rattle.frame_history.specs.Preserved.{OpenEnter, caller_of, CallsFit}
use Rattle.frame_history.proofs.Invariant.{Invariant, base-of}
use Rattle.both_whole_call.specs.Put.{bytes_in, own_area, Register, named, pieces_joined, Cut}
use Rattle.both_whole_call.specs.Caller.{first_saved, Free, InLocals}
use Rattle.both_whole_call.proofs.Steps.{run, AllAccepted, opened_by, run-both, opened_both, accepted-both, fit-both}
use Rattle.both_whole_call.proofs.Registers.{Holds, write_of, free-below, Putable, AfterPut, after-put, registers-fit}
use Rattle.both_whole_call.proofs.Memory.{own-area, own-locals, put_pieces, AfterPieces, after-pieces, pieces-fit, area-inside, locals-inside}
use Rattle.both_whole_call.proofs.Entering.{enter-part, enter-base}
use Rattle.both_whole_call.proofs.Filled.{OfBytes, word-is}
use Rattle.both_whole_call.proofs.Standing.{image-fits}
use Rattle.both_whole_call.proofs.Callee.{Able, in_callee, Ready, all-bytes}

-- the calls that put what filling left in b
abbrev pub puttings : List ℕ → Buffers → List (List ℕ) → Machine → List Call
puttings s b pieces m = map (write_of b.image) (named (plan_for s)) ++ put_pieces (own_area (rules (plan_for s).convention) m) pieces

module _ (s values image area copies : List ℕ) (base hidden : ℕ) (filled : Filled s values image area copies base hidden)
    (os : List OpenEnter) (m : Machine) (able : Able (plan_for s) os m)
    (pieces : List (List ℕ)) (cut : Cut pieces (take (plan_for s).area (left_by_fill s values image area copies base hidden).area)) where
  abbrev p : Plan
  p = plan_for s

  abbrev b : Buffers
  b = left_by_fill s values image area copies base hidden

  abbrev c : Convention
  c = p.convention

  abbrev k : FrameRules
  k = rules c

  stands : Left s values base b
  stands = filled-left s values image area copies base hidden filled

  start : Invariant k os m
  start = able.invariant

  -- ---- the registers

  putable : (x : Register) → Free k (caller_of k os) x → OfBytes (word_of (rules_for s)) b.image x → Putable c os b.image x
  putable x free bytes = (
    free,
    image-fits k (lawful c) b.image stands.image x (free-below k (lawful c) (first_saved x.bank (caller_of k os)) x.number x.bank free)
        (subst (λ (w : ℕ). OfBytes w b.image x) (word-is s) bytes),
  )

  all-putable : All (Putable c os b.image) (named p)
  all-putable =
      each-with (Free k (caller_of k os)) (OfBytes (word_of (rules_for s)) b.image) (Putable c os b.image) putable (named p) able.suits.free
      (all-bytes s values image area copies base hidden filled)

  abbrev registers : List Call
  registers = map (write_of b.image) (named p)

  abbrev m₁ : Machine
  m₁ = run registers m

  first : AfterPut c os b.image (named p) m m₁
  first = after-put c os b.image (named p) m start all-putable

  -- ---- the area

  abbrev a : ℕ
  a = own_area k m

  length-area : length (pieces_joined pieces) ≡ p.area
  length-area = ap length cut.whole ∙ length-take-le p.area b.area stands.area

  abbrev m₂ : Machine
  m₂ = run (put_pieces a pieces) m₁

  over : m₁.state.base ≤ stack_pointer k m₁.state
  over = omega (arith, (base-of k os m₁ first.invariant).sound.over)

  second : AfterPieces c os a pieces m₁ m₂
  second =
      after-pieces c os _ _ a pieces m₁ first.invariant (own-area k os m₁ first.invariant able.suits.solid) (omega (arith, over)) cut.short (omega (arith, first.pointer))
      (omega (arith, first.pointer, length-area, able.suits.room))

  -- where the area lies in the memory
  at : offset k m₁.state + k.header ≡ a - m₁.state.base
  at = omega (arith, first.pointer, over)

  area-put : bytes_in (own_area k m₂) p.area m₂ ≡ take p.area b.area
  area-put =
      ap (λ (y : State). part (stack_pointer k y + k.header - y.base) p.area m₂.memory) second.state
      ∙ ap (λ (n : ℕ). part (n + k.header - m₁.state.base) p.area m₂.memory) first.pointer
      ∙ ap (part (a - m₁.state.base) p.area) second.memory
      ∙ ap (λ (n : ℕ). part (a - m₁.state.base) n (splice m₁.memory (a - m₁.state.base) (pieces_joined pieces))) (sym length-area)
      ∙ splice-same m₁.memory (a - m₁.state.base) (pieces_joined pieces) (omega (arith, length-area, able.suits.room, at, area-inside k (lawful c) os m₁ first.invariant able.suits.solid))
      ∙ cut.whole

  -- ---- both

  abbrev puts : List Call
  puts = puttings s b pieces m

  puts-run : run puts m ≡ m₂
  puts-run = run-both registers (put_pieces a pieces) m

  puts-accepted : AllAccepted puts m
  puts-accepted = accepted-both registers (put_pieces a pieces) m first.accepted second.accepted

  puts-opened : opened_by puts m os ≡ os
  puts-opened = opened_both registers (put_pieces a pieces) m os ∙ ap (opened_by (put_pieces a pieces) m₁) first.opened ∙ second.opened

  puts-fit : CallsFit puts
  puts-fit = fit-both registers (put_pieces a pieces) (registers-fit c os b.image (named p) all-putable) (pieces-fit a pieces)

  -- the registers hold, after more that leaves the state
  still-hold : (m' : Machine) → m'.state ≡ m₁.state → All (λ x. Holds b.image m'.state.registers x) (named p)
  still-hold m' e = rw e first.holds

  -- ---- the copies outside the machine

  pub ready : Ready s b (λ _. b.copies) (length b.copies) os m puts
  ready = record {
    accepted = puts-accepted;
    opened = puts-opened;
    fit = puts-fit;
    invariant = rw puts-run second.invariant;
    holds = rw puts-run (still-hold m₂ second.state);
    area = rw puts-run area-put;
    least = stands.copies;
    most = omega arith;
    copies = λ f e. sym (take-length b.copies);
  }

  -- ---- the copies in the locals of the running function, which is the enter o

  module _ (o : OpenEnter) (rest : List OpenEnter) (is : os ≡ o ∷ rest) (local : InLocals k o.request m base p.copies)
      (more : List (List ℕ)) (cut-more : Cut more (take p.copies b.copies)) where
    length-copies : length (pieces_joined more) ≡ p.copies
    length-copies = ap length cut-more.whole ∙ length-take-le p.copies b.copies stands.copies

    entered : Invariant k (o ∷ rest) m₂
    entered = subst (λ (l : List OpenEnter). Invariant k l m₂) is second.invariant

    running : caller_of k os ≡ o.request
    running = ap (caller_of k) is

    solid : o.request.leaf ≡ false
    solid = ap (λ (f : Frame). f.leaf) (sym running) ∙ able.suits.solid

    abbrev m₃ : Machine
    m₃ = run (put_pieces base more) m₂

    over₂ : m₂.state.base ≤ stack_pointer k m₂.state
    over₂ = omega (arith, entered.0.sound.over)

    pointer₂ : stack_pointer k m₂.state ≡ stack_pointer k m.state
    pointer₂ = ap (stack_pointer k) second.state ∙ first.pointer

    third : AfterPieces c os base more m₂ m₃
    third =
        after-pieces c os _ _ base more m₂ second.invariant (own-locals k o rest m₂ entered solid) (omega (arith, over₂)) cut-more.short
        (omega (arith, pointer₂, local.from)) (omega (arith, pointer₂, local.to, length-copies))

    -- where the copies lie in the memory, which is past the area
    abbrev to : ℕ
    to = base - m₂.state.base

    past : offset k m₂.state + k.header + p.area ≤ to
    past = omega (arith, pointer₂, over₂, local.from, able.suits.room, ap (outgoing_length k) running)

    area-kept : bytes_in (own_area k m₃) p.area m₃ ≡ take p.area b.area
    area-kept =
        ap (λ (y : State). part (stack_pointer k y + k.header - y.base) p.area m₃.memory) third.state
        ∙ ap (part (own_area k m₂ - m₂.state.base) p.area) third.memory
        ∙ splice-other m₂.memory to (pieces_joined more) (own_area k m₂ - m₂.state.base) p.area (inl (omega (arith, past, over₂)))
        ∙ area-put

    copies-put : bytes_in base p.copies m₃ ≡ take p.copies b.copies
    copies-put =
        ap (λ (y : State). part (base - y.base) p.copies m₃.memory) third.state
        ∙ ap (part to p.copies) third.memory
        ∙ ap (λ (n : ℕ). part to n (splice m₂.memory to (pieces_joined more))) (sym length-copies)
        ∙ splice-same m₂.memory to (pieces_joined more) (omega (arith, length-copies, pointer₂, over₂, local.from, local.to, locals-inside k (lawful c) o rest m₂ entered))
        ∙ cut-more.whole

    abbrev all : List Call
    all = puts ++ put_pieces base more

    all-run : run all m ≡ m₃
    all-run = run-both puts (put_pieces base more) m ∙ ap (run (put_pieces base more)) puts-run

    -- the enter of a callee leaves them
    copies-found : (f : Frame) → answer (enter f) (run all m) ≡ Ok tt → bytes_in base p.copies (in_callee all m f) ≡ take p.copies b.copies
    copies-found f e =
        let kept : Invariant k os (run all m) = rw all-run third.invariant in
        let state : (run all m).state ≡ m₂.state = ap (λ (y : Machine). y.state) all-run ∙ third.state in
        let above : offset k (run all m).state + k.header ≤ base - (run all m).state.base = rw state (omega (arith, past)) in
        ap (λ (n : ℕ). part (base - n) p.copies (in_callee all m f).memory) (enter-base c os (run all m) kept f e)
        ∙ enter-part c os (run all m) kept f e (base - (run all m).state.base) p.copies above
        ∙ ap (bytes_in base p.copies) all-run
        ∙ copies-put

    pub ready-inside : Ready s b (bytes_in base p.copies) p.copies os m all
    ready-inside = record {
      accepted = accepted-both puts (put_pieces base more) m puts-accepted (rw puts-run third.accepted);
      opened = opened_both puts (put_pieces base more) m os ∙ rw (puts-run, puts-opened) third.opened;
      fit = fit-both puts (put_pieces base more) puts-fit (pieces-fit base more);
      invariant = rw all-run third.invariant;
      holds = rw all-run (still-hold m₃ (third.state ∙ second.state));
      area = rw all-run area-kept;
      least = omega arith;
      most = stands.copies;
      copies = copies-found;
    }
