-- Bytes put by writes in the running function's outgoing area: every write is accepted, and together they are one splice. Assumes nothing.
use mathlib.Core.Path.{◌≡◌, refl, sym, ap, ◌∙◌, subst}
use mathlib.Core.Bool.{true, false}
use mathlib.Core.List.{List, [], ◌∷◌, ◌++◌}
use Prim.Native.Nat.{ℕ, ◌+◌, ◌-◌, ◌≤◌, ◌<◌}
use native.Mathlib.Omega.{arith}
use borrow.Author.Tests.{le-leb, lt-ltb}
use lib.ListN.{length, length-append}
use Rattle.base_words.specs.Basics.{All}
use Rattle.base_words.specs.Splice.{splice}
use Rattle.base_words.proofs.Splices.{splice-append, splice-nothing}
use Rattle.base_words.proofs.Tests.{or_right}
use Rattle.base_conventions.specs.declared.Convention.{Convention}
use Rattle.frame_rules.specs.declared.FrameRules.{FrameRules}
use Rattle.frame_rules.specs.declared.Frame.{Frame}
use Rattle.frame_rules.specs.Rules.{rules}
use Rattle.frame_rules.specs.Frames.{outgoing_length, below, frame_size}
use Rattle.frame_rules.specs.Helpers.{LawfulFrames}
use Rattle.frame_rules.proofs.Places.{size-parts}
use Rattle.std.specs.Prelude.{Ok}
use Rattle.frame_machine.specs.declared.FrameRefusal.TheVariants.{NotPermitted}
use Rattle.frame_machine.specs.declared.State.{State}
use Rattle.frame_machine.specs.Answers.{require, judge}
use Rattle.frame_machine.specs.Machine.{state_rules, stack_pointer, offset, top, caller, state_tests, inside, outgoing_from, locals_from, writable_bytes, writable_address, write_memory_answer, written_memory, write_memory_outcome}
use Rattle.frame_machine.proofs.Judging.{judge-next}
use Rattle.frame_machine.proofs.States.{state-accepted}
use Rattle.frame_machine.proofs.Outcomes.{write-memory-accepted}
use Rattle.frame_history.specs.Calls.{Call, write_memory, Machine, answer, after}
use Rattle.frame_history.specs.Preserved.{OpenEnter, caller_of, CallsFit}
use Rattle.frame_history.proofs.Writing.{caller-is}
use Rattle.frame_history.proofs.Invariant.{Base, Invariant, base-of, top-is}
use Rattle.both_whole_call.specs.Put.{callers_area, pieces_joined, WritablePiece}
use Rattle.both_whole_call.proofs.Steps.{run, AllAccepted, opened_by, call-keeps}

-- any 1 to 256 bytes from the address lo up to hi may be written
abbrev pub Region : FrameRules → State → ℕ → ℕ → Type 0
Region k s lo hi = (a n : ℕ) → 1 ≤ n → n ≤ 256 → lo ≤ a → a + n ≤ hi → writable_address k s a n ≡ true

-- the own outgoing area
area-region : (k : FrameRules) (s : State) (f : Frame) → top k s ≡ f → f.leaf ≡ false → s.base ≤ stack_pointer k s
    → Region k s (stack_pointer k s + k.header) (stack_pointer k s + k.header + outgoing_length k f)
unfolding writable_address writable_bytes
area-region k s f e solid over a n some small low high =
    rw (
      le-leb s.base a (omega arith),
      le-leb 1 n some,
      le-leb n 256 small,
      e,
      solid,
      le-leb (offset k s + k.header) (a - s.base) (omega arith),
      le-leb (a - s.base + n) (offset k s + k.header + outgoing_length k f) (omega arith),
    )

-- the own locals, of a function that was entered
locals-region : (k : FrameRules) (s : State) (f : Frame) → top k s ≡ f → f.leaf ≡ false → s.base ≤ stack_pointer k s → 0 < s.depth
    → Region k s (stack_pointer k s + k.header + outgoing_length k f) (stack_pointer k s + frame_size k f - below k.linkage k f)
unfolding writable_address writable_bytes
locals-region k s f e solid over deep a n some small low high =
    let start : locals_from k f (offset k s) ≡ offset k s + k.header + outgoing_length k f = rw solid in
    rw (
      le-leb s.base a (omega arith),
      le-leb 1 n some,
      le-leb n 256 small,
      lt-ltb 0 s.depth deep,
      e,
      le-leb (locals_from k f (offset k s)) (a - s.base) (omega (arith, start)),
      le-leb (a - s.base + n) (offset k s + frame_size k f - below k.linkage k f) (omega arith),
    )
    (or_right (inside (a - s.base) n (outgoing_from k f (offset k s)) (locals_from k f (offset k s))) true refl)

-- the caller's outgoing area, of a function that was entered, a leaf or not
callers-region : (k : FrameRules) (s : State) (f g : Frame) → top k s ≡ f → caller k s ≡ g → s.base ≤ stack_pointer k s → 0 < s.depth
    → Region k s (stack_pointer k s + frame_size k f + k.header) (stack_pointer k s + frame_size k f + k.header + outgoing_length k g)
unfolding writable_address writable_bytes
callers-region k s f g e d over deep a n some small low high =
    rw (
      le-leb s.base a (omega arith),
      le-leb 1 n some,
      le-leb n 256 small,
      lt-ltb 0 s.depth deep,
      e,
      d,
      le-leb (offset k s + frame_size k f + k.header) (a - s.base) (omega arith),
      le-leb (a - s.base + n) (offset k s + frame_size k f + k.header + outgoing_length k g) (omega arith),
    )
    (or_right (inside (a - s.base) n (outgoing_from k f (offset k s)) (locals_from k f (offset k s))) _
    (or_right (inside (a - s.base) n (locals_from k f (offset k s)) (offset k s + frame_size k f - below k.linkage k f)) true refl))

module _ (k : FrameRules) where
  pub own-area : (os : List OpenEnter) (m : Machine) → Invariant k os m → (caller_of k os).leaf ≡ false
      → Region k m.state (stack_pointer k m.state + k.header) (stack_pointer k m.state + k.header + outgoing_length k (caller_of k os))
  own-area os m i solid = area-region k m.state (caller_of k os) (top-is k os m i) solid (omega (arith, (base-of k os m i).sound.over))

  pub own-locals : (o : OpenEnter) (os : List OpenEnter) (m : Machine) → Invariant k (o ∷ os) m → o.request.leaf ≡ false
      → Region k m.state (stack_pointer k m.state + k.header + outgoing_length k o.request) (stack_pointer k m.state + frame_size k o.request - below k.linkage k o.request)
  own-locals o os m i solid =
      locals-region k m.state o.request (top-is k (o ∷ os) m i) solid (omega (arith, i.0.sound.over)) (omega (arith, i.1.deep))

  pub callers-area : (o : OpenEnter) (os : List OpenEnter) (m : Machine) → Invariant k (o ∷ os) m
      → Region k m.state (callers_area k o.request m) (callers_area k o.request m + outgoing_length k (caller_of k os))
  callers-area o os m i =
      callers-region k m.state o.request (caller_of k os) (top-is k (o ∷ os) m i) (caller-is k o os m i) (omega (arith, i.0.sound.over)) (omega (arith, i.1.deep))

-- ---- one write

module _ (c : Convention) (os : List OpenEnter) (m : Machine) (i : Invariant (rules c) os m) (a : ℕ) (bs : List ℕ) (may : writable_address (rules c) m.state a (length bs) ≡ true) where
  abbrev k : FrameRules
  k = rules c

  base : Base k m
  base = base-of k os m i

  allowed : write_memory_answer k m.state (length m.memory) a (length bs) ≡ Ok tt
  unfolding write_memory_answer judge
  allowed =
      judge-next (state_tests k m.state (length m.memory)) (require (writable_address k m.state a (length bs)) NotPermitted ∷ [])
      (state-accepted k m.state (length m.memory) base.sound)
      ∙ rw may

  judged : write_memory_answer (state_rules m.state) m.state (length m.memory) a (length bs) ≡ Ok tt
  judged = subst (λ (r : FrameRules). write_memory_answer r m.state (length m.memory) a (length bs) ≡ Ok tt) (sym base.rules) allowed

  put-accepted : answer (write_memory a bs) m ≡ Ok tt
  unfolding write_memory_outcome
  put-accepted = judged

  put-state : (after (write_memory a bs) m).state ≡ m.state
  unfolding write_memory_outcome
  put-state = refl

  put-memory : (after (write_memory a bs) m).memory ≡ splice m.memory (a - m.state.base) bs
  unfolding written_memory
  put-memory = (write-memory-accepted m.state m.memory a bs judged).1

  put-invariant : Invariant k os (after (write_memory a bs) m)
  put-invariant = call-keeps c (write_memory a bs) tt os m i

-- ---- several

-- the machine's own calls that write pieces of bytes, from the address a on
unfoldable pub put_pieces : ℕ → List (List ℕ) → List Call
put_pieces a [] = []
put_pieces a (bs ∷ rest) = write_memory a bs ∷ put_pieces (a + length bs) rest

-- the machine m' after the writes of the pieces from the address a on
pub record AfterPieces (c : Convention) (os : List OpenEnter) (a : ℕ) (pieces : List (List ℕ)) (m m' : Machine) : Type 0 where
  pub accepted : AllAccepted (put_pieces a pieces) m
  pub opened : opened_by (put_pieces a pieces) m os ≡ os
  pub invariant : Invariant (rules c) os m'
  pub state : m'.state ≡ m.state
  pub memory : m'.memory ≡ splice m.memory (a - m.state.base) (pieces_joined pieces)

pub after-pieces : (c : Convention) (os : List OpenEnter) (lo hi a : ℕ) (pieces : List (List ℕ)) (m : Machine) → Invariant (rules c) os m → Region (rules c) m.state lo hi
    → m.state.base ≤ lo → All WritablePiece pieces → lo ≤ a → a + length (pieces_joined pieces) ≤ hi → AfterPieces c os a pieces m (run (put_pieces a pieces) m)
unfolding AllAccepted opened_by run put_pieces pieces_joined All
after-pieces c os lo hi a [] m i region over s low high =
    record { accepted = tt; opened = refl; invariant = i; state = refl; memory = sym (splice-nothing m.memory (a - m.state.base)) }
after-pieces c os lo hi a (bs ∷ rest) m i region over s low high =
    let m₁ : Machine = after (write_memory a bs) m in
    let all : length (bs ++ pieces_joined rest) ≡ length bs + length (pieces_joined rest) = length-append bs (pieces_joined rest) in
    let may : writable_address (rules c) m.state a (length bs) ≡ true = region a (length bs) s.0.0 s.0.1 low (omega arith) in
    let same : m₁.state ≡ m.state = put-state c os m i a bs may in
    let r = after-pieces c os lo hi (a + length bs) rest m₁ (put-invariant c os m i a bs may) (subst (λ (x : State). Region (rules c) x lo hi) (sym same) region)
    (subst (λ (x : State). x.base ≤ lo) (sym same) over) s.1 (omega arith) (omega arith) in
    let at : a + length bs - m.state.base ≡ (a - m.state.base) + length bs = omega arith in
    record {
      accepted = (put-accepted c os m i a bs may, r.accepted);
      opened = r.opened;
      invariant = r.invariant;
      state = r.state ∙ same;
      memory =
          r.memory
          ∙ ap (λ (x : State). splice m₁.memory (a + length bs - x.base) (pieces_joined rest)) same
          ∙ ap (λ (l : List ℕ). splice l (a + length bs - m.state.base) (pieces_joined rest)) (put-memory c os m i a bs may)
          ∙ ap (λ (n : ℕ). splice (splice m.memory (a - m.state.base) bs) n (pieces_joined rest)) at
          ∙ sym (splice-append m.memory (a - m.state.base) bs (pieces_joined rest));
    }

-- writes to memory have no values of registers
pub pieces-fit : (a : ℕ) (pieces : List (List ℕ)) → CallsFit (put_pieces a pieces)
unfolding put_pieces All
pieces-fit a [] = tt
pieces-fit a (bs ∷ rest) = (tt, pieces-fit (a + length bs) rest)

-- ---- where it lies

-- the running function's outgoing area lies in the memory
pub area-inside : (k : FrameRules) → LawfulFrames k → (os : List OpenEnter) (m : Machine) → Invariant k os m → (caller_of k os).leaf ≡ false
    → offset k m.state + k.header + outgoing_length k (caller_of k os) ≤ length m.memory
area-inside k law [] m i solid = omega (arith, law.head, i.0.sound.sum, i.0.sound.over, i.0.sound.length)
area-inside k law (o ∷ os) m i solid =
    let was = base-of k os o.before i.2 in
    omega (arith, size-parts k law o.request i.1.request solid, i.1.pointer, i.1.base, i.1.size, was.sound.sum, i.0.sound.over, i.0.sound.length)

-- and so do its locals
pub locals-inside : (k : FrameRules) → LawfulFrames k → (o : OpenEnter) (os : List OpenEnter) (m : Machine) → Invariant k (o ∷ os) m
    → offset k m.state + frame_size k o.request ≤ length m.memory
locals-inside k law o os m i =
    let was = base-of k os o.before i.2 in
    omega (arith, i.1.pointer, i.1.base, i.1.size, was.sound.sum, i.0.sound.over, i.0.sound.length)
