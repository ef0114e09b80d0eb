-- Demand 3, proved: every list of calls from every accepted start of any convention. The invariant holds at the start and each call keeps it. Assumes nothing.
use Prim.Native.Nat.{ℕ, ◌+◌, ◌-◌, ◌*◌, ◌^◌, ◌≤◌, ◌<◌}
use mathlib.Core.Path.{◌≡◌, refl, sym, ◌∙◌}
use mathlib.Core.Bool.{true}
use mathlib.Core.List.{List, [], ◌∷◌}
use native.Mathlib.Omega.{arith}
use native.Mathlib.Nat.{mod-lt}
use lib.ListN.{length, get_or, set, length-set, get_or-eq_default}
use lib.Seq.{get_or-set_same}
use Rattle.base_words.specs.Basics.{All}
use Rattle.base_words.proofs.Fitting.{fit-set}
use Rattle.frame_saves.specs.Saves.{load}
use Rattle.frame_saves.proofs.Words.{store_length, load_store}
use Rattle.base_conventions.specs.declared.Convention.{Convention}
use Rattle.frame_rules.specs.declared.FrameRules.{FrameRules}
use Rattle.frame_rules.specs.declared.Registers.{Registers}
use Rattle.frame_rules.specs.Rules.{rules}
use Rattle.frame_rules.specs.Frames.{with_pointer, lowered, cleared}
use Rattle.frame_rules.specs.Helpers.{LawfulFrames}
use Rattle.frame_rules.proofs.Halves.{lowered-length, lowered-fit}
use Rattle.frame_rules.proofs.Conventions.{lawful}
use Rattle.frame_machine.specs.Answers.{FrameAnswer}
use Rattle.std.specs.Prelude.{Ok, Err}
use Rattle.frame_machine.specs.Machine.{ok_memory, ok_frames, sizes, start_answer, started, started_memory, start_outcome, start_memory, enter_outcome, enter_memory, write_register_outcome, write_memory_outcome, write_memory_memory, leave_outcome}
use Rattle.frame_machine.proofs.Judging.{never, holds-yes}
use Rattle.frame_machine.proofs.States.{memory-yes}
use Rattle.frame_history.specs.Calls.{Call, enter, write_register, write_memory, leave, Machine, answer, after, fresh}
use Rattle.frame_history.specs.Preserved.{OpenEnter, open_after, CallHolds, Holds, RegistersFit, CallFits, CallsFit, Demand3OfStates}
use Rattle.frame_history.proofs.Invariant.{fit_small, Base, Invariant, base-of}
use Rattle.frame_history.proofs.Entering.{enter-keeps}
use Rattle.frame_history.proofs.Writing.{write-register-keeps, write-memory-keeps}
use Rattle.frame_history.proofs.Leaving.{leave-refused, leave-accepted, leave-keeps}

-- ---- one call

module _ (k : FrameRules) (law : LawfulFrames k) where
  pub step : (c : Call) → CallFits c → (os : List OpenEnter) (m : Machine) → Invariant k os m → (a : FrameAnswer) → answer c m ≡ a
      → CallHolds k c a os (after c m) × Invariant k (open_after c a m os) (after c m)
  unfolding enter_outcome enter_memory write_register_outcome write_memory_outcome write_memory_memory leave_outcome
  step (enter f) w os m i (Ok tt) e =
      let r = (base-of k os m i).rules in (tt, rw (e, r) (enter-keeps k law os m f i (rw r at e)))
  step (enter f) w os m i (Err x) e = (tt, rw e i)
  step (write_register b n v) w os m i (Ok tt) e =
      let r = (base-of k os m i).rules in (tt, rw e (write-register-keeps k law os m b n v w i (rw r at e)))
  step (write_register b n v) w os m i (Err x) e = (tt, rw e i)
  step (write_memory a bs) w os m i (Ok tt) e =
      let r = (base-of k os m i).rules in (tt, rw e (write-memory-keeps k law os m a bs i (rw r at e)))
  step (write_memory a bs) w os m i (Err x) e = (tt, rw e i)
  step leave w [] m i (Ok tt) e = absurd (never _ (sym (leave-refused k m i) ∙ rw i.0.rules at e))
  step leave w [] m i (Err x) e = (tt, rw e i)
  step leave w (o ∷ os) m i (Ok tt) e = let r = i.0.rules in rw (e, r) (leave-keeps k law o os m i)
  step leave w (o ∷ os) m i (Err x) e = absurd (never x (sym (rw i.0.rules at e) ∙ leave-accepted k law o os m i))

  -- ---- a list of calls

  holds : (cs : List Call) → CallsFit cs → (os : List OpenEnter) (m : Machine) → Invariant k os m → Holds k cs os m
  unfolding All
  holds [] w os m i = tt
  holds (c ∷ cs) w os m i =
      let r = step c w.0 os m i (answer c m) refl in
      (r.0, holds cs w.1 (open_after c (answer c m) m os) (after c m) r.1)

-- ---- the start

module _ (c : Convention) (b : ℕ) (l : List ℕ) (r : Registers) (fit : RegistersFit 8 r) (e : start_answer c b (length l) ≡ Ok tt) where
  abbrev k : FrameRules
  k = rules c

  abbrev n : ℕ
  n = length l

  law : LawfulFrames k
  law = lawful c

  okay : ok_memory k b n ≡ true
  unfolding start_answer
  okay = (holds-yes _ _ e).0

  bounds : (256 ≤ n) × (n ≤ 65536) × (b + n ≤ k.limit) × (k.room + k.floor ≤ n)
  bounds = memory-yes k b n okay

  -- the general registers less their high halves
  abbrev low : List ℕ
  low = lowered k.limit r.gpr 32

  low-fit : (i : ℕ) → get_or low i 0 < 2 ^ (8 * k.word)
  low-fit i =
      omega (arith, law.limit, lowered-fit k.limit 32 r.gpr (λ j p. omega (arith, get_or-eq_default r.gpr 0 {n = j} (omega (arith, fit.gprs)))) i)

  pointer : get_or (set low k.pointer (b + n - k.room)) k.pointer 0 ≡ b + n - k.room
  pointer = get_or-set_same low k.pointer (b + n - k.room) 0 (omega (arith, fit.gprs, law.pointer, lowered-length k.limit r.gpr 32))

  abbrev registers : Registers
  registers = with_pointer k (cleared k r) (b + n - k.room)

  fits : RegistersFit k.word registers
  unfolding with_pointer cleared
  fits =
      let pos : 0 < k.limit + 1 = omega arith in
      record {
        gprs = length-set low k.pointer (b + n - k.room) ∙ lowered-length k.limit r.gpr 32 ∙ fit.gprs;
        fprs = fit.fprs;
        gpr = fit-set low k.pointer (b + n - k.room) (2 ^ (8 * k.word)) low-fit (omega (arith, bounds, law.limit));
        fpr = fit.fpr;
        lr = omega (arith, mod-lt r.lr pos, law.limit);
        cr = fit.cr;
      }

  base : Base k (record { state = started c b n r; memory = started_memory k l })
  unfolding started started_memory with_pointer cleared ok_frames sizes
  base = record {
    fit = fits;
    frames = refl;
    rules = refl;
    sound = record {
      small = fit_small k law registers fits;
      shallow = omega arith;
      requests = refl;
      memory = okay;
      over = omega (arith, pointer, bounds, law.room);
      sum = omega (arith, pointer, bounds, law.room);
      length = store_length l (n - k.room) k.word 0;
    };
  }

  zero_word : load (started_memory k l) (get_or (set low k.pointer (b + n - k.room)) k.pointer 0 - b) k.word ≡ 0
  unfolding started_memory
  zero_word =
      let at : get_or (set low k.pointer (b + n - k.room)) k.pointer 0 - b ≡ n - k.room = omega (arith, pointer, bounds, law.room) in
      rw at (load_store l (n - k.room) k.word 0 (omega (arith, law.limit)) (omega (arith, bounds, law.head, law.room, law.chain)))

  pub start-invariant : Invariant k [] (fresh c b l r)
  unfolding start_outcome start_memory started with_pointer cleared
  start-invariant = rw e (base, refl, zero_word)

-- DEMAND 3 of the machine's own calls
pub calls-hold : Demand3OfStates
unfolding start_outcome
calls-hold c b l r fit e cs w = holds (rules c) (lawful c) cs w [] (fresh c b l r) (start-invariant c b l r fit e)
