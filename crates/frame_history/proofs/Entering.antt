-- An accepted enter keeps the invariant, with its enter open. Assumes nothing.
use Prim.Native.Nat.{ℕ, ◌+◌, ◌-◌, ◌*◌, ◌^◌, ◌≤◌, ◌<◌}
use mathlib.Core.Path.{◌≡◌, refl, ◌∙◌}
use mathlib.Core.Bool.{false}
use mathlib.Core.List.{List, ◌∷◌}
use native.Mathlib.Omega.{arith}
use native.Mathlib.Numerals.{add-one}
use lib.ListN.{length, get_or, set, length-set}
use lib.Seq.{get_or-set_same, get_or-set_other}
use Rattle.base_words.specs.Basics.{All}
use Rattle.base_words.proofs.Fitting.{fit-set, fit-replicate}
use Rattle.frame_saves.specs.Saves.{store, save_all}
use Rattle.frame_saves.proofs.Words.{load-agree, load_store, store_length, store-above}
use Rattle.frame_saves.proofs.Saving.{Fitting, all-length, all-outside, all_held, outside_below}
use Rattle.frame_rules.specs.declared.FrameRules.{FrameRules}
use Rattle.frame_rules.specs.declared.Frame.{Frame}
use Rattle.frame_rules.specs.declared.Registers.{Registers}
use Rattle.frame_rules.specs.declared.Linkage.{Linkage}
use Rattle.frame_rules.specs.declared.Linkage.TheVariants.{LinkRegister, SaveArea}
use Rattle.frame_rules.specs.Frames.{no_frame, with_pointer, below, frame_size, chain_width, saves_by, saves}
use Rattle.frame_rules.specs.Helpers.{LawfulFrames}
use Rattle.frame_rules.proofs.Conventions.{pointer-unpreserved}
use Rattle.frame_rules.proofs.Places.{solid-chain, below-reach, chain-in, ascending}
use Rattle.std.specs.Prelude.{Ok}
use Rattle.frame_machine.specs.declared.State.{State}
use Rattle.frame_machine.specs.Machine.{stack_pointer, offset, frame_at, ok_frames, sizes, enter_answer, entered, entered_memory}
use Rattle.frame_machine.specs.Helpers.{CanEnter}
use Rattle.frame_machine.proofs.States.{enter-yes, top-agree, frames-agree, sizes-agree}
use Rattle.frame_history.specs.Calls.{Machine}
use Rattle.frame_history.specs.Preserved.{OpenEnter, caller_of, RegistersFit}
use Rattle.frame_history.proofs.Invariant.{fit_small, Base, Top, Invariant, base-of, top-is}

-- what is saved fits its words
fit-saves : (p : Linkage) (k : FrameRules) (f : Frame) (s : ℕ) (r : Registers) → RegistersFit k.word r → All Fitting (saves_by p k f s r)
unfolding saves_by All
fit-saves (LinkRegister c l) k f s r w = (w.gpr, (w.fpr, (fit-replicate 1 r.cr (2 ^ 32) w.cr, (fit-replicate 1 r.lr (2 ^ (8 * k.word)) w.lr, tt))))
fit-saves (SaveArea n) k f s r w = (w.fpr, (w.gpr, tt))

module _ (k : FrameRules) (law : LawfulFrames k) (m : Machine) (f : Frame) (b : Base k m) (y : CanEnter k m.state f) where
  abbrev s : State
  s = m.state

  pub new-pointer : get_or (set s.registers.gpr k.pointer (stack_pointer k s - frame_size k f)) k.pointer 0 ≡ stack_pointer k s - frame_size k f
  new-pointer = get_or-set_same s.registers.gpr k.pointer (stack_pointer k s - frame_size k f) 0 (omega (arith, b.fit.gprs, law.pointer))

  pointer-fits : stack_pointer k s < 2 ^ (8 * k.word)
  pointer-fits = b.fit.gpr k.pointer

  new-frame : frame_at (set s.frames s.depth f) s.depth ≡ f
  new-frame = get_or-set_same s.frames s.depth f no_frame (omega (arith, b.frames, y.shallow))

  old-frame : (d : ℕ) → d < s.depth → frame_at (set s.frames s.depth f) d ≡ frame_at s.frames d
  old-frame d p = get_or-set_other s.frames s.depth d f no_frame (λ e. omega arith)

  requests-entered : ok_frames k (set s.frames s.depth f) (s.depth + 1) ≡ ok_frames k s.frames s.depth
  unfolding ok_frames
  requests-entered =
      rw (add-one, new-frame, y.request, top-agree k s.depth (set s.frames s.depth f) s.frames old-frame, y.solid) (frames-agree k s.depth (set s.frames s.depth f) s.frames old-frame)

  sizes-entered : sizes k (set s.frames s.depth f) (s.depth + 1) ≡ sizes k s.frames s.depth + frame_size k f
  unfolding sizes
  sizes-entered = rw (add-one, new-frame, sizes-agree k s.depth (set s.frames s.depth f) s.frames old-frame)

  fits_below : frame_size k f ≤ offset k s
  fits_below = omega (arith, y.room)

  saves-fit : below k.linkage k f ≤ offset k s
  saves-fit = omega (arith, y.room, below-reach k law f y.request)

  abbrev m' : Machine
  m' = record { state = entered k s f; memory = entered_memory k s m.memory f }

  fit-entered : RegistersFit k.word (with_pointer k s.registers (stack_pointer k s - frame_size k f))
  unfolding with_pointer
  fit-entered = record {
    gprs = length-set s.registers.gpr k.pointer (stack_pointer k s - frame_size k f) ∙ b.fit.gprs;
    fprs = b.fit.fprs;
    gpr = fit-set s.registers.gpr k.pointer (stack_pointer k s - frame_size k f) (2 ^ (8 * k.word)) b.fit.gpr (omega (arith, pointer-fits));
    fpr = b.fit.fpr;
    lr = b.fit.lr;
    cr = b.fit.cr;
  }

  base-entered : Base k m'
  unfolding entered entered_memory with_pointer
  base-entered =
      let l = m.memory in
      record {
        fit = fit-entered;
        frames = length-set s.frames s.depth f ∙ b.frames;
        rules = b.rules;
        sound = record {
          small = fit_small k law (with_pointer k s.registers (stack_pointer k s - frame_size k f)) fit-entered;
          shallow = omega (arith, y.shallow);
          requests = requests-entered ∙ b.sound.requests;
          memory = b.sound.memory;
          over = omega (arith, new-pointer, y.room);
          sum = omega (arith, new-pointer, y.room, b.sound.sum, sizes-entered);
          length = all-length (saves k f (offset k s) s.registers) (store l (offset k s - frame_size k f) (chain_width k f) (stack_pointer k s))
              ∙ store_length l (offset k s - frame_size k f) (chain_width k f) (stack_pointer k s) ∙ b.sound.length;
        };
      }

  top-entered : (os : List OpenEnter) → (caller_of k os).leaf ≡ false → Top k (record { before = m; request = f }) os m'
  unfolding entered entered_memory with_pointer
  top-entered os solid =
      let l = m.memory in
      let vs = saves k f (offset k s) s.registers in
      let l₁ = store l (offset k s - frame_size k f) (chain_width k f) (stack_pointer k s) in
      let asc = ascending k law f y.request (offset k s) saves-fit s.registers in
      let lo = offset k s - below k.linkage k f in
      let hi = offset k s + k.header in
      let under = chain-in k law f y.request (offset k s) fits_below in
      let room : offset k s + k.header ≤ length l = omega (arith, b.sound.length, b.sound.sum, b.sound.over, law.head) in
      record {
        request = y.request;
        deep = add-one s.depth;
        recorded = new-frame;
        older = old-frame;
        base = refl;
        size = refl;
        pointer = omega (arith, new-pointer, y.room);
        gprs = λ n p q. get_or-set_other s.registers.gpr k.pointer n (stack_pointer k s - frame_size k f) 0 (λ e. pointer-unpreserved k law n p e);
        fprs = λ n p q. refl;
        fields = λ p. refl;
        held = all_held vs lo hi l₁ asc (omega (arith, room, store_length l (offset k s - frame_size k f) (chain_width k f) (stack_pointer k s))) (fit-saves k.linkage k f (offset k s) s.registers b.fit);
        solid = solid;
        lr = λ e. refl;
        chain = λ e.
            let width = solid-chain k f e in
            load-agree (save_all l₁ vs) l₁ (offset k s - frame_size k f) k.word (all-length vs l₁) (λ c p q. all-outside vs l₁ c (outside_below vs lo hi c asc (omega (arith, under, width))))
            ∙ rw width (load_store l (offset k s - frame_size k f) k.word (stack_pointer k s) pointer-fits (omega (arith, room, law.chain)));
        bytes = λ c p q r. all-outside vs l₁ c q ∙ store-above l (offset k s - frame_size k f) (chain_width k f) (stack_pointer k s) c (omega (arith, under));
      }

pub enter-keeps : (k : FrameRules) → LawfulFrames k → (os : List OpenEnter) (m : Machine) (f : Frame) → Invariant k os m → enter_answer k m.state (length m.memory) f ≡ Ok tt
    → Invariant k (record { before = m; request = f } ∷ os) (record { state = entered k m.state f; memory = entered_memory k m.state m.memory f })
enter-keeps k law os m f i e =
    let b = base-of k os m i in
    let y = (enter-yes k m.state (length m.memory) f e).1 in
    (base-entered k law m f b y, top-entered k law m f b y os (rw (top-is k os m i) at y.solid), i)
