-- A leave is refused where nothing is open; else it is accepted, gives back what the matching enter found, and keeps the invariant. Assumes nothing.
use Prim.Native.Nat.{ℕ, ◌+◌, ◌-◌, ◌*◌, ◌^◌, ◌≤◌, ◌<◌}
use mathlib.Core.Path.{◌≡◌, refl, sym, ◌∙◌}
use mathlib.Core.Logic.{inl, inr, ⊎_elim}
use mathlib.Core.Bool.{true, false≢true}
use mathlib.Core.List.{List, [], ◌∷◌}
use native.Mathlib.Omega.{arith}
use lib.ListN.{length, get_or, set, length-set}
use lib.Seq.{get_or-set_same, get_or-set_other}
use lib.Dec.{ltb}
use borrow.Author.Tests.{eq-eqb, lt-ltb}
use Rattle.frame_saves.specs.Saves.{Save, load, taken}
use Rattle.frame_saves.proofs.Saving.{Held, outside_above}
use Rattle.base_words.proofs.Basics.{le-or-lt}
use Rattle.base_words.proofs.Tests.{either}
use Rattle.base_words.proofs.Fitting.{fit-set}
use Rattle.frame_saves.proofs.Taking.{taken-length, taken-under, taken_in, taken-fit}
use Rattle.frame_rules.specs.declared.FrameRules.{FrameRules}
use Rattle.frame_rules.specs.declared.Registers.{Registers}
use Rattle.frame_rules.specs.Rules.{within}
use Rattle.frame_rules.specs.Frames.{first_gpr_of, first_fpr_of, no_frame, below, frame_size, saves, gpr_save, fpr_save, link_at, restored, return_address, preserved_condition}
use Rattle.frame_rules.specs.Helpers.{LawfulFrames}
use Rattle.frame_rules.proofs.Conventions.{pointer-unpreserved, before-lt}
use Rattle.frame_rules.proofs.Places.{ranges, solid-chain, gpr-end, fpr-end, room_for, ascending, chain-outside}
use Rattle.frame_rules.proofs.Restoring.{gpr-held, fpr-held, link-held, lr-fit, cr-fit, cr-held, return_held}
use Rattle.std.specs.Prelude.{Ok, Err}
use Rattle.frame_machine.specs.declared.FrameRefusal.TheVariants.{NothingEntered}
use Rattle.frame_machine.specs.declared.State.{State}
use Rattle.frame_machine.specs.Answers.{judge}
use Rattle.frame_machine.specs.Machine.{stack_pointer, offset, frame_at, top_frame, ok_frames, sizes, state_tests, leave_tests, leave_answer, left}
use Rattle.frame_machine.proofs.Judging.{judge-next}
use Rattle.frame_machine.proofs.States.{state-accepted, frames-agree, sizes-agree}
use Rattle.frame_history.specs.Calls.{Machine}
use Rattle.frame_history.specs.Preserved.{OpenEnter, Preserved, RegistersFit}
use Rattle.frame_history.proofs.Invariant.{fit_small, Base, Invariant, base-of, top-is, RestsAll, Keeps, room-below, saves-below, invariant-keeps}

-- with nothing open, refusal 22
pub leave-refused : (k : FrameRules) (m : Machine) → Invariant k [] m → leave_answer k m.state m.memory ≡ Err NothingEntered
unfolding leave_answer judge
leave-refused k m i = judge-next (state_tests k m.state (length m.memory)) (leave_tests k m.state m.memory) (state-accepted k m.state (length m.memory) i.0.sound) ∙ rw i.1

-- what the frame below rests on is as it was before the matching enter
rests-down : (k : FrameRules) → LawfulFrames k → (os : List OpenEnter) (o : OpenEnter) (m : Machine) → Invariant k (o ∷ os) m → RestsAll k os (offset k o.before.state) o.before.memory m.memory
rests-down k law [] o m i =
    let t = i.1 in
    let s = offset k o.before.state in
    λ b p q. t.bytes b p (chain-outside k law o.request t.request s (saves-below k law o [] m i.0 t) o.before.state.registers b p q) (inl (omega (arith, law.chain)))
rests-down k law (p ∷ ps) o m i =
    let t = i.1 in
    let u = i.2.1 in
    let s = offset k o.before.state in
    let r = offset k p.before.state in
    let fits-o = saves-below k law o (p ∷ ps) m i.0 t in
    let fits-p = room-below k p ps o.before i.2.0 u in
    let at : s ≡ r - frame_size k p.request = omega (arith, u.pointer, u.base) in
    let under = room_for k law p.request u.request r fits-p t.solid in
    let width = solid-chain k p.request t.solid in
    let hd = law.chain in
    let vs = saves k o.request s o.before.state.registers in
    let lo = s - below k.linkage k o.request in
    let asc = ascending k law o.request t.request s fits-o o.before.state.registers in (
      λ b x y. t.bytes b (omega arith) (chain-outside k law o.request t.request s fits-o o.before.state.registers b (omega arith) (omega arith)) (inl (omega arith)),
      λ b x y. t.bytes b (omega arith) (outside_above vs lo (s + k.header) b asc (omega arith)) (inr (omega arith)),
      λ b x. t.bytes b (omega arith) (outside_above vs lo (s + k.header) b asc (omega arith)) (inr (omega arith)),
    )

module _ (k : FrameRules) (law : LawfulFrames k) (o : OpenEnter) (os : List OpenEnter) (m : Machine) (i : Invariant k (o ∷ os) m) where
  abbrev s : State
  s = m.state

  -- the machine just before the matching enter, and the offset of the caller's pointer
  abbrev s₀ : State
  s₀ = o.before.state

  abbrev c₀ : ℕ
  c₀ = offset k s₀

  fits : frame_size k o.request ≤ c₀
  fits = room-below k o os m i.0 i.1

  top : top_frame k s.frames s.depth ≡ o.request
  top = top-is k (o ∷ os) m i

  was : Base k o.before
  was = base-of k os o.before i.2

  at : offset k s ≡ c₀ - frame_size k o.request
  at = omega (arith, i.1.pointer, i.1.base)

  caller-at : offset k s + frame_size k o.request ≡ c₀
  caller-at = omega (arith, at, fits)

  gpr-least : first_gpr_of o.request ≤ k.gpr.request.last
  gpr-least = (ranges k o.request i.1.request).gpr.1

  -- with an enter open, no refusal
  accepted : leave_answer k s m.memory ≡ Ok tt
  unfolding leave_answer judge
  accepted =
      let deep : ltb 0 s.depth ≡ true = lt-ltb 0 s.depth (omega (arith, i.1.deep)) in
      let next = judge-next (state_tests k s (length m.memory)) (leave_tests k s m.memory) (state-accepted k s (length m.memory) i.0.sound) in
      either o.request.leaf (λ e. next ∙ rw (deep, top, e))
      (λ e. let link : load m.memory (link_at k.linkage k (offset k s) c₀) k.word ≡ stack_pointer k s₀
      = link-held k o.request c₀ s₀.registers m.memory k.linkage law.linkage (offset k s) (stack_pointer k s₀) gpr-least i.1.held (rw at (i.1.chain e)) refl in
      next ∙ rw (deep, top, caller-at, i.1.pointer, eq-eqb (load m.memory (link_at k.linkage k (offset k s) c₀) k.word) (stack_pointer k s₀) link, e))

  -- the runs that the matching enter saved, and that the memory still holds
  abbrev general : Save
  general = gpr_save k.linkage k o.request c₀ s₀.registers.gpr

  abbrev floating : Save
  floating = fpr_save k o.request c₀ s₀.registers.fpr

  gpr-there : Held m.memory general
  gpr-there = gpr-held k o.request c₀ s₀.registers m.memory k.linkage i.1.held

  fpr-there : Held m.memory floating
  fpr-there = fpr-held k o.request c₀ s₀.registers m.memory k.linkage i.1.held

  gpr-ends : first_gpr_of o.request + (k.end - first_gpr_of o.request) ≤ length s.registers.gpr
  gpr-ends = omega (arith, gpr-end k law o.request i.1.request, law.end, i.0.fit.gprs)

  fpr-ends : first_fpr_of o.request + (k.end - first_fpr_of o.request) ≤ length s.registers.fpr
  fpr-ends = omega (arith, fpr-end k law o.request i.1.request, law.end, i.0.fit.fprs)

  -- the registers after the leave, in the words of the matching enter
  abbrev r : Registers
  r = restored k o.request c₀ m.memory (stack_pointer k s₀) s.registers

  abbrev m' : Machine
  m' = record { state = left k s m.memory; memory = m.memory }

  left_is : left k s m.memory
      ≡ record { convention = s.convention; base = s.base; size = s.size; depth = s.depth - 1; registers = r; frames = set s.frames (s.depth - 1) no_frame }
  unfolding left
  left_is = rw (top, caller-at, i.1.pointer)

  length-given : length (taken s.registers.gpr m.memory general) ≡ 32
  length-given = taken-length general s.registers.gpr m.memory ∙ i.0.fit.gprs

  pointer_back : get_or r.gpr k.pointer 0 ≡ stack_pointer k s₀
  unfolding restored
  pointer_back = get_or-set_same (taken s.registers.gpr m.memory general) k.pointer (stack_pointer k s₀) 0 (omega (arith, length-given, law.pointer))

  -- a register but the pointer, in the run or preserved
  gpr-in-run : (n : ℕ) → (n ≡ k.pointer → ⊥) → first_gpr_of o.request ≤ n → n < k.end → get_or r.gpr n 0 ≡ get_or s₀.registers.gpr n 0
  unfolding restored
  gpr-in-run n z p q =
      get_or-set_other (taken s.registers.gpr m.memory general) k.pointer n (stack_pointer k s₀) 0 z
      ∙ taken_in general s.registers.gpr m.memory gpr-ends gpr-there n p (omega (arith, gpr-end k law o.request i.1.request))

  gprs-back : (n : ℕ) → within k.gpr.preserved n ≡ true → get_or r.gpr n 0 ≡ get_or s₀.registers.gpr n 0
  unfolding restored
  gprs-back n p =
      ⊎_elim (λ q. gpr-in-run n (λ z. pointer-unpreserved k law n p z) q (before-lt k.gpr.preserved k.end n law.gpr.inside p))
      (λ q. get_or-set_other (taken s.registers.gpr m.memory general) k.pointer n (stack_pointer k s₀) 0 (λ z. pointer-unpreserved k law n p z)
      ∙ taken-under general s.registers.gpr m.memory n q ∙ i.1.gprs n p q)
      (le-or-lt (first_gpr_of o.request) n)

  fprs-back : (n : ℕ) → within k.fpr.preserved n ≡ true → get_or r.fpr n 0 ≡ get_or s₀.registers.fpr n 0
  unfolding restored
  fprs-back n p =
      ⊎_elim (λ q. taken_in floating s.registers.fpr m.memory fpr-ends fpr-there n q
      (omega (arith, fpr-end k law o.request i.1.request, before-lt k.fpr.preserved k.end n law.fpr.inside p)))
      (λ q. taken-under floating s.registers.fpr m.memory n q ∙ i.1.fprs n p q)
      (le-or-lt (first_fpr_of o.request) n)

  return_back : return_address k.linkage r ≡ return_address k.linkage s₀.registers
  unfolding restored
  return_back = return_held k o.request c₀ s₀.registers m.memory k.linkage law.linkage r s.registers.lr gpr-least i.1.held i.1.lr refl gpr-in-run

  fields_back : preserved_condition k.linkage r.cr ≡ preserved_condition k.linkage s₀.registers.cr
  unfolding restored
  fields_back = cr-held k o.request c₀ s₀.registers m.memory k.linkage s.registers.cr i.1.held i.1.fields

  fit-back : RegistersFit k.word r
  unfolding restored
  fit-back = record {
    gprs = length-set (taken s.registers.gpr m.memory general) k.pointer (stack_pointer k s₀) ∙ length-given;
    fprs = taken-length floating s.registers.fpr m.memory ∙ i.0.fit.fprs;
    gpr = fit-set (taken s.registers.gpr m.memory general) k.pointer (stack_pointer k s₀) (2 ^ (8 * k.word))
        (taken-fit general s.registers.gpr m.memory gpr-ends gpr-there (2 ^ (8 * k.word)) i.0.fit.gpr was.fit.gpr) (was.fit.gpr k.pointer);
    fpr = taken-fit floating s.registers.fpr m.memory fpr-ends fpr-there (2 ^ 64) i.0.fit.fpr was.fit.fpr;
    lr = lr-fit k o.request c₀ s₀.registers m.memory k.linkage s.registers.lr (2 ^ (8 * k.word)) i.1.held i.1.lr i.0.fit.lr was.fit.lr;
    cr = cr-fit k o.request c₀ s₀.registers m.memory k.linkage s.registers.cr i.0.fit.cr;
  }

  preserved : Preserved k o os m'
  preserved = rw left_is (record { pointer = pointer_back; return = return_back; gprs = gprs-back; fprs = fprs-back; fields = fields_back; bytes = i.1.bytes })

  -- the records below are as they were before the matching enter
  less : s.depth - 1 ≡ s₀.depth
  less = omega (arith, i.1.deep)

  frames-back : (d : ℕ) → d < s₀.depth → frame_at (set s.frames (s.depth - 1) no_frame) d ≡ frame_at s₀.frames d
  frames-back d p = get_or-set_other s.frames (s.depth - 1) d no_frame no_frame (λ e. omega (arith, less)) ∙ i.1.older d p

  requests-back : ok_frames k (set s.frames (s.depth - 1) no_frame) (s.depth - 1) ≡ true
  requests-back = rw less (frames-agree k s₀.depth (set s.frames s₀.depth no_frame) s₀.frames (rw less at frames-back) ∙ was.sound.requests)

  sizes-back : sizes k (set s.frames (s.depth - 1) no_frame) (s.depth - 1) ≡ sizes k s₀.frames s₀.depth
  sizes-back = rw less (sizes-agree k s₀.depth (set s.frames s₀.depth no_frame) s₀.frames (rw less at frames-back))

  base-left : Base k m'
  base-left =
      let b = i.0 in
      rw left_is (record {
        fit = fit-back;
        frames = length-set s.frames (s.depth - 1) no_frame ∙ b.frames;
        rules = b.rules;
        sound = record {
          small = fit_small k law r fit-back;
          shallow = omega (arith, b.sound.shallow);
          requests = requests-back;
          memory = b.sound.memory;
          over = omega (arith, pointer_back, i.1.pointer, b.sound.over);
          sum = omega (arith, pointer_back, sizes-back, was.sound.sum, i.1.base, i.1.size);
          length = b.sound.length;
        };
      })

  keeps-left : Keeps k os o.before m'
  keeps-left = rw left_is (record {
    depth = less;
    frames = frames-back;
    base = i.1.base;
    size = i.1.size;
    pointer = pointer_back;
    gprs = λ n p q. gprs-back n p;
    fprs = λ n p q. fprs-back n p;
    fields = λ p. fields_back;
    lr = λ p. absurd (false≢true (sym i.1.solid ∙ p));
    rests = rests-down k law os o m i;
  })

  invariant-left : Invariant k os m'
  invariant-left = invariant-keeps k law os o.before m' i.2 base-left keeps-left

pub leave-accepted : (k : FrameRules) → LawfulFrames k → (o : OpenEnter) (os : List OpenEnter) (m : Machine) → Invariant k (o ∷ os) m → leave_answer k m.state m.memory ≡ Ok tt
leave-accepted k law o os m i = accepted k law o os m i

pub leave-keeps : (k : FrameRules) → LawfulFrames k → (o : OpenEnter) (os : List OpenEnter) (m : Machine) → Invariant k (o ∷ os) m
    → Preserved k o os (record { state = left k m.state m.memory; memory = m.memory }) × Invariant k os (record { state = left k m.state m.memory; memory = m.memory })
leave-keeps k law o os m i = (preserved k law o os m i, invariant-left k law o os m i)
