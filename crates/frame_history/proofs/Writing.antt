-- An accepted write keeps the invariant: it reaches nothing that an open frame rests on. Assumes nothing.
use Prim.Native.Nat.{ℕ, ◌+◌, ◌-◌, ◌*◌, ◌^◌, ◌≤◌, ◌<◌}
use mathlib.Core.Path.{◌≡◌, refl, sym, ◌∙◌}
use mathlib.Core.Logic.{◌⊎◌, inl, inr, ⊎_elim}
use mathlib.Core.Bool.{true, false, not, false≢true}
use mathlib.Core.List.{List, [], ◌∷◌}
use native.Mathlib.Omega.{arith}
use lib.ListN.{length, get_or, set, length-set}
use lib.Seq.{get_or-set_other}
use lib.Dec.{leb}
use borrow.Author.Tests.{leb-true}
use Rattle.base_words.specs.Splice.{splice}
use Rattle.base_words.proofs.Splices.{length-splice, splice-at-other}
use Rattle.base_words.proofs.Tests.{either, and_yes, not_yes}
use Rattle.base_words.proofs.Fitting.{fit-set}
use Rattle.frame_rules.specs.declared.FrameRules.{FrameRules}
use Rattle.frame_rules.specs.declared.Registers.{Registers}
use Rattle.frame_rules.specs.declared.RegisterBank.{RegisterBank}
use Rattle.frame_rules.specs.declared.RegisterBank.TheVariants.{General, Floating, Link, ConditionField}
use Rattle.frame_rules.specs.Frames.{first_gpr_of, first_fpr_of, start_frame, has_condition, outgoing_length, below, frame_size, chain_width, bank_of, writable, writable_field, writable_register, with_register}
use Rattle.frame_rules.specs.Helpers.{LawfulFrames}
use Rattle.frame_rules.proofs.Conventions.{writable_apart, pointer-unwritable}
use Rattle.frame_rules.proofs.Places.{ranges, leaf-chain, solid-chain}
use Rattle.frame_rules.proofs.Writing.{field-number, field_fit, field-preserves}
use Rattle.std.specs.Prelude.{Ok, Option, Some, None}
use Rattle.frame_machine.specs.declared.State.{State}
use Rattle.frame_machine.specs.Machine.{stack_pointer, offset, top_frame, caller_frame, state_tests, outgoing_from, writable_bytes, writable_address, write_register_answer, write_memory_answer, written_register, written_memory}
use Rattle.frame_machine.proofs.Areas.{solid-outgoing, outgoing-le, locals-le, areas}
use Rattle.frame_machine.proofs.Judging.{holds-yes, judge-both}
use Rattle.frame_history.specs.Calls.{Machine}
use Rattle.frame_history.specs.Preserved.{OpenEnter, caller_of, RegistersFit}
use Rattle.frame_history.proofs.Invariant.{fit_small, Base, Invariant, base-of, top-is, RestsAll, Keeps, room-below, invariant-keeps}

pub caller-is : (k : FrameRules) (o : OpenEnter) (os : List OpenEnter) (m : Machine) → Invariant k (o ∷ os) m → caller_frame k m.state.frames m.state.depth ≡ caller_of k os
unfolding top_frame caller_frame
caller-is k o [] m i = rw (i.1.deep, i.2.1)
caller-is k o (p ∷ ps) m i =
    let e = i.2.1.deep in
    rw (i.1.deep, e) (i.1.older p.before.state.depth (omega (arith, e)) ∙ i.2.1.recorded)

-- no frame saves a register below the least that a request may name
gpr-least : (k : FrameRules) → LawfulFrames k → (os : List OpenEnter) (m : Machine) → Invariant k os m → k.gpr.request.first ≤ first_gpr_of (caller_of k os)
gpr-least k law [] m i = law.ends
gpr-least k law (o ∷ os) m i = (ranges k o.request i.1.request).gpr.0

rests-same : (k : FrameRules) (os : List OpenEnter) (s : ℕ) (l : List ℕ) → RestsAll k os s l l
rests-same k [] s l = λ b p q. refl
rests-same k (o ∷ os) s l = (λ b p q. refl, λ b p q. refl, λ b p. refl)

-- ---- memory

-- a byte beside those written stays
beside : (l : List ℕ) (a : ℕ) (bs : List ℕ) (b : ℕ) → (b < a) ⊎ (a + length bs ≤ b) → get_or (splice l a bs) b 0 ≡ get_or l b 0
beside l a bs b h = splice-at-other l a bs b 0 (⊎_elim (λ p. inl (omega arith)) (λ p. inr p) h)

-- bytes written are not those that a frame rests on
rests-write : (k : FrameRules) → LawfulFrames k → (os : List OpenEnter) (m : Machine) → Invariant k os m → (a : ℕ) (bs : List ℕ) → writable_bytes k m.state a (length bs) ≡ true
    → RestsAll k os (offset k m.state) m.memory (splice m.memory a bs)
rests-write k law [] m i a bs e =
    λ b p q. beside m.memory a bs b (inl (⊎_elim (λ u. omega (arith, law.chain)) (λ u. ⊎_elim (λ w. omega (arith, law.chain)) (λ w. omega (arith, law.chain)) u.1)
    (areas k m.state a (length bs) e (start_frame k) (top-is k [] m i) _ refl)))
rests-write k law (o ∷ os) m i a bs e =
    let f = o.request in
    let s = offset k o.before.state in
    let t = i.1 in
    let fits = room-below k o os m i.0 t in
    let at : offset k m.state ≡ s - frame_size k f = omega (arith, t.pointer, t.base) in
    let c : offset k m.state + frame_size k f ≡ s = omega (arith, at, fits) in
    let r = areas k m.state a (length bs) e f (top-is k (o ∷ os) m i) (caller_of k os) (caller-is k o os m i) in
    let hd = law.chain in
    let o₁ = outgoing-le k f (offset k m.state) in
    let o₂ = locals-le k law f t.request (offset k m.state) in
    let chain : (b : ℕ) → s - frame_size k f ≤ b → b < s - frame_size k f + chain_width k f → outgoing_from k f (offset k m.state) ≡ offset k m.state + k.header
    = λ b p q. either f.leaf (λ z. absurd (omega (arith, leaf-chain k f z))) (λ z. solid-outgoing k f (offset k m.state) z) in
    let width : chain_width k f ≤ k.word = either f.leaf (λ z. omega (arith, leaf-chain k f z)) (λ z. omega (arith, solid-chain k f z)) in
    let r₂ : (a + length bs ≤ s - below k.linkage k f) ⊎ ((s + k.header ≤ a) × (a + length bs ≤ s + k.header + outgoing_length k (caller_of k os)))
    = ⊎_elim (λ u. inl (omega arith)) (λ u. ⊎_elim (λ w. inl (rw c at w.1)) (λ w. inr (omega arith)) u.1) r in (
      λ b p q. let z = chain b p q in beside m.memory a bs b (⊎_elim (λ u. inl (omega arith)) (λ u. ⊎_elim (λ w. inl (omega arith)) (λ w. inl (omega arith)) u.1) r),
      λ b p q. beside m.memory a bs b (⊎_elim (λ u. inr (omega arith)) (λ u. inl (omega arith)) r₂),
      λ b p. beside m.memory a bs b (⊎_elim (λ u. inr (omega arith)) (λ u. inr (omega arith)) r₂),
    )

-- ---- registers

module _ (k : FrameRules) (law : LawfulFrames k) (os : List OpenEnter) (m : Machine) (i : Invariant k os m) where
  abbrev s : State
  s = m.state

  top : top_frame k s.frames s.depth ≡ caller_of k os
  top = top-is k os m i

  b : Base k m
  b = base-of k os m i

  abbrev with : Registers → Machine
  with r = record {
    state = record { convention = s.convention; base = s.base; size = s.size; depth = s.depth; registers = r; frames = s.frames };
    memory = m.memory;
  }

  -- other registers, with the same pointer and the same preserved registers that the top frame did not save
  keeps-registers : (r : Registers) → RegistersFit k.word r → get_or r.gpr k.pointer 0 ≡ stack_pointer k s → Keeps k os m (with r) → Invariant k os (with r)
  keeps-registers r w same keeps =
      invariant-keeps k law os m (with r) i
      (record {
        fit = w;
        frames = b.frames;
        rules = b.rules;
        sound = record {
          small = fit_small k law r w;
          shallow = b.sound.shallow;
          requests = b.sound.requests;
          memory = b.sound.memory;
          over = omega (arith, same, b.sound.over);
          sum = omega (arith, same, b.sound.sum);
          length = b.sound.length;
        };
      })
      keeps

  write-general : (n v : ℕ) → v < 2 ^ (8 * k.word) → writable k.gpr (first_gpr_of (caller_of k os)) n ≡ true → Invariant k os (with (with_register s.registers (Some General) n v))
  unfolding with_register
  write-general n v w p =
      let same : get_or (set s.registers.gpr n v) k.pointer 0 ≡ stack_pointer k s
      = get_or-set_other s.registers.gpr n k.pointer v 0 (λ q. pointer-unwritable k law (first_gpr_of (caller_of k os)) n (gpr-least k law os m i) p q) in
      keeps-registers (with_register s.registers (Some General) n v)
      (record {
        gprs = length-set s.registers.gpr n v ∙ b.fit.gprs;
        fprs = b.fit.fprs;
        gpr = fit-set s.registers.gpr n v (2 ^ (8 * k.word)) b.fit.gpr w;
        fpr = b.fit.fpr;
        lr = b.fit.lr;
        cr = b.fit.cr;
      })
      same
      (record {
        depth = refl;
        frames = λ d q. refl;
        base = refl;
        size = refl;
        pointer = same;
        gprs = λ j q r. get_or-set_other s.registers.gpr n j v 0 (λ z. writable_apart k.gpr k.end law.gpr (first_gpr_of (caller_of k os)) n p j q r z);
        fprs = λ j q r. refl;
        fields = λ q. refl;
        lr = λ q. refl;
        rests = rests-same k os (offset k s) m.memory;
      })

  write-floating : (n v : ℕ) → v < 2 ^ 64 → writable k.fpr (first_fpr_of (caller_of k os)) n ≡ true → Invariant k os (with (with_register s.registers (Some Floating) n v))
  unfolding with_register
  write-floating n v w p =
      keeps-registers (with_register s.registers (Some Floating) n v)
      (record {
        gprs = b.fit.gprs;
        fprs = length-set s.registers.fpr n v ∙ b.fit.fprs;
        gpr = b.fit.gpr;
        fpr = fit-set s.registers.fpr n v (2 ^ 64) b.fit.fpr w;
        lr = b.fit.lr;
        cr = b.fit.cr;
      })
      refl
      (record {
        depth = refl;
        frames = λ d q. refl;
        base = refl;
        size = refl;
        pointer = refl;
        gprs = λ j q r. refl;
        fprs = λ j q r. get_or-set_other s.registers.fpr n j v 0 (λ z. writable_apart k.fpr k.end law.fpr (first_fpr_of (caller_of k os)) n p j q r z);
        fields = λ q. refl;
        lr = λ q. refl;
        rests = rests-same k os (offset k s) m.memory;
      })

  write-link : (n v : ℕ) → v < 2 ^ (8 * k.word) → (caller_of k os).leaf ≡ false → Invariant k os (with (with_register s.registers (Some Link) n v))
  unfolding with_register
  write-link n v w solid =
      keeps-registers (with_register s.registers (Some Link) n v)
      (record { gprs = b.fit.gprs; fprs = b.fit.fprs; gpr = b.fit.gpr; fpr = b.fit.fpr; lr = w; cr = b.fit.cr })
      refl
      (record {
        depth = refl;
        frames = λ d q. refl;
        base = refl;
        size = refl;
        pointer = refl;
        gprs = λ j q r. refl;
        fprs = λ j q r. refl;
        fields = λ q. refl;
        lr = λ q. absurd (false≢true (sym solid ∙ q));
        rests = rests-same k os (offset k s) m.memory;
      })

  write-field : (n v : ℕ) → writable_field k (caller_of k os) n v ≡ true → Invariant k os (with (with_register s.registers (Some ConditionField) n v))
  unfolding with_register
  write-field n v p =
      let q = field-number k (caller_of k os) n v p in
      keeps-registers (with_register s.registers (Some ConditionField) n v)
      (record { gprs = b.fit.gprs; fprs = b.fit.fprs; gpr = b.fit.gpr; fpr = b.fit.fpr; lr = b.fit.lr; cr = field_fit n s.registers.cr v q.1 b.fit.cr q.0 })
      refl
      (record {
        depth = refl;
        frames = λ d q. refl;
        base = refl;
        size = refl;
        pointer = refl;
        gprs = λ j q r. refl;
        fprs = λ j q r. refl;
        fields = λ q. field-preserves k (caller_of k os) n v s.registers.cr p q b.fit.cr;
        lr = λ q. refl;
        rests = rests-same k os (offset k s) m.memory;
      })

  -- a value in a general register or LR fits its word, or the write is refused
  write-bank : (c : Option RegisterBank) (n v : ℕ) → v < 2 ^ 64 → writable_register k (caller_of k os) c n v ≡ true → Invariant k os (with (with_register s.registers c n v))
  unfolding writable_register
  write-bank (Some General) n v x p =
      let q = and_yes (writable k.gpr (first_gpr_of (caller_of k os)) n) _ p in
      write-general n v (omega (arith, leb-true v k.limit q.1, law.limit)) q.0
  write-bank (Some Floating) n v x p = write-floating n v x p
  write-bank (Some Link) n v x p =
      let q = and_yes (not (caller_of k os).leaf) _ (and_yes (has_condition k.linkage) _ p).1 in
      write-link n v (omega (arith, leb-true v k.limit q.1, law.limit)) (not_yes (caller_of k os).leaf q.0)
  write-bank (Some ConditionField) n v x p = write-field n v p
  write-bank None n v x p = absurd (false≢true p)

pub write-register-keeps : (k : FrameRules) → LawfulFrames k → (os : List OpenEnter) (m : Machine) (c n v : ℕ) → v < 2 ^ 64 → Invariant k os m
    → write_register_answer k m.state (length m.memory) c n v ≡ Ok tt → Invariant k os (record { state = written_register m.state c n v; memory = m.memory })
unfolding write_register_answer written_register
write-register-keeps k law os m c n v x i e =
    let s = m.state in
    let t = judge-both (state_tests k s (length m.memory)) _ e in
    write-bank k law os m i (bank_of c) n v x (rw (top-is k os m i) at (holds-yes _ _ t.1).0)

pub write-memory-keeps : (k : FrameRules) → LawfulFrames k → (os : List OpenEnter) (m : Machine) (a : ℕ) (bs : List ℕ) → Invariant k os m
    → write_memory_answer k m.state (length m.memory) a (length bs) ≡ Ok tt → Invariant k os (record { state = m.state; memory = written_memory m.state m.memory a bs })
unfolding write_memory_answer written_memory writable_address
write-memory-keeps k law os m a bs i e =
    let s = m.state in
    let b = base-of k os m i in
    let t = judge-both (state_tests k s (length m.memory)) _ e in
    let p = and_yes (leb s.base a) _ (holds-yes _ _ t.1).0 in
    invariant-keeps k law os m (record { state = s; memory = splice m.memory (a - s.base) bs }) i
    (record {
      fit = b.fit;
      frames = b.frames;
      rules = b.rules;
      sound = record {
        small = b.sound.small;
        shallow = b.sound.shallow;
        requests = b.sound.requests;
        memory = b.sound.memory;
        over = b.sound.over;
        sum = b.sound.sum;
        length = length-splice m.memory (a - s.base) bs ∙ b.sound.length;
      };
    })
    (record {
      depth = refl;
      frames = λ d q. refl;
      base = refl;
      size = refl;
      pointer = refl;
      gprs = λ j q r. refl;
      fprs = λ j q r. refl;
      fields = λ q. refl;
      lr = λ q. refl;
      rests = rests-write k law os m i (a - s.base) bs p.1;
    })
