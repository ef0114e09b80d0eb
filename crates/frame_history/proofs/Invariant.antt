-- What holds between any two calls of a list. The latest open frame is tied to the present machine; the invariant of the older ones is kept at the machine
-- that stood just before it was entered, so nothing about them is proved again while it is open. Assumes nothing.
use Prim.Native.Nat.{ℕ, suc, ◌+◌, ◌-◌, ◌*◌, ◌^◌, ◌≤◌, ◌<◌}
use mathlib.Core.Path.{◌≡◌, sym, ap, ◌∙◌}
use mathlib.Core.Logic.{◌⊎◌, ⊎_elim}
use mathlib.Core.Bool.{true, false}
use mathlib.Core.List.{List, [], ◌∷◌}
use native.Mathlib.Omega.{arith}
use lib.ListN.{length, get_or}
use borrow.Author.Tests.{le-leb}
use Rattle.base_words.specs.Basics.{All}
use Rattle.frame_saves.specs.Saves.{load, Outside}
use Rattle.frame_saves.proofs.Words.{load-agree}
use Rattle.frame_saves.proofs.Saving.{Held, all-agree}
use Rattle.frame_rules.specs.declared.FrameRules.{FrameRules}
use Rattle.frame_rules.specs.declared.Registers.{Registers}
use Rattle.frame_rules.specs.Rules.{within}
use Rattle.frame_rules.specs.Frames.{first_gpr_of, first_fpr_of, saves_cr_of, ok_registers, ok_request, outgoing_length, below, frame_size, chain_width, saves, preserved_condition}
use Rattle.frame_rules.specs.Helpers.{LawfulFrames}
use Rattle.frame_rules.proofs.Halves.{each_within}
use Rattle.frame_rules.proofs.Places.{solid-chain, below-reach, ascending}
use Rattle.frame_machine.specs.Machine.{state_rules, stack_pointer, offset, frame_at, top_frame}
use Rattle.frame_machine.specs.Helpers.{Sound}
use Rattle.frame_history.specs.Calls.{Machine}
use Rattle.frame_history.specs.Preserved.{OpenEnter, caller_of, RegistersFit}

-- registers that fit their words pass 23
pub fit_small : (k : FrameRules) → LawfulFrames k → (r : Registers) → RegistersFit k.word r → ok_registers k r ≡ true
unfolding ok_registers
fit_small k law r w =
    rw (each_within k.limit r.gpr 32 (λ i. omega (arith, w.gpr i, law.limit)), le-leb r.lr k.limit (omega (arith, w.lr, law.limit)))

pub record Base (k : FrameRules) (m : Machine) : Type 0 where
  pub fit : RegistersFit k.word m.state.registers
  pub frames : length m.state.frames ≡ 32
  pub rules : state_rules m.state ≡ k
  pub sound : Sound k m.state (length m.memory)

-- the latest open enter o, with the enters os open below it
pub record Top (k : FrameRules) (o : OpenEnter) (os : List OpenEnter) (m : Machine) : Type 0 where
  pub request : ok_request k o.request ≡ true
  pub deep : m.state.depth ≡ suc o.before.state.depth
  pub recorded : frame_at m.state.frames o.before.state.depth ≡ o.request
  pub older : (d : ℕ) → d < o.before.state.depth → frame_at m.state.frames d ≡ frame_at o.before.state.frames d
  pub base : m.state.base ≡ o.before.state.base
  pub size : m.state.size ≡ o.before.state.size
  pub pointer : stack_pointer k m.state + frame_size k o.request ≡ stack_pointer k o.before.state
  pub gprs : (n : ℕ) → within k.gpr.preserved n ≡ true → n < first_gpr_of o.request → get_or m.state.registers.gpr n 0 ≡ get_or o.before.state.registers.gpr n 0
  pub fprs : (n : ℕ) → within k.fpr.preserved n ≡ true → n < first_fpr_of o.request → get_or m.state.registers.fpr n 0 ≡ get_or o.before.state.registers.fpr n 0
  pub fields : saves_cr_of o.request ≡ false → preserved_condition k.linkage m.state.registers.cr ≡ preserved_condition k.linkage o.before.state.registers.cr
  pub held : All (Held m.memory) (saves k o.request (offset k o.before.state) o.before.state.registers)
  -- the caller is no leaf; a leaf keeps LR, any other frame its back chain
  pub solid : (caller_of k os).leaf ≡ false
  pub lr : o.request.leaf ≡ true → m.state.registers.lr ≡ o.before.state.registers.lr
  pub chain : o.request.leaf ≡ false → load m.memory (offset k o.before.state - frame_size k o.request) k.word ≡ stack_pointer k o.before.state
  pub bytes : (b : ℕ) → offset k o.before.state ≤ b
      → Outside b (saves k o.request (offset k o.before.state) o.before.state.registers)
      → ((b < offset k o.before.state + k.header) ⊎ (offset k o.before.state + k.header + outgoing_length k (caller_of k os) ≤ b))
      → get_or m.memory b 0 ≡ get_or o.before.memory b 0

-- with nothing open, the start's zero word ends the back chain
abbrev pub Invariant : FrameRules → List OpenEnter → Machine → Type 0
Invariant k [] m = Base k m × (m.state.depth ≡ 0) × (load m.memory (offset k m.state) k.word ≡ 0)
Invariant k (o ∷ os) m = Base k m × Top k o os m × Invariant k os o.before

pub base-of : (k : FrameRules) (os : List OpenEnter) (m : Machine) → Invariant k os m → Base k m
base-of k [] m i = i.0
base-of k (o ∷ os) m i = i.0

-- the records say what the open enters asked for
pub top-is : (k : FrameRules) (os : List OpenEnter) (m : Machine) → Invariant k os m → top_frame k m.state.frames m.state.depth ≡ caller_of k os
unfolding top_frame
top-is k [] m i = rw i.1
top-is k (o ∷ os) m i = rw i.1.deep i.1.recorded

-- the bytes that the latest open frame rests on are the same in l and l': its back chain, its saves with the caller's header, and all past the caller's outgoing area
abbrev pub Rests : FrameRules → OpenEnter → List OpenEnter → List ℕ → List ℕ → Type 0
Rests k o os l l' =
    ((b : ℕ) → offset k o.before.state - frame_size k o.request ≤ b → b < offset k o.before.state - frame_size k o.request + chain_width k o.request → get_or l' b 0 ≡ get_or l b 0)
    × ((b : ℕ) → offset k o.before.state - below k.linkage k o.request ≤ b → b < offset k o.before.state + k.header → get_or l' b 0 ≡ get_or l b 0)
    × ((b : ℕ) → offset k o.before.state + k.header + outgoing_length k (caller_of k os) ≤ b → get_or l' b 0 ≡ get_or l b 0)

-- and those that the start rests on, with its pointer at s
abbrev pub RestsAll : FrameRules → List OpenEnter → ℕ → List ℕ → List ℕ → Type 0
RestsAll k [] s l l' = (b : ℕ) → s ≤ b → b < s + k.word → get_or l' b 0 ≡ get_or l b 0
RestsAll k (o ∷ os) s l l' = Rests k o os l l'

-- m' is as good as m for the open enters os
pub record Keeps (k : FrameRules) (os : List OpenEnter) (m m' : Machine) : Type 0 where
  pub depth : m'.state.depth ≡ m.state.depth
  pub frames : (d : ℕ) → d < m.state.depth → frame_at m'.state.frames d ≡ frame_at m.state.frames d
  pub base : m'.state.base ≡ m.state.base
  pub size : m'.state.size ≡ m.state.size
  pub pointer : stack_pointer k m'.state ≡ stack_pointer k m.state
  pub gprs : (n : ℕ) → within k.gpr.preserved n ≡ true → n < first_gpr_of (caller_of k os) → get_or m'.state.registers.gpr n 0 ≡ get_or m.state.registers.gpr n 0
  pub fprs : (n : ℕ) → within k.fpr.preserved n ≡ true → n < first_fpr_of (caller_of k os) → get_or m'.state.registers.fpr n 0 ≡ get_or m.state.registers.fpr n 0
  pub fields : saves_cr_of (caller_of k os) ≡ false → preserved_condition k.linkage m'.state.registers.cr ≡ preserved_condition k.linkage m.state.registers.cr
  pub lr : (caller_of k os).leaf ≡ true → m'.state.registers.lr ≡ m.state.registers.lr
  pub rests : RestsAll k os (offset k m.state) m.memory m'.memory

-- the caller's pointer has room for the frame below it
pub room-below : (k : FrameRules) (o : OpenEnter) (os : List OpenEnter) (m : Machine) → Base k m → Top k o os m → frame_size k o.request ≤ offset k o.before.state
room-below k o os m b t = omega (arith, b.sound.over, t.base, t.pointer)

-- and for what it saves
pub saves-below : (k : FrameRules) → LawfulFrames k → (o : OpenEnter) (os : List OpenEnter) (m : Machine) → Base k m → Top k o os m → below k.linkage k o.request ≤ offset k o.before.state
saves-below k law o os m b t = omega (arith, b.sound.over, t.base, t.pointer, below-reach k law o.request t.request)

pub invariant-keeps : (k : FrameRules) → LawfulFrames k → (os : List OpenEnter) (m m' : Machine) → Invariant k os m → Base k m' → Keeps k os m m' → Invariant k os m'
invariant-keeps k law [] m m' i b e =
    let at : offset k m'.state ≡ offset k m.state = omega (arith, e.pointer, e.base) in
    let size : length m'.memory ≡ length m.memory = b.sound.length ∙ e.size ∙ sym i.0.sound.length in
    (b, e.depth ∙ i.1, rw at (load-agree m'.memory m.memory (offset k m.state) k.word size (λ c p q. e.rests c p q) ∙ i.2))
invariant-keeps k law (o ∷ os) m m' i b e =
    let t = i.1 in
    let s = offset k o.before.state in
    let f = o.request in
    let fits = saves-below k law o os m i.0 t in
    let size : length m'.memory ≡ length m.memory = b.sound.length ∙ e.size ∙ sym i.0.sound.length in (
      b,
      record {
        request = t.request;
        deep = e.depth ∙ t.deep;
        recorded = e.frames o.before.state.depth (omega (arith, t.deep)) ∙ t.recorded;
        older = λ d p. e.frames d (omega (arith, t.deep)) ∙ t.older d p;
        base = e.base ∙ t.base;
        size = e.size ∙ t.size;
        pointer = ap (λ (x : ℕ). x + frame_size k f) e.pointer ∙ t.pointer;
        gprs = λ n p q. e.gprs n p q ∙ t.gprs n p q;
        fprs = λ n p q. e.fprs n p q ∙ t.fprs n p q;
        fields = λ p. e.fields p ∙ t.fields p;
        held = all-agree (saves k f s o.before.state.registers) (s - below k.linkage k f) (s + k.header) m.memory m'.memory
            (ascending k law f t.request s fits o.before.state.registers) (record { lengths = sym size; bytes = λ b p q. sym (e.rests.1 b p q) }) t.held;
        solid = t.solid;
        lr = λ p. e.lr p ∙ t.lr p;
        chain = λ z. load-agree m'.memory m.memory (s - frame_size k f) k.word size (λ b p q. e.rests.0 b p (omega (arith, solid-chain k f z))) ∙ t.chain z;
        bytes = λ b p q r. ⊎_elim (λ u. e.rests.1 b (omega arith) u) (λ u. e.rests.2 b u) r ∙ t.bytes b p q r;
      },
      i.2,
    )
