-- What the tests of a state and of a request say, and that they pass where it is so. Assumes nothing.
use Prim.Native.Nat.{ℕ, zero, suc, ◌+◌, ◌%◌, ◌≤◌, ◌<◌}
use mathlib.Core.Path.{◌≡◌, refl}
use mathlib.Core.Bool.{true}
use mathlib.Core.List.{List}
use native.Mathlib.Omega.{arith}
use lib.ListN.{length}
use lib.Dec.{leb, eqb}
use borrow.Author.Tests.{leb-true, ltb-true, eqb-true, le-leb, eq-eqb}
use Rattle.base_words.proofs.Tests.{and_yes, not_yes}
use Rattle.frame_rules.specs.declared.FrameRules.{FrameRules}
use Rattle.frame_rules.specs.declared.Frame.{Frame}
use Rattle.frame_rules.specs.Frames.{ok_registers, frame_size, bank_of, writable_register}
use Rattle.frame_machine.specs.Answers.{judge}
use Rattle.std.specs.Prelude.{Ok}
use Rattle.frame_machine.specs.Machine.{State, stack_pointer, frame_at, top_frame, ok_frames, sizes, ok_memory, ok_state, state_tests, enter_answer, top, writable_address, write_register_answer, write_memory_answer, leave_tests, leave_answer}
use Rattle.frame_machine.specs.Helpers.{Sound, CanEnter, CanLeave}
use Rattle.frame_machine.proofs.Judging.{holds-yes, judge-both}

-- what refusal 16 says of the memory
pub memory-yes : (k : FrameRules) (b n : ℕ) → ok_memory k b n ≡ true → (256 ≤ n) × (n ≤ 65536) × (b + n ≤ k.limit) × (k.room + k.floor ≤ n)
unfolding ok_memory
memory-yes k b n e =
    let p = and_yes (eqb (n % 16) 0) _ e in
    let q = and_yes (leb 256 n) _ p.1 in
    let r = and_yes (leb n 65536) _ q.1 in
    let s = and_yes (eqb (b % 16) 0) _ r.1 in
    let t = and_yes (leb (b + n) k.limit) _ s.1 in
    (leb-true 256 n q.0, leb-true n 65536 r.0, leb-true (b + n) k.limit t.0, leb-true (k.room + k.floor) n t.1)

pub state-yes : (k : FrameRules) (s : State) (n : ℕ) → judge (state_tests k s n) ≡ Ok tt → Sound k s n
unfolding ok_state
state-yes k s n e =
    let t = holds-yes _ _ e in
    let u = holds-yes _ _ t.1 in
    let r = and_yes (ok_registers k s.registers) _ t.0 in
    let a = and_yes (leb s.depth 32) _ r.1 in
    let b = and_yes (ok_frames k s.frames s.depth) _ a.1 in
    let c = and_yes (ok_memory k s.base s.size) _ b.1 in
    let d = and_yes (leb (s.base + k.floor) (stack_pointer k s)) _ c.1 in
    record {
      small = r.0;
      shallow = leb-true s.depth 32 a.0;
      requests = b.0;
      memory = c.0;
      over = leb-true (s.base + k.floor) (stack_pointer k s) d.0;
      sum = eqb-true _ _ d.1;
      length = eqb-true n s.size u.0;
    }

pub state-accepted : (k : FrameRules) (s : State) (n : ℕ) → Sound k s n → judge (state_tests k s n) ≡ Ok tt
unfolding ok_state judge
state-accepted k s n y =
    rw (
      y.small,
      le-leb s.depth 32 y.shallow,
      y.requests,
      y.memory,
      le-leb (s.base + k.floor) (stack_pointer k s) y.over,
      eq-eqb (stack_pointer k s + sizes k s.frames s.depth + k.room) (s.base + s.size) y.sum,
      eq-eqb n s.size y.length,
    )

pub enter-yes : (k : FrameRules) (s : State) (n : ℕ) (f : Frame) → enter_answer k s n f ≡ Ok tt → Sound k s n × CanEnter k s f
unfolding enter_answer
enter-yes k s n f e =
    let t = judge-both (state_tests k s n) _ e in
    let a = holds-yes _ _ t.1 in
    let b = holds-yes _ _ a.1 in
    let c = holds-yes _ _ b.1 in
    let d = holds-yes _ _ c.1 in (
      state-yes k s n t.0,
      record {
        request = a.0;
        solid = not_yes (top k s).leaf b.0;
        shallow = ltb-true s.depth 32 c.0;
        room = leb-true (s.base + frame_size k f + k.floor) (stack_pointer k s) d.0;
      },
    )

pub write-register-yes : (k : FrameRules) (s : State) (n b i v : ℕ) → write_register_answer k s n b i v ≡ Ok tt → Sound k s n × (writable_register k (top k s) (bank_of b) i v ≡ true)
unfolding write_register_answer
write-register-yes k s n b i v e =
    let t = judge-both (state_tests k s n) _ e in
    (state-yes k s n t.0, (holds-yes _ _ t.1).0)

pub write-memory-yes : (k : FrameRules) (s : State) (n a m : ℕ) → write_memory_answer k s n a m ≡ Ok tt → Sound k s n × (writable_address k s a m ≡ true)
unfolding write_memory_answer
write-memory-yes k s n a m e =
    let t = judge-both (state_tests k s n) _ e in
    (state-yes k s n t.0, (holds-yes _ _ t.1).0)

pub leave-yes : (k : FrameRules) (s : State) (l : List ℕ) → leave_answer k s l ≡ Ok tt → CanLeave k s (length l)
unfolding leave_answer
leave-yes k s l e =
    let t = judge-both (state_tests k s (length l)) (leave_tests k s l) e in
    record { deep = ltb-true 0 s.depth (holds-yes _ _ t.1).0; sound = state-yes k s (length l) t.0 }

-- records that agree below d
pub top-agree : (k : FrameRules) (d : ℕ) (fs gs : List Frame) → ((i : ℕ) → i < d → frame_at fs i ≡ frame_at gs i) → top_frame k fs d ≡ top_frame k gs d
unfolding top_frame
top-agree k zero fs gs h = refl
top-agree k (suc d) fs gs h = h d (omega arith)

pub frames-agree : (k : FrameRules) (d : ℕ) (fs gs : List Frame) → ((i : ℕ) → i < d → frame_at fs i ≡ frame_at gs i) → ok_frames k fs d ≡ ok_frames k gs d
unfolding ok_frames
frames-agree k zero fs gs h = refl
frames-agree k (suc d) fs gs h = rw (h d (omega arith), top-agree k d fs gs (λ i p. h i (omega arith)), frames-agree k d fs gs (λ i p. h i (omega arith)))

pub sizes-agree : (k : FrameRules) (d : ℕ) (fs gs : List Frame) → ((i : ℕ) → i < d → frame_at fs i ≡ frame_at gs i) → sizes k fs d ≡ sizes k gs d
unfolding sizes
sizes-agree k zero fs gs h = refl
sizes-agree k (suc d) fs gs h = rw (h d (omega arith), sizes-agree k d fs gs (λ i p. h i (omega arith)))
