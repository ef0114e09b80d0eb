-- The frame machine: what each call answers, and the state and the memory after it, for every state, request and memory. Document 01, "Frames" and refusals 16 to 23;
-- document 02, No. 1, No. 8 and No. 9.
-- Addresses are integers without wrap. Definitions are over the rules k of a convention; those that the contracts cite take them from the state.
-- Assumes nothing.
use Rattle.std.specs.Prelude.{ℕ, zero, suc, ◌+◌, ◌-◌, ◌%◌, Bool, true, not, ◌&&◌, ◌||◌, List, [], ◌∷◌, ◌++◌, get_or, set, length, replicate, leb, ltb, eqb}
use Rattle.base_words.specs.Basics.{pick}
use Rattle.base_words.specs.Splice.{splice}
use Rattle.frame_saves.specs.Saves.{store, load, save_all}
use Rattle.base_conventions.specs.declared.Convention.{Convention}
use Rattle.frame_rules.specs.declared.FrameRules.{FrameRules}
use Rattle.frame_rules.specs.declared.Frame.{Frame}
use Rattle.frame_rules.specs.declared.Registers.{Registers}
use Rattle.frame_rules.specs.Rules.{rules}
use Rattle.frame_rules.specs.Frames.{no_frame, start_frame, with_pointer, ok_registers, cleared, ok_request, outgoing_length, below, frame_size, chain_width, saves, link_at, restored, bank_of, writable_register, with_register, max_memory}
use Rattle.frame_machine.specs.Answers.{FrameAnswer, BadMemory, BadRequest, TooManyFrames, NoRoom, NotPermitted, BrokenChain, NothingEntered, BadState, AboveLeaf, Requirement, require, judge, settle}
pub use Rattle.frame_machine.specs.declared.State.{State}
pub use Rattle.frame_machine.specs.declared.FrameOutcome.{FrameOutcome}

-- ---- a state

-- refusal 18: "already 32 frames"
abbrev pub max_entered : ℕ
max_entered = 32

-- the rules that a state goes by
abbrev pub state_rules : State → FrameRules
state_rules s = rules s.convention

-- the stack pointer, and its offset in the memory
abbrev pub stack_pointer : FrameRules → State → ℕ
stack_pointer k s = get_or s.registers.gpr k.pointer 0

abbrev pub offset : FrameRules → State → ℕ
offset k s = stack_pointer k s - s.base

-- the record of the frame entered at depth d
abbrev pub frame_at : List Frame → ℕ → Frame
frame_at fs d = get_or fs d no_frame

-- the frame entered last of d, and its caller; the start where there is none
unfoldable pub top_frame : FrameRules → List Frame → ℕ → Frame
top_frame k fs zero = start_frame k
top_frame k fs (suc d) = frame_at fs d

unfoldable pub caller_frame : FrameRules → List Frame → ℕ → Frame
caller_frame k fs zero = start_frame k
caller_frame k fs (suc d) = top_frame k fs d

-- the same of a state
abbrev pub top : FrameRules → State → Frame
top k s = top_frame k s.frames s.depth

abbrev pub caller : FrameRules → State → Frame
caller k s = caller_frame k s.frames s.depth

-- would 17 accept each of the first d records, with none above a leaf, and what is the sum of their sizes? 02, No. 9: "a state with a leaf below the top gives 23"
unfoldable pub ok_frames : FrameRules → List Frame → ℕ → Bool
ok_frames k fs zero = true
ok_frames k fs (suc d) = ok_request k (frame_at fs d) && (not (top_frame k fs d).leaf && ok_frames k fs d)

unfoldable pub sizes : FrameRules → List Frame → ℕ → ℕ
sizes k fs zero = 0
sizes k fs (suc d) = sizes k fs d + frame_size k (frame_at fs d)

-- refusal 16: "machine memory N .. under 256"
abbrev pub least_memory : ℕ
least_memory = 256

-- refusal 16: "machine memory N not a multiple of 16, under 256, over 65,536, base B not a multiple of 16, B + N over 2^64 - 1"; 02, No. 1, of AIX: "B + N over
-- 2^32 - 1 gives 16"; No. 8: "Start gives 16 unless the start pointer has that room", which is the floor
unfoldable pub ok_memory : FrameRules → ℕ → ℕ → Bool
ok_memory k b n = eqb (n % 16) 0 && (leb least_memory n && (leb n max_memory && (eqb (b % 16) 0 && (leb (b + n) k.limit && leb (k.room + k.floor) n))))

-- refusal 23: "depth over 32, an entered frame's record that 17 would refuse, B or N as in 16, or stack pointer below B or not the start's less the sum of frame sizes";
-- 02, No. 1: "a GPR or LR write over 2^32 - 1 gives 20, a state holding one 23"; No. 8: "In 23, less room than this counts as below B"
unfoldable pub ok_state : FrameRules → State → Bool
ok_state k s =
    ok_registers k s.registers && (leb s.depth max_entered && (ok_frames k s.frames s.depth && (ok_memory k s.base s.size
    && (leb (s.base + k.floor) (stack_pointer k s) && eqb (stack_pointer k s + sizes k s.frames s.depth + k.room) (s.base + s.size)))))

-- what every call but start tests first, with n bytes of memory lent: "otherwise 23, 16"
abbrev pub state_tests : FrameRules → State → ℕ → List Requirement
state_tests k s n = require (ok_state k s) BadState ∷ require (eqb n s.size) BadMemory ∷ []

-- ---- start

-- "Machine: start 16"
unfoldable pub start_answer : Convention → ℕ → ℕ → FrameAnswer
start_answer c b n = judge (require (ok_memory (rules c) b n) BadMemory ∷ [])

-- "Start writes 8 zero bytes at the stack pointer: B + N - 112 (PPC64), B + N - 160 (Z). Other registers are as handed in, depth and all records 0";
-- 02, No. 1, of AIX: "start is at B + N - 64 with a zero word", "Start clears the high halves of GPRs and LR"
unfoldable pub started : Convention → ℕ → ℕ → Registers → State
started c b n r = record {
  convention = c;
  base = b;
  size = n;
  depth = 0;
  registers = with_pointer (rules c) (cleared (rules c) r) (b + n - (rules c).room);
  frames = replicate max_entered no_frame;
}

-- the memory with the start's zero word
unfoldable pub started_memory : FrameRules → List ℕ → List ℕ
started_memory k l = store l (length l - k.room) k.word 0

-- "a refused start hands the registers back as they came, all else 0": base, size, depth and records are 0; the convention is the one asked for
unfoldable pub not_started : Convention → Registers → State
not_started c r = record { convention = c; base = 0; size = 0; depth = 0; registers = r; frames = replicate max_entered no_frame }

-- ---- enter

-- "enter 17, 18, 19", and 19 is "new stack pointer below B"; 02, No. 8: "Enter now also needs 288 free bytes under the new stack pointer on PPC64 and 220 on AIX, else 19";
-- No. 9: "Enter above a leaf gives new refusal 28, tested after 17"
abbrev pub enter_tests : FrameRules → State → Frame → List Requirement
enter_tests k s f =
    require (ok_request k f) BadRequest ∷ require (not (top k s).leaf) AboveLeaf ∷ require (ltb s.depth max_entered) TooManyFrames ∷ require (leb (s.base + frame_size k f + k.floor) (stack_pointer k s)) NoRoom ∷ []

-- what an enter answers, with n bytes of memory lent
unfoldable pub enter_answer : FrameRules → State → ℕ → Frame → FrameAnswer
enter_answer k s n f = judge (state_tests k s n ++ enter_tests k s f)

-- "An accepted enter changes only the stack pointer, the slots named above, its record and the depth"
unfoldable pub entered : FrameRules → State → Frame → State
entered k s f = record {
  convention = s.convention;
  base = s.base;
  size = s.size;
  depth = s.depth + 1;
  registers = with_pointer k s.registers (stack_pointer k s - frame_size k f);
  frames = set s.frames s.depth f;
}

-- "back chain at the new pointer", of a leaf none, then the saves
unfoldable pub entered_memory : FrameRules → State → List ℕ → Frame → List ℕ
entered_memory k s l f = save_all (store l (offset k s - frame_size k f) (chain_width k f) (stack_pointer k s)) (saves k f (offset k s) s.registers)

-- ---- write

-- n bytes from offset a wholly inside the bytes from offset b up to e
abbrev pub inside : ℕ → ℕ → ℕ → ℕ → Bool
inside a n b e = leb b a && leb (a + n) e

-- Where the own outgoing area and the locals above it begin, with the frame's own pointer at o. A leaf has no outgoing area, and its locals are "the bytes of the floor
-- area of No. 8 that aren't its saves" (02, No. 9).
abbrev pub outgoing_from : FrameRules → Frame → ℕ → ℕ
outgoing_from k f o = pick f.leaf (o - k.floor) (o + k.header)

abbrev pub locals_from : FrameRules → Frame → ℕ → ℕ
locals_from k f o = pick f.leaf (o - k.floor) (o + k.header + outgoing_length k f)

-- the most that one call may write: "Memory, 1 to 256 bytes"
abbrev pub max_write : ℕ
max_write = 256

-- "Memory, 1 to 256 bytes wholly inside one of: own locals (all between the outgoing area and the saves), own outgoing area, caller's outgoing area";
-- at the start there is only the own outgoing area; 02, No. 9: "The leaf may write the bytes of the floor area .., and the caller's outgoing area"
unfoldable pub writable_bytes : FrameRules → State → ℕ → ℕ → Bool
writable_bytes k s a n =
    let f = top k s in
    let o = offset k s in
    let c = o + frame_size k f in
    leb 1 n && (leb n max_write && (inside a n (outgoing_from k f o) (locals_from k f o)
    || (ltb 0 s.depth && (inside a n (locals_from k f o) (c - below k.linkage k f)
    || inside a n (c + k.header) (c + k.header + outgoing_length k (caller k s))))))

-- "write 20", with n bytes of memory lent: of the value v to register `number` of bank b
unfoldable pub write_register_answer : FrameRules → State → ℕ → ℕ → ℕ → ℕ → FrameAnswer
write_register_answer k s n b number v = judge (state_tests k s n ++ (require (writable_register k (top k s) (bank_of b) number v) NotPermitted ∷ []))

-- the same of m bytes at the address a
unfoldable pub writable_address : FrameRules → State → ℕ → ℕ → Bool
writable_address k s a m = leb s.base a && writable_bytes k s (a - s.base) m

unfoldable pub write_memory_answer : FrameRules → State → ℕ → ℕ → ℕ → FrameAnswer
write_memory_answer k s n a m = judge (state_tests k s n ++ (require (writable_address k s a m) NotPermitted ∷ []))

-- "An accepted write puts the given value or bytes in the place named and changes nothing else"
unfoldable pub written_register : State → ℕ → ℕ → ℕ → State
written_register s b number v = record {
  convention = s.convention;
  base = s.base;
  size = s.size;
  depth = s.depth;
  registers = with_register s.registers (bank_of b) number v;
  frames = s.frames;
}

unfoldable pub written_memory : State → List ℕ → ℕ → List ℕ → List ℕ
written_memory s l a bs = splice l (a - s.base) bs

-- ---- leave

-- "leave 22, 21": 21 where "the back chain (on Z the r15 slot instead) isn't the caller's stack pointer"; 02, No. 9: "Leave skips the back chain
-- test for a leaf"
abbrev pub leave_tests : FrameRules → State → List ℕ → List Requirement
leave_tests k s l =
    let z = frame_size k (top k s) in
    require (ltb 0 s.depth) NothingEntered
    ∷ require ((top k s).leaf || eqb (load l (link_at k.linkage k (offset k s) (offset k s + z)) k.word) (stack_pointer k s + z)) BrokenChain
    ∷ []

-- what a leave answers with the memory l lent
unfoldable pub leave_answer : FrameRules → State → List ℕ → FrameAnswer
leave_answer k s l = judge (state_tests k s (length l) ++ leave_tests k s l)

-- "an accepted leave only the stack pointer, what it restores, the record and the depth, and no memory"; it "zeroes the record"
unfoldable pub left : FrameRules → State → List ℕ → State
left k s l =
    let z = frame_size k (top k s) in
    record {
      convention = s.convention;
      base = s.base;
      size = s.size;
      depth = s.depth - 1;
      registers = restored k (top k s) (offset k s + z) l (stack_pointer k s + z) s.registers;
      frames = set s.frames (s.depth - 1) no_frame;
    }

-- ---- what the contracts cite: the answer and the state, and the memory, after each call

unfoldable pub start_outcome : Convention → ℕ → ℕ → Registers → FrameOutcome
start_outcome c b n r = record { answer = start_answer c b n; state = settle (start_answer c b n) (started c b n r) (not_started c r) }

unfoldable pub start_memory : Convention → ℕ → List ℕ → List ℕ
start_memory c b l = settle (start_answer c b (length l)) (started_memory (rules c) l) l

unfoldable pub enter_outcome : State → ℕ → Frame → FrameOutcome
enter_outcome s n f = let a = enter_answer (state_rules s) s n f in record { answer = a; state = settle a (entered (state_rules s) s f) s }

unfoldable pub enter_memory : State → List ℕ → Frame → List ℕ
enter_memory s l f = settle (enter_answer (state_rules s) s (length l) f) (entered_memory (state_rules s) s l f) l

unfoldable pub write_register_outcome : State → ℕ → ℕ → ℕ → ℕ → FrameOutcome
write_register_outcome s n b number v = let a = write_register_answer (state_rules s) s n b number v in record { answer = a; state = settle a (written_register s b number v) s }

unfoldable pub write_memory_outcome : State → ℕ → ℕ → ℕ → FrameOutcome
write_memory_outcome s n a m = record { answer = write_memory_answer (state_rules s) s n a m; state = s }

unfoldable pub write_memory_memory : State → List ℕ → ℕ → List ℕ → List ℕ
write_memory_memory s l a bs = settle (write_memory_answer (state_rules s) s (length l) a (length bs)) (written_memory s l a bs) l

unfoldable pub leave_outcome : State → List ℕ → FrameOutcome
leave_outcome s l = let a = leave_answer (state_rules s) s l in record { answer = a; state = settle a (left (state_rules s) s l) s }
