-- The frame machine's state as 262 words of 64 bits, the layout that a caller in C lends (`fz_machine`): word 0 the convention's code, 1 the base, 2 the size,
-- 3 the depth, 4 to 35 the general registers, 36 to 67 the floating registers, 68 LR, 69 CR, and six words for each of 32 records from word 70 on: the first
-- general and the first floating register saved, whether CR is (0 or 1), locals, outgoing, whether it is a leaf (0 or 1). The layout is ours; what it holds is document 01's, "Frames", and
-- document 02's, No. 9.
-- Assumes nothing.
use Rattle.base_conventions.specs.declared.UnknownConvention.{UnknownConvention}
use Rattle.std.specs.Prelude.{ℕ, zero, suc, ◌+◌, ◌-◌, ◌*◌, ◌%◌, ◌^◌, Bool, true, false, ◌&&◌, List, [], ◌∷◌, ◌++◌, get_or, set, leb, eqb, Ok, Err, Result}
use Rattle.base_words.specs.Splice.{splice, part}
use Rattle.base_conventions.specs.declared.Convention.{Convention}
use Rattle.base_conventions.specs.Numbers.{code_of, convention_code}
use Rattle.frame_rules.specs.declared.Frame.{Frame}
use Rattle.frame_rules.specs.declared.Registers.{Registers}
use Rattle.base_words.specs.Basics.{pick, flag}
use Rattle.frame_rules.specs.Frames.{first_gpr_of, first_fpr_of, saves_cr_of, no_frame}
use Rattle.frame_machine.specs.declared.State.{State}
use Rattle.frame_machine.specs.Machine.{max_entered}

-- ---- the numbers of the layout

-- words of the whole state, of the registers (`fz_registers`), of a record or a request (`fz_frame`)
abbrev pub machine_words : ℕ
machine_words = 262

abbrev pub registers_words : ℕ
registers_words = 66

abbrev pub record_words : ℕ
record_words = 6

-- where the depth stands, and where the registers and the records start
abbrev pub depth_at : ℕ
depth_at = 3

abbrev pub registers_at : ℕ
registers_at = 4

abbrev pub records_at : ℕ
records_at = 70

-- in the registers: where the floating ones start, and LR and CR stand
abbrev pub floating_in : ℕ
floating_in = 32

abbrev pub lr_in : ℕ
lr_in = 64

abbrev pub cr_in : ℕ
cr_in = 65

-- ---- reading

-- a code's convention; where it is no convention's code some one stands there, and `is_machine` says no
abbrev pub convention_of : Result Convention UnknownConvention → Convention
convention_of (Ok c) = c
convention_of (Err _) = Convention.Z

abbrev pub is_known : Result Convention UnknownConvention → Bool
is_known (Ok c) = true
is_known (Err _) = false

-- Are the words a machine's? Not where word 0 is no convention's code, or CR's word no 32-bit word ("CR is one 32-bit word").
unfoldable pub is_machine : List ℕ → Bool
is_machine ws = is_known (convention_code (get_or ws 0 0)) && leb (get_or ws (registers_at + cr_in) 0) (2 ^ 32 - 1)

-- the depth; words that are no machine's are read as one of depth 33, which is refused by 23 ("depth over 32") before anything else
unfoldable pub depth_in : List ℕ → ℕ
depth_in ws = pick (is_machine ws) (get_or ws depth_at 0) (max_entered + 1)

-- the registers in the `registers_words` words from `at` on; of CR's word the low 32 bits
unfoldable pub registers_in : List ℕ → ℕ → Registers
registers_in ws at = record {
  gpr = part at 32 ws;
  fpr = part (at + floating_in) 32 ws;
  lr = get_or ws (at + lr_in) 0;
  cr = get_or ws (at + cr_in) 0 % 2 ^ 32;
}

-- the request or the record in the six words from `at` on; where "CR or not" or the mark of a leaf is neither 0 nor 1, one that 17 refuses: r0 is the first register
-- saved
unfoldable pub frame_in : List ℕ → ℕ → Frame
frame_in ws at =
    pick (leb (get_or ws (at + 2) 0) 1 && leb (get_or ws (at + 5) 0) 1)
    (record {
      first_gpr = get_or ws at 0;
      first_fpr = get_or ws (at + 1) 0;
      saves_cr = eqb (get_or ws (at + 2) 0) 1;
      locals = get_or ws (at + 3) 0;
      outgoing = get_or ws (at + 4) 0;
      leaf = eqb (get_or ws (at + 5) 0) 1;
    })
    no_frame

-- the n records from record i on
unfoldable pub frames_in : ℕ → List ℕ → ℕ → List Frame
frames_in zero ws i = []
frames_in (suc n) ws i = frame_in ws (records_at + record_words * i) ∷ frames_in n ws (i + 1)

-- the state that 262 words are read as
unfoldable pub state_in : List ℕ → State
state_in ws = record {
  convention = convention_of (convention_code (get_or ws 0 0));
  base = get_or ws 1 0;
  size = get_or ws 2 0;
  depth = depth_in ws;
  registers = registers_in ws registers_at;
  frames = frames_in max_entered ws 0;
}

-- ---- writing

unfoldable pub register_words : Registers → List ℕ
register_words r = r.gpr ++ (r.fpr ++ r.lr ∷ r.cr ∷ [])

unfoldable pub frame_words : Frame → List ℕ
frame_words f = first_gpr_of f ∷ first_fpr_of f ∷ flag (saves_cr_of f) ∷ f.locals ∷ f.outgoing ∷ flag f.leaf ∷ []

unfoldable pub frames_words : List Frame → List ℕ
frames_words [] = []
frames_words (f ∷ fs) = frame_words f ++ frames_words fs

-- all the words of a state
unfoldable pub state_words : State → List ℕ
state_words s = code_of s.convention ∷ s.base ∷ s.size ∷ s.depth ∷ (register_words s.registers ++ frames_words s.frames)

-- ws with the depth d; with the registers r; with the record i at f
abbrev pub with_depth : List ℕ → ℕ → List ℕ
with_depth ws d = set ws depth_at d

abbrev pub with_registers : List ℕ → Registers → List ℕ
with_registers ws r = splice ws registers_at (register_words r)

abbrev pub with_frame : List ℕ → ℕ → Frame → List ℕ
with_frame ws i f = splice ws (records_at + record_words * i) (frame_words f)
