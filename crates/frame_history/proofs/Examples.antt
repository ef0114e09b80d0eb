-- Lists of calls of each convention worked on numbers, so that the theorem is seen to speak of something: a start on 640 bytes (Z: 512), a frame entered, refused and accepted
-- writes, and leaves.
-- Assumes nothing.
use Prim.Native.Nat.{ℕ, ◌+◌, ◌-◌, ◌^◌}
use mathlib.Core.Path.{◌≡◌, refl}
use mathlib.Core.Bool.{true, false}
use mathlib.Core.List.{List, [], ◌∷◌, ◌++◌}
use lib.ListN.{replicate}
use Rattle.base_words.specs.Basics.{round_up}
use Rattle.base_words.specs.Splice.{overlay, splice}
use Rattle.base_words.specs.Numbers.{bytes_of, value_of}
use Rattle.frame_saves.specs.Saves.{store, load, save_run, load_run}
use Rattle.base_conventions.specs.declared.Convention.TheVariants.{Ppc64, Z, Aix}
use Rattle.frame_rules.specs.declared.Frame.{Frame}
use Rattle.frame_rules.specs.declared.Registers.{Registers}
use Rattle.frame_rules.specs.Frames.{with_pointer, all_within, lowered, ok_registers, cleared, ok_leaf, ok_request, below, full_size, frame_size, chain_width, gpr_at, saves_by, link_at, merge_fields, restored_lr, restored_cr, restored, bank_of, writable_field, writable_register, with_condition_field, with_register}
use Rattle.frame_machine.specs.Answers.{frame_answer_number, judge}
use Rattle.frame_machine.specs.Machine.{top_frame, caller_frame, ok_frames, sizes, ok_memory, ok_state, start_answer, started, started_memory, enter_answer, entered, entered_memory, writable_bytes, writable_address, write_register_answer, write_memory_answer, written_register, written_memory, leave_answer, left, start_outcome, start_memory, enter_outcome, enter_memory, write_register_outcome, write_memory_outcome, write_memory_memory, leave_outcome}
use Rattle.frame_history.specs.Calls.{Call, enter, write_register, write_memory, leave, Machine, answer, after, fresh}

-- the numbers of the answers to a list of calls, and the machine after them
abbrev numbers : List Call → Machine → List ℕ
numbers [] m = []
numbers (c ∷ cs) m = frame_answer_number (answer c m) ∷ numbers cs (after c m)

abbrev run : List Call → Machine → Machine
run [] m = m
run (c ∷ cs) m = run cs (after c m)

abbrev registers : Registers
registers = record { gpr = replicate 32 7; fpr = replicate 32 9; lr = 11; cr = 0 }

abbrev request : Frame
request = record { first_gpr = 29; first_fpr = 30; saves_cr = true; locals = 20; outgoing = 64; leaf = false }

abbrev calls : List Call
calls =
    leave
    ∷ enter request
    ∷ write_register 0 30 5
    ∷ write_register 0 28 5
    ∷ write_register 2 0 6
    ∷ write_register 3 2 15
    ∷ write_memory (4096 + 640 - 112 - 176 + 48) (1 ∷ 2 ∷ [])
    ∷ write_memory (4096 + 640 - 112 - 176) (1 ∷ 2 ∷ [])
    ∷ leave
    ∷ leave
    ∷ []

abbrev start : Machine
start = fresh Ppc64 4096 (replicate 640 1) registers

-- the same on Z: all that a request may save, with one byte of locals and 8 of outgoing area
abbrev request-z : Frame
request-z = record { first_gpr = 6; first_fpr = 8; saves_cr = false; locals = 1; outgoing = 8; leaf = false }

abbrev calls-z : List Call
calls-z =
    enter request
    ∷ enter request-z
    ∷ write_register 0 6 5
    ∷ write_register 0 14 5
    ∷ write_register 0 15 5
    ∷ write_register 1 8 5
    ∷ write_register 2 0 5
    ∷ write_register 3 0 5
    ∷ leave
    ∷ []

abbrev start-z : Machine
start-z = fresh Z 4096 (replicate 512 1) registers

-- leaves on PPC64: one above a frame, which is at 4448; the floor is from 4160 on
abbrev leaf : Frame
leaf = record { first_gpr = 30; first_fpr = 32; saves_cr = true; locals = 0; outgoing = 0; leaf = true }

abbrev calls-leaf : List Call
calls-leaf =
    enter request
    ∷ enter leaf
    ∷ enter leaf
    ∷ write_register 0 30 5
    ∷ write_register 2 0 5
    ∷ write_memory 4160 (1 ∷ 2 ∷ [])
    ∷ write_memory 4159 (1 ∷ 2 ∷ [])
    ∷ write_memory 4431 (1 ∷ 2 ∷ [])
    ∷ write_memory 4496 (1 ∷ 2 ∷ [])
    ∷ leave
    ∷ leave
    ∷ []

-- The answers on PPC64: 22 where nothing is entered, 20 where r28 is not saved and where the back chain is in no area. On Z: 17 where CR is asked for, 20 for the stack
-- pointer, LR and CR. After the calls the saved registers, LR and condition field 2 are back.
-- With a leaf: 28 above it, 20 for LR, below the floor and in its saves.
pub worked : (numbers calls start ≡ 22 ∷ 0 ∷ 0 ∷ 20 ∷ 0 ∷ 0 ∷ 0 ∷ 20 ∷ 0 ∷ 22 ∷ [])
    × ((run calls start).state.registers ≡ record { gpr = 7 ∷ (4096 + 640 - 112) ∷ replicate 30 7; fpr = replicate 32 9; lr = 11; cr = 0 })
    × (numbers calls-z start-z ≡ 17 ∷ 0 ∷ 0 ∷ 0 ∷ 20 ∷ 0 ∷ 20 ∷ 20 ∷ 0 ∷ [])
    × ((run calls-z start-z).state.registers ≡ record { gpr = replicate 15 7 ++ (4096 + 512 - 160) ∷ replicate 16 7; fpr = replicate 32 9; lr = 11; cr = 0 })
    × (numbers calls-leaf start ≡ 0 ∷ 0 ∷ 28 ∷ 0 ∷ 20 ∷ 0 ∷ 20 ∷ 20 ∷ 0 ∷ 0 ∷ 0 ∷ [])
    × ((run calls-leaf start).state.registers ≡ record { gpr = 7 ∷ (4096 + 640 - 112) ∷ replicate 30 7; fpr = replicate 32 9; lr = 11; cr = 0 })
unfolding overlay splice bytes_of value_of store load save_run load_run with_pointer all_within lowered ok_registers cleared ok_leaf ok_request below round_up full_size frame_size chain_width gpr_at saves_by link_at merge_fields restored_lr restored_cr restored bank_of writable_field writable_register with_condition_field with_register judge top_frame caller_frame ok_frames sizes ok_memory ok_state start_answer started started_memory enter_answer entered entered_memory writable_bytes writable_address write_register_answer write_memory_answer written_register written_memory leave_answer left start_outcome start_memory enter_outcome enter_memory write_register_outcome write_memory_outcome write_memory_memory leave_outcome
worked = (refl, refl, refl, refl, refl, refl)

-- on AIX: registers handed in with high halves, and a frame that saves r13 and up
abbrev wide : Registers
wide = record { gpr = replicate 32 (2 ^ 32 + 7); fpr = replicate 32 (2 ^ 32 + 9); lr = 2 ^ 40 + 11; cr = 0 }

abbrev request-aix : Frame
request-aix = record { first_gpr = 13; first_fpr = 30; saves_cr = true; locals = 20; outgoing = 64; leaf = false }

-- the frame is at 4464, its outgoing area from 4488 on
abbrev calls-aix : List Call
calls-aix =
    leave
    ∷ enter request-aix
    ∷ write_register 0 13 5
    ∷ write_register 0 13 (2 ^ 32)
    ∷ write_register 2 0 (2 ^ 32 - 1)
    ∷ write_register 2 0 (2 ^ 32)
    ∷ write_register 1 31 (2 ^ 32)
    ∷ write_register 3 2 15
    ∷ write_memory 4488 (1 ∷ 2 ∷ [])
    ∷ write_memory 4487 (1 ∷ 2 ∷ [])
    ∷ leave
    ∷ leave
    ∷ []

-- a leaf above that frame; the floor is from 4244 on
abbrev leaf-aix : Frame
leaf-aix = record { first_gpr = 13; first_fpr = 14; saves_cr = true; locals = 0; outgoing = 0; leaf = true }

abbrev calls-leaf-aix : List Call
calls-leaf-aix =
    enter request-aix
    ∷ enter leaf
    ∷ enter leaf
    ∷ write_register 0 30 5
    ∷ write_register 2 0 5
    ∷ write_memory 4244 (1 ∷ 2 ∷ [])
    ∷ write_memory 4243 (1 ∷ 2 ∷ [])
    ∷ write_memory 4455 (1 ∷ 2 ∷ [])
    ∷ write_memory 4488 (1 ∷ 2 ∷ [])
    ∷ leave
    ∷ enter leaf-aix
    ∷ write_memory 4244 (1 ∷ [])
    ∷ leave
    ∷ leave
    ∷ []

abbrev start-aix : Machine
start-aix = fresh Aix 4096 (replicate 640 1) wide

-- 20 for a general register or LR over 2^32 - 1, not for a floating one, and below the outgoing area. After the calls the general registers and LR are those handed in less
-- their high halves. With a leaf: 28 above it, 20 for LR, below the floor and in its saves, which may take up the whole floor.
pub worked-aix : (numbers calls-aix start-aix ≡ 22 ∷ 0 ∷ 0 ∷ 20 ∷ 0 ∷ 20 ∷ 0 ∷ 0 ∷ 0 ∷ 20 ∷ 0 ∷ 22 ∷ [])
    × ((run calls-aix start-aix).state.registers ≡ record { gpr = 7 ∷ (4096 + 640 - 64) ∷ replicate 30 7; fpr = replicate 32 (2 ^ 32 + 9); lr = 11; cr = 0 })
    × (numbers calls-leaf-aix start-aix ≡ 0 ∷ 0 ∷ 28 ∷ 0 ∷ 20 ∷ 0 ∷ 20 ∷ 20 ∷ 0 ∷ 0 ∷ 0 ∷ 20 ∷ 0 ∷ 0 ∷ [])
    × ((run calls-leaf-aix start-aix).state.registers ≡ record { gpr = 7 ∷ (4096 + 640 - 64) ∷ replicate 30 7; fpr = replicate 32 (2 ^ 32 + 9); lr = 11; cr = 0 })
unfolding overlay splice bytes_of value_of store load save_run load_run with_pointer all_within lowered ok_registers cleared ok_leaf ok_request below round_up full_size frame_size chain_width gpr_at saves_by link_at merge_fields restored_lr restored_cr restored bank_of writable_field writable_register with_condition_field with_register judge top_frame caller_frame ok_frames sizes ok_memory ok_state start_answer started started_memory enter_answer entered entered_memory writable_bytes writable_address write_register_answer write_memory_answer written_register written_memory leave_answer left start_outcome start_memory enter_outcome enter_memory write_register_outcome write_memory_outcome write_memory_memory leave_outcome
worked-aix = (refl, refl, refl, refl)
