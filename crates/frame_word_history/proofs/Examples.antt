-- A list of exported calls of each convention worked on numbers, so that the theorem is seen to speak of something: a start on 640 bytes, a frame entered, a saved register
-- written, and leaves.
-- Assumes nothing.
use Prim.Native.Nat.{ℕ, ◌-◌, ◌^◌}
use mathlib.Core.Path.{◌≡◌, refl}
use mathlib.Core.List.{List, [], ◌∷◌}
use lib.ListN.{replicate, set}
use Rattle.base_words.specs.Basics.{round_up}
use Rattle.base_words.specs.Splice.{overlay, splice}
use Rattle.base_words.specs.Numbers.{bytes_of, value_of}
use Rattle.frame_saves.specs.Saves.{store, load, save_run, load_run}
use Rattle.base_conventions.specs.declared.Convention.{Convention}
use Rattle.base_conventions.specs.Numbers.{convention_code}
use Rattle.base_conventions.specs.declared.Convention.TheVariants.{Ppc64, Z, Aix}
use Rattle.frame_rules.specs.Frames.{with_pointer, all_within, lowered, ok_registers, cleared, ok_leaf, ok_request, below, full_size, frame_size, chain_width, gpr_at, saves_by, link_at, merge_fields, restored_lr, restored_cr, restored, bank_of, writable_register, with_register}
use Rattle.std.specs.Prelude.{Ok}
use Rattle.frame_machine.specs.Answers.{frame_answer_number, judge}
use Rattle.frame_machine.specs.Machine.{top_frame, ok_frames, sizes, ok_memory, ok_state, start_answer, started, started_memory, enter_answer, entered, entered_memory, write_register_answer, written_register, leave_answer, left, start_outcome, start_memory, enter_outcome, enter_memory, write_register_outcome, leave_outcome}
use Rattle.frame_word_layout.specs.Words.{registers_words, is_machine, depth_in, registers_in, frame_in, frames_in, state_in, register_words, frame_words, frames_words, state_words}
use Rattle.frame_word_layout.specs.Calls.{changed, start_words, enter_words, write_register_words, leave_words}
use Rattle.frame_word_history.specs.Calls.{Call, enter, write_register, leave, Lent, answer, after, fresh, run}

-- the numbers of the answers to a list of calls, and what is lent after them
abbrev numbers : List Call → Lent → List ℕ
numbers [] m = []
numbers (c ∷ cs) m = frame_answer_number (answer c m) ∷ numbers cs (after c m)

abbrev start : Convention → Lent
start c = fresh c 4096 (replicate 640 1) (replicate registers_words 7)

-- with the words of a request and a general register that it saves
abbrev calls : List ℕ → ℕ → List Call
calls q n = leave ∷ enter q ∷ write_register 0 n 5 ∷ leave ∷ leave ∷ []

abbrev calls-ppc64 : List Call
calls-ppc64 = calls (29 ∷ 30 ∷ 1 ∷ 20 ∷ 64 ∷ 0 ∷ []) 30

abbrev calls-z : List Call
calls-z = calls (6 ∷ 8 ∷ 0 ∷ 1 ∷ 8 ∷ 0 ∷ []) 6

abbrev calls-leaf : List Call
calls-leaf = calls (29 ∷ 30 ∷ 1 ∷ 0 ∷ 0 ∷ 1 ∷ []) 30

-- Both starts are accepted. A leave is refused by 22 where nothing is entered. After the calls all the words are as the start left them.
pub worked : ((start_outcome Ppc64 4096 640 (registers_in (replicate registers_words 7) 0)).answer ≡ Ok tt)
    × ((start_outcome Z 4096 640 (registers_in (replicate registers_words 7) 0)).answer ≡ Ok tt)
    × (numbers calls-ppc64 (start Ppc64) ≡ 22 ∷ 0 ∷ 0 ∷ 0 ∷ 22 ∷ [])
    × (numbers calls-z (start Z) ≡ 22 ∷ 0 ∷ 0 ∷ 0 ∷ 22 ∷ [])
    × ((run calls-ppc64 (start Ppc64)).words ≡ (start Ppc64).words)
    × ((run calls-z (start Z)).words ≡ (start Z).words)
    × (numbers calls-leaf (start Ppc64) ≡ 22 ∷ 0 ∷ 0 ∷ 0 ∷ 22 ∷ [])
    × ((run calls-leaf (start Ppc64)).words ≡ (start Ppc64).words)
unfolding convention_code overlay splice bytes_of value_of store load save_run load_run with_pointer all_within lowered ok_registers cleared ok_leaf ok_request below round_up full_size frame_size chain_width gpr_at saves_by link_at merge_fields restored_lr restored_cr restored bank_of writable_register with_register judge top_frame ok_frames sizes ok_memory ok_state start_answer started started_memory enter_answer entered entered_memory write_register_answer written_register leave_answer left start_outcome start_memory enter_outcome enter_memory write_register_outcome leave_outcome is_machine depth_in registers_in frame_in frames_in state_in register_words frame_words frames_words state_words changed start_words enter_words write_register_words leave_words run
worked = (refl, refl, refl, refl, refl, refl, refl, refl)

-- on AIX, with 2^32 in each word of the registers: a frame that saves r13 and up
abbrev calls-aix : List Call
calls-aix = calls (13 ∷ 30 ∷ 1 ∷ 20 ∷ 64 ∷ 0 ∷ []) 13

abbrev wide : List ℕ
wide = replicate registers_words (2 ^ 32)

abbrev start-aix : Lent
start-aix = fresh Aix 4096 (replicate 640 1) wide

-- what a leave answers where word i is 2^32
abbrev leave_with : ℕ → Convention → ℕ
leave_with i c = frame_answer_number (answer leave (record { words = set (start c).words i (2 ^ 32); memory = (start c).memory }))

-- A start is accepted up to 2^32 - 1, with 288 bytes and no fewer. After the calls all the words are as the start left them. A state with 2^32 in the first or last general
-- register or in LR is refused by 23, one with it in a floating register not; on PPC64 none is.
pub worked-aix : ((start_outcome Aix (2 ^ 32 - 656) 640 (registers_in wide 0)).answer ≡ Ok tt)
    × (frame_answer_number (start_outcome Aix (2 ^ 32 - 640) 640 (registers_in wide 0)).answer ≡ 16)
    × ((start_outcome Aix 4096 288 (registers_in wide 0)).answer ≡ Ok tt)
    × (frame_answer_number (start_outcome Aix 4096 272 (registers_in wide 0)).answer ≡ 16)
    × (numbers calls-aix start-aix ≡ 22 ∷ 0 ∷ 0 ∷ 0 ∷ 22 ∷ [])
    × ((run calls-aix start-aix).words ≡ start-aix.words)
    × (numbers calls-leaf start-aix ≡ 22 ∷ 0 ∷ 0 ∷ 0 ∷ 22 ∷ [])
    × ((run calls-leaf start-aix).words ≡ start-aix.words)
    × ((leave_with 4 Aix ≡ 23) × (leave_with 35 Aix ≡ 23) × (leave_with 68 Aix ≡ 23) × (leave_with 36 Aix ≡ 22) × (leave_with 4 Ppc64 ≡ 22) × (leave_with 68 Ppc64 ≡ 22))
unfolding convention_code overlay splice bytes_of value_of store load save_run load_run with_pointer all_within lowered ok_registers cleared ok_leaf ok_request below round_up full_size frame_size chain_width gpr_at saves_by link_at merge_fields restored_lr restored_cr restored bank_of writable_register with_register judge top_frame ok_frames sizes ok_memory ok_state start_answer started started_memory enter_answer entered entered_memory write_register_answer written_register leave_answer left start_outcome start_memory enter_outcome enter_memory write_register_outcome leave_outcome is_machine depth_in registers_in frame_in frames_in state_in register_words frame_words frames_words state_words changed start_words enter_words write_register_words leave_words run
worked-aix = (refl, refl, refl, refl, refl, refl, refl, refl, (refl, refl, refl, refl, refl, refl))
