-- A whole call of each convention worked on numbers, so that the theorem is seen to speak of something: the calls that put the arguments, computed, and what the theorem then
-- says of a callee. Assumes nothing.
use Rattle.sig_types.specs.Codes.{integer_code, float_code}
use Prim.Native.Nat.{ℕ, zero, suc, ◌-◌, ◌^◌, ◌≤◌, ◌<◌}
use mathlib.Core.Path.{◌≡◌, refl, sym, ap, ◌∙◌, subst}
use mathlib.Core.Bool.{Bool, true, false, ◌&&◌}
use mathlib.Core.List.{List, [], ◌∷◌, ◌++◌, append-nil}
use native.Mathlib.Omega.{arith}
use borrow.Author.Tests.{ltb-true}
use lib.Dec.{ltb}
use lib.ListN.{length, replicate, take}
use lib.Seq.{length-take-le}
use Rattle.base_words.specs.Basics.{round_up, All}
use Rattle.base_words.specs.Splice.{overlay, splice}
use Rattle.base_words.specs.Numbers.{Bytes, bytes_of, value_of, zero_extended, sign_bit, sign_extended}
use Rattle.base_words.proofs.Tests.{and_yes}
use Rattle.base_words.proofs.Fitting.{fit-replicate}
use Rattle.base_words.proofs.Each.{each_at}
use Rattle.base_conventions.specs.declared.Convention.{Convention}
use Rattle.base_conventions.specs.Numbers.{convention_code}
use Rattle.sig_types.specs.Structs.{with_field, shape_of}
use Rattle.sig_types.specs.Trees.{type_of, count_of}
use Rattle.sig_items.specs.Read.{body_at, integer_at, float_of, float_at, sequence, sized_at, contents_at, item_by, struct_at, item_at}
use Rattle.sig_signatures.specs.Read.{convention_at, result_in, result_at, arguments_in, arguments_at, ellipsis_at, after_ellipsis, after_result, after_convention, signature_of}
use Rattle.sig_signatures.specs.Answer.{listed, table}
use Rattle.plan_places.specs.declared.Bank.{Bank}
use Rattle.plan_places.specs.Power.{words, fprs, share_of, power_share, unclear}
use Rattle.plan_places.specs.ZSeries.{z_class, z_span_of, z_next_of}
use Rattle.plan_places.specs.Step.{with_ellipsis, span_of, next_of, unclear_for, fresh_cursor, start_of, area_of, hidden_for, returning, result_of}
use Rattle.plan_places.specs.Places.{up_from}
use Rattle.plan_plans.specs.Plan.{spans_of, last_of, table_of, plan_in, plan_answer}
use Rattle.sig_signatures.specs.Types.{values_of, types_of}
use Rattle.plan_plans.specs.Call.{first_unclear, called}
use Rattle.call_registers.specs.Registers.{spread}
use Rattle.call_slots.specs.Buffers.{Buffers, buffers, put, put_all, bytes_at}
use Rattle.call_slots.specs.Forms.{struct_at_head, starts_at_head, extended, home_bytes, float_bytes}
use Rattle.call_slots.specs.Placements.{placements, standing, slots_of, slots_of_all}
use Rattle.call_slots.specs.Refusals.{first_of}
use Rattle.call_slots.specs.Arguments.{placements_in, arguments_of, plan_for}
use Rattle.call_slots.proofs.Buffers.{put_all-lengths}
use Rattle.call_fill.specs.Fill.{fill_lengths, bad_copies, fill_tests, fill_answer, fill_buffers, filled_slots}
use Rattle.call_roundtrip.specs.RoundTrip.{Filled, left_by_fill, ReadBack}
use Rattle.frame_saves.specs.Saves.{store, load, save_run}
use Rattle.frame_rules.specs.declared.Frame.{Frame}
use Rattle.frame_rules.specs.Rules.{rules}
use Rattle.frame_rules.specs.Frames.{outgoing_length, with_pointer, all_within, lowered, ok_registers, cleared, ok_leaf, ok_request, below, full_size, frame_size, chain_width, gpr_at, saves_by, bank_of, writable_register, with_register}
use Rattle.std.specs.Prelude.{Ok}
use Rattle.frame_machine.specs.Answers.{judge}
use Rattle.frame_machine.specs.Machine.{top_frame, caller_frame, ok_frames, sizes, ok_memory, ok_state, start_answer, started, started_memory, enter_answer, entered, entered_memory, writable_bytes, writable_address, write_register_answer, write_memory_answer, written_register, written_memory, start_outcome, start_memory, enter_outcome, enter_memory, write_register_outcome, write_memory_outcome, write_memory_memory}
use Rattle.frame_word_layout.specs.Words.{registers_in, registers_words, is_machine, depth_in, frame_in, frames_in, state_in, register_words, frame_words, frames_words, state_words}
use Rattle.frame_word_layout.specs.Calls.{changed, start_words, enter_words, write_register_words}
use Rattle.frame_history.specs.Preserved.{OpenEnter, caller_of}
use Rattle.frame_word_history.specs.Calls as calls
use Rattle.frame_word_history.specs.Calls.{Call, enter, write_register, write_memory, Lent, answer, run}
use Rattle.frame_word_history.specs.Demand3.{machine_in, WordsFit, opened_by}
use Rattle.both_whole_call.specs.Put.{bytes_in, own_area, register, range_registers, span_registers, named, put_pieces, put_calls, pieces_joined, WritablePiece, Cut}
use Rattle.both_whole_call.specs.Reached.{Reached}
use Rattle.both_whole_call.specs.Caller.{Free, CanCall, InLocals, SavedSix}
use Rattle.both_whole_call.specs.WholeCall.{seen, in_callee, Claims, put_filled}
use Rattle.both_whole_call.proofs.Named.{named-free}
use Rattle.both_whole_call.proofs.Theorem.{whole-call}
use Rattle.call_slots.specs.Answer.{call_done}

-- ---- what every example needs

-- bytes, by a test that computes
abbrev all_bytes : List ℕ → Bool
all_bytes [] = true
all_bytes (x ∷ l) = ltb x 256 && all_bytes l

bytes-tested : (l : List ℕ) → all_bytes l ≡ true → Bytes l
bytes-tested [] e i = omega arith
bytes-tested (x ∷ l) e zero = ltb-true x 256 (and_yes (ltb x 256) (all_bytes l) e).0
bytes-tested (x ∷ l) e (suc i) = bytes-tested l (and_yes (ltb x 256) (all_bytes l) e).1 i

-- a start of 640 bytes, all registers 7
abbrev start : Convention → Lent
start c = calls.fresh c 4096 (replicate 640 1) (replicate registers_words 7)

sevens : WordsFit registers_words (replicate registers_words 7)
sevens = record { count = refl; fit = fit-replicate 66 7 (2 ^ 64) (omega arith) }

-- one piece
one_piece : (bs : List ℕ) → (1 ≤ length bs) → (length bs ≤ 256) → Cut (bs ∷ []) bs
unfolding pieces_joined All
one_piece bs some small = record { whole = append-nil bs; short = ((some, small), tt) }

-- An example: a call's values and buffers, the machine that it is made from, and the calls that put it, which are computed. The area is put in one piece.
record Example : Type 0 where
  convention : Convention
  signature : List ℕ
  values : List ℕ
  area : List ℕ
  copies : List ℕ
  base : ℕ
  hidden : ℕ
  size : ℕ
  os : List OpenEnter
  m : Lent
  puts : List Call

-- what it leaves
abbrev left_by : Example → Buffers
left_by x = left_by_fill x.signature x.values (replicate 512 7) x.area x.copies x.base x.hidden

-- what is computed of it
record Computed (x : Example) : Type 0 where
  bytes : all_bytes x.values ≡ true
  low : x.base < 2 ^ 64
  accepted : fill_answer x.signature (fill_lengths x.values (replicate 512 7) x.area x.copies) x.base x.hidden ≡ call_done
  by : (plan_for x.signature).convention ≡ x.convention
  room : (plan_for x.signature).area ≡ x.size
  some : (1 ≤ length (take x.size (left_by x).area)) × (length (take x.size (left_by x).area) ≤ 256)
  calls : put_calls (plan_for x.signature) (left_by x).image (own_area (rules x.convention) (machine_in x.m)) (take x.size (left_by x).area ∷ []) ≡ x.puts

filling : (x : Example) → Computed x → Filled x.signature x.values (replicate 512 7) x.area x.copies x.base x.hidden
filling x h = record { bytes = bytes-tested x.values h.bytes; low = h.low; accepted = h.accepted }

piece : (x : Example) (h : Computed x) → Cut (take x.size (left_by x).area ∷ []) (take (plan_for x.signature).area (left_by x).area)
piece x h = rw h.room (one_piece (take x.size (left_by x).area) h.some.0 h.some.1)

put-by : (x : Example) (h : Computed x) → put_filled x.signature (left_by x) (take x.size (left_by x).area ∷ []) x.m ≡ x.puts
put-by x h = ap (λ (c : Convention). put_calls (plan_for x.signature) (left_by x).image (own_area (rules c) (machine_in x.m)) (take x.size (left_by x).area ∷ [])) h.by ∙ h.calls

-- the theorem at an example, with its copies outside the machine
worked : (x : Example) → Computed x → CanCall (plan_for x.signature) x.os x.m
    → Claims x.signature x.values (λ _. (left_by x).copies) x.base x.hidden x.os x.m x.puts
worked x h can =
    subst (Claims x.signature x.values (λ _. (left_by x).copies) x.base x.hidden x.os x.m) (put-by x h)
    (whole-call.outside x.signature x.values (replicate 512 7) x.area x.copies x.base x.hidden (filling x h) x.os x.m can
    (take x.size (left_by x).area ∷ []) (piece x h))

-- from the start, and from a function that the start called
from_start : (c : Convention) → (start_outcome c 4096 640 (registers_in (replicate registers_words 7) 0)).answer ≡ Ok tt → Reached c [] (start c)
unfolding run opened_by All
from_start c e = record {
  base = 4096;
  memory = replicate 640 1;
  registers = replicate registers_words 7;
  calls = [];
  registers-fit = sevens;
  started = e;
  calls-fit = tt;
  lent = refl;
  opened = refl;
}

abbrev entering : Convention → List ℕ → OpenEnter
entering c q = record { before = machine_in (start c); request = frame_in q 0 }

from-caller : (c : Convention) (q : List ℕ) → (start_outcome c 4096 640 (registers_in (replicate registers_words 7) 0)).answer ≡ Ok tt → answer (enter q) (start c) ≡ Ok tt
    → Reached c (entering c q ∷ []) (calls.after (enter q) (start c))
unfolding run opened_by All
from-caller c q e a = record {
  base = 4096;
  memory = replicate 640 1;
  registers = replicate registers_words 7;
  calls = enter q ∷ [];
  registers-fit = sevens;
  started = e;
  calls-fit = (tt, tt);
  lent = refl;
  opened = rw a;
}

-- a plan that is not Z's asks nothing of r6
not-z : (s : List ℕ) (f : Frame) (c : Convention) → (plan_for s).convention ≡ c → (c ≡ Convention.Z → ⊥) → SavedSix (plan_for s) f
not-z s f c e h z = absurd (h (sym e ∙ z))

-- ---- PPC64, from the start: a struct as the result, arguments i32 and double

abbrev ppc64 : Example
ppc64 = record {
  convention = Convention.Ppc64;
  signature = 1 ∷ 0 ∷ 1 ∷ 1 ∷ 2 ∷ 0 ∷ 7 ∷ 18 ∷ 0 ∷ 4 ∷ 16 ∷ 0 ∷ 1 ∷ 0 ∷ 3 ∷ 0 ∷ 8 ∷ 16 ∷ 0 ∷ 1 ∷ 4 ∷ 17 ∷ 0 ∷ 1 ∷ 1 ∷ [];
  values = 255 ∷ 255 ∷ 255 ∷ 254 ∷ 64 ∷ 9 ∷ 33 ∷ 251 ∷ 84 ∷ 68 ∷ 45 ∷ 24 ∷ [];
  area = replicate 70 9;
  copies = [];
  base = 0;
  hidden = 4660;
  size = 64;
  os = [];
  m = start Convention.Ppc64;
  -- r3 gets the hidden address, r4 the integer, f1 the double, and the area its bytes
  puts = write_register 0 3 4660 ∷ write_register 0 4 (2 ^ 64 - 2) ∷ write_register 1 1 4614256656552045848 ∷ write_memory 4672 (replicate 64 9) ∷ [];
}

ppc64-filled : (fill_answer ppc64.signature (fill_lengths ppc64.values (replicate 512 7) ppc64.area ppc64.copies) ppc64.base ppc64.hidden ≡ call_done)
    × ((plan_for ppc64.signature).convention ≡ Convention.Ppc64) × ((plan_for ppc64.signature).area ≡ 64)
unfolding round_up with_field shape_of type_of count_of listed table body_at integer_code float_code integer_at float_of float_at sequence sized_at contents_at item_by struct_at item_at convention_code convention_at result_in result_at arguments_in arguments_at ellipsis_at after_ellipsis after_result after_convention signature_of with_ellipsis words fprs share_of power_share unclear z_class z_span_of z_next_of span_of next_of unclear_for fresh_cursor start_of area_of hidden_for returning result_of up_from spans_of last_of values_of table_of plan_in types_of plan_answer first_unclear called bad_copies fill_tests first_of fill_answer
ppc64-filled = (refl, refl, refl)

ppc64-at : own_area (rules Convention.Ppc64) (machine_in ppc64.m) ≡ 4672
unfolding round_up overlay splice bytes_of value_of convention_code store load save_run with_pointer all_within lowered ok_registers cleared ok_leaf ok_request below full_size frame_size chain_width gpr_at saves_by bank_of writable_register with_register judge top_frame caller_frame ok_frames sizes ok_memory ok_state start_answer started started_memory enter_answer entered entered_memory writable_bytes writable_address write_register_answer write_memory_answer written_register written_memory start_outcome start_memory enter_outcome enter_memory write_register_outcome write_memory_outcome write_memory_memory is_machine depth_in registers_in frame_in frames_in state_in register_words frame_words frames_words state_words changed start_words enter_words write_register_words run
ppc64-at = refl

ppc64-calls : put_calls (plan_for ppc64.signature) (left_by ppc64).image 4672 (take 64 (left_by ppc64).area ∷ []) ≡ ppc64.puts
unfolding round_up with_field shape_of type_of count_of listed table body_at integer_code float_code integer_at float_of float_at sequence sized_at contents_at item_by struct_at item_at convention_code convention_at result_in result_at arguments_in arguments_at ellipsis_at after_ellipsis after_result after_convention signature_of with_ellipsis words fprs share_of power_share unclear z_class z_span_of z_next_of span_of next_of unclear_for fresh_cursor start_of area_of hidden_for returning result_of up_from spans_of last_of values_of table_of plan_in types_of plan_answer first_unclear called overlay splice bytes_of value_of zero_extended sign_bit sign_extended spread put put_all bytes_at struct_at_head starts_at_head extended home_bytes float_bytes standing slots_of slots_of_all placements placements_in arguments_of fill_buffers filled_slots range_registers span_registers put_pieces put_calls
ppc64-calls = refl

ppc64-length : length (left_by ppc64).area ≡ length ppc64.area
unfolding fill_buffers
ppc64-length = (put_all-lengths (filled_slots ppc64.signature ppc64.values ppc64.base ppc64.hidden) (buffers (replicate 512 7) ppc64.area ppc64.copies)).area

ppc64-computed : Computed ppc64
ppc64-computed =
    let size = length-take-le 64 (left_by ppc64).area (omega (arith, ppc64-length)) in
    record {
      bytes = refl;
      low = omega arith;
      accepted = ppc64-filled.0;
      by = ppc64-filled.1;
      room = ppc64-filled.2;
      some = (omega (arith, size), omega (arith, size));
      calls = ap (λ (a : ℕ). put_calls (plan_for ppc64.signature) (left_by ppc64).image a (take 64 (left_by ppc64).area ∷ [])) ppc64-at ∙ ppc64-calls;
    }

-- ---- Z, from a function that saved r6, with its copy in the locals: arguments five i64 and a struct of 16 bytes

abbrev z : Example
z = record {
  convention = Convention.Z;
  signature = 1 ∷ 0 ∷ 1 ∷ 2 ∷ 2 ∷ 0 ∷ 0 ∷ 3 ∷ 0 ∷ 31 ∷ 16 ∷ 0 ∷ 1 ∷ 6 ∷ 16 ∷ 0 ∷ 1 ∷ 6 ∷ 16 ∷ 0 ∷ 1 ∷ 6 ∷ 16 ∷ 0 ∷ 1 ∷ 6 ∷ 16 ∷ 0 ∷ 1 ∷ 6 ∷ 18 ∷ 0 ∷ 8 ∷ 16 ∷ 0 ∷ 1 ∷ 6 ∷ 16 ∷ 0 ∷ 1 ∷ 6 ∷ [];
  values = 0 ∷ 0 ∷ 0 ∷ 0 ∷ 0 ∷ 0 ∷ 0 ∷ 1 ∷ 0 ∷ 0 ∷ 0 ∷ 0 ∷ 0 ∷ 0 ∷ 0 ∷ 2 ∷ 0 ∷ 0 ∷ 0 ∷ 0 ∷ 0 ∷ 0 ∷ 0 ∷ 3 ∷ 0 ∷ 0 ∷ 0 ∷ 0 ∷ 0 ∷ 0 ∷ 0 ∷ 4 ∷ 0 ∷ 0 ∷ 0 ∷ 0 ∷ 0 ∷ 0 ∷ 0 ∷ 5 ∷ 101 ∷ 102 ∷ 103 ∷ 104 ∷ 105 ∷ 106 ∷ 107 ∷ 108 ∷ 109 ∷ 110 ∷ 111 ∷ 112 ∷ 113 ∷ 114 ∷ 115 ∷ 116 ∷ [];
  area = replicate 8 9;
  copies = replicate 16 9;
  base = 4560;
  hidden = 0;
  size = 8;
  os = entering Convention.Z (6 ∷ 16 ∷ 0 ∷ 16 ∷ 8 ∷ 0 ∷ []) ∷ [];
  m = calls.after (enter (6 ∷ 16 ∷ 0 ∷ 16 ∷ 8 ∷ 0 ∷ [])) (start Convention.Z);
  -- r2 to r6 get the integers, and the area the address of the copy
  puts = write_register 0 2 1 ∷ write_register 0 3 2 ∷ write_register 0 4 3 ∷ write_register 0 5 4 ∷ write_register 0 6 5 ∷ write_memory 4552 (0 ∷ 0 ∷ 0 ∷ 0 ∷ 0 ∷ 0 ∷ 17 ∷ 208 ∷ []) ∷ [];
}

z-filled : (fill_answer z.signature (fill_lengths z.values (replicate 512 7) z.area z.copies) z.base z.hidden ≡ call_done)
    × ((plan_for z.signature).convention ≡ Convention.Z) × ((plan_for z.signature).area ≡ 8)
unfolding round_up with_field shape_of type_of count_of listed table body_at integer_code float_code integer_at float_of float_at sequence sized_at contents_at item_by struct_at item_at convention_code convention_at result_in result_at arguments_in arguments_at ellipsis_at after_ellipsis after_result after_convention signature_of with_ellipsis words fprs share_of power_share unclear z_class z_span_of z_next_of span_of next_of unclear_for fresh_cursor start_of area_of hidden_for returning result_of up_from spans_of last_of values_of table_of plan_in types_of plan_answer first_unclear called bad_copies fill_tests first_of fill_answer
z-filled = (refl, refl, refl)

z-at : own_area (rules Convention.Z) (machine_in z.m) ≡ 4552
unfolding round_up overlay splice bytes_of value_of convention_code store load save_run with_pointer all_within lowered ok_registers cleared ok_leaf ok_request below full_size frame_size chain_width gpr_at saves_by bank_of writable_register with_register judge top_frame caller_frame ok_frames sizes ok_memory ok_state start_answer started started_memory enter_answer entered entered_memory writable_bytes writable_address write_register_answer write_memory_answer written_register written_memory start_outcome start_memory enter_outcome enter_memory write_register_outcome write_memory_outcome write_memory_memory is_machine depth_in registers_in frame_in frames_in state_in register_words frame_words frames_words state_words changed start_words enter_words write_register_words run
z-at = refl

z-calls : put_calls (plan_for z.signature) (left_by z).image 4552 (take 8 (left_by z).area ∷ []) ≡ z.puts
unfolding round_up with_field shape_of type_of count_of listed table body_at integer_code float_code integer_at float_of float_at sequence sized_at contents_at item_by struct_at item_at convention_code convention_at result_in result_at arguments_in arguments_at ellipsis_at after_ellipsis after_result after_convention signature_of with_ellipsis words fprs share_of power_share unclear z_class z_span_of z_next_of span_of next_of unclear_for fresh_cursor start_of area_of hidden_for returning result_of up_from spans_of last_of values_of table_of plan_in types_of plan_answer first_unclear called overlay splice bytes_of value_of zero_extended sign_bit sign_extended spread put put_all bytes_at struct_at_head starts_at_head extended home_bytes float_bytes standing slots_of slots_of_all placements placements_in arguments_of fill_buffers filled_slots range_registers span_registers put_pieces put_calls
z-calls = refl

z-length : length (left_by z).area ≡ length z.area
unfolding fill_buffers
z-length = (put_all-lengths (filled_slots z.signature z.values z.base z.hidden) (buffers (replicate 512 7) z.area z.copies)).area

z-computed : Computed z
z-computed =
    let size = length-take-le 8 (left_by z).area (omega (arith, z-length)) in
    record {
      bytes = refl;
      low = omega arith;
      accepted = z-filled.0;
      by = z-filled.1;
      room = z-filled.2;
      some = (omega (arith, size), omega (arith, size));
      calls = ap (λ (a : ℕ). put_calls (plan_for z.signature) (left_by z).image a (take 8 (left_by z).area ∷ [])) z-at ∙ z-calls;
    }

-- ---- AIX, from a function that asked for 40 bytes where the call has 36: arguments i64 and seven i32

abbrev aix : Example
aix = record {
  convention = Convention.Aix;
  signature = 1 ∷ 0 ∷ 1 ∷ 3 ∷ 2 ∷ 0 ∷ 0 ∷ 3 ∷ 0 ∷ 32 ∷ 16 ∷ 0 ∷ 1 ∷ 6 ∷ 16 ∷ 0 ∷ 1 ∷ 4 ∷ 16 ∷ 0 ∷ 1 ∷ 4 ∷ 16 ∷ 0 ∷ 1 ∷ 4 ∷ 16 ∷ 0 ∷ 1 ∷ 4 ∷ 16 ∷ 0 ∷ 1 ∷ 4 ∷ 16 ∷ 0 ∷ 1 ∷ 4 ∷ 16 ∷ 0 ∷ 1 ∷ 4 ∷ [];
  values = 1 ∷ 2 ∷ 3 ∷ 4 ∷ 5 ∷ 6 ∷ 7 ∷ 8 ∷ 255 ∷ 255 ∷ 255 ∷ 255 ∷ 0 ∷ 0 ∷ 0 ∷ 2 ∷ 0 ∷ 0 ∷ 0 ∷ 3 ∷ 0 ∷ 0 ∷ 0 ∷ 4 ∷ 0 ∷ 0 ∷ 0 ∷ 5 ∷ 0 ∷ 0 ∷ 0 ∷ 6 ∷ 0 ∷ 0 ∷ 0 ∷ 7 ∷ [];
  area = replicate 36 9;
  copies = [];
  base = 0;
  hidden = 0;
  size = 36;
  os = entering Convention.Aix (32 ∷ 32 ∷ 0 ∷ 0 ∷ 40 ∷ 0 ∷ []) ∷ [];
  m = calls.after (enter (32 ∷ 32 ∷ 0 ∷ 0 ∷ 40 ∷ 0 ∷ [])) (start Convention.Aix);
  -- r3 and r4 get the i64, r5 to r10 an i32 each, of which -1 has its high half zero, and the last is in memory
  puts = write_register 0 3 16909060 ∷ write_register 0 4 84281096 ∷ write_register 0 5 (2 ^ 32 - 1) ∷ write_register 0 6 2 ∷ write_register 0 7 3 ∷ write_register 0 8 4 ∷ write_register 0 9 5 ∷ write_register 0 10 6 ∷ write_memory 4632 (replicate 32 9 ++ (0 ∷ 0 ∷ 0 ∷ 7 ∷ [])) ∷ [];
}

aix-filled : (fill_answer aix.signature (fill_lengths aix.values (replicate 512 7) aix.area aix.copies) aix.base aix.hidden ≡ call_done)
    × ((plan_for aix.signature).convention ≡ Convention.Aix) × ((plan_for aix.signature).area ≡ 36)
unfolding round_up with_field shape_of type_of count_of listed table body_at integer_code float_code integer_at float_of float_at sequence sized_at contents_at item_by struct_at item_at convention_code convention_at result_in result_at arguments_in arguments_at ellipsis_at after_ellipsis after_result after_convention signature_of with_ellipsis words fprs share_of power_share unclear z_class z_span_of z_next_of span_of next_of unclear_for fresh_cursor start_of area_of hidden_for returning result_of up_from spans_of last_of values_of table_of plan_in types_of plan_answer first_unclear called bad_copies fill_tests first_of fill_answer
aix-filled = (refl, refl, refl)

aix-at : own_area (rules Convention.Aix) (machine_in aix.m) ≡ 4632
unfolding round_up overlay splice bytes_of value_of convention_code store load save_run with_pointer all_within lowered ok_registers cleared ok_leaf ok_request below full_size frame_size chain_width gpr_at saves_by bank_of writable_register with_register judge top_frame caller_frame ok_frames sizes ok_memory ok_state start_answer started started_memory enter_answer entered entered_memory writable_bytes writable_address write_register_answer write_memory_answer written_register written_memory start_outcome start_memory enter_outcome enter_memory write_register_outcome write_memory_outcome write_memory_memory is_machine depth_in registers_in frame_in frames_in state_in register_words frame_words frames_words state_words changed start_words enter_words write_register_words run
aix-at = refl

aix-calls : put_calls (plan_for aix.signature) (left_by aix).image 4632 (take 36 (left_by aix).area ∷ []) ≡ aix.puts
unfolding round_up with_field shape_of type_of count_of listed table body_at integer_code float_code integer_at float_of float_at sequence sized_at contents_at item_by struct_at item_at convention_code convention_at result_in result_at arguments_in arguments_at ellipsis_at after_ellipsis after_result after_convention signature_of with_ellipsis words fprs share_of power_share unclear z_class z_span_of z_next_of span_of next_of unclear_for fresh_cursor start_of area_of hidden_for returning result_of up_from spans_of last_of values_of table_of plan_in types_of plan_answer first_unclear called overlay splice bytes_of value_of zero_extended sign_bit sign_extended spread put put_all bytes_at struct_at_head starts_at_head extended home_bytes float_bytes standing slots_of slots_of_all placements placements_in arguments_of fill_buffers filled_slots range_registers span_registers put_pieces put_calls
aix-calls = refl

aix-length : length (left_by aix).area ≡ length aix.area
unfolding fill_buffers
aix-length = (put_all-lengths (filled_slots aix.signature aix.values aix.base aix.hidden) (buffers (replicate 512 7) aix.area aix.copies)).area

aix-computed : Computed aix
aix-computed =
    let size = length-take-le 36 (left_by aix).area (omega (arith, aix-length)) in
    record {
      bytes = refl;
      low = omega arith;
      accepted = aix-filled.0;
      by = aix-filled.1;
      room = aix-filled.2;
      some = (omega (arith, size), omega (arith, size));
      calls = ap (λ (a : ℕ). put_calls (plan_for aix.signature) (left_by aix).image a (take 36 (left_by aix).area ∷ [])) aix-at ∙ aix-calls;
    }

-- ---- PPC64B, from the start: a long double as the result, arguments long double and i32

abbrev ppc64b : Example
ppc64b = record {
  convention = Convention.Ppc64b;
  signature = 1 ∷ 0 ∷ 1 ∷ 4 ∷ 2 ∷ 0 ∷ 4 ∷ 17 ∷ 0 ∷ 1 ∷ 2 ∷ 3 ∷ 0 ∷ 8 ∷ 17 ∷ 0 ∷ 1 ∷ 2 ∷ 16 ∷ 0 ∷ 1 ∷ 4 ∷ [];
  values = 1 ∷ 2 ∷ 3 ∷ 4 ∷ 5 ∷ 6 ∷ 7 ∷ 8 ∷ 9 ∷ 10 ∷ 11 ∷ 12 ∷ 13 ∷ 14 ∷ 15 ∷ 16 ∷ 0 ∷ 0 ∷ 0 ∷ 5 ∷ [];
  area = replicate 64 9;
  copies = [];
  base = 0;
  hidden = 0;
  size = 64;
  os = [];
  m = start Convention.Ppc64b;
  -- f1 and f2 get the long double, r5 the i32
  puts = write_register 1 1 72623859790382856 ∷ write_register 1 2 651345242494996240 ∷ write_register 0 5 5 ∷ write_memory 4672 (replicate 64 9) ∷ [];
}

ppc64b-filled : (fill_answer ppc64b.signature (fill_lengths ppc64b.values (replicate 512 7) ppc64b.area ppc64b.copies) ppc64b.base ppc64b.hidden ≡ call_done)
    × ((plan_for ppc64b.signature).convention ≡ Convention.Ppc64b) × ((plan_for ppc64b.signature).area ≡ 64)
unfolding round_up with_field shape_of type_of count_of listed table body_at integer_code float_code integer_at float_of float_at sequence sized_at contents_at item_by struct_at item_at convention_code convention_at result_in result_at arguments_in arguments_at ellipsis_at after_ellipsis after_result after_convention signature_of with_ellipsis words fprs share_of power_share unclear z_class z_span_of z_next_of span_of next_of unclear_for fresh_cursor start_of area_of hidden_for returning result_of up_from spans_of last_of values_of table_of plan_in types_of plan_answer first_unclear called bad_copies fill_tests first_of fill_answer
ppc64b-filled = (refl, refl, refl)

ppc64b-at : own_area (rules Convention.Ppc64b) (machine_in ppc64b.m) ≡ 4672
unfolding round_up overlay splice bytes_of value_of convention_code store load save_run with_pointer all_within lowered ok_registers cleared ok_leaf ok_request below full_size frame_size chain_width gpr_at saves_by bank_of writable_register with_register judge top_frame caller_frame ok_frames sizes ok_memory ok_state start_answer started started_memory enter_answer entered entered_memory writable_bytes writable_address write_register_answer write_memory_answer written_register written_memory start_outcome start_memory enter_outcome enter_memory write_register_outcome write_memory_outcome write_memory_memory is_machine depth_in registers_in frame_in frames_in state_in register_words frame_words frames_words state_words changed start_words enter_words write_register_words run
ppc64b-at = refl

ppc64b-calls : put_calls (plan_for ppc64b.signature) (left_by ppc64b).image 4672 (take 64 (left_by ppc64b).area ∷ []) ≡ ppc64b.puts
unfolding round_up with_field shape_of type_of count_of listed table body_at integer_code float_code integer_at float_of float_at sequence sized_at contents_at item_by struct_at item_at convention_code convention_at result_in result_at arguments_in arguments_at ellipsis_at after_ellipsis after_result after_convention signature_of with_ellipsis words fprs share_of power_share unclear z_class z_span_of z_next_of span_of next_of unclear_for fresh_cursor start_of area_of hidden_for returning result_of up_from spans_of last_of values_of table_of plan_in types_of plan_answer first_unclear called overlay splice bytes_of value_of zero_extended sign_bit sign_extended spread put put_all bytes_at struct_at_head starts_at_head extended home_bytes float_bytes standing slots_of slots_of_all placements placements_in arguments_of fill_buffers filled_slots range_registers span_registers put_pieces put_calls
ppc64b-calls = refl

ppc64b-length : length (left_by ppc64b).area ≡ length ppc64b.area
unfolding fill_buffers
ppc64b-length = (put_all-lengths (filled_slots ppc64b.signature ppc64b.values ppc64b.base ppc64b.hidden) (buffers (replicate 512 7) ppc64b.area ppc64b.copies)).area

ppc64b-computed : Computed ppc64b
ppc64b-computed =
    let size = length-take-le 64 (left_by ppc64b).area (omega (arith, ppc64b-length)) in
    record {
      bytes = refl;
      low = omega arith;
      accepted = ppc64b-filled.0;
      by = ppc64b-filled.1;
      room = ppc64b-filled.2;
      some = (omega (arith, size), omega (arith, size));
      calls = ap (λ (a : ℕ). put_calls (plan_for ppc64b.signature) (left_by ppc64b).image a (take 64 (left_by ppc64b).area ∷ [])) ppc64b-at ∙ ppc64b-calls;
    }

-- ---- AIX with an ellipsis, from a function that asked for 40 bytes: arguments seven i32 and a double, which is in three places

abbrev ellipsis : Example
ellipsis = record {
  convention = Convention.Aix;
  signature = 1 ∷ 0 ∷ 1 ∷ 3 ∷ 2 ∷ 0 ∷ 0 ∷ 4 ∷ 0 ∷ 0 ∷ 3 ∷ 0 ∷ 32 ∷ 16 ∷ 0 ∷ 1 ∷ 4 ∷ 16 ∷ 0 ∷ 1 ∷ 4 ∷ 16 ∷ 0 ∷ 1 ∷ 4 ∷ 16 ∷ 0 ∷ 1 ∷ 4 ∷ 16 ∷ 0 ∷ 1 ∷ 4 ∷ 16 ∷ 0 ∷ 1 ∷ 4 ∷ 16 ∷ 0 ∷ 1 ∷ 4 ∷ 17 ∷ 0 ∷ 1 ∷ 1 ∷ [];
  values = 0 ∷ 0 ∷ 0 ∷ 1 ∷ 0 ∷ 0 ∷ 0 ∷ 2 ∷ 0 ∷ 0 ∷ 0 ∷ 3 ∷ 0 ∷ 0 ∷ 0 ∷ 4 ∷ 0 ∷ 0 ∷ 0 ∷ 5 ∷ 0 ∷ 0 ∷ 0 ∷ 6 ∷ 0 ∷ 0 ∷ 0 ∷ 7 ∷ 64 ∷ 9 ∷ 33 ∷ 251 ∷ 84 ∷ 68 ∷ 45 ∷ 24 ∷ [];
  area = replicate 36 9;
  copies = [];
  base = 0;
  hidden = 0;
  size = 36;
  os = entering Convention.Aix (32 ∷ 32 ∷ 0 ∷ 0 ∷ 40 ∷ 0 ∷ []) ∷ [];
  m = calls.after (enter (32 ∷ 32 ∷ 0 ∷ 0 ∷ 40 ∷ 0 ∷ [])) (start Convention.Aix);
  -- r3 to r9 get the integers; the double stands in f1, and its two words in r10 and in memory
  puts = write_register 0 3 1 ∷ write_register 0 4 2 ∷ write_register 0 5 3 ∷ write_register 0 6 4 ∷ write_register 0 7 5 ∷ write_register 0 8 6 ∷ write_register 0 9 7 ∷ write_register 1 1 4614256656552045848 ∷ write_register 0 10 1074340347 ∷ write_memory 4632 (replicate 32 9 ++ (84 ∷ 68 ∷ 45 ∷ 24 ∷ [])) ∷ [];
}

ellipsis-filled : (fill_answer ellipsis.signature (fill_lengths ellipsis.values (replicate 512 7) ellipsis.area ellipsis.copies) ellipsis.base ellipsis.hidden ≡ call_done)
    × ((plan_for ellipsis.signature).convention ≡ Convention.Aix) × ((plan_for ellipsis.signature).area ≡ 36)
unfolding round_up with_field shape_of type_of count_of listed table body_at integer_code float_code integer_at float_of float_at sequence sized_at contents_at item_by struct_at item_at convention_code convention_at result_in result_at arguments_in arguments_at ellipsis_at after_ellipsis after_result after_convention signature_of with_ellipsis words fprs share_of power_share unclear z_class z_span_of z_next_of span_of next_of unclear_for fresh_cursor start_of area_of hidden_for returning result_of up_from spans_of last_of values_of table_of plan_in types_of plan_answer first_unclear called bad_copies fill_tests first_of fill_answer
ellipsis-filled = (refl, refl, refl)

ellipsis-at : own_area (rules Convention.Aix) (machine_in ellipsis.m) ≡ 4632
unfolding round_up overlay splice bytes_of value_of convention_code store load save_run with_pointer all_within lowered ok_registers cleared ok_leaf ok_request below full_size frame_size chain_width gpr_at saves_by bank_of writable_register with_register judge top_frame caller_frame ok_frames sizes ok_memory ok_state start_answer started started_memory enter_answer entered entered_memory writable_bytes writable_address write_register_answer write_memory_answer written_register written_memory start_outcome start_memory enter_outcome enter_memory write_register_outcome write_memory_outcome write_memory_memory is_machine depth_in registers_in frame_in frames_in state_in register_words frame_words frames_words state_words changed start_words enter_words write_register_words run
ellipsis-at = refl

ellipsis-calls : put_calls (plan_for ellipsis.signature) (left_by ellipsis).image 4632 (take 36 (left_by ellipsis).area ∷ []) ≡ ellipsis.puts
unfolding round_up with_field shape_of type_of count_of listed table body_at integer_code float_code integer_at float_of float_at sequence sized_at contents_at item_by struct_at item_at convention_code convention_at result_in result_at arguments_in arguments_at ellipsis_at after_ellipsis after_result after_convention signature_of with_ellipsis words fprs share_of power_share unclear z_class z_span_of z_next_of span_of next_of unclear_for fresh_cursor start_of area_of hidden_for returning result_of up_from spans_of last_of values_of table_of plan_in types_of plan_answer first_unclear called overlay splice bytes_of value_of zero_extended sign_bit sign_extended spread put put_all bytes_at struct_at_head starts_at_head extended home_bytes float_bytes standing slots_of slots_of_all placements placements_in arguments_of fill_buffers filled_slots range_registers span_registers put_pieces put_calls
ellipsis-calls = refl

ellipsis-length : length (left_by ellipsis).area ≡ length ellipsis.area
unfolding fill_buffers
ellipsis-length = (put_all-lengths (filled_slots ellipsis.signature ellipsis.values ellipsis.base ellipsis.hidden) (buffers (replicate 512 7) ellipsis.area ellipsis.copies)).area

ellipsis-computed : Computed ellipsis
ellipsis-computed =
    let size = length-take-le 36 (left_by ellipsis).area (omega (arith, ellipsis-length)) in
    record {
      bytes = refl;
      low = omega arith;
      accepted = ellipsis-filled.0;
      by = ellipsis-filled.1;
      room = ellipsis-filled.2;
      some = (omega (arith, size), omega (arith, size));
      calls = ap (λ (a : ℕ). put_calls (plan_for ellipsis.signature) (left_by ellipsis).image a (take 36 (left_by ellipsis).area ∷ [])) ellipsis-at ∙ ellipsis-calls;
    }

-- ---- what the theorem says of them

-- every start, and both callers, are accepted
starts-are : ((start_outcome Convention.Ppc64 4096 640 (registers_in (replicate registers_words 7) 0)).answer ≡ Ok tt)
    × ((start_outcome Convention.Z 4096 640 (registers_in (replicate registers_words 7) 0)).answer ≡ Ok tt)
    × ((start_outcome Convention.Aix 4096 640 (registers_in (replicate registers_words 7) 0)).answer ≡ Ok tt)
    × ((start_outcome Convention.Ppc64b 4096 640 (registers_in (replicate registers_words 7) 0)).answer ≡ Ok tt)
    × (answer (enter (6 ∷ 16 ∷ 0 ∷ 16 ∷ 8 ∷ 0 ∷ [])) (start Convention.Z) ≡ Ok tt)
    × (answer (enter (32 ∷ 32 ∷ 0 ∷ 0 ∷ 40 ∷ 0 ∷ [])) (start Convention.Aix) ≡ Ok tt)
unfolding round_up overlay splice bytes_of value_of convention_code store load save_run with_pointer all_within lowered ok_registers cleared ok_leaf ok_request below full_size frame_size chain_width gpr_at saves_by bank_of writable_register with_register judge top_frame caller_frame ok_frames sizes ok_memory ok_state start_answer started started_memory enter_answer entered entered_memory writable_bytes writable_address write_register_answer write_memory_answer written_register written_memory start_outcome start_memory enter_outcome enter_memory write_register_outcome write_memory_outcome write_memory_memory is_machine depth_in registers_in frame_in frames_in state_in register_words frame_words frames_words state_words changed start_words enter_words write_register_words run
starts-are = (refl, refl, refl, refl, refl, refl)

-- a frame is entered as the callee, and on PowerPC a leaf too
abbrev frame : List ℕ
frame = 29 ∷ 30 ∷ 1 ∷ 20 ∷ 64 ∷ 0 ∷ []

abbrev leaf : List ℕ
leaf = 29 ∷ 30 ∷ 1 ∷ 0 ∷ 0 ∷ 1 ∷ []

abbrev z-frame : List ℕ
z-frame = 14 ∷ 16 ∷ 0 ∷ 0 ∷ 0 ∷ 0 ∷ []

abbrev z-puts : List Call
z-puts = z.puts ++ (write_memory 4560 (101 ∷ 102 ∷ 103 ∷ 104 ∷ 105 ∷ 106 ∷ 107 ∷ 108 ∷ 109 ∷ 110 ∷ 111 ∷ 112 ∷ 113 ∷ 114 ∷ 115 ∷ 116 ∷ []) ∷ [])

enters-are : (answer (enter frame) (run ppc64.puts ppc64.m) ≡ Ok tt)
    × (answer (enter leaf) (run ppc64.puts ppc64.m) ≡ Ok tt)
    × (answer (enter frame) (run aix.puts aix.m) ≡ Ok tt)
    × (answer (enter leaf) (run aix.puts aix.m) ≡ Ok tt)
    × (answer (enter leaf) (run ppc64b.puts ppc64b.m) ≡ Ok tt)
    × (answer (enter leaf) (run ellipsis.puts ellipsis.m) ≡ Ok tt)
    × (answer (enter z-frame) (run z-puts z.m) ≡ Ok tt)
unfolding round_up overlay splice bytes_of value_of convention_code store load save_run with_pointer all_within lowered ok_registers cleared ok_leaf ok_request below full_size frame_size chain_width gpr_at saves_by bank_of writable_register with_register judge top_frame caller_frame ok_frames sizes ok_memory ok_state start_answer started started_memory enter_answer entered entered_memory writable_bytes writable_address write_register_answer write_memory_answer written_register written_memory start_outcome start_memory enter_outcome enter_memory write_register_outcome write_memory_outcome write_memory_memory is_machine depth_in registers_in frame_in frames_in state_in register_words frame_words frames_words state_words changed start_words enter_words write_register_words run
enters-are = (refl, refl, refl, refl, refl, refl, refl)

-- what `CanCall` asks, on numbers
can : (x : Example) → Computed x → Reached x.convention x.os x.m → (caller_of (rules x.convention) x.os).leaf ≡ false
    → x.size ≤ outgoing_length (rules x.convention) (caller_of (rules x.convention) x.os) → SavedSix (plan_for x.signature) (caller_of (rules x.convention) x.os)
    → CanCall (plan_for x.signature) x.os x.m
can x h reached solid room six =
    let p = plan_for x.signature in
    record {
      reached = subst (λ (c : Convention). Reached c x.os x.m) (sym h.by) reached;
      suits = record {
        solid = rw h.by solid;
        room = rw (h.by, h.room) room;
        free = subst (λ (c : Convention). All (Free (rules p.convention) (caller_of (rules c) x.os)) (named p)) (sym h.by)
            (named-free x.signature (caller_of (rules x.convention) x.os) six);
      };
    }

-- the callee of a request reads the values
abbrev Reads : Example → List Call → List ℕ → List ℕ → Type 0
Reads x puts copies q =
    ReadBack x.signature x.values x.base (seen x.signature (frame_in q 0) copies (machine_in (in_callee puts x.m q))) x.values

ppc64-claims : Claims ppc64.signature ppc64.values (λ _. (left_by ppc64).copies) 0 4660 [] ppc64.m ppc64.puts
ppc64-claims =
    worked ppc64 ppc64-computed
    (can ppc64 ppc64-computed (from_start Convention.Ppc64 starts-are.0) refl (omega arith)
    (not-z ppc64.signature (caller_of (rules Convention.Ppc64) ppc64.os) Convention.Ppc64 ppc64-filled.1 (λ e. let z : ◌≡◌ {A = ℕ} 0 1 = cc in omega arith)))

aix-claims : Claims aix.signature aix.values (λ _. (left_by aix).copies) 0 0 aix.os aix.m aix.puts
unfolding frame_in
aix-claims =
    worked aix aix-computed
    (can aix aix-computed (from-caller Convention.Aix (32 ∷ 32 ∷ 0 ∷ 0 ∷ 40 ∷ 0 ∷ []) starts-are.2 starts-are.5) refl (omega arith)
    (not-z aix.signature (caller_of (rules Convention.Aix) aix.os) Convention.Aix aix-filled.1 (λ e. let z : ◌≡◌ {A = ℕ} 0 1 = cc in omega arith)))

ellipsis-claims : Claims ellipsis.signature ellipsis.values (λ _. (left_by ellipsis).copies) 0 0 ellipsis.os ellipsis.m ellipsis.puts
unfolding frame_in
ellipsis-claims =
    worked ellipsis ellipsis-computed
    (can ellipsis ellipsis-computed (from-caller Convention.Aix (32 ∷ 32 ∷ 0 ∷ 0 ∷ 40 ∷ 0 ∷ []) starts-are.2 starts-are.5) refl (omega arith)
    (not-z ellipsis.signature (caller_of (rules Convention.Aix) ellipsis.os) Convention.Aix ellipsis-filled.1 (λ e. let z : ◌≡◌ {A = ℕ} 0 1 = cc in omega arith)))

ppc64b-claims : Claims ppc64b.signature ppc64b.values (λ _. (left_by ppc64b).copies) 0 0 [] ppc64b.m ppc64b.puts
ppc64b-claims =
    worked ppc64b ppc64b-computed
    (can ppc64b ppc64b-computed (from_start Convention.Ppc64b starts-are.3) refl (omega arith)
    (not-z ppc64b.signature (caller_of (rules Convention.Ppc64b) ppc64b.os) Convention.Ppc64b ppc64b-filled.1 (λ e. let z : ◌≡◌ {A = ℕ} 0 1 = cc in omega arith)))

-- Z's copy lies in all of the locals
z-copies : ((plan_for z.signature).copies ≡ 16) × (take 16 (left_by z).copies ≡ 101 ∷ 102 ∷ 103 ∷ 104 ∷ 105 ∷ 106 ∷ 107 ∷ 108 ∷ 109 ∷ 110 ∷ 111 ∷ 112 ∷ 113 ∷ 114 ∷ 115 ∷ 116 ∷ [])
unfolding round_up with_field shape_of type_of count_of listed table body_at integer_code float_code integer_at float_of float_at sequence sized_at contents_at item_by struct_at item_at convention_code convention_at result_in result_at arguments_in arguments_at ellipsis_at after_ellipsis after_result after_convention signature_of with_ellipsis words fprs share_of power_share unclear z_class z_span_of z_next_of span_of next_of unclear_for fresh_cursor start_of area_of hidden_for returning result_of up_from spans_of last_of values_of table_of plan_in types_of plan_answer first_unclear called overlay splice bytes_of value_of zero_extended sign_bit sign_extended spread put put_all bytes_at struct_at_head starts_at_head extended home_bytes float_bytes standing slots_of slots_of_all placements placements_in arguments_of fill_buffers filled_slots range_registers span_registers put_pieces put_calls
z-copies = (refl, refl)

z-locals : InLocals (rules Convention.Z) (frame_in (6 ∷ 16 ∷ 0 ∷ 16 ∷ 8 ∷ 0 ∷ []) 0) (machine_in z.m) 4560 16
unfolding round_up overlay splice bytes_of value_of convention_code store load save_run with_pointer all_within lowered ok_registers cleared ok_leaf ok_request below full_size frame_size chain_width gpr_at saves_by bank_of writable_register with_register judge top_frame caller_frame ok_frames sizes ok_memory ok_state start_answer started started_memory enter_answer entered entered_memory writable_bytes writable_address write_register_answer write_memory_answer written_register written_memory start_outcome start_memory enter_outcome enter_memory write_register_outcome write_memory_outcome write_memory_memory is_machine depth_in registers_in frame_in frames_in state_in register_words frame_words frames_words state_words changed start_words enter_words write_register_words run
z-locals = record { from = omega arith; to = omega arith }

z-claims : Claims z.signature z.values (bytes_in 4560 (plan_for z.signature).copies) 4560 0 z.os z.m z-puts
unfolding frame_in put_pieces
z-claims =
    let s : List ℕ = z.signature in
    let able : CanCall (plan_for s) z.os z.m
    = can z z-computed (from-caller Convention.Z (6 ∷ 16 ∷ 0 ∷ 16 ∷ 8 ∷ 0 ∷ []) starts-are.1 starts-are.4) refl (omega arith)
    (λ e. each_at _ (register Bank.General 0) (named (plan_for s)) (λ i q. omega arith)) in
    let local : InLocals (rules (plan_for s).convention) (frame_in (6 ∷ 16 ∷ 0 ∷ 16 ∷ 8 ∷ 0 ∷ []) 0) (machine_in z.m) 4560 (plan_for s).copies
    = rw (z-filled.1, z-copies.0) z-locals in
    let copied : Cut ((101 ∷ 102 ∷ 103 ∷ 104 ∷ 105 ∷ 106 ∷ 107 ∷ 108 ∷ 109 ∷ 110 ∷ 111 ∷ 112 ∷ 113 ∷ 114 ∷ 115 ∷ 116 ∷ []) ∷ []) (take (plan_for s).copies (left_by z).copies)
    = rw (z-copies.0, z-copies.1) (one_piece (101 ∷ 102 ∷ 103 ∷ 104 ∷ 105 ∷ 106 ∷ 107 ∷ 108 ∷ 109 ∷ 110 ∷ 111 ∷ 112 ∷ 113 ∷ 114 ∷ 115 ∷ 116 ∷ []) (omega arith) (omega arith)) in
    subst (λ (l : List Call). Claims s z.values (bytes_in 4560 (plan_for s).copies) 4560 0 z.os z.m (l ++ (write_memory 4560 (101 ∷ 102 ∷ 103 ∷ 104 ∷ 105 ∷ 106 ∷ 107 ∷ 108 ∷ 109 ∷ 110 ∷ 111 ∷ 112 ∷ 113 ∷ 114 ∷ 115 ∷ 116 ∷ []) ∷ []))) (put-by z z-computed)
    (whole-call.inside s z.values (replicate 512 7) z.area z.copies 4560 0 (filling z z-computed) (entering Convention.Z (6 ∷ 16 ∷ 0 ∷ 16 ∷ 8 ∷ 0 ∷ [])) [] z.m able local
    (take 8 (left_by z).area ∷ []) (piece z z-computed) _ copied)

-- In every convention the callee reads the values, frames and leaves do, and of a call with an ellipsis too; on Z it has the copy from the machine's memory.
pub worked-calls : Reads ppc64 ppc64.puts (left_by ppc64).copies frame × Reads ppc64 ppc64.puts (left_by ppc64).copies leaf
    × Reads aix aix.puts (left_by aix).copies frame × Reads aix aix.puts (left_by aix).copies leaf
    × Reads ppc64b ppc64b.puts (left_by ppc64b).copies leaf
    × Reads ellipsis ellipsis.puts (left_by ellipsis).copies leaf
    × Reads z z-puts (bytes_in 4560 (plan_for z.signature).copies (machine_in (in_callee z-puts z.m z-frame))) z-frame
worked-calls = (
  (ppc64-claims.passed frame enters-are.0).read ppc64.values refl,
  (ppc64-claims.passed leaf enters-are.1).read ppc64.values refl,
  (aix-claims.passed frame enters-are.2).read aix.values refl,
  (aix-claims.passed leaf enters-are.3).read aix.values refl,
  (ppc64b-claims.passed leaf enters-are.4).read ppc64b.values refl,
  (ellipsis-claims.passed leaf enters-are.5).read ellipsis.values refl,
  (z-claims.passed z-frame enters-are.6).read z.values refl,
)
