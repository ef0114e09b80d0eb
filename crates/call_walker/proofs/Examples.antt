-- Worked examples of the walker, for a reader to compare with document 02, No. 5. Each computes. Assumes nothing.
use Rattle.sig_types.specs.Codes.{integer_code}
use mathlib.Core.Path.{◌≡◌, refl}
use mathlib.Core.Bool.{Bool, true, false}
use mathlib.Core.List.{List, [], ◌∷◌}
use Prim.Native.Nat.{ℕ, ◌+◌, ◌^◌}
use lib.ListN.{replicate}
use Rattle.base_words.specs.Splice.{overlay}
use Rattle.base_conventions.specs.declared.Convention.{Convention}
use Rattle.base_conventions.specs.Numbers.{word_bytes, convention_code}
use Rattle.sig_types.specs.declared.Equivalent.{Equivalent}
use Rattle.sig_types.specs.declared.FloatFormat.{FloatFormat}
use Rattle.sig_types.specs.declared.IntegerKind.{IntegerKind}
use Rattle.sig_types.specs.declared.ValueType.{ValueType}
use Rattle.sig_types.specs.Trees.{Tree, integer, float, struct, none, ◌▸◌, type_of}
use Rattle.sig_items.specs.declared.Refusal.{Refusal}
use Rattle.sig_items.specs.Reading.{fault, got, no}
use Rattle.sig_items.specs.Read.{body_at, integer_at, item_by, item_at}
use Rattle.plan_places.specs.declared.Bank.{Bank}
use Rattle.plan_places.specs.declared.Place.{Place}
use Rattle.plan_places.specs.Power.{words, fprs, share_of, power_share, unclear}
use Rattle.plan_places.specs.ZSeries.{z_class, z_span_of, z_next_of}
use Rattle.plan_places.specs.Step.{with_ellipsis, span_of, next_of, unclear_for, fresh_cursor, start_of, hidden_for}
use Rattle.plan_places.specs.Places.{up_from, register_place, registers_of, memory_of, places_of}
use Rattle.plan_plans.specs.Plan.{start_in}
use Rattle.sig_signatures.specs.Signature.{Signature, value}
use Rattle.sig_signatures.specs.Read.{convention_at, signature_of}
use Rattle.call_slots.specs.declared.CallRefusal.{CallRefusal}
use Rattle.call_slots.specs.Buffers.{Buffers, buffers, bytes_at}
use Rattle.call_slots.specs.Forms.{starts_at_head, own_start}
use Rattle.call_slots.specs.Placements.{words_at, words_value, value_at}
use Rattle.call_slots.specs.Refusals.{first_of}
use Rattle.call_registers.specs.Registers.{gather}
use Rattle.call_read.specs.Read.{argument_answer}
use Rattle.call_walker.specs.declared.WalkerAnswer.{WalkerAnswer}
use Rattle.call_walker.specs.declared.Counters.{Counters}
use Rattle.call_walker.specs.declared.Walker.{Walker}
use Rattle.call_walker.specs.declared.WalkerRead.{WalkerRead}
use Rattle.call_walker.specs.Walker.{counters, cursor_at, counters_of, walker, walker_of, power_possible, z_possible, possible, in_range, lost}
use Rattle.call_walker.specs.Step.{type_item, asked, passes, step_tests, step_answer, step_on}
use Rattle.call_walker.specs.Words.{walker_in, walker_words, walker_start_words, walker_outcome, step_for, walker_step}
use Rattle.call_slots.specs.Answer.{call_done, call_unread, call_refused}

abbrev int : ValueType
int = ValueType.Integer IntegerKind.I32

abbrev double : ValueType
double = ValueType.Float FloatFormat.Double

abbrev quad : ValueType
quad = ValueType.Float FloatFormat.LongDouble

abbrev sparm : ValueType
sparm = ValueType.Struct (record { size = 16; align = 8; equivalent = Equivalent.Nothing })

-- ---- printf, `int printf(const char *, ...)`, and a function that returns a struct

abbrev printf : Convention → Signature
printf c = record { convention = c; result = value (integer IntegerKind.I32); ellipsis = true; arguments = none ▸ integer IntegerKind.Pointer }

abbrev structured : Convention → Signature
structured c = record { convention = c; result = value (struct (none ▸ float FloatFormat.Double)); ellipsis = false; arguments = none }

pub power-start : walker_words (walker_of (printf Convention.Ppc64)) ≡ 1 ∷ 1 ∷ 0 ∷ 0 ∷ 0 ∷ 0 ∷ []
unfolding walker_words walker_of counters_of hidden_for start_of fresh_cursor type_of
power-start = refl

pub power-hidden : walker_words (walker_of (structured Convention.Aix)) ≡ 3 ∷ 0 ∷ 1 ∷ 1 ∷ 0 ∷ 0 ∷ []
unfolding walker_words walker_of counters_of hidden_for start_of fresh_cursor next_of words fprs share_of power_share type_of
power-hidden = refl

pub z-start : walker_words (walker_of (printf Convention.Z)) ≡ 2 ∷ 1 ∷ 0 ∷ 2 ∷ 0 ∷ 160 ∷ []
unfolding walker_words walker_of counters_of hidden_for start_of fresh_cursor type_of
z-start = refl

pub z-hidden : walker_words (walker_of (structured Convention.Z)) ≡ 2 ∷ 0 ∷ 1 ∷ 3 ∷ 0 ∷ 160 ∷ []
unfolding walker_words walker_of counters_of hidden_for start_of fresh_cursor next_of z_class z_next_of type_of
z-hidden = refl

-- a signature that is refused, here cut short in its first header, leaves the walker as it was
pub refused-start : walker_start_words (signature_of (0x01 ∷ 0 ∷ [])) (9 ∷ 8 ∷ 7 ∷ 6 ∷ 5 ∷ 4 ∷ []) ≡ 9 ∷ 8 ∷ 7 ∷ 6 ∷ 5 ∷ 4 ∷ []
unfolding signature_of convention_at body_at
refused-start = refl

-- ---- where it goes

-- the walker's counters after each type
unfoldable pub trail : Walker → List ValueType → List Counters
trail w [] = []
trail w (t ∷ ts) = (step_on w t).at ∷ trail (step_on w t) ts

-- figure 3-18's types, func(c, ff, d, ld, s, gg, t, e, hh), asked for one after the other
abbrev figure : List ValueType
figure = int ∷ double ∷ int ∷ quad ∷ sparm ∷ double ∷ sparm ∷ int ∷ double ∷ []

abbrev k : ℕ → ℕ → Counters
k g f = counters g f 0

pub figure-earlier : trail (walker Convention.Ppc64 true false (k 0 0)) figure ≡ k 1 0 ∷ k 2 1 ∷ k 3 1 ∷ k 5 1 ∷ k 7 1 ∷ k 8 2 ∷ k 10 2 ∷ k 11 2 ∷ k 12 3 ∷ []
unfolding trail step_on cursor_at counters_of next_of words fprs share_of power_share
figure-earlier = refl

-- No. 12: "ld is then in f2 and f3"
pub figure-later : trail (walker Convention.Ppc64b true false (k 0 0)) figure ≡ k 1 0 ∷ k 2 1 ∷ k 3 1 ∷ k 5 3 ∷ k 7 3 ∷ k 8 4 ∷ k 10 4 ∷ k 11 4 ∷ k 12 5 ∷ []
unfolding trail step_on cursor_at counters_of next_of words fprs share_of power_share
figure-later = refl

-- Z: the fifth integer has r6, the sixth the stack; a double still has its FPR, and a long double an address
pub z-trail : trail (walker Convention.Z true false (counters 6 0 160)) (int ∷ int ∷ double ∷ quad ∷ [])
    ≡ counters 7 0 160 ∷ counters 7 0 168 ∷ counters 7 2 168 ∷ counters 7 2 176 ∷ []
unfolding trail step_on cursor_at counters_of next_of z_class z_next_of
z-trail = refl

-- ---- what it looks at

abbrev places_at : Walker → ValueType → List Place
places_at w t = places_of (word_bytes w.convention) (asked w t).span

-- a double after a format: "in its FPR, and as well in its GPR while w < 8 and in memory from w 8 on"; without an ellipsis "it reads as plain reading does"
pub after-format : places_at (walker Convention.Ppc64 true false (k 1 0)) double ≡ register_place Bank.Floating 1 ∷ register_place Bank.General 4 ∷ []
unfolding asked cursor_at span_of with_ellipsis power_share share_of fprs words places_of registers_of memory_of up_from
after-format = refl

pub plain-format : places_at (walker Convention.Ppc64 false false (k 1 0)) double ≡ register_place Bank.Floating 1 ∷ []
unfolding asked cursor_at span_of with_ellipsis power_share share_of fprs words places_of registers_of memory_of up_from
plain-format = refl

-- far out: the offset is 8 times 2^32
pub far-out : places_at (walker Convention.Ppc64 true false (k (2 ^ 32) 13)) double ≡ Place.Memory (2 ^ 35) ∷ []
unfolding asked cursor_at span_of with_ellipsis power_share share_of fprs words places_of registers_of memory_of up_from
far-out = refl

-- Z: the area starts at stack offset 160
pub z-stack : places_at (walker Convention.Z true false (counters 7 8 176)) double ≡ Place.Memory 16 ∷ []
unfolding asked cursor_at span_of with_ellipsis z_class z_span_of places_of registers_of memory_of up_from
z-stack = refl

-- ---- 23

-- "w < floating + hidden"
pub few_words : lost (walker Convention.Ppc64 true false (k 2 3)) ≡ true
unfolding lost in_range possible power_possible
few_words = refl

pub few-words-hidden : lost (walker Convention.Ppc64 true true (k 3 3)) ≡ true
unfolding lost in_range possible power_possible
few-words-hidden = refl

pub enough-words : lost (walker Convention.Ppc64 true false (k 3 3)) ≡ false
unfolding lost in_range possible power_possible
enough-words = refl

-- "more than 13 FPRs"; "a PowerPC stack that isn't 0"
pub many-fprs : lost (walker Convention.Aix true false (k 14 14)) ≡ true
unfolding lost in_range possible power_possible
many-fprs = refl

pub power-stack : lost (walker Convention.Ppc64b true false (counters 3 3 8)) ≡ true
unfolding lost in_range possible power_possible
power-stack = refl

-- "Counters over 2^32"
pub at-the-limit : lost (walker Convention.Ppc64 true false (k (2 ^ 32) 13)) ≡ false
unfolding lost in_range possible power_possible
at-the-limit = refl

pub over-the-limit : lost (walker Convention.Ppc64 true false (k (2 ^ 32 + 1) 13)) ≡ true
unfolding lost in_range possible power_possible
over-the-limit = refl

-- Z: "gr not in 2 + hidden to 7, fr not one of 0, 2, 4, 6, 8, a stack offset that is below 160 or not a multiple of 8, or over 160 while gr is below 7 and fr below 8"
pub z-first : lost (walker Convention.Z true true (counters 2 0 160)) ≡ true
unfolding lost in_range possible z_possible
z-first = refl

pub z-odd : lost (walker Convention.Z true false (counters 7 3 160)) ≡ true
unfolding lost in_range possible z_possible
z-odd = refl

pub z-early : lost (walker Convention.Z true false (counters 6 6 168)) ≡ true
unfolding lost in_range possible z_possible
z-early = refl

pub z-late : lost (walker Convention.Z true false (counters 6 8 168)) ≡ false
unfolding lost in_range possible z_possible
z-late = refl

-- "a convention that is none, marks over 1"
pub no-convention : walker_in (5 ∷ 0 ∷ 0 ∷ 0 ∷ 0 ∷ 0 ∷ []) ≡ WalkerRead.Lost
unfolding walker_in convention_code
no-convention = refl

pub large-mark : walker_in (1 ∷ 2 ∷ 0 ∷ 0 ∷ 0 ∷ 0 ∷ []) ≡ WalkerRead.Lost
unfolding walker_in convention_code
large-mark = refl

-- ---- the item

-- an i32; a byte after it: 4 at that byte, and its header counts; cut short; a tag that is no type's
abbrev bytes : List ℕ
bytes = 0x10 ∷ 0 ∷ 1 ∷ 4 ∷ []

pub one-item : type_item Convention.Ppc64 bytes ≡ got (integer IntegerKind.I32) 4 1
unfolding type_item item_at item_by body_at integer_at integer_code
one-item = refl

pub byte-after : type_item Convention.Ppc64 (0x10 ∷ 0 ∷ 1 ∷ 4 ∷ 0 ∷ []) ≡ no (fault Refusal.Malformed 4 1)
unfolding type_item item_at item_by body_at integer_at integer_code
byte-after = refl

pub cut_short : type_item Convention.Ppc64 (0x10 ∷ 0 ∷ []) ≡ no (fault Refusal.Truncated 0 0)
unfolding type_item item_at item_by body_at
cut_short = refl

pub no-type : type_item Convention.Ppc64 (0x04 ∷ 0 ∷ 0 ∷ []) ≡ no (fault Refusal.UnexpectedTag 0 0)
unfolding type_item item_at item_by body_at
no-type = refl

-- ---- the order of refusals, and 11

-- 29 before 15, 10 and 11: a long double of the later edition where only f13 is left
pub unclear-first : step_answer (walker Convention.Ppc64b true false (k 12 12)) quad 0 0 (buffers [] [] []) ≡ call_unread (fault Refusal.UnclearPlace 0 0)
unfolding step_answer cursor_at unclear_for unclear fprs
unclear-first = refl

-- an integer in r10 asks nothing of an area, one past it has its doubleword there
abbrev image : List ℕ
image = replicate 512 0

pub in_registers : passes (asked (walker Convention.Ppc64 true false (k 7 0)) int).span 0 ≡ false
unfolding passes asked cursor_at span_of with_ellipsis power_share share_of fprs words
in_registers = refl

pub in_area : passes (asked (walker Convention.Ppc64 true false (k 8 0)) int).span 72 ≡ false
unfolding passes asked cursor_at span_of with_ellipsis power_share share_of fprs words
in_area = refl

pub past-area : passes (asked (walker Convention.Ppc64 true false (k 8 0)) int).span 71 ≡ true
unfolding passes asked cursor_at span_of with_ellipsis power_share share_of fprs words
past-area = refl

-- a lost walker, its words and the value buffer stay
pub lost-stays : walker_step (1 ∷ 1 ∷ 0 ∷ 2 ∷ 3 ∷ 0 ∷ []) bytes 0 (buffers image [] []) (7 ∷ 7 ∷ 7 ∷ 7 ∷ []) ≡ walker_outcome WalkerAnswer.Lost (1 ∷ 1 ∷ 0 ∷ 2 ∷ 3 ∷ 0 ∷ []) (7 ∷ 7 ∷ 7 ∷ 7 ∷ [])
unfolding walker_step walker_in convention_code lost in_range possible power_possible
lost-stays = refl

-- an integer in r4 of an image of zeros, with no area at all: its value, and the walker one word further
pub walk-once : walker_step (1 ∷ 1 ∷ 0 ∷ 1 ∷ 0 ∷ 0 ∷ []) bytes 0 (buffers image [] []) (7 ∷ 7 ∷ 7 ∷ 7 ∷ [])
    ≡ walker_outcome (WalkerAnswer.Called call_done) (1 ∷ 1 ∷ 0 ∷ 2 ∷ 0 ∷ 0 ∷ []) (0 ∷ 0 ∷ 0 ∷ 0 ∷ [])
unfolding walker_step walker_in convention_code lost in_range possible power_possible type_item item_at item_by body_at integer_at integer_code type_of step_for step_answer cursor_at unclear_for unclear fprs step_tests first_of passes asked span_of with_ellipsis power_share share_of words argument_answer value_at words_value words_at bytes_at gather own_start starts_at_head overlay step_on counters_of next_of walker_words
walk-once = refl

-- the same past r10: 11
pub walk-past : walker_step (1 ∷ 1 ∷ 0 ∷ 8 ∷ 0 ∷ 0 ∷ []) bytes 0 (buffers image (replicate 71 0) []) (7 ∷ 7 ∷ 7 ∷ 7 ∷ [])
    ≡ walker_outcome (WalkerAnswer.Called (call_refused CallRefusal.AreaTooShort)) (1 ∷ 1 ∷ 0 ∷ 8 ∷ 0 ∷ 0 ∷ []) (7 ∷ 7 ∷ 7 ∷ 7 ∷ [])
unfolding walker_step walker_in convention_code lost in_range possible power_possible type_item item_at item_by body_at integer_at integer_code type_of step_for step_answer cursor_at unclear_for unclear fprs step_tests first_of passes asked span_of with_ellipsis power_share share_of words
walk-past = refl
