-- One step of a walker. Document 02, No. 5: "asked with one type item's bytes (read as an argument's, with 1's limit; bytes after it give 4 there), it fills a value buffer of that
-- size, else 10, and moves on". Assumes nothing.
use Rattle.std.specs.Prelude.{ℕ, ◌+◌, Bool, ◌&&◌, List, [], ◌∷◌, ltb, length}
use Rattle.base_words.specs.Basics.{pick}
use Rattle.base_conventions.specs.declared.Convention.{Convention}
use Rattle.sig_types.specs.declared.ValueType.{ValueType}
use Rattle.sig_types.specs.Sizes.{size_of, max_depth}
use Rattle.sig_types.specs.Trees.{Tree}
use Rattle.sig_items.specs.declared.Refusal.{Refusal}
use Rattle.sig_items.specs.Reading.{Reading, fault, got, no, choose, and_then}
use Rattle.sig_items.specs.Read.{item_at}
use Rattle.sig_signatures.specs.Limits.{max_length}
use Rattle.plan_places.specs.declared.CallRules.{CallRules}
use Rattle.plan_places.specs.declared.Span.{Span}
use Rattle.plan_places.specs.Step.{rules_of, with_ellipsis, span_of, next_of, unclear_for}
use Rattle.plan_places.specs.Spots.{image_bytes}
use Rattle.call_slots.specs.declared.CallRefusal.{CallRefusal}
use Rattle.call_slots.specs.Buffers.{Buffers}
use Rattle.call_slots.specs.Placements.{Placement, placement, value_at}
use Rattle.call_slots.specs.Refusals.{Test, test, differ, first_of, or_else}
use Rattle.call_read.specs.Read.{argument_answer}
use Rattle.call_walker.specs.declared.Walker.{Walker}
use Rattle.call_walker.specs.Walker.{counters_of, walker, cursor_of}
use Rattle.call_slots.specs.Answer.{CallAnswer, call_unread}

-- ---- the item

-- An item of its own, not in a signature. 1 is "signature over" 16,384 bytes, here of the item's; places are offsets in them. Of bytes left over the place is the first, and "bytes left
-- over (4, 7, 9) are no item": all n headers count.
unfoldable pub type_item : Convention → List ℕ → Reading Tree
type_item c s =
    choose (ltb max_length (length s)) (λ _. no (fault Refusal.TooLong 0 0))
    (λ _. and_then (item_at c max_depth s (length s) 0) (λ t next n. pick (ltb next (length s)) (no (fault Refusal.Malformed next n)) (got t next n)))

-- ---- the argument that is asked for

abbrev pub size_by : Walker → ValueType → ℕ
size_by w t = size_of w.convention t

-- the rules that spans and values go by; an ellipsis moves no cursor, so that cursors go by those without one
abbrev pub rules_by : Walker → CallRules
rules_by w = with_ellipsis w.ellipsis (rules_of w.convention)

-- an argument of its type, where the walker is
unfoldable pub asked : Walker → ValueType → Placement
asked w t = placement t (size_by w t) (span_of (rules_by w) (cursor_of w) t (size_by w t))

-- "a type whose places pass the lent area", of l bytes: its places in memory; one without any passes none, wherever it stands
unfoldable pub passes : Span → ℕ → Bool
passes s l = ltb 0 s.memory.length && ltb l (s.memory.start + s.memory.length)

-- 15, 10 and 11: of a type of n bytes with its span, where the value buffer, the image and the area have these lengths
unfoldable pub step_tests : ℕ → Span → ℕ → ℕ → ℕ → List Test
step_tests n s value image area =
    test (differ image image_bytes) CallRefusal.ImageSize ∷ test (differ value n) CallRefusal.ValuesSize ∷ test (passes s area) CallRefusal.AreaTooShort ∷ []

-- No. 12: "give new refusal 29 .. a walker stays put on it", at place 0; then 15, 10 and 11; "13, 14 and 26 are as in reading"
unfoldable pub step_answer : Walker → ValueType → ℕ → ℕ → Buffers → CallAnswer
step_answer w t v base b =
    pick (unclear_for (rules_of w.convention) (cursor_of w) t) (call_unread (fault Refusal.UnclearPlace 0 0))
    (or_else (first_of (step_tests (size_by w t) (asked w t).span v (length b.image) (length b.area))) (argument_answer (rules_by w) base (asked w t) b))

-- what it fills the value buffer with
abbrev pub step_value : Walker → ValueType → ℕ → Buffers → List ℕ
step_value w t base b = value_at (rules_by w) base (asked w t) b

-- "and moves on"
unfoldable pub step_on : Walker → ValueType → Walker
step_on w t =
    walker w.convention w.ellipsis w.hidden
    (counters_of (rules_of w.convention) (next_of (rules_of w.convention) (cursor_of w) t (size_by w t)))
