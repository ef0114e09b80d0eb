-- The walker as six words of 64 bits, as a caller in C lends it (`fz_walker`), and the calls over them. Word 0 is the convention's code, 1 the mark of an ellipsis, 2 that of a hidden address, 3 to 5
-- the counters. The layout is ours; what it holds is document 02's, No. 5. Assumes nothing.
use Rattle.base_conventions.specs.declared.UnknownConvention.{UnknownConvention}
use Rattle.base_conventions.specs.declared.Convention.{Convention}
use Rattle.std.specs.Prelude.{ℕ, Bool, ◌&&◌, List, [], ◌∷◌, leb, eqb, length, get_or, Ok, Err, Result}
use Rattle.base_words.specs.Basics.{pick, flag}
use Rattle.base_words.specs.Splice.{overlay}
use Rattle.base_conventions.specs.Numbers.{code_of, convention_code}
use Rattle.sig_types.specs.declared.ValueType.{ValueType}
use Rattle.sig_types.specs.Trees.{Tree, type_of}
use Rattle.sig_items.specs.Reading.{Reading, got, no}
use Rattle.sig_signatures.specs.Signature.{Signature}
use Rattle.sig_signatures.specs.Read.{signature_of}
use Rattle.call_slots.specs.Buffers.{Buffers}
use Rattle.call_walker.specs.declared.WalkerAnswer.{WalkerAnswer}
use Rattle.call_walker.specs.declared.Walker.{Walker}
use Rattle.call_walker.specs.declared.WalkerRead.{WalkerRead}
use Rattle.call_walker.specs.Walker.{counters, walker, walker_of, lost}
use Rattle.call_walker.specs.Step.{type_item, step_answer, step_value, step_on}
use Rattle.call_slots.specs.Answer.{CallAnswer, call_done, call_unread, call_refused}
use Rattle.call_slots.specs.declared.CallError.{CallError}

-- ---- the words

abbrev pub unlost : Walker → WalkerRead
unlost w = pick (lost w) WalkerRead.Lost (WalkerRead.Walker w)

-- 23 also where the convention is none, or a mark over 1
abbrev pub walker_by : Result Convention UnknownConvention → List ℕ → WalkerRead
walker_by (Err _) ws = WalkerRead.Lost
walker_by (Ok c) ws =
    pick (leb (get_or ws 1 0) 1 && leb (get_or ws 2 0) 1)
    (unlost (walker c (eqb (get_or ws 1 0) 1) (eqb (get_or ws 2 0) 1) (counters (get_or ws 3 0) (get_or ws 4 0) (get_or ws 5 0))))
    WalkerRead.Lost

unfoldable pub walker_in : List ℕ → WalkerRead
walker_in ws = walker_by (convention_code (get_or ws 0 0)) ws

-- the words of a walker
abbrev pub walker_length : ℕ
walker_length = 6

unfoldable pub walker_words : Walker → List ℕ
walker_words w = code_of w.convention ∷ flag w.ellipsis ∷ flag w.hidden ∷ w.at.general ∷ w.at.floating ∷ w.at.stack ∷ []

-- ---- the start

-- the answer and the words after it, ws before: an accepted signature's walker; "A refused start leaves the walker as it was"
abbrev pub walk_start_answer : Reading Signature → WalkerAnswer
walk_start_answer (got g next n) = WalkerAnswer.Called call_done
walk_start_answer (no f) = WalkerAnswer.Called (call_unread f)

abbrev pub walker_start_words : Reading Signature → List ℕ → List ℕ
walker_start_words (got g next n) ws = walker_words (walker_of g)
walker_start_words (no f) ws = ws

-- ---- a step

-- the answer, and the words and the value buffer afterwards
pub record WalkerOutcome : Type 0 where
  pub answer : WalkerAnswer
  pub words : List ℕ
  pub value : List ℕ

abbrev pub walker_outcome : WalkerAnswer → List ℕ → List ℕ → WalkerOutcome
walker_outcome a ws v = record { answer = a; words = ws; value = v }

-- by the answer a on a type: "Every refusal leaves all buffers and the state untouched"
abbrev pub step_by : CallAnswer → List ℕ → Walker → ValueType → ℕ → Buffers → List ℕ → WalkerOutcome
step_by (Ok tt) ws w t base b v = walker_outcome (WalkerAnswer.Called call_done) (walker_words (step_on w t)) (overlay v (step_value w t base b))
step_by (Err (CallError.Unread f)) ws w t base b v = walker_outcome (WalkerAnswer.Called (call_unread f)) ws v
step_by (Err (CallError.Refused r)) ws w t base b v = walker_outcome (WalkerAnswer.Called (call_refused r)) ws v

-- a walker w, in the words ws, that is asked for a type
unfoldable pub step_for : List ℕ → Walker → ValueType → ℕ → Buffers → List ℕ → WalkerOutcome
step_for ws w t base b v = step_by (step_answer w t (length v) base b) ws w t base b v

-- by what was read of the item
abbrev pub walk_by_item : Reading Tree → List ℕ → Walker → ℕ → Buffers → List ℕ → WalkerOutcome
walk_by_item (got t next n) ws w base b v = step_for ws w (type_of w.convention t) base b v
walk_by_item (no f) ws w base b v = walker_outcome (WalkerAnswer.Called (call_unread f)) ws v

-- by what the words are: 23 comes "first"
abbrev pub walk_by : WalkerRead → List ℕ → List ℕ → ℕ → Buffers → List ℕ → WalkerOutcome
walk_by WalkerRead.Lost ws s base b v = walker_outcome WalkerAnswer.Lost ws v
walk_by (WalkerRead.Walker w) ws s base b v = walk_by_item (type_item w.convention s) ws w base b v

-- the words ws asked with the item's bytes s, of a value buffer v, the register image, the area and the copies b, which start at the address `base`
unfoldable pub walker_step : List ℕ → List ℕ → ℕ → Buffers → List ℕ → WalkerOutcome
walker_step ws s base b v = walk_by (walker_in ws) ws s base b v
