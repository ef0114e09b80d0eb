-- Home and views: of all inputs that fill accepts on PowerPC, home of what fill left accepts, and then each argument has a view, which is the
-- value that was handed to fill, byte for byte; of any bytes, each view is the value that read gives. Document 01, "What stands in a
-- slot": "A view hands back the part of the lent parameter area that is the argument's own bytes". Home changes nothing but homes.
-- proofs/Views.antt, proofs/Alone.antt and proofs/Some.antt prove it. Assumes nothing.
use Rattle.std.specs.Prelude.{ℕ, ◌<◌, ◌≡◌, false, ◌⊎◌, List, [], ◌∷◌, length, get_or, take, drop}
use Rattle.base_words.specs.Splice.{part}
use Rattle.base_words.specs.Numbers.{Bytes}
use Rattle.sig_signatures.specs.Read.{signature_of}
use Rattle.sig_signatures.specs.Answer.{signature_answer}
use Rattle.plan_places.specs.declared.CallRules.{CallRules}
use Rattle.plan_places.specs.declared.Span.{Span}
use Rattle.plan_places.specs.declared.ResultPlaces.{ResultPlaces}
use Rattle.plan_places.specs.Step.{word_of}
use Rattle.call_slots.specs.Buffers.{Buffers}
use Rattle.call_slots.specs.Placements.{Placement}
use Rattle.call_slots.specs.Arguments.{arguments_of, plan_for, rules_for}
use Rattle.call_read.specs.Read.{read_lengths, read_answer, read_values}
use Rattle.call_home_slot.specs.Homes.{homeless, homed_bytes}
use Rattle.call_home.specs.Home.{home_answer, home_area}
use Rattle.call_views.specs.View.{view_answer, view_of, view_part}
use Rattle.call_roundtrip.specs.Places.{Among}
use Rattle.call_roundtrip.specs.RoundTrip.{Filled, left_by_fill}
use Rattle.call_slots.specs.Answer.{call_done}

-- "The value buffer holds the arguments in order without gaps": each argument's value
unfoldable pub value_lists : List Placement → List ℕ → List (List ℕ)
value_lists [] v = []
value_lists (p ∷ ps) v = take p.size v ∷ value_lists ps (drop p.size v)

-- the area after home of the buffers b
abbrev pub homed_area : List ℕ → Buffers → List ℕ
homed_area s b = home_area s call_done b.image b.area

-- home of the buffers b accepts; and each argument's view of the area that it leaves is accepted, and is the argument's value
pub record Viewed (s values : List ℕ) (b : Buffers) : Type 0 where
  pub homed : home_answer s b.image (length b.area) ≡ call_done
  pub accepted : (i : ℕ) → i < (signature_answer (signature_of s)).count → view_answer s (length (homed_area s b)) i ≡ call_done
  pub same : (i : ℕ) → i < (signature_answer (signature_of s)).count → view_of s (homed_area s b) i ≡ get_or (value_lists (arguments_of s) values) i []

-- THE VIEWS: for all inputs that fill accepts on PowerPC, home of what fill left accepts, and each argument's view is accepted and is its value
abbrev pub ViewAfterHome : Type 0
ViewAfterHome = (s values image area copies : List ℕ) (base hidden : ℕ) → Filled s values image area copies base hidden
    → homeless (rules_for s) ≡ false → Viewed s values (left_by_fill s values image area copies base hidden)

-- The same of any bytes, also where no filling left them: where read accepts on PowerPC, home accepts, and each view is the value that read gives
abbrev pub ViewAsRead : Type 0
ViewAsRead = (s into : List ℕ) (base : ℕ) (b : Buffers) → Bytes b.image → read_answer s (read_lengths into b.image b.area) base b ≡ call_done
    → homeless (rules_for s) ≡ false → Viewed s (read_values s base call_done b into) b

-- "an empty part means refused": an accepted view has a byte or more
abbrev pub ViewSome : Type 0
ViewSome = (s : List ℕ) (have index : ℕ) → view_answer s have index ≡ call_done → 0 < (view_part s have index).length

-- a byte of the area that home writes: of an argument's register words, in its home
unfoldable pub HomeTouches : CallRules → List Placement → List ℕ → ℕ → Type 0
HomeTouches r [] image i = ⊥
HomeTouches r (p ∷ ps) image i = Among p.span.home.start (length (homed_bytes r p image)) i ⊎ HomeTouches r ps image i

-- "all else stay": home changes only the homes of register words
abbrev pub HomeOnly : Type 0
HomeOnly = (s image area : List ℕ) (i : ℕ) → (HomeTouches (rules_for s) (arguments_of s) image i → ⊥) → get_or (home_area s call_done image area) i 0 ≡ get_or area i 0

-- "The hidden address's doubleword .. stay": where the result has a hidden address, home leaves the first word, whatever it answers
abbrev pub HiddenStays : Type 0
HiddenStays = (s image area : List ℕ) (x : Span) → (plan_for s).result ≡ ResultPlaces.Hidden x
    → part 0 (word_of (rules_for s)) (home_area s (home_answer s image (length area)) image area) ≡ part 0 (word_of (rules_for s)) area
