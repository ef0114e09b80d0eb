-- One argument in every convention: its span and the next cursor; the first cursor, the area, and the place of a result.
-- Document 01, "Places on PPC64" and "Places on Z"; document 02, No. 1. A convention is a value of `CallRules`. All laws hold at every cursor.
-- Assumes nothing.
use Rattle.std.specs.Prelude.{ℕ, max, Bool, true, false}
use Rattle.base_words.specs.Basics.{pick}
use Rattle.base_conventions.specs.declared.Convention.{Convention}
use Rattle.base_conventions.specs.Numbers.{word_bytes, least_area}
use Rattle.sig_types.specs.declared.FloatFormat.{FloatFormat}
use Rattle.sig_types.specs.declared.ValueType.{ValueType}
use Rattle.plan_places.specs.declared.Edition.{Edition}
use Rattle.plan_places.specs.declared.CallRules.{CallRules}
use Rattle.plan_places.specs.declared.Cursor.{Cursor}
use Rattle.plan_places.specs.declared.Span.{Span}
use Rattle.plan_places.specs.declared.Placed.{Placed}
use Rattle.plan_places.specs.declared.ResultPlaces.{ResultPlaces}
use Rattle.plan_places.specs.Values.{cursor, pointer}
use Rattle.plan_places.specs.Power.{words, power_share, power_span, power_next, unclear}
use Rattle.plan_places.specs.ZSeries.{z_class, z_span_of, z_next_of}

-- ---- the conventions

-- without an ellipsis
abbrev pub power : ℕ → Edition → CallRules
power w e = CallRules.Power (record { word = w; edition = e; ellipsis = false })

abbrev pub ppc64_calls : CallRules
ppc64_calls = power (word_bytes Convention.Ppc64) Edition.Earlier

-- 02, No. 1: "The argument list counts words", "Otherwise all is PPC64's by words"
abbrev pub aix_calls : CallRules
aix_calls = power (word_bytes Convention.Aix) Edition.Earlier

-- 02, No. 12: "PPC64 with that rule"
abbrev pub ppc64b_calls : CallRules
ppc64b_calls = power (word_bytes Convention.Ppc64b) Edition.Later

abbrev pub rules_of : Convention → CallRules
rules_of Convention.Ppc64 = ppc64_calls
rules_of Convention.Z = CallRules.Z
rules_of Convention.Aix = aix_calls
rules_of Convention.Ppc64b = ppc64b_calls

-- the rules of a call with an ellipsis, or of one without: 02, No. 5, "On PPC64 every single or double then goes in its FPR, and as well ..",
-- "AIX does the same by words. Z's places stay"
unfoldable pub with_ellipsis : Bool → CallRules → CallRules
with_ellipsis v (CallRules.Power f) = CallRules.Power (record { word = f.word; edition = f.edition; ellipsis = v })
with_ellipsis v CallRules.Z = CallRules.Z

-- the bytes of a word of the argument list, and of a pointer
abbrev pub word_of : CallRules → ℕ
word_of (CallRules.Power f) = f.word
word_of CallRules.Z = word_bytes Convention.Z

-- ---- one argument, of a type and its size n

unfoldable pub span_of : CallRules → Cursor → ValueType → ℕ → Span
span_of (CallRules.Power f) c t n = power_span f.word c (words f.word n) (power_share f c t n)
span_of CallRules.Z c t n = z_span_of c (z_class t n) n

unfoldable pub next_of : CallRules → Cursor → ValueType → ℕ → Cursor
next_of (CallRules.Power f) c t n = power_next f.word c (words f.word n) (power_share f c t n)
next_of CallRules.Z c t n = z_next_of c (z_class t n) n

abbrev pub placed_as : Span → Cursor → Placed
placed_as s d = record { span = s; next = d }

unfoldable pub placed : CallRules → Cursor → ValueType → ℕ → Placed
placed r c t n = placed_as (span_of r c t n) (next_of r c t n)

-- 29: whether the papers leave open where an argument of a type goes; Z's never do
unfoldable pub unclear_for : CallRules → Cursor → ValueType → Bool
unclear_for (CallRules.Power f) c t = unclear f c t
unclear_for CallRules.Z c t = false

-- ---- the whole list

-- PPC64: "The doubleword count w starts at 0", r(3+0), f1. Z: "Counters start at gr 2 .., fr 0, stack offset 160"
unfoldable pub fresh_cursor : CallRules → Cursor
fresh_cursor (CallRules.Power f) = cursor 3 1 0 0
fresh_cursor CallRules.Z = cursor 2 0 0 0

-- a result's "address is then a hidden first argument": placed as a first argument that is a pointer
unfoldable pub start_of : CallRules → Bool → Cursor
start_of r hidden = pick hidden (next_of r (fresh_cursor r) pointer (word_of r)) (fresh_cursor r)

-- from the last cursor: "The area is 8 times the larger of 8 and the final w"; Z: "The area is the stack bytes used, possibly 0";
-- AIX: "4 times the larger of 8 and w"
unfoldable pub area_of : Convention → Cursor → ℕ
area_of c e = max (least_area c) e.stack

-- ---- the result

-- "when the result is a struct: its address is then a hidden first argument"; Z: "for struct or long double"
unfoldable pub hidden_for : CallRules → ValueType → Bool
hidden_for r (ValueType.Integer k) = false
hidden_for r (ValueType.Struct s) = true
hidden_for (CallRules.Power f) (ValueType.Float x) = false
hidden_for CallRules.Z (ValueType.Float FloatFormat.Single) = false
hidden_for CallRules.Z (ValueType.Float FloatFormat.Double) = false
hidden_for CallRules.Z (ValueType.Float FloatFormat.LongDouble) = true

-- "whole r3; single or double f1; long double f1, f2"; Z: "whole r2; single or double f0". Each is where a first argument of
-- its type would be, by the later edition's rule for a long double, and without an ellipsis
unfoldable pub returning : CallRules → CallRules
returning (CallRules.Power f) = power f.word Edition.Later
returning CallRules.Z = CallRules.Z

unfoldable pub result_of : CallRules → ValueType → ℕ → ResultPlaces
result_of r t n =
    pick (hidden_for r t)
    (ResultPlaces.Hidden (span_of r (fresh_cursor r) pointer (word_of r)))
    (ResultPlaces.Registers (span_of (returning r) (fresh_cursor r) t n))
