-- The walker's state, its start and refusal 23. Document 02, No. 5: "a driver-side walker: it starts where the signature's arguments do"; "Counters over 2^32, or
-- that no arguments, however many, lead to, give 23". Assumes nothing.
use Rattle.std.specs.Prelude.{ℕ, ◌+◌, ◌-◌, ◌*◌, ◌/◌, ◌%◌, ◌^◌, min, Bool, true, false, not, ◌&&◌, ◌||◌, eqb, leb}
use Rattle.base_words.specs.Basics.{flag}
use Rattle.base_conventions.specs.declared.Convention.{Convention}
use Rattle.base_conventions.specs.Numbers.{header_bytes}
use Rattle.plan_places.specs.declared.Cursor.{Cursor}
use Rattle.plan_places.specs.declared.CallRules.{CallRules}
use Rattle.plan_places.specs.Values.{cursor}
use Rattle.plan_places.specs.Step.{rules_of}
use Rattle.sig_signatures.specs.Signature.{Signature}
use Rattle.sig_signatures.specs.Answer.{result_type}
use Rattle.plan_plans.specs.Plan.{hidden_in, start_in}
use Rattle.call_walker.specs.declared.Counters.{Counters}
use Rattle.call_walker.specs.declared.Walker.{Walker}

-- ---- the counters

abbrev pub counters : ℕ → ℕ → ℕ → Counters
counters g f s = record { general = g; floating = f; stack = s }

-- Z's stack offset of the area's first byte, 160
abbrev pub area_offset : ℕ
area_offset = header_bytes Convention.Z

-- The planner's cursor that counters stand for. PowerPC counts the words passed, w: "r(3+w) while w < 8", and "Offset in the area is 8w"; Z has the next stack
-- offset. Copies have no counter, since reading follows addresses.
unfoldable pub cursor_at : CallRules → Counters → Cursor
cursor_at (CallRules.Power f) k = cursor (3 + min k.general 8) (1 + k.floating) (f.word * k.general) 0
cursor_at CallRules.Z k = cursor k.general k.floating (k.stack - area_offset) 0

unfoldable pub counters_of : CallRules → Cursor → Counters
counters_of (CallRules.Power f) c = counters (c.stack / f.word) (c.floating - 1) 0
counters_of CallRules.Z c = counters c.general c.floating (area_offset + c.stack)

-- ---- the walker

abbrev pub walker : Convention → Bool → Bool → Counters → Walker
walker c v hidden k = record { convention = c; ellipsis = v; hidden = hidden; at = k }

abbrev pub cursor_of : Walker → Cursor
cursor_of w = cursor_at (rules_of w.convention) w.at

-- "it starts where the signature's arguments do"
unfoldable pub walker_of : Signature → Walker
walker_of g =
    let result = result_type g.convention g.result in
    walker g.convention g.ellipsis (hidden_in g.convention result) (counters_of (rules_of g.convention) (start_in g.convention result))

-- ---- 23

-- Counters that some arguments lead to from the walker's start (`LostExactly` says that these are they). PowerPC: at most 13 FPRs are used, each has taken a word, and so has
-- a hidden address. Z: of r2 to r6 a hidden address has the first; FPRs go by two; the stack, in doublewords from 160 on, is used only where no register of a bank is left.
unfoldable pub power_possible : ℕ → Counters → Bool
power_possible hidden k = leb k.floating 13 && (leb (k.floating + hidden) k.general && eqb k.stack 0)

unfoldable pub z_possible : ℕ → Counters → Bool
z_possible hidden k =
    leb (2 + hidden) k.general
    && (leb k.general 7
    && (leb k.floating 8
    && (eqb (k.floating % 2) 0
    && (leb area_offset k.stack && (eqb (k.stack % 8) 0 && (leb k.stack area_offset || (leb 7 k.general || leb 8 k.floating)))))))

unfoldable pub possible : CallRules → Bool → Counters → Bool
possible (CallRules.Power f) hidden k = power_possible (flag hidden) k
possible CallRules.Z hidden k = z_possible (flag hidden) k

-- the largest counter: none is "over 2^32"
abbrev pub max_counter : ℕ
max_counter = 2 ^ 32

unfoldable pub in_range : Counters → Bool
in_range k = leb k.general max_counter && (leb k.floating max_counter && leb k.stack max_counter)

-- "Counters over 2^32, or that no arguments, however many, lead to, give 23"
unfoldable pub lost : Walker → Bool
lost w = not (in_range w.at && possible (rules_of w.convention) w.hidden w.at)
