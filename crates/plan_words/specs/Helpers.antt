-- For proofs and helpers alone: no claim cites this file.
-- The table's words from the arguments on: the same entries as of a whole reading (law `rows-entries`); and what planning asks. Assumes nothing.
use Rattle.sig_types.specs.declared.ValueType.{ValueType}
use Rattle.std.specs.Prelude.{ℕ, zero, suc, ◌+◌, Bool, List, [], ◌++◌, ltb, length, Option}
use Rattle.base_words.specs.Basics.{pick}
use Rattle.base_conventions.specs.declared.Convention.{Convention}
use Rattle.sig_types.specs.Sizes.{size_of}
use Rattle.sig_types.specs.Trees.{Trees, none, ◌▸◌, type_of}
use Rattle.sig_items.specs.Reading.{Reading, got, no}
use Rattle.sig_items.specs.Encode.{encode_trees}
use Rattle.sig_signatures.specs.Signature.{Signature}
use Rattle.sig_signatures.specs.Types.{values_of, types_of}
use Rattle.sig_reader.specs.Argument.{unclear_fault}
use Rattle.plan_places.specs.Step.{rules_of, with_ellipsis, span_of}
use Rattle.plan_plans.specs.Plan.{last_cursor_in, refused_plan}
use Rattle.plan_plans.specs.Helpers.{plan_with, unclear_with}
use Rattle.plan_entries.specs.Words.{entry_words}
use Rattle.plan_words.specs.declared.Planned.{Planned}
use Rattle.plan_words.specs.Planned.{planned_of}

-- the place of the item after those of the arguments ts, which stand one after the other from `at` on
abbrev pub item_after : ℕ → Trees → ℕ
item_after at ts = at + length (encode_trees ts)

-- the entries of the arguments ts, whose items stand from `at` on, with an ellipsis or without: each stands where the cursor is after those before
-- it, and its value after theirs
unfoldable pub rows_of : Convention → Bool → Option ValueType → ℕ → Trees → List ℕ
rows_of c v r at none = []
rows_of c v r at (ts ▸ t) =
    rows_of c v r at ts
    ++ entry_words (item_after at ts) (size_of c (type_of c t)) (values_of c (types_of c ts)) (span_of (with_ellipsis v (rules_of c)) (last_cursor_in c r (types_of c ts)) (type_of c t) (size_of c (type_of c t)))

-- from the arguments on, in a signature of `all` bytes, as `plan_with` of the plan
abbrev pub rows_with : Convention → Bool → Option ValueType → ℕ → ℕ → Reading Trees → List ℕ
rows_with c v r at all (got ts next m) = pick (ltb next all) [] (rows_of c v r at ts)
rows_with c v r at all (no f) = []

-- the same of a call, which the reading x is of: refused by 29 where argument number u, counted from 1, is the first unclear one
unfoldable pub planned_by : ℕ → Planned → Reading Signature → Planned
planned_by zero p x = p
planned_by (suc i) p x = planned_of (refused_plan (unclear_fault i x))

unfoldable pub rows_by : ℕ → List ℕ → List ℕ
rows_by zero rows = rows
rows_by (suc i) rows = []

abbrev pub plan_called : Convention → Bool → Option ValueType → ℕ → ℕ → Reading Trees → Reading Signature → Planned
plan_called c v r n all y x = planned_by (unclear_with c r all y) (planned_of (plan_with c v r n all y)) x

abbrev pub rows_called : Convention → Bool → Option ValueType → ℕ → ℕ → Reading Trees → List ℕ
rows_called c v r at all y = rows_by (unclear_with c r all y) (rows_with c v r at all y)
