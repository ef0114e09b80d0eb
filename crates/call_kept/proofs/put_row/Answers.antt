-- Ten stores are the row.
use mathlib.Core.Path.{◌≡◌, refl, ◌∙◌}
use mathlib.Core.Bool.{Bool, true, false}
use native.Mathlib.Omega.{arith}
use lib.ListN.{length-set}
use Rattle.std.specs.Int.{from_bool}
use Rattle.base_words.specs.Basics.{flag}
use Rattle.plan_entries.proofs.Stores.{stored, stored-overlay}
use Rattle.call_kept.specs.Helpers.{row_of}
use Rattle.call_kept.proofs.put_row.Goals as goal

flag-word : (b : Bool) → from_bool b ≡ flag b
flag-word true = refl
flag-word false = refl

pub bounds-kept-1 : goal.bounds-kept-1
bounds-kept-1 c = simp length-set (omega arith)

pub bounds-kept-2 : goal.bounds-kept-2
bounds-kept-2 c = simp length-set (omega arith)

pub bounds-kept-3 : goal.bounds-kept-3
bounds-kept-3 c = simp length-set (omega arith)

pub bounds-kept-4 : goal.bounds-kept-4
bounds-kept-4 c = simp length-set (omega arith)

pub bounds-kept-5 : goal.bounds-kept-5
bounds-kept-5 c = simp length-set (omega arith)

pub bounds-kept-6 : goal.bounds-kept-6
bounds-kept-6 c = simp length-set (omega arith)

pub bounds-kept-7 : goal.bounds-kept-7
bounds-kept-7 c = simp length-set (omega arith)

pub bounds-kept-8 : goal.bounds-kept-8
bounds-kept-8 c = simp length-set (omega arith)

pub bounds-kept-9 : goal.bounds-kept-9
bounds-kept-9 c = simp length-set (omega arith)

pub shape_of-kept : goal.shape_of-kept
shape_of-kept c = simp length-set refl

pub returns : goal.returns
unfolding stored
returns c =
    rw (c.from.ensures ∙ flag-word c.args.s.indirect, c.range_code-2.ensures, c.range_code.ensures, c.type_code.ensures)
    (stored-overlay c.args.kept.now (row_of c.args.t c.args.s))
