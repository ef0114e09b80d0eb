-- The arguments' places in 64-bit words: 13 for each argument, one entry after the other in a table that the caller lends (`fz_place` of
-- include/flakuzhen.h). The form is ours; what stands in it is document 01's: "Places on PPC64" and "Places on Z" by the plan's spans, "A
-- signature's bytes" by the reader's arguments. Assumes nothing.
use Rattle.sig_reader.specs.declared.ArgumentItem.{ArgumentItem}
use Rattle.sig_items.specs.declared.Fault.{Fault}
use Rattle.std.specs.Prelude.{ℕ, zero, suc, ◌+◌, List, [], ◌++◌, Ok, Err, Result, Option, Some, None}
use Rattle.base_conventions.specs.declared.Convention.{Convention}
use Rattle.sig_types.specs.Sizes.{size_of}
use Rattle.sig_items.specs.Reading.{Reading}
use Rattle.sig_signatures.specs.Signature.{Signature}
use Rattle.sig_reader.specs.Argument.{argument_of, item_in}
use Rattle.plan_plans.specs.Plan.{plan_answer}
use Rattle.plan_plans.specs.Disjoint.{span_at}
use Rattle.plan_entries.specs.Words.{entry_words}

-- of what the reader says of an argument
abbrev pub size_in : Convention → Result (Option ArgumentItem) Fault → ℕ
size_in c (Ok (Some a)) = size_of c a.ty
size_in c (Ok None) = 0
size_in c (Err f) = 0

-- the bytes of argument i
abbrev pub size_at : Reading Signature → ℕ → ℕ
size_at x i = size_in (plan_answer x).convention (argument_of i x)

-- "The value buffer holds the arguments in order without gaps": where argument i's value starts
unfoldable pub value_start : Reading Signature → ℕ → ℕ
value_start x zero = 0
value_start x (suc i) = value_start x i + size_at x i

abbrev pub entry_at : Reading Signature → ℕ → List ℕ
entry_at x i = entry_words (item_in (argument_of i x)) (size_at x i) (value_start x i) (span_at (plan_answer x) i)

-- those of the first n arguments
unfoldable pub entries_up_to : Reading Signature → ℕ → List ℕ
entries_up_to x zero = []
entries_up_to x (suc i) = entries_up_to x i ++ entry_at x i

unfoldable pub entries_of : Reading Signature → List ℕ
entries_of x = entries_up_to x (plan_answer x).count
