-- For proofs and helpers alone: no claim cites this file.
-- What the loop over the arguments answers. Assumes nothing.
use Rattle.sig_reader.specs.declared.ArgumentItem.{ArgumentItem}
use Rattle.sig_items.specs.declared.Fault.{Fault}
use Rattle.std.specs.Prelude.{ℕ, ◌+◌, ltb, eqb, Err, Result, Some, Option}
use Rattle.base_words.specs.Basics.{pick}
use Rattle.base_conventions.specs.declared.Convention.{Convention}
use Rattle.sig_types.specs.declared.ValueType.{ValueType}
use Rattle.sig_types.specs.Trees.{Trees}
use Rattle.sig_items.specs.declared.Refusal.{Refusal}
use Rattle.sig_items.specs.Reading.{Reading, fault, got, no, later}
use Rattle.sig_reader.specs.Argument.{argument_in}

-- found, unless argument number `count` is the one that is asked for
abbrev pub noted_as : Option ArgumentItem → ℕ → ℕ → ValueType → ℕ → Option ArgumentItem
noted_as found index count t place = pick (eqb index count) (Some (record { ty = t; place = place })) found

-- from the arguments on, which stand from `at` on in a signature of `all` bytes, where n items came before theirs
abbrev pub argument_with : Convention → ℕ → ℕ → ℕ → ℕ → Reading Trees → Result (Option ArgumentItem) Fault
argument_with c at n all index (got ts next m) =
    pick (ltb next all) (Err (fault Refusal.TrailingBytes next (n + m))) (argument_in c at index ts)
argument_with c at n all index (no f) = Err (later n f)
