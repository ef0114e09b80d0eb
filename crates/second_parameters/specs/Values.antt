-- Short names for the values of the declared types. Assumes nothing.
use Rattle.std.specs.Prelude.{ℕ, zero, suc, ◌-◌, false, List, ◌++◌, length, replicate}
use Rattle.sig_signatures.specs.Limits.{max_arguments}
use Rattle.second_parameters.specs.declared.Run.{Run}
use Rattle.second_parameters.specs.declared.Parameter.{Parameter}

abbrev pub numbers : ℕ → ℕ → Run
numbers first n = record { first = first; count = n }

-- n numbers from `first` on; of none, 0 stands for the first
unfoldable pub run_of : ℕ → ℕ → Run
run_of first zero = numbers 0 0
run_of first (suc n) = numbers first (suc n)

abbrev pub no_run : Run
no_run = numbers 0 0

abbrev pub no_parameter : Parameter
no_parameter = record { general = no_run; floating = no_run; field = no_run; memory = no_run; copy = no_run; reference = false }

-- a program's table: the elements in order, and x in each place after them
unfoldable pub table_with : {A : Type 0} → A → List A → List A
table_with x l = l ++ replicate (max_arguments - length l) x
