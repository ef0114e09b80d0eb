-- The second plan in 64-bit words: its outcome and sizes, its result, and the places of each argument. Assumes nothing.
use Rattle.sig_items.specs.declared.Fault.{Fault}
use Rattle.std.specs.Prelude.{ℕ, get_or, ltb, Ok, Err, Result}
use Rattle.base_words.specs.Basics.{pick, flag}
use Rattle.base_conventions.specs.Numbers.{code_of}
use Rattle.sig_signatures.specs.Limits.{max_arguments}
use Rattle.second_parameters.specs.declared.Run.{Run}
use Rattle.second_parameters.specs.declared.Parameter.{Parameter}
use Rattle.second_parameters.specs.declared.Returned.{Returned}
use Rattle.second_parameters.specs.Values.{no_parameter}
use Rattle.second_planner.specs.declared.SecondPlan.{SecondPlan}
use Rattle.c_answers.specs.declared.Answer.{Answer}
use Rattle.c_faults.specs.Faults.{fault_answer}
use Rattle.c_second.specs.declared.ReturnedWords.{ReturnedWords}
use Rattle.c_second.specs.declared.SecondAnswer.{SecondAnswer}
use Rattle.c_second.specs.declared.SecondPlace.{SecondPlace}

-- accepted, with the count of items, or refused
abbrev pub outcome_words : Result ℕ Fault → Answer
outcome_words (Ok n) = record { number = 0; place = 0; items = n }
outcome_words (Err f) = fault_answer f

abbrev pub run_words : ℕ → Run → ReturnedWords
run_words kind r = record { kind = kind; first = r.first; count = r.count }

abbrev pub returned_words : Returned → ReturnedWords
returned_words Returned.Nothing = record { kind = 0; first = 0; count = 0 }
returned_words (Returned.General r) = run_words 1 r
returned_words (Returned.Floating r) = run_words 2 r
returned_words (Returned.Hidden r) = run_words 3 r

abbrev pub second_plan_words : SecondPlan → SecondAnswer
second_plan_words p = record {
  answer = outcome_words p.outcome;
  convention = code_of p.convention;
  ellipsis = flag p.ellipsis;
  arguments = p.count;
  values = p.values;
  area = p.area;
  copies = p.copies;
  result = (returned_words p.result).kind;
  result_first = (returned_words p.result).first;
  result_count = (returned_words p.result).count;
}

abbrev pub place_words : Parameter → SecondPlace
place_words p = record {
  gpr = p.general.first;
  gprs = p.general.count;
  fpr = p.floating.first;
  fprs = p.floating.count;
  field = p.field.first;
  field_length = p.field.count;
  memory = p.memory.first;
  memory_length = p.memory.count;
  copy = p.copy.first;
  copy_length = p.copy.count;
  reference = flag p.reference;
}

-- of argument number i; a table has no more places than a signature may have arguments
abbrev pub no_second_place : SecondPlace
no_second_place = place_words no_parameter

unfoldable pub place_at : SecondPlan → ℕ → SecondPlace
place_at p i = pick (ltb i max_arguments) (place_words (get_or p.parameters i no_parameter)) no_second_place
