-- The words of the answers on plans. Assumes nothing.
use Rattle.std.specs.Prelude.{ℕ, Bool}
use Rattle.base_words.specs.Basics.{pick, flag}
use Rattle.base_conventions.specs.Numbers.{code_of}
use Rattle.sig_items.specs.Reading.{Reading, got, no}
use Rattle.sig_signatures.specs.Signature.{Signature}
use Rattle.plan_plans.specs.declared.Plan.{Plan}
use Rattle.plan_plans.specs.Plan.{plan_answer}
use Rattle.plan_entries.specs.declared.ResultWords.{ResultWords}
use Rattle.plan_entries.specs.Results.{result_words}
use Rattle.c_answers.specs.declared.Answer.{Answer}
use Rattle.c_answers.specs.Answers.{yes}
use Rattle.c_faults.specs.Faults.{fault_answer}
use Rattle.c_plans.specs.declared.Sizes.{Sizes}
use Rattle.c_plans.specs.declared.PlanAnswer.{PlanAnswer}

-- of a plan: the sizes of the values, the area and the copies; a refused signature's are 0
abbrev pub plan_sizes : Answer → Plan → Sizes
plan_sizes a p = record { answer = a; values = p.values; area = p.area; copies = p.copies }

unfoldable pub sizes_answer : Reading Signature → Sizes
sizes_answer (got g next n) = plan_sizes yes (plan_answer (got g next n))
sizes_answer (no f) = record { answer = fault_answer f; values = 0; area = 0; copies = 0 }

-- of a plan without its arguments' places: what is known of the call, and its result's places in words
abbrev pub plan_words_of : Answer → Plan → ResultWords → PlanAnswer
plan_words_of a p r = record {
  answer = a;
  convention = code_of p.convention;
  ellipsis = flag p.ellipsis;
  arguments = p.count;
  values = p.values;
  area = p.area;
  copies = p.copies;
  result = r.kind;
  result_gpr = r.gpr;
  result_gprs = r.gprs;
  result_fpr = r.fpr;
  result_fprs = r.fprs;
}

-- a refused signature has no plan
unfoldable pub planned_answer : Reading Signature → PlanAnswer
planned_answer (got g next n) = plan_words_of yes (plan_answer (got g next n)) (result_words (plan_answer (got g next n)).result)
planned_answer (no f) = record {
  answer = fault_answer f;
  convention = 0;
  ellipsis = 0;
  arguments = 0;
  values = 0;
  area = 0;
  copies = 0;
  result = 0;
  result_gpr = 0;
  result_gprs = 0;
  result_fpr = 0;
  result_fprs = 0;
}
