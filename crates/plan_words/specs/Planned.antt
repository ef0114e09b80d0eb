-- What is said of a plan beside its arguments' places. Assumes nothing.
use Rattle.plan_plans.specs.declared.Plan.{Plan}
use Rattle.plan_entries.specs.Results.{result_words}
use Rattle.plan_words.specs.declared.Planned.{Planned}

-- a plan without its spans, its result in words
abbrev pub planned_of : Plan → Planned
planned_of p = record {
  outcome = p.outcome;
  convention = p.convention;
  ellipsis = p.ellipsis;
  result = result_words p.result;
  count = p.count;
  area = p.area;
  values = p.values;
  copies = p.copies;
}
