-- The second plan of a whole signature: PowerPC's registers over one structure, Z's slots one by one. 02, No. 14: "a separate plain planner for
-- codes 1, 3 and 4, and a slot-by-slot one for Z". Assumes nothing.
use Rattle.std.specs.Prelude.{ℕ, zero, suc, Bool, true, false, List, length, replicate, Ok, Err, Option}
use Rattle.base_conventions.specs.declared.Convention.{Convention}
use Rattle.sig_types.specs.declared.ValueType.{ValueType}
use Rattle.sig_items.specs.declared.Fault.{Fault}
use Rattle.sig_items.specs.Reading.{Reading, got, no}
use Rattle.sig_signatures.specs.Signature.{Signature}
use Rattle.sig_signatures.specs.Limits.{max_arguments}
use Rattle.sig_signatures.specs.Answer.{result_type}
use Rattle.sig_signatures.specs.Types.{types_of, values_of}
use Rattle.sig_reader.specs.Argument.{unclear_fault}
use Rattle.second_parameters.specs.declared.Parameter.{Parameter}
use Rattle.second_parameters.specs.declared.Returned.{Returned}
use Rattle.second_parameters.specs.Values.{no_parameter, table_with}
use Rattle.second_structure.specs.Structure.{fields_from, words_to, hidden_words, area_bytes, registers_over, first_straddling, power_hidden, power_returned}
use Rattle.second_slot_scan.specs.Slots.{initial, slots_from, scanned_to, z_hidden, z_returned}
use Rattle.second_planner.specs.declared.SecondPlan.{SecondPlan}

-- ---- an accepted signature's

-- PowerPC: registers over the structure of all parameters
unfoldable pub power_parameters : Bool → Bool → ℕ → Convention → Option ValueType → List ValueType → List Parameter
power_parameters ellipsis paired w c r ts = registers_over ellipsis paired w 0 ts (fields_from c w (hidden_words (power_hidden r)) ts)

unfoldable pub power_plan : Bool → Bool → ℕ → ℕ → Convention → Option ValueType → List ValueType → SecondPlan
power_plan ellipsis paired w n c r ts = record {
  outcome = Ok n;
  convention = c;
  ellipsis = ellipsis;
  result = power_returned c w r;
  count = length ts;
  area = area_bytes w (words_to c w (hidden_words (power_hidden r)) ts);
  values = values_of c ts;
  copies = 0;
  parameters = table_with no_parameter (power_parameters ellipsis paired w c r ts);
}

-- Z: slot by slot; 02, No. 5: with an ellipsis "Z's places stay"
unfoldable pub z_plan : Bool → ℕ → Convention → Option ValueType → List ValueType → SecondPlan
z_plan ellipsis n c r ts = record {
  outcome = Ok n;
  convention = c;
  ellipsis = ellipsis;
  result = z_returned r;
  count = length ts;
  area = (scanned_to c (initial (z_hidden r)) ts).starg;
  values = values_of c ts;
  copies = (scanned_to c (initial (z_hidden r)) ts).copies;
  parameters = table_with no_parameter (slots_from c (initial (z_hidden r)) ts);
}

-- "for codes 1, 3 and 4, and a slot-by-slot one for Z": doublewords, 4-byte words, and the edition where a long double takes two FPRs
abbrev pub second_in : ℕ → Convention → Bool → Option ValueType → List ValueType → SecondPlan
second_in n Convention.Ppc64 ellipsis r ts = power_plan ellipsis false 8 n Convention.Ppc64 r ts
second_in n Convention.Z ellipsis r ts = z_plan ellipsis n Convention.Z r ts
second_in n Convention.Aix ellipsis r ts = power_plan ellipsis false 4 n Convention.Aix r ts
second_in n Convention.Ppc64b ellipsis r ts = power_plan ellipsis true 8 n Convention.Ppc64b r ts

-- ---- a refused one's

-- "Every refusal leaves all buffers and the state untouched; counts are 0"
abbrev pub no_plan : Fault → SecondPlan
no_plan f = record {
  outcome = Err f;
  convention = Convention.Ppc64;
  ellipsis = false;
  result = Returned.Nothing;
  count = 0;
  area = 0;
  values = 0;
  copies = 0;
  parameters = replicate max_arguments no_parameter;
}

-- the number of the first parameter for which the papers are not clear, counted from 1; 0 where there is none
abbrev pub straddling_in : Convention → List ValueType → ℕ
straddling_in Convention.Ppc64 ts = first_straddling false 0 0 ts
straddling_in Convention.Z ts = 0
straddling_in Convention.Aix ts = first_straddling false 0 0 ts
straddling_in Convention.Ppc64b ts = first_straddling true 0 0 ts

-- 02, No. 12: "give new refusal 29 at that argument's header, after reading"
unfoldable pub unless_straddling : ℕ → Reading Signature → SecondPlan → SecondPlan
unless_straddling zero x p = p
unless_straddling (suc i) x p = no_plan (unclear_fault i x)

-- ---- the answer

-- of what the reader finds in a signature's bytes
unfoldable pub second_answer : Reading Signature → SecondPlan
second_answer (got g next n) =
    unless_straddling (straddling_in g.convention (types_of g.convention g.arguments)) (got g next n)
    (second_in n g.convention g.ellipsis (result_type g.convention g.result) (types_of g.convention g.arguments))
second_answer (no f) = no_plan f
