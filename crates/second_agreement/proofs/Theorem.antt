-- Both planners agree on every byte string (specs/Agreement.antt says what that is). Assumes nothing.
use Rattle.std.proofs.Common.{Some, None, Option}
use mathlib.Core.Path.{◌≡◌, refl, sym, ap, ap₂, subst, ◌∙◌}
use mathlib.Core.Bool.{Bool, true, false}
use mathlib.Core.List.{List, [], ◌∷◌, map}
use Prim.Native.Nat.{ℕ, zero, suc, ◌+◌, ◌-◌, ◌*◌, ◌<◌, min, max}
use native.Mathlib.Omega.{arith}
use lib.ListN.{length, get_or, replicate}
use Rattle.base_words.proofs.Basics.{get_or-filled}
use Rattle.base_conventions.specs.declared.Convention.{Convention}
use Rattle.base_conventions.specs.Numbers.{word_bytes, least_words}
use Rattle.sig_types.specs.declared.FloatFormat.{FloatFormat}
use Rattle.sig_types.specs.declared.ValueType.{ValueType}
use Rattle.sig_types.specs.Sizes.{size_of}
use Rattle.sig_items.specs.declared.Fault.{Fault}
use Rattle.sig_items.specs.Reading.{Reading, got, no}
use Rattle.sig_signatures.specs.Signature.{Signature}
use Rattle.sig_signatures.specs.Limits.{max_arguments}
use Rattle.sig_signatures.specs.Read.{signature_of}
use Rattle.sig_signatures.specs.Answer.{result_type}
use Rattle.sig_signatures.specs.Types.{types_of}
use Rattle.sig_reader.specs.Argument.{unclear_fault}
use Rattle.plan_places.specs.declared.Cursor.{Cursor}
use Rattle.plan_places.specs.declared.PowerRules.{PowerRules}
use Rattle.plan_places.specs.declared.Edition.{Edition}
use Rattle.plan_places.specs.declared.CallRules.{CallRules}
use Rattle.plan_places.specs.declared.Span.{Span}
use Rattle.plan_places.specs.Step.{rules_of, with_ellipsis, power, start_of, area_of, hidden_for}
use Rattle.plan_places.specs.Helpers.{always_clear}
use Rattle.plan_places.proofs.Written.{counted, start-written, hidden-written, area-written, z-start-written, z-hidden-written, z-area-written}
use Rattle.plan_plans.specs.declared.Plan.{Plan}
use Rattle.plan_plans.specs.Plan.{spans_of, last_of, no_span, table_of, hidden_in, result_places_in, start_in, last_cursor_in, plan_in, refused_plan, plan_answer}
use Rattle.plan_plans.specs.Call.{first_unclear, unclear_in, clear_read, called}
use Rattle.plan_plans.proofs.Calls.{none-unclear}
use Rattle.plan_plans.proofs.Apart.{in_table}
use Rattle.second_parameters.specs.declared.Parameter.{Parameter}
use Rattle.second_planner.specs.declared.SecondPlan.{SecondPlan}
use Rattle.second_parameters.specs.Values.{run_of, no_parameter, table_with}
use Rattle.second_structure.specs.Structure.{fields_from, words_to, area_bytes, registers_over, hidden_words, first_straddling, power_hidden, power_returned}
use Rattle.second_slot_scan.specs.Slots.{initial, slots_from, scanned_to, z_hidden, z_returned}
use Rattle.second_planner.specs.Answer.{power_parameters, power_plan, z_plan, second_in, no_plan, straddling_in, unless_straddling, second_answer}
use Rattle.second_agreement.specs.Agreement.{parameter_of, returned_of, PlansAgree, PlannersAgree}
use Rattle.second_agreement.proofs.Power as powerpc
use Rattle.second_agreement.proofs.Power.{paired, at, AllWhole, none-straddling, asked_to}
use Rattle.second_agreement.proofs.ZSeries as zseries
use Rattle.second_agreement.proofs.ZSeries.{cursor_of, Even}

-- ---- the tables

get_or-map : (l : List Span) (i : ℕ) → get_or (map parameter_of l) i no_parameter ≡ parameter_of (get_or l i no_span)
unfolding parameter_of run_of
get_or-map [] i = refl
get_or-map (s ∷ l) zero = refl
get_or-map (s ∷ l) (suc i) = get_or-map l i

table-agrees : (ps : List Parameter) (l : List Span) → ps ≡ map parameter_of l → (i : ℕ) → get_or (table_with no_parameter ps) i no_parameter ≡ parameter_of (get_or (table_of l) i no_span)
unfolding table_with
table-agrees ps l e i =
    get_or-filled no_parameter ps (max_arguments - length ps) i
    ∙ ap (λ (q : List Parameter). get_or q i no_parameter) e
    ∙ get_or-map l i
    ∙ sym (ap parameter_of (in_table l i))

-- ---- PowerPC, once over the word width, the edition and the ellipsis

module _ (w : ℕ) (e : Edition) (positive : 0 < w) (c : Convention) (same : rules_of c ≡ power w e) (word : word_bytes c ≡ w) (least : least_words c ≡ 8) where
  hidden-agrees : (r : Option ValueType) → hidden_in c r ≡ power_hidden r
  unfolding hidden_for
  hidden-agrees None = refl
  hidden-agrees (Some (ValueType.Integer k)) = refl
  hidden-agrees (Some (ValueType.Float f)) = rw same
  hidden-agrees (Some (ValueType.Struct s)) = refl

  abbrev rules_for : Bool → PowerRules
  rules_for v = record { word = w; edition = e; ellipsis = v }

  begins : (hidden : Bool) → start_of (power w e) hidden ≡ at w (hidden_words hidden) 0
  begins true = hidden-written (rules_for false) positive
  begins false = start-written (rules_for false)

  start-agrees : (r : Option ValueType) → start_in c r ≡ at w (hidden_words (power_hidden r)) 0
  start-agrees r = ap₂ start_of same (hidden-agrees r) ∙ begins (power_hidden r)

  result-agrees : (r : Option ValueType) → power_returned c w r ≡ returned_of (result_places_in c r)
  unfolding returned_of
  result-agrees None = refl
  result-agrees (Some t) = rw same (powerpc.result-agrees c w e t positive)

  marked : (v : Bool) → with_ellipsis v (rules_of c) ≡ CallRules.Power (rules_for v)
  unfolding with_ellipsis
  marked v = ap (with_ellipsis v) same

  -- the cursor past the last argument, by the convention's own rules
  end-agrees : (r : Option ValueType) (ts : List ValueType) → last_cursor_in c r ts ≡ last_of c (power w e) (at w (hidden_words (power_hidden r)) 0) ts
  end-agrees r ts = ap₂ (λ (u : CallRules) (k : Cursor). last_of c u k ts) same (start-agrees r)

  area-agrees : (r : Option ValueType) (ts : List ValueType) → AllWhole (paired e) 0 ts
      → area_bytes w (words_to c w (hidden_words (power_hidden r)) ts) ≡ area_of c (last_cursor_in c r ts)
  unfolding area_bytes
  area-agrees r ts h =
      let j : ℕ = hidden_words (power_hidden r) in
      let n : ℕ = words_to c w j ts in
      let m : ℕ = 1 + min (asked_to (paired e) 0 ts) 13 in
      let swapped : max n 8 ≡ max 8 n = omega arith in
      let written : area_of c (counted w n m 0) ≡ w * max 8 n = rw (word, least) at (area-written c n m 0) in
      ap (λ (x : ℕ). w * x) swapped
      ∙ sym written
      ∙ sym (ap (area_of c) (end-agrees r ts ∙ powerpc.last-agrees (rules_for false) positive c j 0 ts h))

  pub power-agrees : (n : ℕ) (v : Bool) (r : Option ValueType) (ts : List ValueType) → AllWhole (paired e) 0 ts
      → PlansAgree (plan_in n c v r ts) (power_plan v (paired e) w n c r ts)
  unfolding plan_in power_plan power_parameters
  power-agrees n v r ts h =
      let j : ℕ = hidden_words (power_hidden r) in
      record {
        outcome = refl;
        convention = refl;
        ellipsis = refl;
        count = refl;
        places =
            table-agrees (registers_over v (paired e) w 0 ts (fields_from c w j ts)) (spans_of c (with_ellipsis v (rules_of c)) (start_in c r) ts)
            (powerpc.parameters-agree (rules_for v) positive c j 0 ts h
            ∙ ap₂ (λ (u : CallRules) (k : Cursor). map parameter_of (spans_of c u k ts)) (sym (marked v)) (sym (start-agrees r)));
        area = area-agrees r ts h;
        values = refl;
        copies = powerpc.copies-agree (rules_for false) positive c j 0 ts h ∙ sym (ap (λ (k : Cursor). k.copies) (end-agrees r ts));
        result = result-agrees r;
      }

  -- 29 of the same argument
  pub unclear-agrees : (r : Option ValueType) (ts : List ValueType) → first_unclear c (rules_of c) (start_in c r) 0 ts ≡ first_straddling (paired e) 0 0 ts
  unclear-agrees r ts =
      ap₂ (λ (u : CallRules) (k : Cursor). first_unclear c u k 0 ts) same (start-agrees r)
      ∙ powerpc.unclear-agrees (rules_for false) positive c (hidden_words (power_hidden r)) 0 0 ts

-- ---- Z

z-hidden : (r : Option ValueType) → hidden_in Convention.Z r ≡ z_hidden r
unfolding hidden_for
z-hidden None = refl
z-hidden (Some (ValueType.Integer k)) = refl
z-hidden (Some (ValueType.Float FloatFormat.Single)) = refl
z-hidden (Some (ValueType.Float FloatFormat.Double)) = refl
z-hidden (Some (ValueType.Float FloatFormat.LongDouble)) = refl
z-hidden (Some (ValueType.Struct s)) = refl

z-begins : (hidden : Bool) → cursor_of (initial hidden) ≡ start_of CallRules.Z hidden
unfolding initial
z-begins true = sym z-hidden-written
z-begins false = sym z-start-written

z-even : (hidden : Bool) → Even (initial hidden)
unfolding initial
z-even hidden = refl

z-start : (r : Option ValueType) → cursor_of (initial (z_hidden r)) ≡ start_in Convention.Z r
z-start r = z-begins (z_hidden r) ∙ ap (start_of CallRules.Z) (sym (z-hidden r))

z-result : (r : Option ValueType) → z_returned r ≡ returned_of (result_places_in Convention.Z r)
unfolding returned_of
z-result None = refl
z-result (Some t) = zseries.result-agrees Convention.Z t

z-agrees : (n : ℕ) (v : Bool) (r : Option ValueType) (ts : List ValueType) → PlansAgree (plan_in n Convention.Z v r ts) (z_plan v n Convention.Z r ts)
unfolding plan_in z_plan with_ellipsis
z-agrees n v r ts =
    let s = initial (z_hidden r) in
    let end = zseries.scan-agrees Convention.Z s ts (z-even (z_hidden r)) ∙ ap (λ (k : Cursor). last_of Convention.Z CallRules.Z k ts) (z-start r) in
    record {
      outcome = refl;
      convention = refl;
      ellipsis = refl;
      count = refl;
      places =
          table-agrees (slots_from Convention.Z s ts) (spans_of Convention.Z CallRules.Z (start_in Convention.Z r) ts)
          (zseries.slots-agree Convention.Z s ts (z-even (z_hidden r)) ∙ ap (λ (k : Cursor). map parameter_of (spans_of Convention.Z CallRules.Z k ts)) (z-start r));
      area = ap (λ (k : Cursor). k.stack) end ∙ sym (z-area-written (last_cursor_in Convention.Z r ts));
      values = refl;
      copies = ap (λ (k : Cursor). k.copies) end;
      result = z-result r;
    }

z-clear : (k : Cursor) (i : ℕ) (ts : List ValueType) → first_unclear Convention.Z CallRules.Z k i ts ≡ 0
unfolding always_clear
z-clear k i ts = none-unclear Convention.Z CallRules.Z refl k i ts

-- ---- every signature

-- the same first argument is unclear, or none
unclear-agree : (c : Convention) (r : Option ValueType) (ts : List ValueType) → first_unclear c (rules_of c) (start_in c r) 0 ts ≡ straddling_in c ts
unclear-agree Convention.Ppc64 r ts = unclear-agrees 8 Edition.Earlier (omega arith) Convention.Ppc64 refl refl refl r ts
unclear-agree Convention.Z r ts = z-clear (start_in Convention.Z r) 0 ts
unclear-agree Convention.Aix r ts = unclear-agrees 4 Edition.Earlier (omega arith) Convention.Aix refl refl refl r ts
unclear-agree Convention.Ppc64b r ts = unclear-agrees 8 Edition.Later (omega arith) Convention.Ppc64b refl refl refl r ts

accepted-agree : (n : ℕ) (c : Convention) (v : Bool) (r : Option ValueType) (ts : List ValueType) → straddling_in c ts ≡ 0 → PlansAgree (plan_in n c v r ts) (second_in n c v r ts)
accepted-agree n Convention.Ppc64 v r ts z = power-agrees 8 Edition.Earlier (omega arith) Convention.Ppc64 refl refl refl n v r ts (none-straddling false 0 0 ts z)
accepted-agree n Convention.Z v r ts z = z-agrees n v r ts
accepted-agree n Convention.Aix v r ts z = power-agrees 4 Edition.Earlier (omega arith) Convention.Aix refl refl refl n v r ts (none-straddling false 0 0 ts z)
accepted-agree n Convention.Ppc64b v r ts z = power-agrees 8 Edition.Later (omega arith) Convention.Ppc64b refl refl refl n v r ts (none-straddling true 0 0 ts z)

none-agree : (n i : ℕ) → get_or (replicate n no_parameter) i no_parameter ≡ parameter_of (get_or (replicate n no_span) i no_span)
unfolding parameter_of run_of
none-agree zero i = refl
none-agree (suc n) zero = refl
none-agree (suc n) (suc i) = none-agree n i

refused-agree : (f : Fault) → PlansAgree (refused_plan f) (no_plan f)
unfolding returned_of
refused-agree f = record {
  outcome = refl;
  convention = refl;
  ellipsis = refl;
  count = refl;
  places = none-agree max_arguments;
  area = refl;
  values = refl;
  copies = refl;
  result = refl;
}

readings-agree : (x : Reading Signature) → PlansAgree (plan_answer (called x)) (second_answer x)
unfolding called second_answer plan_answer unless_straddling
readings-agree (got g next n) =
    let c : Convention = g.convention in
    let r : (Option ValueType) = result_type c g.result in
    let ts : List ValueType = types_of c g.arguments in
    go (unclear_in g) (straddling_in c ts) (unclear-agree c r ts) (accepted-agree n c g.ellipsis r ts)
  where
    second : SecondPlan
    second = second_in n g.convention g.ellipsis (result_type g.convention g.result) (types_of g.convention g.arguments)

    go : (u v : ℕ) → u ≡ v → (v ≡ 0 → PlansAgree (plan_answer (got g next n)) second) → PlansAgree (plan_answer (clear_read u g next n)) (unless_straddling v (got g next n) second)
    go zero zero e h = h refl
    go zero (suc k) e h = absurd (omega arith)
    go (suc i) zero e h = absurd (omega arith)
    go (suc i) (suc k) e h =
        let same : i ≡ k = omega arith in
        subst (λ (m : ℕ). PlansAgree (refused_plan (unclear_fault i (got g next n))) (no_plan (unclear_fault m (got g next n)))) same (refused-agree (unclear_fault i (got g next n)))
readings-agree (no f) = refused-agree f

pub planners-agree : PlannersAgree
planners-agree s = readings-agree (signature_of s)
