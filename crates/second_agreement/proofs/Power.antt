-- PowerPC: registers laid over one structure are those that the first planner's cursor comes to. Proved once over the word width, the
-- edition and the ellipsis. Assumes nothing.
use Rattle.std.proofs.Common.{Some}
use mathlib.Core.Path.{◌≡◌, refl, sym, ap, ap₂, ◌∙◌}
use mathlib.Core.Bool.{Bool, true, false}
use mathlib.Core.Logic.{◌⊎◌, inl, inr}
use mathlib.Core.List.{List, [], ◌∷◌, map}
use Prim.Native.Nat.{ℕ, zero, suc, ◌+◌, ◌-◌, ◌*◌, ◌≤◌, ◌<◌, min, max}
use native.Mathlib.Omega.{arith}
use native.Mathlib.Nat.{mul-zero, mul-add, add-zero, div-le_of_le-mul}
use borrow.Author.Tests.{lt-ltb, le-ltb, ltb-true, ltb-false}
use lib.Dec.{ltb}
use Rattle.base_words.specs.Basics.{pick}
use Rattle.base_words.proofs.Basics.{same-ltb}
use Rattle.base_conventions.specs.declared.Convention.{Convention}
use Rattle.sig_types.specs.declared.FloatFormat.{FloatFormat}
use Rattle.sig_types.specs.declared.ValueType.{ValueType}
use Rattle.sig_types.specs.Sizes.{size_of}
use Rattle.sig_types.proofs.Laws.{integer-most}
use Rattle.plan_places.specs.declared.Edition.{Edition}
use Rattle.plan_places.specs.declared.PowerRules.{PowerRules}
use Rattle.plan_places.specs.declared.CallRules.{CallRules}
use Rattle.plan_places.specs.declared.Cursor.{Cursor}
use Rattle.plan_places.specs.declared.Share.{Share}
use Rattle.plan_places.specs.Values.{share}
use Rattle.plan_places.specs.Power.{words, fprs, share_of, power_share, power_span, unclear}
use Rattle.plan_places.specs.Step.{power, span_of, next_of, fresh_cursor, hidden_for, returning, result_of, unclear_for}
use Rattle.plan_places.proofs.Shares.{words-one, share-words, share-memory, share-float, share-both, share-none, share-marked}
use Rattle.plan_places.proofs.Written.{same-covered, counted, next-counted}
use Rattle.plan_plans.specs.Plan.{spans_of, last_of}
use Rattle.plan_plans.specs.Call.{first_unclear}
use Rattle.second_parameters.specs.declared.Run.{Run}
use Rattle.second_parameters.specs.declared.Parameter.{Parameter}
use Rattle.second_parameters.specs.declared.Returned.{Returned}
use Rattle.second_parameters.specs.Values.{numbers, run_of, no_run}
use Rattle.second_structure.specs.Structure.{words_in, fields_from, words_to, field_bytes, over_words, over_floats, over_nothing, floats, fprs_from, laid_over, registers_over, straddles, first_straddling, power_returned}
use Rattle.second_structure.proofs.Laws.{words-counted, laid-words, laid-nothing, laid-open, laid-floats, laid_both, straddles-not}
use Rattle.second_agreement.specs.Agreement.{parameter_of, returned_of}
use Rattle.second_agreement.proofs.Runs.{run-same, run-scaled}

-- ---- the edition

abbrev pub paired : Edition → Bool
paired Edition.Earlier = false
paired Edition.Later = true

floats_same : (e : Edition) (t : ValueType) → floats (paired e) t ≡ fprs e t
unfolding floats fprs
floats_same e (ValueType.Integer k) = refl
floats_same Edition.Earlier (ValueType.Float FloatFormat.Single) = refl
floats_same Edition.Earlier (ValueType.Float FloatFormat.Double) = refl
floats_same Edition.Earlier (ValueType.Float FloatFormat.LongDouble) = refl
floats_same Edition.Later (ValueType.Float FloatFormat.Single) = refl
floats_same Edition.Later (ValueType.Float FloatFormat.Double) = refl
floats_same Edition.Later (ValueType.Float FloatFormat.LongDouble) = refl
floats_same e (ValueType.Struct s) = refl

-- a parameter's k FPRs, after m that were asked for, are all there or none is: what refusal 29 makes sure of
abbrev pub Whole : ℕ → ℕ → Type 0
Whole k m = (m + k ≤ 13) ⊎ (13 ≤ m)

unfoldable pub AllWhole : Bool → ℕ → List ValueType → Type 0
AllWhole p m [] = Unit {0}
AllWhole p m (t ∷ ts) = Whole (floats p t) m × AllWhole p (m + floats p t) ts

-- where no parameter straddles f13
pub none-straddling : (p : Bool) (m i : ℕ) (ts : List ValueType) → first_straddling p m i ts ≡ 0 → AllWhole p m ts
unfolding AllWhole first_straddling
none-straddling p m i [] e = tt
none-straddling p m i (t ∷ ts) e = go (straddles m (floats p t)) refl e (none-straddling p (m + floats p t) (suc i) ts)
  where
    go : (b : Bool) → straddles m (floats p t) ≡ b → pick b (suc i) (first_straddling p (m + floats p t) (suc i) ts) ≡ 0
        → (first_straddling p (m + floats p t) (suc i) ts ≡ 0 → AllWhole p (m + floats p t) ts) → Whole (floats p t) m × AllWhole p (m + floats p t) ts
    go true q z ih = absurd (omega arith)
    go false q z ih = (straddles-not m (floats p t) q, ih z)

-- ---- one parameter, which asks for k FPRs: at word j, after m FPRs that were asked for

abbrev pub at : ℕ → ℕ → ℕ → Cursor
at w j m = counted w j (1 + min m 13) 0

back : (n k : ℕ) → k ≤ n → n - (n - k) ≡ k
back n k h = omega arith

-- of n words at word j, those among the first eight: counted from r3 on, and by the structure
covered : (n j : ℕ) → min (j + n) 8 - j ≡ min n (8 - j)
covered n j = omega arith

covered-first : (n j : ℕ) → 0 < min (j + n) 8 - j → 3 + j ≡ 3 + min j 8
covered-first n j h = omega arith

excess : (n j : ℕ) → j + n - max j 8 ≡ n - min n (8 - j)
excess n j = omega arith

excess-first : (n j : ℕ) → 0 < j + n - max j 8 → max j 8 ≡ j + min n (8 - j)
excess-first n j h = omega arith

-- n words, of which the first eight of all have a GPR, and k FPRs beside them
words-agree : (w j m n k : ℕ) (f : Run) → f ≡ run_of (1 + min m 13) k
    → over_words w f (numbers j n) ≡ parameter_of (power_span w (at w j m) n (share (min n (8 - j)) k (n - min n (8 - j))))
unfolding over_words parameter_of run_of
words-agree w j m n k f e =
    ap₂ (λ (g s : Run). record { general = g; floating = f; field = field_bytes w (numbers j n); memory = s; copy = no_run; reference = false }) general memory
    ∙ ap (λ (h : Run). record { general = run_of (3 + min j 8) c; floating = h; field = field_bytes w (numbers j n); memory = run_of (w * j + w * (n - (n - c))) (w * (n - c)); copy = no_run; reference = false }) e
  where
    c : ℕ
    c = min n (8 - j)

    general : run_of (3 + j) (min (j + n) 8 - j) ≡ run_of (3 + min j 8) c
    general = run-same (3 + j) (3 + min j 8) (min (j + n) 8 - j) c (covered n j) (covered-first n j)

    memory : run_of (w * max j 8) (w * (j + n - max j 8)) ≡ run_of (w * j + w * (n - (n - c))) (w * (n - c))
    memory =
        rw (back n c (omega arith))
        (run-scaled w (w * max j 8) (w * j + w * c) (j + n - max j 8) (n - c) (excess n j) (λ h. ap (λ (x : ℕ). w * x) (excess-first n j h) ∙ mul-add w j c))

no-fprs : (m : ℕ) → no_run ≡ run_of (1 + min m 13) 0
unfolding run_of
no-fprs m = refl

all-fprs : (m k : ℕ) → m + k ≤ 13 → 0 < k → fprs_from m k ≡ run_of (1 + min m 13) k
all-fprs m k h z = let low : m ≡ min m 13 = omega arith in ap (λ (x : ℕ). run_of (1 + x) k) low

floats-agree : (w j m n k : ℕ) → m + k ≤ 13 → over_floats w (fprs_from m k) (numbers j n) ≡ parameter_of (power_span w (at w j m) n (share 0 k 0))
unfolding over_floats parameter_of run_of
floats-agree w j m n k h = let low : min m 13 ≡ m = omega arith in rw (low, mul-zero w)

nothing-agree : (w j m n : ℕ) → over_nothing w (numbers j n) ≡ parameter_of (power_span w (at w j m) n (share 0 0 n))
unfolding over_nothing parameter_of run_of
nothing-agree w j m n = let none : n - n ≡ 0 = omega arith in rw (none, mul-zero w, add-zero (w * j))

abbrev share_here : Bool → ℕ → ℕ → ℕ → ℕ → Share
share_here v k j m n = share_of v k (14 - (1 + min m 13)) n (min n (8 - j))

laid-agree : (v : Bool) (w j m n k : ℕ) → Whole k m → laid_over v w k m (numbers j n) ≡ parameter_of (power_span w (at w j m) n (share_here v k j m n))
laid-agree v w j m n zero h =
    laid-words v w 0 m (numbers j n) refl
    ∙ words-agree w j m n 0 no_run (no-fprs m)
    ∙ ap (λ (s : Share). parameter_of (power_span w (at w j m) n s)) (share-words v 0 (14 - (1 + min m 13)) n (min n (8 - j)) refl)
laid-agree false w j m n (suc k) (inl h) =
    laid-floats false w (suc k) m (numbers j n) refl (omega arith) h
    ∙ floats-agree w j m n (suc k) h
    ∙ ap (λ (s : Share). parameter_of (power_span w (at w j m) n s)) (share-float (suc k) (14 - (1 + min m 13)) n (min n (8 - j)) (omega arith) (omega arith))
laid-agree false w j m n (suc k) (inr h) =
    laid-nothing false w (suc k) m (numbers j n) refl (omega arith) (omega arith)
    ∙ nothing-agree w j m n
    ∙ ap (λ (s : Share). parameter_of (power_span w (at w j m) n s)) (share-memory (suc k) (14 - (1 + min m 13)) n (min n (8 - j)) (omega arith) (omega arith))
laid-agree true w j m n (suc k) (inl h) =
    laid_both true w (suc k) m (numbers j n) refl (omega arith) h
    ∙ words-agree w j m n (suc k) (fprs_from m (suc k)) (all-fprs m (suc k) h (omega arith))
    ∙ ap (λ (s : Share). parameter_of (power_span w (at w j m) n s)) (share-both (suc k) (14 - (1 + min m 13)) n (min n (8 - j)) (omega arith))
laid-agree true w j m n (suc k) (inr h) =
    laid-open true w (suc k) m (numbers j n) refl (omega arith) (omega arith)
    ∙ words-agree w j m n 0 no_run (no-fprs m)
    ∙ ap (λ (s : Share). parameter_of (power_span w (at w j m) n s)) (share-none (suc k) (14 - (1 + min m 13)) n (min n (8 - j)) (omega arith))

-- the FPRs that are used up are those asked for, up to 13
used-plain : (k j m n : ℕ) → Whole k m → 1 + min m 13 + (share_here false k j m n).floating ≡ 1 + min (m + k) 13
used-plain zero j m n h = ap (λ (s : Share). 1 + min m 13 + s.floating) (sym (share-words false 0 (14 - (1 + min m 13)) n (min n (8 - j)) refl)) ∙ omega arith
used-plain (suc k) j m n (inl h) =
    ap (λ (s : Share). 1 + min m 13 + s.floating) (sym (share-float (suc k) (14 - (1 + min m 13)) n (min n (8 - j)) (omega arith) (omega arith))) ∙ omega arith
used-plain (suc k) j m n (inr h) =
    ap (λ (s : Share). 1 + min m 13 + s.floating) (sym (share-memory (suc k) (14 - (1 + min m 13)) n (min n (8 - j)) (omega arith) (omega arith))) ∙ omega arith

used : (v : Bool) (k j m n : ℕ) → Whole k m → 1 + min m 13 + (share_here v k j m n).floating ≡ 1 + min (m + k) 13
used v k j m n h = ap (λ (x : ℕ). 1 + min m 13 + x) (share-marked v k (14 - (1 + min m 13)) n (min n (8 - j))) ∙ used-plain k j m n h

straddles-same : (k m : ℕ) → pick (ltb 0 (14 - (1 + min m 13))) (ltb (14 - (1 + min m 13)) k) false ≡ straddles m k
straddles-same k m = go (ltb m 13) refl
  where
    go : (b : Bool) → ltb m 13 ≡ b → pick (ltb 0 (14 - (1 + min m 13))) (ltb (14 - (1 + min m 13)) k) false ≡ pick b (ltb 13 (m + k)) false
    go true q =
        let h : m < 13 = ltb-true m 13 q in
        rw (lt-ltb 0 (14 - (1 + min m 13)) (omega arith)) (same-ltb (14 - (1 + min m 13)) k 13 (m + k) (λ l. omega arith) (λ l. omega arith))
    go false q = let h : 13 ≤ m = ltb-false m 13 q in rw (le-ltb 0 (14 - (1 + min m 13)) (omega arith))

-- the FPRs that were asked for in the end
unfoldable pub asked_to : Bool → ℕ → List ValueType → ℕ
asked_to p m [] = m
asked_to p m (t ∷ ts) = asked_to p (m + floats p t) ts

module _ (f : PowerRules) (positive : 0 < f.word) where
  step-agrees : (j m : ℕ) (t : ValueType) (n : ℕ) → Whole (floats (paired f.edition) t) m
      → laid_over f.ellipsis f.word (floats (paired f.edition) t) m (numbers j (words_in f.word n)) ≡ parameter_of (span_of (CallRules.Power f) (at f.word j m) t n)
  unfolding span_of power_share words
  step-agrees j m t n h =
      rw (floats_same f.edition t, words-counted f.word n positive, same-covered (words f.word n) j)
      (laid-agree f.ellipsis f.word j m (words f.word n) (fprs f.edition t) (rw (floats_same f.edition t) at h))

  next-agrees : (j m : ℕ) (t : ValueType) (n : ℕ) → Whole (floats (paired f.edition) t) m
      → next_of (CallRules.Power f) (at f.word j m) t n ≡ at f.word (j + words_in f.word n) (m + floats (paired f.edition) t)
  unfolding words
  next-agrees j m t n h =
      next-counted f j (1 + min m 13) 0 t n
      ∙ rw (floats_same f.edition t, words-counted f.word n positive, used f.ellipsis (fprs f.edition t) j m (words f.word n) (rw (floats_same f.edition t) at h))

  -- ---- all of them

  pub parameters-agree : (c : Convention) (j m : ℕ) (ts : List ValueType) → AllWhole (paired f.edition) m ts
      → registers_over f.ellipsis (paired f.edition) f.word m ts (fields_from c f.word j ts) ≡ map parameter_of (spans_of c (CallRules.Power f) (at f.word j m) ts)
  unfolding registers_over fields_from spans_of AllWhole
  parameters-agree c j m [] h = refl
  parameters-agree c j m (t ∷ ts) h =
      ap₂ (λ (p : Parameter) (ps : List Parameter). p ∷ ps) (step-agrees j m t (size_of c t) h.0)
      (rw (next-agrees j m t (size_of c t) h.0) (parameters-agree c (j + words_in f.word (size_of c t)) (m + floats (paired f.edition) t) ts h.1))

  pub last-agrees : (c : Convention) (j m : ℕ) (ts : List ValueType) → AllWhole (paired f.edition) m ts
      → last_of c (CallRules.Power f) (at f.word j m) ts ≡ at f.word (words_to c f.word j ts) (asked_to (paired f.edition) m ts)
  unfolding words_to last_of AllWhole asked_to
  last-agrees c j m [] h = refl
  last-agrees c j m (t ∷ ts) h =
      ap (λ (k : Cursor). last_of c (CallRules.Power f) k ts) (next-agrees j m t (size_of c t) h.0)
      ∙ last-agrees c (j + words_in f.word (size_of c t)) (m + floats (paired f.edition) t) ts h.1

  pub copies-agree : (c : Convention) (j m : ℕ) (ts : List ValueType) → AllWhole (paired f.edition) m ts → 0 ≡ (last_of c (CallRules.Power f) (at f.word j m) ts).copies
  copies-agree c j m ts h = sym (ap (λ (k : Cursor). k.copies) (last-agrees c j m ts h))

  -- 29 at the same parameter
  unclear-same : (j m : ℕ) (t : ValueType) → unclear_for (CallRules.Power f) (at f.word j m) t ≡ straddles m (floats (paired f.edition) t)
  unfolding unclear_for unclear
  unclear-same j m t = rw (floats_same f.edition t) (straddles-same (fprs f.edition t) m)

  pub unclear-agrees : (c : Convention) (j m i : ℕ) (ts : List ValueType)
      → first_unclear c (CallRules.Power f) (at f.word j m) i ts ≡ first_straddling (paired f.edition) m i ts
  unfolding first_unclear first_straddling
  unclear-agrees c j m i [] = refl
  unclear-agrees c j m i (t ∷ ts) =
      rw (unclear-same j m t)
      (go (straddles m (floats (paired f.edition) t)) refl (unclear-agrees c (j + words_in f.word (size_of c t)) (m + floats (paired f.edition) t) (suc i) ts))
    where
      go : (b : Bool) → straddles m (floats (paired f.edition) t) ≡ b
          → first_unclear c (CallRules.Power f) (at f.word (j + words_in f.word (size_of c t)) (m + floats (paired f.edition) t)) (suc i) ts
          ≡ first_straddling (paired f.edition) (m + floats (paired f.edition) t) (suc i) ts
          → pick b (suc i) (first_unclear c (CallRules.Power f) (next_of (CallRules.Power f) (at f.word j m) t (size_of c t)) (suc i) ts)
          ≡ pick b (suc i) (first_straddling (paired f.edition) (m + floats (paired f.edition) t) (suc i) ts)
      go true q ih = refl
      go false q ih = rw (next-agrees j m t (size_of c t) (straddles-not m (floats (paired f.edition) t) q)) ih

-- ---- the result

few_words : (w n : ℕ) → 0 < w → n ≤ 8 → words w n ≤ 8
unfolding words
few_words w n h s = div-le_of_le-mul w (omega arith)

-- "FPR1 (or FPR1 and FPR2 for long double values)", "GPR3", and for a struct the address in GPR3
pub result-agrees : (c : Convention) (w : ℕ) (e : Edition) (t : ValueType) → 0 < w → power_returned c w (Some t) ≡ returned_of (result_of (power w e) t (size_of c t))
unfolding result_of returned_of hidden_for returning fresh_cursor span_of power_share share_of fprs words
result-agrees c w e (ValueType.Integer k) h =
    let n : ℕ = words w (size_of c (ValueType.Integer k)) in
    let few : n ≡ min n 8 = omega (arith, few_words w (size_of c (ValueType.Integer k)) h (integer-most c k).1) in
    ap (λ (x : ℕ). Returned.General (run_of 3 x)) (words-counted w (size_of c (ValueType.Integer k)) h ∙ few)
result-agrees c w e (ValueType.Float FloatFormat.Single) h = refl
result-agrees c w e (ValueType.Float FloatFormat.Double) h = refl
result-agrees c w e (ValueType.Float FloatFormat.LongDouble) h = refl
result-agrees c w e (ValueType.Struct s) h = rw (words-one w w h (omega arith))
