-- The first unclear argument along the fold, and the reading of a call by it. Assumes nothing.
use Rattle.std.proofs.Common.{Ok, Err}
use mathlib.Core.Path.{◌≡◌, refl, sym, ap, ◌∙◌}
use mathlib.Core.Bool.{Bool, true, false}
use mathlib.Core.List.{List, [], ◌∷◌, ◌++◌}
use Prim.Native.Nat.{ℕ, zero, suc, ◌+◌, ◌-◌, ◌≤◌, ◌<◌}
use native.Mathlib.Omega.{arith}
use native.Mathlib.Numerals.{add-one}
use lib.ListN.{length, drop, drop_of_length-le}
use Rattle.base_words.specs.Basics.{pick}
use Rattle.base_conventions.specs.declared.Convention.{Convention}
use Rattle.sig_types.specs.declared.ValueType.{ValueType}
use Rattle.sig_types.specs.Sizes.{size_of}
use Rattle.sig_items.specs.declared.Fault.{Fault}
use Rattle.sig_items.specs.Reading.{Reading, got, no}
use Rattle.sig_signatures.specs.declared.SignatureRead.{SignatureRead}
use Rattle.sig_signatures.specs.Limits.{max_arguments}
use Rattle.sig_signatures.specs.Signature.{Signature}
use Rattle.sig_signatures.specs.Read.{signature_of}
use Rattle.sig_signatures.specs.Answer.{result_type, signature_answer}
use Rattle.sig_signatures.proofs.Types.{table-types}
use Rattle.sig_reader.specs.Argument.{unclear_fault}
use Rattle.plan_places.specs.declared.Cursor.{Cursor}
use Rattle.plan_places.specs.declared.CallRules.{CallRules}
use Rattle.plan_places.specs.Step.{rules_of, next_of, start_of, unclear_for}
use Rattle.plan_places.specs.Helpers.{LawfulCalls, always_clear, unclear_after}
use Rattle.plan_places.proofs.Written.{always-clear}
use Rattle.plan_plans.specs.declared.Plan.{Plan}
use Rattle.plan_plans.specs.declared.Measured.{Measured}
use Rattle.plan_plans.specs.Plan.{last_of, start_in, plan_in, refused_plan, plan_answer, measure_of}
use Rattle.plan_plans.specs.Helpers.{planned, unclear_of, measured_by}
use Rattle.plan_plans.specs.Call.{first_unclear, unclear_in, clear_read, called, call_of}
use Rattle.plan_plans.proofs.Fold.{Reached, reached-start, reached-more}
use Rattle.plan_plans.proofs.Answers.{planned-answer, outcome-read, answer-few}

-- ---- the fold

module _ (c : Convention) (r : CallRules) where
  -- the whole's number, where u is that of the i arguments before the cursor k
  abbrev pub unclear_from : ℕ → Cursor → ℕ → List ValueType → ℕ
  unclear_from zero k i ts = first_unclear c r k i ts
  unclear_from (suc u) k i ts = suc u

  pub from_more : (u : ℕ) (k : Cursor) (i : ℕ) (t : ValueType) (ts : List ValueType)
      → unclear_from u k i (t ∷ ts) ≡ unclear_from (unclear_after u (unclear_for r k t) i) (next_of r k t (size_of c t)) (suc i) ts
  unfolding first_unclear unclear_after
  from_more zero k i t ts = go (unclear_for r k t)
    where
      go : (b : Bool) → pick b (suc i) (first_unclear c r (next_of r k t (size_of c t)) (suc i) ts)
          ≡ unclear_from (unclear_after zero b i) (next_of r k t (size_of c t)) (suc i) ts
      go true = refl
      go false = refl
  from_more (suc u) k i t ts = refl

  pub from_end : (u : ℕ) (k : Cursor) (i : ℕ) → unclear_from u k i [] ≡ u
  unfolding first_unclear
  from_end zero k i = refl
  from_end (suc u) k i = refl

  -- the first unclear one of the first arguments, or of those after them
  pub unclear-append : (k : Cursor) (i : ℕ) (ts us : List ValueType)
      → first_unclear c r k i (ts ++ us) ≡ unclear_from (first_unclear c r k i ts) (last_of c r k ts) (i + length ts) us
  unfolding first_unclear last_of
  unclear-append k i [] us = let same : i ≡ i + 0 = omega arith in ap (λ (j : ℕ). first_unclear c r k j us) same
  unclear-append k i (t ∷ ts) us = go (unclear_for r k t) (unclear-append (next_of r k t (size_of c t)) (suc i) ts us)
    where
      next : Cursor
      next = next_of r k t (size_of c t)

      go : (b : Bool)
          → first_unclear c r next (suc i) (ts ++ us) ≡ unclear_from (first_unclear c r next (suc i) ts) (last_of c r next ts) (suc i + length ts) us
          → pick b (suc i) (first_unclear c r next (suc i) (ts ++ us))
          ≡ unclear_from (pick b (suc i) (first_unclear c r next (suc i) ts)) (last_of c r next ts) (i + suc (length ts)) us
      go true e = refl
      go false e =
          let same : suc i + length ts ≡ i + suc (length ts) = omega arith in
          e ∙ ap (λ (j : ℕ). unclear_from (first_unclear c r next (suc i) ts) (last_of c r next ts) j us) same

  -- one argument more
  pub unclear-more : (k : Cursor) (i : ℕ) (ts : List ValueType) (t : ValueType)
      → first_unclear c r k i (ts ++ t ∷ []) ≡ unclear_after (first_unclear c r k i ts) (unclear_for r (last_of c r k ts) t) (i + length ts)
  unclear-more k i ts t =
      let u : ℕ = first_unclear c r k i ts in
      let d : Cursor = last_of c r k ts in
      unclear-append k i ts (t ∷ [])
      ∙ from_more u d (i + length ts) t []
      ∙ from_end (unclear_after u (unclear_for r d t) (i + length ts)) (next_of r d t (size_of c t)) (suc (i + length ts))

  -- rules that are clear everywhere have none
  pub none-unclear : always_clear r ≡ true → (k : Cursor) (i : ℕ) (ts : List ValueType) → first_unclear c r k i ts ≡ 0
  unfolding first_unclear
  none-unclear e k i [] = refl
  none-unclear e k i (t ∷ ts) = rw (always-clear r k t e) (none-unclear e (next_of r k t (size_of c t)) (suc i) ts)

-- the same argument from the same cursor
pub same-unclear : (r : CallRules) {u x : ℕ} {k l : Cursor} {t w : ValueType} {i j : ℕ} → u ≡ x → k ≡ l → t ≡ w → i ≡ j
    → unclear_after u (unclear_for r k t) i ≡ unclear_after x (unclear_for r l w) j
same-unclear r p q h e = cc

-- ---- the loop that looks for it

-- i arguments are looked at: u is their number, and k is the next one's cursor
pub record Clearing (c : Convention) (r : CallRules) (start : Cursor) (ts : List ValueType) (k : Cursor) (u i : ℕ) : Type 0 where
  pub v : ℕ
  pub within : i ≤ length ts
  pub rest : unclear_from c r u k i (drop i ts) ≡ first_unclear c r start 0 ts
  pub reached : Reached r k v i

pub clearing-start : (c : Convention) (r : CallRules) (hidden : Bool) (ts : List ValueType) → LawfulCalls r → Clearing c r (start_of r hidden) ts (start_of r hidden) 0 0
clearing-start c r hidden ts l = record { v = 0; within = omega arith; rest = refl; reached = reached-start r hidden l }

pub clearing-more : (c : Convention) (r : CallRules) (start : Cursor) (ts : List ValueType) (k : Cursor) (u i : ℕ) (t : ValueType)
    → LawfulCalls r → i < length ts → size_of c t ≤ 256 → drop i ts ≡ t ∷ drop (suc i) ts → Clearing c r start ts k u i
    → Clearing c r start ts (next_of r k t (size_of c t)) (unclear_after u (unclear_for r k t) i) (i + 1)
clearing-more c r start ts k u i t l h n d w =
    let rest : unclear_from c r u k i (t ∷ drop (suc i) ts) ≡ first_unclear c r start 0 ts = rw d at w.rest in
    record {
      v = w.v + size_of c t;
      within = omega arith;
      rest = rw add-one (sym (from_more c r u k i t (drop (suc i) ts)) ∙ rest);
      reached = reached-more r k w.v i t (size_of c t) l n w.reached;
    }

pub clearing-end : (c : Convention) (r : CallRules) (start : Cursor) (ts : List ValueType) (k : Cursor) (u i : ℕ)
    → length ts ≤ i → Clearing c r start ts k u i → u ≡ first_unclear c r start 0 ts
clearing-end c r start ts k u i l w =
    let none : drop i ts ≡ [] = drop_of_length-le ts l in
    let rest : unclear_from c r u k i [] ≡ first_unclear c r start 0 ts = rw none at w.rest in
    sym (from_end c r u k i) ∙ rest

-- ---- the reading of a call

unclear-same : (g : Signature) (next n : ℕ) → unclear_of (signature_answer (got g next n)) ≡ unclear_in g
unclear-same g next n =
    let c : Convention = g.convention in
    ap (first_unclear c (rules_of c) (start_in c (result_type c g.result)) 0) (table-types c g.arguments)

-- a call that is accepted is read as its signature is
pub called-got : (x : Reading Signature) (g : Signature) (next n : ℕ) → called x ≡ got g next n → x ≡ got g next n
unfolding called
called-got (got h m k) g next n e = go (unclear_in h) e
  where
    go : (u : ℕ) → clear_read u h m k ≡ got g next n → got h m k ≡ got g next n
    go zero q = q
    go (suc i) q = let z : ◌≡◌ {A = ℕ} 0 1 = cc in absurd (omega arith)
called-got (no f) g next n e = e

pub called-accepted : (x : Reading Signature) (n : ℕ) → (plan_answer (called x)).outcome ≡ Ok n → called x ≡ x
unfolding called plan_answer plan_in
called-accepted (got h m k) n e = go (unclear_in h) e
  where
    go : (u : ℕ) → (plan_answer (clear_read u h m k)).outcome ≡ Ok n → clear_read u h m k ≡ got h m k
    go zero q = refl
    go (suc i) q = let z : ◌≡◌ {A = ℕ} 0 1 = cc in absurd (omega arith)
called-accepted (no f) n e = refl

-- by what the reader answers
pub called-clear : (x : Reading Signature) → unclear_of (signature_answer x) ≡ 0 → called x ≡ x
unfolding called
called-clear (got g next n) e = rw (sym (unclear-same g next n) ∙ e)
called-clear (no f) e = refl

pub called-unclear : (x : Reading Signature) (i : ℕ) → unclear_of (signature_answer x) ≡ suc i → called x ≡ no (unclear_fault i x)
unfolding called first_unclear
called-unclear (got g next n) i e = rw (sym (unclear-same g next n) ∙ e)
called-unclear (no f) i e = let z : ◌≡◌ {A = ℕ} 0 1 = cc in absurd (omega arith)

pub called-refused : (x : Reading Signature) (f : Fault) → (signature_answer x).outcome ≡ Err f → called x ≡ no f
unfolding called
called-refused (got g next n) f e = let z : ◌≡◌ {A = ℕ} 0 1 = cc in absurd (omega arith)
called-refused (no f) g e = cc

-- ---- its plan

-- where no argument is unclear
pub clear-plan : (x : Reading Signature) (g : SignatureRead) → g ≡ signature_answer x → unclear_of g ≡ 0 → planned g ≡ plan_answer (called x)
clear-plan x g e u = ap planned e ∙ planned-answer x ∙ ap plan_answer (sym (called-clear x (sym (ap unclear_of e) ∙ u)))

-- where number i, counted from 0, is the first
pub unclear-plan : (x : Reading Signature) (g : SignatureRead) (i : ℕ) → g ≡ signature_answer x → unclear_of g ≡ suc i → refused_plan (unclear_fault i x) ≡ plan_answer (called x)
unfolding plan_answer
unclear-plan x g i e u = sym (ap plan_answer (called-unclear x i (sym (ap unclear_of e) ∙ u)))

-- ---- its sizes

pub measured-refused : (s : List ℕ) (f : Fault) → signature_of s ≡ no f → measure_of (refused_plan f) ≡ measure_of (plan_answer (call_of s))
unfolding called plan_answer
measured-refused s f q = rw q

pub measured-called : (x : Reading Signature) (m : Measured) (u : ℕ) → m ≡ measure_of (plan_answer x) → u ≡ unclear_of (signature_answer x)
    → measured_by u m x ≡ measure_of (plan_answer (called x))
unfolding measured_by
measured-called x m zero e q = e ∙ ap (λ (y : Reading Signature). measure_of (plan_answer y)) (sym (called-clear x (sym q)))
measured-called x m (suc i) e q = ap measure_of (unclear-plan x (signature_answer x) i refl (sym q))

pub unclear-measured : (u : ℕ) (m : Measured) (x : Reading Signature) → 0 < u → measure_of (refused_plan (unclear_fault (u - 1) x)) ≡ measured_by u m x
unfolding measured_by
unclear-measured zero m x h = absurd (omega arith)
unclear-measured (suc i) m x h = let same : suc i - 1 ≡ i = omega arith in rw same

-- ---- its outcome

pub clear-outcome : (x : Reading Signature) (g : SignatureRead) → g ≡ signature_answer x → unclear_of g ≡ 0 → g.outcome ≡ (plan_answer (called x)).outcome
clear-outcome x g e u =
    ap (λ (y : SignatureRead). y.outcome) e ∙ sym (outcome-read x) ∙ ap (λ (y : Reading Signature). (plan_answer y).outcome) (sym (called-clear x (sym (ap unclear_of e) ∙ u)))

pub unclear-outcome : (x : Reading Signature) (g : SignatureRead) (i : ℕ) → g ≡ signature_answer x → unclear_of g ≡ suc i
    → Err (unclear_fault i x) ≡ (plan_answer (called x)).outcome
unclear-outcome x g i e u = ap (λ (p : Plan). p.outcome) (unclear-plan x g i e u)

-- ---- its arguments

few : (x : Reading Signature) → (plan_answer x).count ≤ max_arguments → (plan_answer (called x)).count ≤ max_arguments
unfolding called plan_answer
few (got g next n) h = go (unclear_in g)
  where
    go : (u : ℕ) → (plan_answer (clear_read u g next n)).count ≤ max_arguments
    go zero = h
    go (suc i) = omega arith
few (no f) h = h

pub call-few : (s : List ℕ) → (plan_answer (call_of s)).count ≤ max_arguments
call-few s = few (signature_of s) (answer-few s)
