-- What is proved of stored plans (specs/Exact.antt states it). Assumes nothing.
use mathlib.Core.Path.{◌≡◌, refl, sym, ap, ap₂, subst, ◌∙◌}
use mathlib.Core.Bool.{Bool, true, false}
use mathlib.Core.List.{List, [], ◌∷◌, ◌++◌}
use Prim.Native.Nat.{ℕ, zero, suc, ◌+◌, ◌/◌, ◌%◌, ◌≤◌, ◌<◌, max}
use native.Mathlib.Omega.{arith}
use borrow.Author.Tests.{eq-eqb, ne_eqb, eqb-true, eqb-false, ltb-false}
use lib.Dec.{ltb, eqb}
use lib.ListN.{length, get_or, set, take, drop, length-append}
use lib.Seq.{take_at, drop_at}
use Rattle.base_words.specs.Basics.{pick}
use Rattle.base_words.specs.Splice.{overlay}
use Rattle.base_words.proofs.Splices.{overlay-is}
use Rattle.sig_items.specs.declared.Fault.{Fault}
use Rattle.sig_items.specs.Encode.{item}
use Rattle.plan_plans.specs.Call.{outcome_for}
use Rattle.plan_stored.specs.declared.StoreRefusal.{StoreRefusal}
use Rattle.std.proofs.Common.{Option, Some, None, Result, Ok, Err}
use Rattle.plan_stored.specs.Stored.{plan_bytes, stored_of, store_by, store_answer, buffer_by, stored_buffer, alike, compared, check_by, check_answer}
use Rattle.plan_stored.specs.Exact.{Accepts, ChecksExactly, WrittenIsFresh, FormsApart, OthersStale, FirstDifference, DiffersFirst, ChangeFound, CutFound, ExtensionFound}
use Rattle.plan_stored.proofs.Alike.{alike-left, alike_right, compared-long, compared-short, compared-all}

-- ---- comparing

alike_self : (xs : List ℕ) → alike xs xs ≡ length xs
unfolding alike
alike_self [] = refl
alike_self (x ∷ xs) = rw (eq-eqb x x refl) (ap suc (alike_self xs))

compared-self : (xs : List ℕ) → compared xs xs ≡ Ok None
compared-self xs = let n = alike_self xs in sym (compared-all xs xs (length xs) (sym n) (omega arith) (omega arith))

-- the bytes in common are the same
take-alike : (xs ys : List ℕ) → take (alike xs ys) xs ≡ take (alike xs ys) ys
unfolding alike
take-alike [] ys = refl
take-alike (x ∷ xs) [] = refl
take-alike (x ∷ xs) (y ∷ ys) = go (eqb x y) refl (take-alike xs ys)
  where
    go : (b : Bool) → eqb x y ≡ b → take (alike xs ys) xs ≡ take (alike xs ys) ys
        → take (pick b (suc (alike xs ys)) 0) (x ∷ xs) ≡ take (pick b (suc (alike xs ys)) 0) (y ∷ ys)
    go true q more = ap₂ (λ (a : ℕ) (l : List ℕ). a ∷ l) (eqb-true x y q) more
    go false q more = refl

-- lists that go on alike past what they have in common are the same
alike-ends : (xs ys : List ℕ) → take 1 (drop (alike xs ys) xs) ≡ take 1 (drop (alike xs ys) ys) → xs ≡ ys
unfolding alike
alike-ends [] [] h = refl
alike-ends [] (y ∷ ys) h = let z : ◌≡◌ {A = ℕ} 0 1 = ap length h in absurd (omega arith)
alike-ends (x ∷ xs) [] h = let z : ◌≡◌ {A = ℕ} 1 0 = ap length h in absurd (omega arith)
alike-ends (x ∷ xs) (y ∷ ys) h = go (eqb x y) refl h (alike-ends xs ys)
  where
    go : (b : Bool) → eqb x y ≡ b → take 1 (drop (pick b (suc (alike xs ys)) 0) (x ∷ xs)) ≡ take 1 (drop (pick b (suc (alike xs ys)) 0) (y ∷ ys))
        → (take 1 (drop (alike xs ys) xs) ≡ take 1 (drop (alike xs ys) ys) → xs ≡ ys) → x ∷ xs ≡ y ∷ ys
    go true q e more = ap₂ (λ (a : ℕ) (l : List ℕ). a ∷ l) (eqb-true x y q) (more e)
    go false q e more = absurd (eqb-false x y q (ap (λ (l : List ℕ). get_or l 0 0) e))

different : (i : ℕ) → ◌≡◌ {A = Result (Option ℕ) Fault} (Ok (Some i)) (Ok None) → ⊥
different i e = let z : ◌≡◌ {A = ℕ} 0 1 = cc in omega arith

-- both ends of what they have in common: nothing is left of either
all_alike : (xs ys : List ℕ) → alike xs ys ≡ max (length xs) (length ys) → xs ≡ ys
unfolding alike
all_alike [] [] h = refl
all_alike [] (y ∷ ys) h = absurd (omega arith)
all_alike (x ∷ xs) [] h = absurd (omega arith)
all_alike (x ∷ xs) (y ∷ ys) h = go (eqb x y) refl h (all_alike xs ys)
  where
    go : (b : Bool) → eqb x y ≡ b → pick b (suc (alike xs ys)) 0 ≡ max (suc (length xs)) (suc (length ys))
        → (alike xs ys ≡ max (length xs) (length ys) → xs ≡ ys) → x ∷ xs ≡ y ∷ ys
    go true q e more = ap₂ (λ (a : ℕ) (l : List ℕ). a ∷ l) (eqb-true x y q) (more (omega arith))
    go false q e more = absurd (omega arith)

same-compared : (xs ys : List ℕ) → compared xs ys ≡ Ok None → xs ≡ ys
unfolding compared
same-compared xs ys = go (eqb (alike xs ys) (max (length xs) (length ys))) refl
  where
    go : (b : Bool) → eqb (alike xs ys) (max (length xs) (length ys)) ≡ b → ◌≡◌ {A = Result (Option ℕ) Fault} (pick b (Ok None) (Ok (Some (alike xs ys)))) (Ok None) → xs ≡ ys
    go true q e = all_alike xs ys (eqb-true (alike xs ys) (max (length xs) (length ys)) q)
    go false q e = absurd (different (alike xs ys) e)

differs_at : (xs ys : List ℕ) (i : ℕ) → compared xs ys ≡ Ok (Some i) → alike xs ys ≡ i
unfolding compared
differs_at xs ys i = go (eqb (alike xs ys) (max (length xs) (length ys)))
  where
    go : (b : Bool) → ◌≡◌ {A = Result (Option ℕ) Fault} (pick b (Ok None) (Ok (Some (alike xs ys)))) (Ok (Some i)) → alike xs ys ≡ i
    go true e = absurd (different i (sym e))
    go false e = cc

compared-other : (xs ys : List ℕ) → (xs ≡ ys → ⊥) → compared xs ys ≡ Ok (Some (alike xs ys))
unfolding compared
compared-other xs ys other = rw (ne_eqb (alike xs ys) (max (length xs) (length ys)) (λ e. other (all_alike xs ys e)))

-- ---- the check

accepted-check : (stored s : List ℕ) → Accepts s → check_answer stored s ≡ compared stored (stored_of s)
unfolding check_answer
accepted-check stored s a = rw a.outcome

by-outcome : (o : Result ℕ Fault) (stored t s : List ℕ) → outcome_for s ≡ o → check_by o stored t ≡ Ok None → Accepts s × (stored ≡ t)
by-outcome (Ok k) stored t s e h = (record { items = k; outcome = e }, same-compared stored t h)
by-outcome (Err f) stored t s e h = let z : ◌≡◌ {A = ℕ} 0 1 = cc in absurd (omega arith)

refused-by : (o : Result ℕ Fault) (stored t : List ℕ) (f : Fault) → check_by o stored t ≡ Err f → o ≡ Err f
unfolding compared
refused-by (Ok k) stored t f h = absurd (go (eqb (alike stored t) (max (length stored) (length t))) h)
  where
    go : (b : Bool) → pick b (Ok None) (Ok (Some (alike stored t))) ≡ Err f → ⊥
    go true e = let z : ◌≡◌ {A = ℕ} 0 1 = cc in omega arith
    go false e = let z : ◌≡◌ {A = ℕ} 0 1 = cc in omega arith
refused-by (Err g) stored t f h = cc

-- a refusal other than 27 is the call's own
pub refused-check : (stored s : List ℕ) (f : Fault) → check_answer stored s ≡ Err f → outcome_for s ≡ Err f
unfolding check_answer
refused-check stored s f h = refused-by (outcome_for s) stored (stored_of s) f h

pub checks-exactly : ChecksExactly
unfolding check_answer
checks-exactly stored s = record {
  only = λ h. by-outcome (outcome_for s) stored (stored_of s) s refl h;
  all = λ a e. rw (a.outcome, e) (compared-self (stored_of s));
}

-- ---- what was written

written-by : (o : Result ℕ Fault) (t buffer : List ℕ) (n : ℕ) → store_by o (length t) (length buffer) ≡ Ok n
    → (n ≡ length t) × (buffer_by o t buffer ≡ t ++ drop (length t) buffer)
written-by (Ok k) t buffer n h = go (ltb (length buffer) (length t)) refl h
  where
    go : (b : Bool) → ltb (length buffer) (length t) ≡ b → pick b (Err StoreRefusal.TooShort) (Ok (length t)) ≡ Ok n
        → (n ≡ length t) × (pick b buffer (overlay buffer t) ≡ t ++ drop (length t) buffer)
    go true q e = let z : ◌≡◌ {A = ℕ} 0 1 = cc in absurd (omega arith)
    go false q e = let same : n ≡ length t = cc in (same, overlay-is buffer t (ltb-false (length buffer) (length t) q))
written-by (Err f) t buffer n h = let z : ◌≡◌ {A = ℕ} 0 1 = cc in absurd (omega arith)

accepted-by : (o : Result ℕ Fault) (s : List ℕ) (m room n : ℕ) → outcome_for s ≡ o → store_by o m room ≡ Ok n → Accepts s
accepted-by (Ok k) s m room n e h = record { items = k; outcome = e }
accepted-by (Err f) s m room n e h = let z : ◌≡◌ {A = ℕ} 0 1 = cc in absurd (omega arith)

pub written-is-fresh : WrittenIsFresh
unfolding store_answer stored_buffer
written-is-fresh s buffer n h =
    let t : List ℕ = stored_of s in
    let w = written-by (outcome_for s) t buffer n h in
    let bytes : take n (stored_buffer s buffer) ≡ t = ap₂ take w.0 w.1 ∙ take_at t (drop (length t) buffer) (length t) refl in
    record {
      bytes = bytes;
      fresh = (checks-exactly (take n (stored_buffer s buffer)) s).all (accepted-by (outcome_for s) s (length t) (length buffer) n refl h) bytes;
      past = ap₂ drop w.0 w.1 ∙ drop_at t (drop (length t) buffer) (length t) refl ∙ ap (λ (m : ℕ). drop m buffer) (sym w.0);
    }

-- ---- no other signature has a plan's form: the first item alone tells them apart

items-apart : (tag : ℕ) (s u r q : List ℕ) → item tag s ++ r ≡ item tag u ++ q → s ≡ u
unfolding item
items-apart tag s u r q e =
    let high : length s / 256 ≡ length u / 256 = ap (λ (l : List ℕ). get_or l 1 0) e in
    let low : length s % 256 ≡ length u % 256 = ap (λ (l : List ℕ). get_or l 2 0) e in
    let same : length u ≡ length s = omega arith in
    let rest : s ++ r ≡ u ++ q = ap (drop 3) e in
    sym (take_at s r (length s) refl) ∙ ap (take (length s)) rest ∙ take_at u q (length s) same

pub forms-apart : FormsApart
unfolding stored_of plan_bytes
forms-apart s u e = items-apart 0x20 s u _ _ e

pub others-stale : OthersStale
others-stale s u other a = accepted-check (stored_of s) u a ∙ compared-other (stored_of s) (stored_of u) (λ e. other (forms-apart s u e))

-- ---- 27's place

first_by : (o : Result ℕ Fault) (stored t : List ℕ) (i : ℕ) → check_by o stored t ≡ Ok (Some i) → FirstDifference stored t i
first_by (Ok k) stored t i h =
    let at = differs_at stored t i h in
    let left = alike-left stored t in
    let right = alike_right stored t in
    record {
      same = subst (λ (n : ℕ). take n stored ≡ take n t) at (take-alike stored t);
      within = omega (arith, at, left);
      inside = omega (arith, at, right);
      differ = λ e.
          let same : stored ≡ t = alike-ends stored t (subst (λ (n : ℕ). take 1 (drop n stored) ≡ take 1 (drop n t)) (sym at) e) in
          different i (sym h ∙ ap (λ (l : List ℕ). compared l t) same ∙ compared-self t);
    }
first_by (Err f) stored t i h = let z : ◌≡◌ {A = ℕ} 0 1 = cc in absurd (omega arith)

pub differs-first : DiffersFirst
unfolding check_answer
differs-first stored s i h = first_by (outcome_for s) stored (stored_of s) i h

alike_set : (t : List ℕ) (i b : ℕ) → i < length t → (b ≡ get_or t i 0 → ⊥) → alike (set t i b) t ≡ i
unfolding alike
alike_set [] i b h other = absurd (omega arith)
alike_set (x ∷ t) zero b h other = rw (ne_eqb b x other)
alike_set (x ∷ t) (suc i) b h other = rw (eq-eqb x x refl) (ap suc (alike_set t i b (omega arith) other))

pub change-found : ChangeFound
change-found s i b a h other =
    let t : List ℕ = stored_of s in
    accepted-check (set t i b) s a ∙ sym (compared-short (set t i b) t i (sym (alike_set t i b h other)) h)

alike-take : (t : List ℕ) (n : ℕ) → n ≤ length t → alike (take n t) t ≡ n
unfolding alike
alike-take t zero h = refl
alike-take [] (suc n) h = absurd (omega arith)
alike-take (x ∷ t) (suc n) h = rw (eq-eqb x x refl) (ap suc (alike-take t n (omega arith)))

pub cut-found : CutFound
cut-found s n a h =
    let t : List ℕ = stored_of s in
    accepted-check (take n t) s a ∙ sym (compared-short (take n t) t n (sym (alike-take t n (omega arith))) h)

alike-more : (t more : List ℕ) → alike (t ++ more) t ≡ length t
unfolding alike
alike-more [] [] = refl
alike-more [] (y ∷ more) = refl
alike-more (x ∷ t) more = rw (eq-eqb x x refl) (ap suc (alike-more t more))

some : (l : List ℕ) → (l ≡ [] → ⊥) → 0 < length l
some [] h = absurd (h refl)
some (x ∷ l) h = omega arith

pub extension-found : ExtensionFound
extension-found s more a other =
    let t : List ℕ = stored_of s in
    let longer = length-append t more in
    accepted-check (t ++ more) s a ∙ sym (compared-long (t ++ more) t (length t) (sym (alike-more t more)) (omega (arith, longer, some more other)))
