-- The loop that measures where nobody asks for an unclear argument, and that there is none where the rules are always clear. Assumes nothing.
use Rattle.sig_items.specs.declared.Item.{Item}
use Rattle.sig_items.specs.declared.Fault.{Fault}
use Rattle.std.proofs.Common.{Result, Option}
use mathlib.Core.Path.{◌≡◌, refl}
use mathlib.Core.Bool.{Bool, true, false}
use mathlib.Core.List.{List}
use Prim.Native.Nat.{ℕ, ◌+◌, ◌<◌}
use lib.Dec.{ltb}
use Rattle.base_words.specs.Basics.{pick}
use Rattle.base_conventions.specs.declared.Convention.{Convention}
use Rattle.sig_types.specs.declared.ValueType.{ValueType}
use Rattle.sig_types.specs.Sizes.{size_of}
use Rattle.sig_types.specs.Trees.{Trees}
use Rattle.sig_items.specs.Reading.{Reading, got, no}
use Rattle.sig_items.specs.Read.{item_at}
use Rattle.sig_items.specs.Answer.{item_answer, item_found}
use Rattle.sig_signatures.specs.Limits.{max_arguments}
use Rattle.sig_signatures.specs.Signature.{Signature}
use Rattle.sig_signatures.specs.Types.{types_of}
use Rattle.plan_places.specs.declared.Cursor.{Cursor}
use Rattle.plan_places.specs.declared.CallRules.{CallRules}
use Rattle.plan_places.specs.Step.{rules_of, next_of}
use Rattle.plan_places.specs.Helpers.{LawfulCalls, always_clear}
use Rattle.plan_plans.specs.declared.Measured.{Measured}
use Rattle.plan_plans.specs.Plan.{start_in}
use Rattle.plan_plans.specs.Call.{first_unclear}
use Rattle.plan_plans.specs.Helpers.{unclear_with, measured_by}
use Rattle.plan_plans.proofs.Calls.{none-unclear}
use Rattle.plan_plans.proofs.Measures.{Measuring, measuring-more}

module _ (c : Convention) (s : List ℕ) (at e : ℕ) (r : CallRules) (start : Cursor) where
  -- as `Measuring`, with some first unclear argument
  abbrev pub Sizing : Cursor → ℕ → ℕ → ℕ → ℕ → Type 0
  Sizing k v count next n = (u : ℕ) × Measuring c s at e r start k v u count next n

  pub sizing-more : (k : Cursor) (v count next n : ℕ) → Sizing k v count next n → LawfulCalls r → next < e → (count ≡ max_arguments → ⊥) →
      (x : Result Item Fault) → x ≡ item_answer c (item_at c 8 s e next) → (t : ValueType) (after j : ℕ) → x ≡ item_found t after j →
      Sizing (next_of r k t (size_of c t)) (v + size_of c t) (count + 1) after (n + j)
  sizing-more k v count next n (u, m) l h some x found t after j q = (_, measuring-more c s at e r start k v u count next n m l h some x found t after j q)

-- rules that are always clear have no unclear argument
none-with : (c : Convention) (r : Option ValueType) (all : ℕ) (x : Reading Trees) → always_clear (rules_of c) ≡ true → unclear_with c r all x ≡ 0
none-with c r all (got ts next m) e = go (ltb next all)
  where
    go : (more : Bool) → pick more 0 (first_unclear c (rules_of c) (start_in c r) 0 (types_of c ts)) ≡ 0
    go true = refl
    go false = none-unclear c (rules_of c) e (start_in c r) 0 (types_of c ts)
none-with c r all (no f) e = refl

-- so that the sizes by the reading alone are the call's
pub measured-clear : (c : Convention) (r : Option ValueType) (all : ℕ) (x : Reading Trees) (m : Measured) (y : Reading Signature) →
    always_clear (rules_of c) ≡ true → m ≡ measured_by (unclear_with c r all x) m y
unfolding measured_by
measured-clear c r all x m y e = rw (none-with c r all x e) refl

pub same-measured : (y : Reading Signature) {u w : ℕ} {m p : Measured} → u ≡ w → m ≡ p → measured_by u m y ≡ measured_by w p y
same-measured y e q = cc
