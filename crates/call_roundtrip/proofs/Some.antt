-- An accepted view is not empty. Assumes nothing.
use mathlib.Core.Path.{◌≡◌, refl, sym, subst}
use mathlib.Core.List.{List, [], ◌∷◌}
use Prim.Native.Nat.{ℕ, zero, suc, ◌<◌}
use native.Mathlib.Omega.{arith}
use lib.ListN.{get_or}
use Rattle.base_words.specs.Basics.{All}
use Rattle.base_conventions.specs.declared.Convention.{Convention}
use Rattle.sig_types.specs.declared.ValueType.{ValueType}
use Rattle.sig_types.specs.Sizes.{size_of}
use Rattle.sig_items.specs.Reading.{Reading, got, no}
use Rattle.sig_signatures.specs.Signature.{Signature}
use Rattle.sig_signatures.specs.Read.{signature_of}
use Rattle.sig_signatures.specs.Answer.{signature_answer, result_type}
use Rattle.sig_signatures.proofs.Theorems.{accepted}
use Rattle.sig_signatures.specs.Types.{types_of}
use Rattle.plan_places.specs.declared.Cursor.{Cursor}
use Rattle.plan_places.specs.declared.CallRules.{CallRules}
use Rattle.plan_places.specs.Step.{rules_of, with_ellipsis, next_of}
use Rattle.plan_plans.specs.Plan.{spans_of, start_in, plan_answer}
use Rattle.call_slots.specs.Placements.{Placement, placements}
use Rattle.call_slots.specs.Arguments.{placements_in, arguments_of}
use Rattle.call_slots.proofs.Answered.{arguments-got}
use Rattle.call_slots.proofs.Typed.{Typed, all_typed}
use Rattle.call_roundtrip.specs.Views.{ViewSome}
use Rattle.call_views.specs.View.{view_part, no_argument}

abbrev Some : Placement → Type 0
Some p = 0 < p.size

all-some : (c : Convention) (r : CallRules) (k : Cursor) (ts : List ValueType) → All (Typed c) ts → All Some (placements c ts (spans_of c r k ts))
unfolding placements spans_of All
all-some c r k [] h = tt
all-some c r k (t ∷ ts) h = (h.0.sized.some, all-some c r (next_of r k t (size_of c t)) ts h.1)

none-some : All Some []
unfolding All
none-some = tt

arguments-some : (s : List ℕ) → All Some (arguments_of s)
unfolding arguments_of placements_in placements
arguments-some s = go (signature_of s) refl
  where
    go : (x : Reading Signature) → signature_of s ≡ x → All Some (placements_in (signature_answer x) (plan_answer x))
    go (got g next n) e =
        subst (All Some) (sym (arguments-got g next n))
        (all-some g.convention (with_ellipsis g.ellipsis (rules_of g.convention)) (start_in g.convention (result_type g.convention g.result)) (types_of g.convention g.arguments)
        (all_typed g.convention g.arguments (accepted s g next n e).arguments))
    go (no f) e = none-some

at_some : (ps : List Placement) (i : ℕ) → All Some ps → 0 < (get_or ps i no_argument).size
unfolding All
at_some [] i h = omega arith
at_some (p ∷ ps) zero h = h.0
at_some (p ∷ ps) (suc i) h = at_some ps i h.1

pub view-some : ViewSome
unfolding view_part
view-some s have index e = rw e (at_some (arguments_of s) index (arguments-some s))
