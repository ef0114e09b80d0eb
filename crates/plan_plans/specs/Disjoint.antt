-- What is proved of every plan, whatever bytes it was asked of: each argument's places are its own, and all, the hidden address's
-- too, lie within the registers, the parameter area and the copies. proofs/Theorems.antt proves it. Assumes nothing.
use Rattle.std.specs.Prelude.{ℕ, ◌+◌, ◌≤◌, ◌<◌, ◌≡◌, get_or, Ok}
use Rattle.base_conventions.specs.Numbers.{least_area}
use Rattle.sig_items.specs.Reading.{Reading}
use Rattle.sig_signatures.specs.Signature.{Signature}
use Rattle.plan_places.specs.declared.Span.{Span}
use Rattle.plan_places.specs.declared.ResultPlaces.{ResultPlaces}
use Rattle.plan_places.specs.Step.{rules_of}
use Rattle.plan_places.specs.Places.{Numbered}
use Rattle.plan_places.specs.Spots.{Spot, area, copies, Owns, image_spot, ArgumentRegister}
use Rattle.plan_plans.specs.declared.Plan.{Plan}
use Rattle.plan_plans.specs.Plan.{no_span, plan_answer}

-- the span of argument i
abbrev pub span_at : Plan → ℕ → Span
span_at p i = get_or p.spans i no_span

-- no register and no byte belongs to two arguments, or to an argument and a hidden address
pub record Disjoint (p : Plan) : Type 0 where
  pub apart : (i j : ℕ) (x : Spot) → (i ≡ j → ⊥) → Owns (span_at p i) x → Owns (span_at p j) x → ⊥
  pub image : (i j b : ℕ) → (i ≡ j → ⊥) → Owns (span_at p i) (image_spot b) → Owns (span_at p j) (image_spot b) → ⊥
  pub hidden : (s : Span) (i : ℕ) (x : Spot) → p.result ≡ ResultPlaces.Hidden s → Owns s x → Owns (span_at p i) x → ⊥

abbrev pub PlansDisjoint : Type 0
PlansDisjoint = (x : Reading Signature) → Disjoint (plan_answer x)

-- a span has registers that the convention names for arguments, of the image's 32 in each bank; its home and its copy lie within
-- the area and the copies, and what is in memory within its home
pub record SpanWithin (p : Plan) (s : Span) : Type 0 where
  pub registers : (x : Spot) → Owns s x → ArgumentRegister (rules_of p.convention) x
  pub numbered : Numbered s
  pub area : (n : ℕ) → Owns s (area n) → n < p.area
  pub copies : (n : ℕ) → Owns s (copies n) → n < p.copies
  pub memory-from : s.home.start ≤ s.memory.start
  pub memory-to : s.memory.start + s.memory.length ≤ s.home.start + s.home.length

-- so do the span of each argument, and that of a hidden address
pub record PlanWithin (p : Plan) : Type 0 where
  pub arguments : (i : ℕ) → SpanWithin p (span_at p i)
  pub hidden : (s : Span) → p.result ≡ ResultPlaces.Hidden s → SpanWithin p s
  -- "8 times the larger of 8 and the final w": the area is never less than the convention's least
  pub least : (n : ℕ) → p.outcome ≡ Ok n → least_area p.convention ≤ p.area

abbrev pub PlansWithin : Type 0
PlansWithin = (x : Reading Signature) → PlanWithin (plan_answer x)
