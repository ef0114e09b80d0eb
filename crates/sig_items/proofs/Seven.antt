-- No type item and no struct's body gives refusal 7 (specs/Seven.antt states it): each item of a body moves on, so that the body's end is
-- met before its length in items. Assumes nothing.
use Rattle.sig_types.specs.Codes.{integer_code, float_code}
use Rattle.sig_types.specs.declared.IntegerKind.{IntegerKind}
use Rattle.sig_types.specs.declared.UnknownCode.{UnknownCode}
use Rattle.std.proofs.Common.{Ok, Err, Result}
use Prim.Native.Nat.{ℕ, zero, suc, ◌+◌, ◌-◌, ◌≤◌, ◌<◌}
use mathlib.Core.Bool.{Bool}
use mathlib.Core.List.{List}
use lib.ListN.{get_or}
use lib.Dec.{ltb, eqb}
use native.Mathlib.Omega.{arith}
use borrow.Author.Tests.{ltb-true}
use Rattle.base_words.proofs.Tests.{by-pick}
use Rattle.base_conventions.specs.declared.Convention.{Convention}
use Rattle.sig_types.specs.declared.FloatFormat.{FloatFormat}
use Rattle.sig_types.specs.Sizes.{lacks_float}
use Rattle.sig_types.specs.Structs.{shape_of, too_large}
use Rattle.sig_types.specs.Trees.{Tree, Trees, none, ◌▸◌, fields_of}
use Rattle.sig_items.specs.Reading.{Reading, got, no, later_reading, and_then, in_body}
use Rattle.sig_items.specs.Refusals.{refusal_number}
use Rattle.sig_items.specs.Read.{integer_by, integer_at, float_of, float_by, float_at, sequence, sized_at, contents_at, by_tag, item_by, struct_at, item_at}
use Rattle.sig_items.specs.Seven.{Other, NotSeven, ItemsNotSeven, StructsNotSeven}
use Rattle.sig_items.proofs.Sound.{Got, Read, by-choose, item-sound, body-cases}
use Rattle.sig_items.proofs.Trees.{tree-long}

-- ---- the parts of an item

integer-not-seven : (s : List ℕ) (at b : ℕ) → NotSeven (integer_at s at b)
unfolding integer_at
integer-not-seven s at b = by-pick NotSeven (eqb b (at + 4)) _ _ (λ _. go (integer_code (get_or s (at + 3) 0))) (λ _ q. omega arith)
  where
    go : (x : Result IntegerKind UnknownCode) → NotSeven (integer_by x at b)
    go (Ok k) = λ q. omega arith
    go (Err _) = λ q. omega arith

carried-not-seven : (c : Convention) (f : FloatFormat) (inside : Bool) (at b : ℕ) → NotSeven (float_of c f inside at b)
unfolding float_of
carried-not-seven c f inside at b = by-pick NotSeven (lacks_float c inside f) _ _ (λ _ q. omega arith) (λ _ q. omega arith)

float-not-seven : (c : Convention) (s : List ℕ) (inside : Bool) (at b : ℕ) → NotSeven (float_at c s inside at b)
unfolding float_at
float-not-seven c s inside at b = by-pick NotSeven (eqb b (at + 4)) _ _ (λ _. go (float_code (get_or s (at + 3) 0))) (λ _ q. omega arith)
  where
    go : (x : Result FloatFormat UnknownCode) → NotSeven (float_by c x inside at b)
    go (Ok FloatFormat.Single) = carried-not-seven c FloatFormat.Single inside at b
    go (Ok FloatFormat.Double) = carried-not-seven c FloatFormat.Double inside at b
    go (Ok FloatFormat.LongDouble) = by-pick NotSeven inside _ _ (λ _ q. omega arith) (λ _. carried-not-seven c FloatFormat.LongDouble inside at b)
    go (Err _) = λ q. omega arith

-- ---- a sequence whose limit is not less than its bytes

-- an item at `at` that moves on, or that 7 does not refuse
abbrev Moves : ℕ → Reading Tree → Type 0
Moves at (got t next n) = at < next
Moves at (no f) = Other (refusal_number f.reason)

moves-after : (at n : ℕ) (x : Reading Tree) → Moves at x → Moves at (later_reading n x)
moves-after at n (got t next m) h = h
moves-after at n (no f) h = h

then-not-seven : (at : ℕ) (x : Reading Tree) (g : Tree → ℕ → ℕ → Reading Trees) → Moves at x → ((t : Tree) (onward m : ℕ) → at < onward → NotSeven (g t onward m)) → NotSeven (and_then x g)
then-not-seven at (got t onward m) g on h = h t onward m on
then-not-seven at (no f) g other h = other

module _ (item : ℕ → Reading Tree) (b : ℕ) (moves : (k : ℕ) → Moves k (item k)) where
  sequence-not-seven : (most next n : ℕ) (ts : Trees) → b ≤ next + most → NotSeven (sequence item b most next n ts)
  unfolding sequence
  sequence-not-seven zero next n ts room = by-pick NotSeven (ltb next b) _ _ (λ q _. omega (arith, ltb-true next b q)) (λ _ q. omega arith)
  sequence-not-seven (suc most) next n ts room =
      by-choose NotSeven (ltb next b) _ _ (λ _. then-not-seven next (later_reading n (item next)) _ (moves-after next n (item next) (moves next)) (λ t onward m on. sequence-not-seven most onward m (ts ▸ t) (omega arith))) (λ _ q. omega arith)

  contents-not-seven : (c : Convention) (at : ℕ) → NotSeven (contents_at c item at b)
  unfolding contents_at sized_at
  contents-not-seven c at =
      by-choose NotSeven (eqb b (at + 3)) _ _ (λ _ q. omega arith)
      (λ _. go (sequence item b (b - (at + 3)) (at + 3) 1 none) (sequence-not-seven (b - (at + 3)) (at + 3) 1 none (omega arith)))
    where
      go : (x : Reading Trees) → NotSeven x → NotSeven (and_then x (λ ts next n. sized_at c at b n ts))
      go (got ts next n) h = by-pick NotSeven (too_large (shape_of (fields_of c ts))) _ _ (λ _ q. omega arith) (λ _ q. omega arith)
      go (no f) h = h

-- ---- items in items

item-by-not-seven : (c : Convention) (structure : ℕ → ℕ → Reading Tree) (inside : Bool) (s : List ℕ) (e at : ℕ) → ((b : ℕ) → NotSeven (structure at b))
    → NotSeven (item_by c structure inside s e at)
unfolding item_by
item-by-not-seven c structure inside s e at h =
    body-cases (λ x. NotSeven (in_body x at (λ b. by_tag (get_or s at 0) (integer_at s at b) (float_at c s inside at b) (λ _. structure at b)))) s 0x10 0x12 e at
    (λ q. omega arith) (λ q. omega arith)
    (λ b _. by-choose NotSeven (eqb (get_or s at 0) 0x10) _ _ (λ _. integer-not-seven s at b)
    (λ _. by-choose NotSeven (eqb (get_or s at 0) 0x11) _ _ (λ _. float-not-seven c s inside at b) (λ _. h b)))

-- what an item was read from has its header's length at least
moves : (c : Convention) (d : ℕ) (s : List ℕ) (e at : ℕ) (x : Reading Tree) → NotSeven x → Got (Read c d s e at) x → Moves at x
moves c d s e at (got t next n) h r = omega (arith, r.ends, tree-long t)
moves c d s e at (no f) h r = h

pub structs-not-seven : StructsNotSeven
unfolding struct_at item_at
structs-not-seven c zero s at b = λ q. omega arith
structs-not-seven c (suc d) s at b =
    contents-not-seven (item_at c d s b) b
    (λ k. moves c d s b k (item_at c d s b k) (item-by-not-seven c (struct_at c d s) (ltb d 8) s b k (λ b'. structs-not-seven c d s k b')) (item-sound c d s b k))
    c at

pub items-not-seven : ItemsNotSeven
unfolding item_at
items-not-seven c d s e at = item-by-not-seven c (struct_at c d s) (ltb d 8) s e at (λ b. structs-not-seven c d s at b)
