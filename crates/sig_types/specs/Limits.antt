-- The types that a signature may have: document 01's refusals 4 (empty struct), 5, 6, 8 and 25, said of the tree.
-- Assumes nothing.
use Rattle.std.specs.Prelude.{ℕ, ◌+◌, ◌≤◌, max, ◌≡◌, Bool, true, false}
use Rattle.base_conventions.specs.declared.Convention.{Convention}
use Rattle.sig_types.specs.declared.FloatFormat.{FloatFormat}
use Rattle.sig_types.specs.Sizes.{size_of, lacks_float, Sized, max_size, max_depth}
use Rattle.sig_types.specs.Trees.{Tree, Trees, integer, float, struct, none, ◌▸◌, type_of}

-- how deep structs stand in each other: "an argument or result struct has depth 1"
unfoldable mutual
  pub depth_of : Tree → ℕ
  depth_of (integer k) = 0
  depth_of (float f) = 0
  depth_of (struct ts) = 1 + depth_in ts

  pub depth_in : Trees → ℕ
  depth_in none = 0
  depth_in (ts ▸ t) = max (depth_in ts) (depth_of t)

-- 5: no "long double inside a struct"
abbrev pub FloatFits : Bool → FloatFormat → Type 0
FloatFits true FloatFormat.LongDouble = ⊥
FloatFits true FloatFormat.Single = Unit {0}
FloatFits true FloatFormat.Double = Unit {0}
FloatFits false f = Unit {0}

-- 4: no "empty struct"
abbrev pub Some : Trees → Type 0
Some none = ⊥
Some (ts ▸ t) = Unit {0}

-- 25: no float that the convention has not, and 8: no "struct size over 256"; `inside` a struct or not
unfoldable mutual
  pub Fits : Convention → Bool → Tree → Type 0
  Fits c inside (integer k) = Unit {0}
  Fits c inside (float f) = FloatFits inside f × (lacks_float c inside f ≡ false)
  Fits c inside (struct ts) = Some ts × AllFit c ts × (size_of c (type_of c (struct ts)) ≤ max_size)

  -- each field of a struct
  pub AllFit : Convention → Trees → Type 0
  AllFit c none = Unit {0}
  AllFit c (ts ▸ t) = AllFit c ts × Fits c true t

-- a result's or an argument's type within the limits; 6: no "struct depth over 8"
pub record TypeWithin (c : Convention) (t : Tree) : Type 0 where
  pub depth : depth_of t ≤ max_depth
  pub fits : Fits c false t

-- and each of several
unfoldable pub AllWithin : Convention → Trees → Type 0
AllWithin c none = Unit {0}
AllWithin c (ts ▸ t) = AllWithin c ts × TypeWithin c t

-- each type has a size of 1 to 256 bytes and an alignment of 1 to 16
unfoldable pub AllSized : Convention → Trees → Type 0
AllSized c none = Unit {0}
AllSized c (ts ▸ t) = AllSized c ts × Sized c (type_of c t)
