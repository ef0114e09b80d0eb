-- A type that is equivalent to a float has that float's size, whatever the signature. Assumes nothing.
-- ---- one type
use mathlib.Core.Path.{◌≡◌, refl}
use mathlib.Core.Bool.{Bool, true, false}
use Prim.Native.Nat.{ℕ, ◌+◌, max}
use native.Mathlib.Omega.{arith}
use Rattle.base_words.specs.Basics.{round_up, All}
use Rattle.base_conventions.specs.declared.Convention.{Convention}
use Rattle.sig_types.specs.declared.FloatFormat.{FloatFormat}
use Rattle.sig_types.specs.declared.Equivalent.{Equivalent}
use Rattle.sig_types.specs.declared.ValueType.{ValueType}
use Rattle.sig_types.specs.declared.Fields.{Fields}
use Rattle.sig_types.specs.Sizes.{size_of, align_of, equivalent_of, Sized}
use Rattle.sig_types.specs.Structs.{with_field, equivalent_after, shape_of}
use Rattle.sig_types.specs.Trees.{Tree, Trees, integer, float, struct, none, ◌▸◌, type_of, fields_of}
use Rattle.sig_types.specs.Limits.{AllSized}
use Rattle.sig_signatures.specs.Types.{types_of}
use Rattle.sig_signatures.proofs.Types.{types-each}

-- the size and the alignment of the float
abbrev LaidAs : Equivalent → ℕ → ℕ → Type 0
LaidAs Equivalent.Single n a = (n ≡ 4) × (a ≡ 4)
LaidAs Equivalent.Double n a = (n ≡ 8) × (a ≡ 8)
LaidAs Equivalent.Nothing n a = Unit {0}

-- the first field of a struct, at 0
first-laid : (e : Equivalent) (end align n a : ℕ) → end ≡ 0 → align ≡ 1 → LaidAs e n a → LaidAs e (round_up end a + n) (max align a)
unfolding round_up
first-laid Equivalent.Single end align n a p q h = rw (p, q, h.0, h.1) (refl, refl)
first-laid Equivalent.Double end align n a p q h = rw (p, q, h.0, h.1) (refl, refl)
first-laid Equivalent.Nothing end align n a p q h = tt

-- no field yet
record Blank (l : Fields) : Type 0 where
  end : l.empty ≡ true → l.end ≡ 0
  align : l.empty ≡ true → l.align ≡ 1

more-laid : (c : Convention) (l : Fields) (t : ValueType) → Blank l → LaidAs (equivalent_of t) (size_of c t) (align_of c t)
    → LaidAs (with_field c l t).equivalent (with_field c l t).end (with_field c l t).align
unfolding with_field
more-laid c l t b h = go l.empty b.end b.align
  where
    go : (e : Bool) → (e ≡ true → l.end ≡ 0) → (e ≡ true → l.align ≡ 1)
        → LaidAs (equivalent_after e t) (round_up l.end (align_of c t) + size_of c t) (max l.align (align_of c t))
    go true p q = first-laid (equivalent_of t) l.end l.align (size_of c t) (align_of c t) (p refl) (q refl) h
    go false p q = tt

closed-laid : (e : Equivalent) (end align : ℕ) → LaidAs e end align → LaidAs e (round_up end align) align
unfolding round_up
closed-laid Equivalent.Single end align h = rw (h.0, h.1) (refl, refl)
closed-laid Equivalent.Double end align h = rw (h.0, h.1) (refl, refl)
closed-laid Equivalent.Nothing end align h = tt

fields-blank : (c : Convention) (ts : Trees) → Blank (fields_of c ts)
unfolding fields_of with_field
fields-blank c none = record { end = λ e. refl; align = λ e. refl }
fields-blank c (ts ▸ t) = record { end = λ e. let z : ◌≡◌ {A = ℕ} 0 1 = cc in absurd (omega arith); align = λ e. let z : ◌≡◌ {A = ℕ} 0 1 = cc in absurd (omega arith) }

mutual
  unfolding type_of shape_of

  pub type-laid : (c : Convention) (t : Tree) → LaidAs (equivalent_of (type_of c t)) (size_of c (type_of c t)) (align_of c (type_of c t))
  type-laid c (integer k) = tt
  type-laid c (float FloatFormat.Single) = (refl, refl)
  type-laid c (float FloatFormat.Double) = (refl, refl)
  type-laid c (float FloatFormat.LongDouble) = tt
  type-laid c (struct ts) = closed-laid (fields_of c ts).equivalent (fields_of c ts).end (fields_of c ts).align (fields_laid c ts)

  fields_laid : (c : Convention) (ts : Trees) → LaidAs (fields_of c ts).equivalent (fields_of c ts).end (fields_of c ts).align
  fields_laid c none = tt
  fields_laid c (ts ▸ t) = more-laid c (fields_of c ts) (type_of c t) (fields-blank c ts) (type-laid c t)

-- ---- the types of a signature

-- the size of the float, where there is one
abbrev pub EquivalentSized : Equivalent → ℕ → Type 0
EquivalentSized Equivalent.Single n = n ≡ 4
EquivalentSized Equivalent.Double n = n ≡ 8
EquivalentSized Equivalent.Nothing n = Unit {0}

pub record Typed (c : Convention) (t : ValueType) : Type 0 where
  pub sized : Sized c t
  pub float : EquivalentSized (equivalent_of t) (size_of c t)

laid-sized : (e : Equivalent) (n a : ℕ) → LaidAs e n a → EquivalentSized e n
laid-sized Equivalent.Single n a h = h.0
laid-sized Equivalent.Double n a h = h.0
laid-sized Equivalent.Nothing n a h = tt

-- a type within the limits has its float's size
pub typed : (c : Convention) (t : Tree) → Sized c (type_of c t) → Typed c (type_of c t)
typed c t h = record { sized = h; float = laid-sized (equivalent_of (type_of c t)) (size_of c (type_of c t)) (align_of c (type_of c t)) (type-laid c t) }

-- and so have the arguments that a signature may have
pub all_typed : (c : Convention) (ts : Trees) → AllSized c ts → All (Typed c) (types_of c ts)
all_typed c ts h = types-each c (Typed c) (typed c) ts h
