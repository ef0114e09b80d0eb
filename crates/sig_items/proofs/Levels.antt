-- The limits on a type, said by the levels of structs that are left, as the reader counts them: the same limits.
-- Assumes nothing.
use Prim.Native.Nat.{ℕ, ◌-◌, ◌≤◌, ◌<◌}
use mathlib.Core.Path.{◌≡◌, refl}
use mathlib.Core.Bool.{Bool, true, false}
use lib.Dec.{ltb}
use native.Mathlib.Omega.{arith}
use borrow.Author.Tests.{ltb-true, ltb-false, lt-ltb}
use Rattle.base_conventions.specs.declared.Convention.{Convention}
use Rattle.sig_types.specs.declared.FloatFormat.{FloatFormat}
use Rattle.sig_types.specs.Sizes.{size_of, lacks_float, Sized}
use Rattle.sig_types.specs.Trees.{Tree, Trees, integer, float, struct, none, ◌▸◌, type_of}
use Rattle.sig_types.specs.Limits.{depth_of, depth_in, FloatFits, Some, Fits, AllFit, TypeWithin, AllWithin}
use Rattle.sig_types.proofs.Sized.{fits-sized}

-- a long double stands outside any struct only, where all 8 levels are left
abbrev pub FloatLeft : ℕ → FloatFormat → Type 0
FloatLeft d FloatFormat.Single = Unit {0}
FloatLeft d FloatFormat.Double = Unit {0}
FloatLeft d FloatFormat.LongDouble = 8 ≤ d

-- what may stand where d levels of structs are left, 8 outside any
unfoldable mutual
  pub Left : Convention → ℕ → Tree → Type 0
  Left c d (integer k) = Unit {0}
  Left c d (float f) = FloatLeft d f × (lacks_float c (ltb d 8) f ≡ false)
  Left c d (struct ts) = (0 < d) × Some ts × AllLeft c (d - 1) ts × (size_of c (type_of c (struct ts)) ≤ 256)

  pub AllLeft : Convention → ℕ → Trees → Type 0
  AllLeft c d none = Unit {0}
  AllLeft c d (ts ▸ t) = AllLeft c d ts × Left c d t

float-left : (d : ℕ) (f : FloatFormat) (inside : Bool) → ltb d 8 ≡ inside → FloatFits inside f → FloatLeft d f
float-left d FloatFormat.Single inside q h = tt
float-left d FloatFormat.Double inside q h = tt
float-left d FloatFormat.LongDouble true q h = absurd h
float-left d FloatFormat.LongDouble false q h = ltb-false d 8 q

float_fits : (d : ℕ) (f : FloatFormat) (inside : Bool) → ltb d 8 ≡ inside → FloatLeft d f → FloatFits inside f
float_fits d f false q h = tt
float_fits d FloatFormat.Single true q h = tt
float_fits d FloatFormat.Double true q h = tt
float_fits d FloatFormat.LongDouble true q h = let l = ltb-true d 8 q in absurd (omega arith)

module _ (c : Convention) where
  mutual
    unfolding Left Fits depth_of

    fits-left : (t : Tree) (d : ℕ) (inside : Bool) → ltb d 8 ≡ inside → d ≤ 8 → depth_of t ≤ d → Fits c inside t → Left c d t
    fits-left (integer k) d inside q l h f = tt
    fits-left (float g) d inside q l h f = (float-left d g inside q f.0, rw q f.1)
    fits-left (struct ts) d inside q l h f = (omega arith, f.0, all-fit-left ts (d - 1) (omega arith) (omega arith) f.1, f.2)

    all-fit-left : (ts : Trees) (d : ℕ) → d < 8 → depth_in ts ≤ d → AllFit c ts → AllLeft c d ts
    all-fit-left none d l h f = tt
    all-fit-left (ts ▸ t) d l h f = (all-fit-left ts d l (omega arith) f.0, fits-left t d true (lt-ltb d 8 l) (omega arith) (omega arith) f.1)

  mutual
    unfolding Left Fits depth_of

    left-fits : (t : Tree) (d : ℕ) (inside : Bool) → ltb d 8 ≡ inside → d ≤ 8 → Left c d t → (depth_of t ≤ d) × Fits c inside t
    left-fits (integer k) d inside q l w = (omega arith, tt)
    left-fits (float g) d inside q l w = (omega arith, (float_fits d g inside q w.0, rw (← q) w.1))
    left-fits (struct ts) d inside q l w =
        let some : 0 < d = w.0 in
        let (deep, f) = all-left-fit ts (d - 1) (omega arith) w.2 in
        (omega arith, (w.1, f, w.3))

    all-left-fit : (ts : Trees) (d : ℕ) → d < 8 → AllLeft c d ts → (depth_in ts ≤ d) × AllFit c ts
    all-left-fit none d l w = (omega arith, tt)
    all-left-fit (ts ▸ t) d l w =
        let (deep, f) = all-left-fit ts d l w.0 in
        let (deep', g) = left-fits t d true (lt-ltb d 8 l) (omega arith) w.1 in
        (omega arith, (f, g))

  pub within-left : (t : Tree) → TypeWithin c t → Left c 8 t
  within-left t w = fits-left t 8 false refl (omega arith) w.depth w.fits

  pub left-within : (t : Tree) → Left c 8 t → TypeWithin c t
  left-within t l = let (deep, f) = left-fits t 8 false refl (omega arith) l in record { depth = deep; fits = f }

  pub all-within-left : (ts : Trees) → AllWithin c ts → AllLeft c 8 ts
  unfolding AllWithin Left
  all-within-left none w = tt
  all-within-left (ts ▸ t) w = (all-within-left ts w.0, within-left t w.1)

  pub all-left-within : (ts : Trees) → AllLeft c 8 ts → AllWithin c ts
  unfolding AllWithin Left
  all-left-within none l = tt
  all-left-within (ts ▸ t) l = (all-left-within ts l.0, left-within t l.1)

  -- at any depth of the reader
  pub left-sized : (t : Tree) (d : ℕ) → d ≤ 8 → Left c d t → Sized c (type_of c t)
  left-sized t d h l = fits-sized c (ltb d 8) t (left-fits t d (ltb d 8) refl h l).1
