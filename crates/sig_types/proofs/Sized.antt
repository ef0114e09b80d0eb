-- Every type within the limits has a size of 1 to 256 bytes and an alignment of 1 to 16. Assumes nothing.
use Prim.Native.Nat.{◌<◌}
use mathlib.Core.Bool.{Bool, true, false}
use Rattle.base_conventions.specs.declared.Convention.{Convention}
use Rattle.sig_types.specs.Sizes.{Sized}
use Rattle.sig_types.specs.Trees.{Tree, Trees, integer, float, struct, none, ◌▸◌, type_of, fields_of}
use Rattle.sig_types.specs.Limits.{Some, Fits, AllFit, TypeWithin, AllWithin, AllSized}
use Rattle.sig_types.proofs.Laws.{integer-sized, float-sized, Aligned, none-aligned, more-aligned, more-some, shape-sized}

mutual
  unfolding type_of Fits

  pub fits-sized : (c : Convention) (inside : Bool) (t : Tree) → Fits c inside t → Sized c (type_of c t)
  fits-sized c inside (integer k) f = integer-sized c k
  fits-sized c inside (float g) f = float-sized c g
  fits-sized c inside (struct ts) f = shape-sized (fields_of c ts) c (fields-aligned c ts f.1) (fields-some c ts f.1 f.0) f.2

  pub fields-aligned : (c : Convention) (ts : Trees) → AllFit c ts → Aligned (fields_of c ts)
  fields-aligned c none f = none-aligned
  fields-aligned c (ts ▸ t) f = more-aligned c (fields_of c ts) (type_of c t) (fits-sized c true t f.1) (fields-aligned c ts f.0)

  fields-some : (c : Convention) (ts : Trees) → AllFit c ts → Some ts → 0 < (fields_of c ts).end
  fields-some c none f s = absurd s
  fields-some c (ts ▸ t) f s = more-some c (fields_of c ts) (type_of c t) (fits-sized c true t f.1)

pub within-sized : (c : Convention) (t : Tree) → TypeWithin c t → Sized c (type_of c t)
within-sized c t w = fits-sized c false t w.fits

pub all-within-sized : (c : Convention) (ts : Trees) → AllWithin c ts → AllSized c ts
unfolding AllWithin AllSized
all-within-sized c none w = tt
all-within-sized c (ts ▸ t) w = (all-within-sized c ts w.0, within-sized c t w.1)
