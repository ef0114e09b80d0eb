-- One argument of those that a reader's table has: its type is the next of the signature's, and its value is small. Assumes nothing.
use mathlib.Core.Path.{◌≡◌}
use mathlib.Core.List.{◌∷◌}
use Prim.Native.Nat.{ℕ, suc, ◌≤◌, ◌<◌}
use native.Mathlib.Omega.{arith}
use lib.ListN.{length, get_or, take, drop}
use lib.Seq.{length-take-le, get_or-take}
use Rattle.sig_types.specs.declared.ValueType.{ValueType}
use Rattle.sig_types.specs.Sizes.{size_of}
use Rattle.sig_signatures.specs.declared.SignatureRead.{SignatureRead}
use Rattle.sig_signatures.specs.Types.{types_in}
use Rattle.sig_signatures.specs.Helpers.{Plannable}
use Rattle.sig_signatures.proofs.Types.{blank, length_types, types-drop}

pub record Taken (g : SignatureRead) (i : ℕ) (t : ValueType) : Type 0 where
  pub within : i < g.count
  pub among : i < length (types_in g)
  pub next : drop i (types_in g) ≡ t ∷ drop (suc i) (types_in g)
  pub small : size_of g.convention t ≤ 256

pub taken : (g : SignatureRead) (i : ℕ) → Plannable g → i < length (take g.count g.arguments) → Taken g i (get_or (take g.count g.arguments) i blank).ty
taken g i p h =
    let many = length-take-le g.count g.arguments p.room in
    let types = length_types g.count g.arguments p.room in
    let before : i < g.count = omega arith in
    let same = get_or-take g.count g.arguments i blank before in
    record { within = before; among = omega arith; next = rw same (types-drop g.count g.arguments i before p.room); small = rw same (p.small i before) }
