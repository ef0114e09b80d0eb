-- A turn of a loop over the arguments: the argument that it is at, and the table at the end. Assumes nothing.
use mathlib.Core.Path.{◌≡◌, sym, ◌∙◌, subst}
use mathlib.Core.List.{List, [], ◌∷◌}
use Prim.Native.Nat.{ℕ, suc, ◌≤◌, ◌<◌}
use native.Mathlib.Omega.{arith}
use lib.ListN.{length, get_or, take, drop, drop_of_length-le}
use Rattle.std.proofs.lemmas.List.{length-take, get_or-take, get_or_default}
use Rattle.base_words.proofs.Tables.{Table, table-end}
use Rattle.sig_types.specs.Sizes.{size_of}
use Rattle.sig_signatures.specs.Limits.{max_arguments}
use Rattle.sig_signatures.specs.declared.Argument.{Argument}
use Rattle.sig_signatures.specs.declared.SignatureRead.{SignatureRead}
use Rattle.sig_signatures.specs.Types.{types_in}
use Rattle.sig_signatures.specs.Helpers.{Plannable}
use Rattle.sig_signatures.proofs.Types.{blank, length_types, types-drop}
use Rattle.second_parameters.specs.Values.{table_with}

-- ---- the table that a loop has filled

pub table-whole : {A : Type 0} (x : A) (ss whole : List A) (i : ℕ) → Table max_arguments x ss [] whole i → ss ≡ table_with x whole
unfolding table_with
table-whole x ss whole i g = table-end max_arguments x ss whole i g

-- ---- the argument of a turn, whatever would be read of a place past the last one

abbrev pub arguments_in : SignatureRead → List Argument
arguments_in g = take g.count g.arguments

pub few-left : (g : SignatureRead) (i : ℕ) → Plannable g → i < length (arguments_in g) → i < max_arguments
few-left g i p h = omega (arith, p.few, length-take g.count g.arguments)

same-argument : (g : SignatureRead) (i : ℕ) (d : Argument) → Plannable g → i < g.count → get_or (arguments_in g) i d ≡ get_or g.arguments i blank
same-argument g i d p h = get_or-take g.count g.arguments i d h ∙ get_or_default g.arguments i d blank (omega (arith, p.room))

pub small-here : (g : SignatureRead) (i : ℕ) (d : Argument) → Plannable g → i < length (arguments_in g)
    → size_of g.convention (get_or (arguments_in g) i d).ty ≤ 256
small-here g i d p h =
    let few : i < g.count = omega (arith, length-take g.count g.arguments) in
    subst (λ (a : Argument). size_of g.convention a.ty ≤ 256) (sym (same-argument g i d p few)) (p.small i few)

pub next-here : (g : SignatureRead) (i : ℕ) (d : Argument) → Plannable g → i < length (arguments_in g)
    → drop i (types_in g) ≡ (get_or (arguments_in g) i d).ty ∷ drop (suc i) (types_in g)
next-here g i d p h =
    let few : i < g.count = omega (arith, length-take g.count g.arguments) in
    subst (λ (a : Argument). drop i (types_in g) ≡ a.ty ∷ drop (suc i) (types_in g)) (sym (same-argument g i d p few))
    (types-drop g.count g.arguments i few p.room)

-- and past the last one
pub gone : (g : SignatureRead) (i : ℕ) → Plannable g → length (arguments_in g) ≤ i → drop i (types_in g) ≡ []
gone g i p h =
    let many = length_types g.count g.arguments p.room in
    let past : length (types_in g) ≤ i = omega (arith, p.room, length-take g.count g.arguments) in
    drop_of_length-le (types_in g) past
