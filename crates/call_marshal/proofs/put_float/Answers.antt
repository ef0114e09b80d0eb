-- By the float: a single's four bytes are widened, every other float stands as it is.
use mathlib.Core.Path.{◌≡◌, ap, subst, ◌∙◌}
use mathlib.Core.Logic.{◌⊎◌, inl, inr}
use mathlib.Core.List.{List}
use Prim.Native.Nat.{ℕ, ◌^◌, ◌*◌, ◌<◌, ◌≤◌}
use native.Mathlib.Omega.{arith}
use lib.ListN.{length}
use lib.Seq.{take_all}
use Rattle.base_words.specs.Splice.{overlay, part}
use Rattle.base_words.specs.Numbers.{bytes_of, value_of}
use Rattle.base_words.proofs.Numbers.{value-below}
use Rattle.sig_types.specs.declared.Equivalent.{Equivalent}
use Rattle.plan_places.specs.declared.CallRules.{CallRules}
use Rattle.call_slots.specs.Forms.{single_word, float_form}
use Rattle.call_marshal.specs.Helpers.{FprsTake}
use Rattle.call_marshal.proofs.put_float.Goals as goal

-- what is put as it is
plain-room : (e : Equivalent) (n room : ℕ) → (e ≡ Equivalent.Nothing) ⊎ (e ≡ Equivalent.Double) → FprsTake e n room → n ≤ room
plain-room e n room (inl q) h = subst (λ (e : Equivalent). FprsTake e n room) q h
plain-room e n room (inr q) h = subst (λ (e : Equivalent). FprsTake e n room) q h

plain-form : (r : CallRules) (e : Equivalent) (v : List ℕ) → (e ≡ Equivalent.Nothing) ⊎ (e ≡ Equivalent.Double) → v ≡ float_form r e v
plain-form r e v (inl q) = rw q
plain-form r e v (inr q) = rw q

pub put-requires : goal.put-requires
put-requires c = plain-room c.args.e (length c.args.v.now) (length c.args.place.now) c.in-Nothing.is c.requires

pub load-requires : goal.load-requires
load-requires c = let room = subst (λ (e : Equivalent). FprsTake e (length c.args.v.now) (length c.args.place.now)) c.in-Single.is c.requires in omega arith

pub single_word-requires : goal.single_word-requires
single_word-requires c =
    let room = subst (λ (e : Equivalent). FprsTake e (length c.args.v.now) (length c.args.place.now)) c.in-Single.is c.requires in
    let all : part 0 4 c.args.v.now ≡ c.args.v.now = take_all 4 c.args.v.now (omega arith) in
    let low : value_of c.args.v.now < 2 ^ (8 * length c.args.v.now) = value-below c.args.v.now (λ i. (c.type_inv.v i).fits) in
    rw (c.load.ensures ∙ ap value_of all) (rw room.0 at low)

pub put_number-requires : goal.put_number-requires
put_number-requires c = let room = subst (λ (e : Equivalent). FprsTake e (length c.args.v.now) (length c.args.place.now)) c.in-Single.is c.requires in room.1

pub returns-in-Nothing : goal.returns-in-Nothing
returns-in-Nothing c = c.put.ensures ∙ ap (overlay c.args.place.now) (plain-form c.args.r c.args.e c.args.v.now c.in-Nothing.is)

pub returns-in-Single : goal.returns-in-Single
returns-in-Single c =
    let room = subst (λ (e : Equivalent). FprsTake e (length c.args.v.now) (length c.args.place.now)) c.in-Single.is c.requires in
    let all : part 0 4 c.args.v.now ≡ c.args.v.now = take_all 4 c.args.v.now (omega arith) in
    c.put_number.ensures
    ∙ ap (λ x. overlay c.args.place.now (bytes_of 8 x)) (c.single_word.ensures ∙ ap (single_word c.args.r) (c.load.ensures ∙ ap value_of all))
    ∙ rw c.in-Single.is
