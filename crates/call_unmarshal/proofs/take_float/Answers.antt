-- By the float and the convention.
use mathlib.Core.Path.{sym, ap, ◌∙◌, subst}
use Prim.Native.Nat.{ℕ}
use native.Mathlib.Omega.{arith}
use lib.ListN.{length, drop}
use lib.Seq.{take-take}
use Rattle.base_words.specs.Splice.{overlay, part}
use Rattle.base_words.specs.Numbers.{value_of}
use Rattle.sig_types.specs.declared.Equivalent.{Equivalent}
use Rattle.plan_places.specs.declared.CallRules.{CallRules}
use Rattle.call_slots.specs.Forms.{float_value_as, narrowed_bytes}
use Rattle.base_ieee.specs.Narrowing.{narrow}
use Rattle.call_unmarshal.specs.Helpers.{FprsHold}
use Rattle.call_unmarshal.proofs.take_float.Goals as goal

pub take_part-requires : goal.take_part-requires
take_part-requires c =
    let room = subst (λ (e : Equivalent). FprsHold e c.args.n (length c.args.out.now)) c.in-Nothing.is c.requires.1 in
    (c.requires.0, room)

pub take_part-requires-in-Double : goal.take_part-requires-in-Double
take_part-requires-in-Double c =
    let room = subst (λ (e : Equivalent). FprsHold e c.args.n (length c.args.out.now)) c.in-Double.is c.requires.1 in
    (omega (arith, c.requires.0, room), room.1)

pub load-requires : goal.load-requires
load-requires c =
    let room = subst (λ (e : Equivalent). FprsHold e c.args.n (length c.args.out.now)) c.in-Single.is c.requires.1 in
    omega (arith, c.requires.0, room)

pub take_narrowed-requires : goal.take_narrowed-requires
take_narrowed-requires c =
    (subst (λ (e : Equivalent). FprsHold e c.args.n (length c.args.out.now)) c.in-Single.is c.requires.1).1

pub take_part-requires-in-Z : goal.take_part-requires-in-Z
take_part-requires-in-Z c =
    let room = subst (λ (e : Equivalent). FprsHold e c.args.n (length c.args.out.now)) c.in-Single.is c.requires.1 in
    (omega (arith, c.requires.0, room), room.1)

pub returns-in-Nothing : goal.returns-in-Nothing
returns-in-Nothing c =
    c.take_part.ensures
    ∙ ap (λ (e : Equivalent). overlay c.args.out.now (float_value_as c.args.r e (part c.args.at c.args.n c.args.image.now))) (sym c.in-Nothing.is)

pub returns-in-Double : goal.returns-in-Double
returns-in-Double c =
    let room = subst (λ (e : Equivalent). FprsHold e c.args.n (length c.args.out.now)) c.in-Double.is c.requires.1 in
    c.take_part-in-Double.ensures ∙ ap (λ (n : ℕ). overlay c.args.out.now (part c.args.at n c.args.image.now)) (sym room.0)
    ∙ ap (λ (e : Equivalent). overlay c.args.out.now (float_value_as c.args.r e (part c.args.at c.args.n c.args.image.now))) (sym c.in-Double.is)

pub returns-in-Power : goal.returns-in-Power
returns-in-Power c =
    let room = subst (λ (e : Equivalent). FprsHold e c.args.n (length c.args.out.now)) c.in-Single.is c.requires.1 in
    c.take_narrowed.ensures ∙ ap (λ (x : ℕ). overlay c.args.out.now (narrowed_bytes (narrow x))) (c.load.ensures ∙ ap (λ (n : ℕ). value_of (part c.args.at n c.args.image.now)) (sym room.0))
    ∙ ap (λ (e : Equivalent). overlay c.args.out.now (float_value_as (CallRules.Power c.in-Power.field-0) e (part c.args.at c.args.n c.args.image.now))) (sym c.in-Single.is)
    ∙ ap (λ (r : CallRules). overlay c.args.out.now (float_value_as r c.args.e (part c.args.at c.args.n c.args.image.now))) (sym c.in-Power.is)

pub returns-in-Z : goal.returns-in-Z
returns-in-Z c =
    let room = subst (λ (e : Equivalent). FprsHold e c.args.n (length c.args.out.now)) c.in-Single.is c.requires.1 in
    c.take_part-in-Z.ensures
    ∙ ap (overlay c.args.out.now) (sym (take-take 4 c.args.n (drop c.args.at c.args.image.now) (omega (arith, room))))
    ∙ ap (λ (e : Equivalent). overlay c.args.out.now (float_value_as CallRules.Z e (part c.args.at c.args.n c.args.image.now))) (sym c.in-Single.is)
    ∙ ap (λ (r : CallRules). overlay c.args.out.now (float_value_as r c.args.e (part c.args.at c.args.n c.args.image.now))) (sym c.in-Z.is)
