-- By the float: a long double as it stands, a single and a double by the word in memory.
use mathlib.Core.Path.{◌≡◌, sym, ap, ◌∙◌, subst}
use mathlib.Core.Logic.{◌⊎◌, inl, inr}
use mathlib.Core.List.{List, ◌++◌}
use Prim.Native.Nat.{ℕ, ◌-◌}
use native.Mathlib.Omega.{arith}
use native.Mathlib.Nat.{add-sub_cancel_left}
use lib.ListN.{take, drop, replicate, length-take}
use Rattle.base_words.specs.Splice.{overlay, part}
use Rattle.base_words.specs.Numbers.{bytes_of, value_of}
use Rattle.sig_types.specs.declared.Equivalent.{Equivalent}
use Rattle.call_home_slot.specs.Helpers.{home_word, float_home, HomeSized}
use Rattle.call_home_slot.proofs.home_float.Goals as goal

-- what the home's size says of each float
sized : (n room : ℕ) (e x : Equivalent) → HomeSized e n room → e ≡ x → HomeSized x n room
sized n room e x h q = subst (λ (e : Equivalent). HomeSized e n room) q h

-- a single or a double has one FPR, whose bits have a form in memory
word-size : (n room : ℕ) (e : Equivalent) → HomeSized e n room → (e ≡ Equivalent.Single) ⊎ (e ≡ Equivalent.Double) → n ≡ 8
word-size n room e h (inl q) = sized n room e Equivalent.Single h q
word-size n room e h (inr q) = sized n room e Equivalent.Double h q

word-home : (room n : ℕ) (e : Equivalent) (bs : List ℕ) → (e ≡ Equivalent.Single) ⊎ (e ≡ Equivalent.Double)
    → bytes_of room (home_word e (value_of bs)) ≡ float_home room n e bs
word-home room n e bs (inl q) = rw q
word-home room n e bs (inr q) = rw q

pub overflow_sub-room : goal.overflow_sub-room
overflow_sub-room c = sized c.args.n c.args.room _ _ c.requires.2 c.in-Nothing.is

pub put_padded-requires : goal.put_padded-requires
put_padded-requires c =
    let n = sized c.args.n c.args.room _ _ c.requires.2 c.in-Nothing.is in
    let taken = add-sub_cancel_left c.args.at c.args.n in
    rw taken (omega (arith, n, c.requires.1, length-take c.args.n (drop c.args.at c.args.image.now)))

pub load-requires : goal.load-requires
load-requires c = omega (arith, word-size c.args.n c.args.room _ c.requires.2 c.in-Single.is, c.requires.0)

pub put_number-requires : goal.put_number-requires
put_number-requires c = c.requires.1

pub returns-in-Nothing : goal.returns-in-Nothing
returns-in-Nothing c =
    c.put_padded.ensures
    ∙ ap (λ (k : ℕ). overlay c.args.place.now (take k (drop c.args.at c.args.image.now) ++ replicate (c.args.room - c.args.n) 0)) (add-sub_cancel_left c.args.at c.args.n)
    ∙ ap (λ (e : Equivalent). overlay c.args.place.now (float_home c.args.room c.args.n e (part c.args.at c.args.n c.args.image.now))) (sym c.in-Nothing.is)

pub returns-in-Single : goal.returns-in-Single
returns-in-Single c =
    let n : c.args.n ≡ 8 = word-size c.args.n c.args.room _ c.requires.2 c.in-Single.is in
    let x = ap (home_word c.args.e) (c.load.ensures ∙ ap (λ (m : ℕ). value_of (part c.args.at m c.args.image.now)) (sym n)) in
    c.put_number.ensures
    ∙ ap (λ (w : ℕ). overlay c.args.place.now (bytes_of c.args.room w)) (c.memory_word.ensures ∙ x)
    ∙ ap (overlay c.args.place.now) (word-home c.args.room c.args.n c.args.e (part c.args.at c.args.n c.args.image.now) c.in-Single.is)
