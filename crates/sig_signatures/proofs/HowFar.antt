-- How far the reading of a signature goes: the headers that it counts lead from its first byte to where it ends or stops. Assumes nothing.
use Rattle.sig_signatures.specs.declared.EllipsisItem.{EllipsisItem}
use Rattle.sig_signatures.specs.declared.ResultItem.{ResultItem}
use Rattle.base_conventions.specs.declared.UnknownConvention.{UnknownConvention}
use Rattle.std.proofs.Common.{Ok, Err, Result}
use Prim.Native.Nat.{ℕ, ◌+◌, ◌*◌, ◌≤◌}
use mathlib.Core.Path.{◌≡◌, refl, sym, ◌∙◌}
use mathlib.Core.Logic.{inl}
use mathlib.Core.Bool.{Bool}
use mathlib.Core.List.{List}
use lib.ListN.{length, get_or}
use lib.Dec.{ltb, eqb}
use native.Mathlib.Omega.{arith}
use borrow.Author.Tests.{ltb-false, eqb-true}
use Rattle.base_words.proofs.Tests.{by-pick}
use Rattle.base_conventions.specs.declared.Convention.{Convention}
use Rattle.sig_types.specs.Trees.{none}
use Rattle.sig_items.specs.declared.Refusal.{Refusal}
use Rattle.sig_items.specs.declared.Fault.{Fault}
use Rattle.sig_items.specs.Reading.{got, later_reading}
use Rattle.sig_items.specs.Read.{item_at}
use Rattle.sig_items.specs.HowFar.{place_of_header, HeadersPassed, HowFar}
use Rattle.sig_items.proofs.Sound.{by-choose, Framed}
use Rattle.sig_items.proofs.HowFar.{Goes, walked-over, walked-into, passed_none, passed-one, framed-here, stops, stops-here, goes_after, goes-within, fills-goes, goes_then, goes-body, sequence-goes, item-goes, walked-ascends, far-before, far-third, far-unique}
use Rattle.base_conventions.specs.Numbers.{convention_code}
use Rattle.sig_types.specs.Sizes.{max_depth}
use Rattle.sig_signatures.specs.Signature.{ResultTree, Signature}
use Rattle.sig_signatures.specs.Limits.{max_length, max_arguments}
use Rattle.sig_signatures.specs.Read.{convention_by, convention_at, result_in, result_at, ellipsis_at, arguments_in, arguments_at, after_ellipsis, after_result, after_convention, signature_of}
use Rattle.sig_signatures.specs.Answer.{result_answer, ellipsis_answer}
use Rattle.sig_signatures.specs.Exact.{SaysHowFar}
use Rattle.sig_signatures.proofs.Laws.{result-was-refused, ellipsis-was-refused}

module _ (s : List ℕ) where
  convention-goes : Goes s (length s) 0 (convention_at s)
  unfolding convention_at
  convention-goes = goes-body s 0x01 0x01 (length s) 0 _ (omega arith) (λ b framed.
      by-pick (Goes s (length s) 0) (eqb b 4) _ _ (λ q. code b framed (eqb-true b 4 q) (convention_code (get_or s 3 0)))
      (λ _. stops-here s (length s) 0 Refusal.Malformed refl (omega arith)))
    where
      code : (b : ℕ) → Framed s 0x01 0x01 (length s) 0 b → b ≡ 4 → (x : Result Convention UnknownConvention) → Goes s (length s) 0 (convention_by x)
      code b framed q (Ok c) =
          let ends = framed.ends in
          let inside = framed.inside in
          let tag : get_or s 0 0 ≡ 0x01 = omega (arith, framed.least, framed.most) in
          (walked-over s 0 4 (rw tag) (omega arith), omega arith, passed-one s 0x01 0x01 (length s) 0 b (inl (omega arith, omega arith)) framed)
      code b framed q (Err _) = stops-here s (length s) 0 Refusal.Malformed refl (omega arith)

  module _ (c : Convention) (at : ℕ) where
    result-in-goes : (b : ℕ) → Framed s 0x02 0x02 (length s) at b → Goes s b at (result_in c s (at + 3) b)
    unfolding result_in
    result-in-goes b framed =
        let ends = framed.ends in
        let tag : get_or s at 0 ≡ 0x02 = omega (arith, framed.least, framed.most) in
        let into : place_of_header s at 1 ≡ at + 3 = walked-into s at (rw tag) in
        let own : HeadersPassed s b at 1 = passed-one s 0x02 0x02 b at b (inl (omega arith, omega arith)) (framed-here framed) in
        by-choose (Goes s b at) (eqb (at + 3) b) _ _ (λ q. (into ∙ eqb-true (at + 3) b q, omega arith, own))
        (λ _. goes_then s b at (Goes s b at) (later_reading 1 (item_at c max_depth s b (at + 3))) _
        (goes_after s b at 1 (at + 3) (item_at c max_depth s b (at + 3)) into own (item-goes c max_depth s b (at + 3) (omega arith)))
        (λ f k. k)
        (λ t next n w h p. by-pick (Goes s b at) (ltb next b) _ _ (λ _. stops s b at Refusal.Malformed next n refl w h p)
        (λ l. let last = ltb-false next b l in let same : next ≡ b = omega arith in (w ∙ same, omega arith, p))))

    result-goes : at ≤ length s → Goes s (length s) at (result_at c s at)
    unfolding result_at
    result-goes room = goes-body s 0x02 0x02 (length s) at _ room (λ b framed.
        goes-within s (length s) at b (result_in c s (at + 3) b) framed.inside (result-in-goes b framed))

    arguments-goes : at ≤ length s → Goes s (length s) at (arguments_at c s at)
    unfolding arguments_at arguments_in
    arguments-goes room = goes-body s 0x03 0x03 (length s) at _ room (λ b framed.
        let ends = framed.ends in
        let tag : get_or s at 0 ≡ 0x03 = omega (arith, framed.least, framed.most) in
        fills-goes s (length s) at b (arguments_in c s (at + 3) b) framed.inside
        (sequence-goes s b at (item_at c max_depth s b) (λ k h. item-goes c max_depth s b k h) max_arguments (at + 3) 1 none (walked-into s at (rw tag)) (omega arith) (passed-one s 0x03 0x03 b at b (inl (omega arith, omega arith)) (framed-here framed))))

  -- an ellipsis's item has none in it
  ellipsis-goes : (at : ℕ) → at ≤ length s → Goes s (length s) at (ellipsis_at s at)
  unfolding ellipsis_at place_of_header
  ellipsis-goes at room = by-choose (Goes s (length s) at) (eqb (get_or s at 0) 0x04) _ _
      (λ q. goes-body s 0x04 0x04 (length s) at _ room (λ b framed.
      let tag = eqb-true (get_or s at 0) 0x04 q in
      by-pick (Goes s (length s) at) (eqb b (at + 3)) _ _
      (λ _. (walked-over s at b (rw tag) framed.ends, framed.inside, passed-one s 0x04 0x04 (length s) at b (inl (omega arith, omega arith)) framed))
      (λ _. stops-here s (length s) at Refusal.Malformed refl room)))
      (λ _. (refl, room, passed_none s (length s) at))

  module _ (c : Convention) where
    after-ellipsis-goes : (r : ResultTree) (v : Bool) (at n : ℕ) → place_of_header s 0 n ≡ at → at ≤ length s → HeadersPassed s (length s) 0 n → Goes s (length s) 0 (after_ellipsis s c r v at n)
    unfolding after_ellipsis
    after-ellipsis-goes r v at n w h p =
        goes_then s (length s) 0 (Goes s (length s) 0) (later_reading n (arguments_at c s at)) _
        (goes_after s (length s) 0 n at (arguments_at c s at) w p (arguments-goes c at h)) (λ f k. k)
        (λ ts next m v k q. by-pick (Goes s (length s) 0) (ltb next (length s)) _ _ (λ _. stops s (length s) 0 Refusal.TrailingBytes next m refl v k q) (λ _. (v, k, q)))

    after-result-goes : (r : ResultTree) (at n : ℕ) → place_of_header s 0 n ≡ at → at ≤ length s → HeadersPassed s (length s) 0 n → Goes s (length s) 0 (after_result s c r at n)
    unfolding after_result
    after-result-goes r at n w h p =
        goes_then s (length s) 0 (Goes s (length s) 0) (later_reading n (ellipsis_at s at)) _
        (goes_after s (length s) 0 n at (ellipsis_at s at) w p (ellipsis-goes at h)) (λ f k. k)
        (λ v next m u k q. after-ellipsis-goes r v next m u k q)

    after-convention-goes : (at n : ℕ) → place_of_header s 0 n ≡ at → at ≤ length s → HeadersPassed s (length s) 0 n → Goes s (length s) 0 (after_convention s c at n)
    unfolding after_convention
    after-convention-goes at n w h p =
        goes_then s (length s) 0 (Goes s (length s) 0) (later_reading n (result_at c s at)) _
        (goes_after s (length s) 0 n at (result_at c s at) w p (result-goes c at h)) (λ f k. k)
        (λ r next m v k q. after-result-goes r next m v k q)

  pub signature-goes : Goes s (length s) 0 (signature_of s)
  unfolding signature_of
  signature-goes = by-choose (Goes s (length s) 0) (ltb max_length (length s)) _ _ (λ _. stops-here s (length s) 0 Refusal.TooLong refl (omega arith))
      (λ _. goes_then s (length s) 0 (Goes s (length s) 0) (convention_at s) _ convention-goes (λ f k. k) (λ c next n w k p. after-convention-goes c next n w k p))

  -- of a refused signature
  pub says-how-far : SaysHowFar s
  says-how-far f q =
      let goes : HowFar s (length s) 0 f = rw q at signature-goes in
      let third = far-third s (length s) 0 f goes in
      record {
        third = omega arith;
        far = goes;
        before = far-before s (length s) 0 f goes;
        ascending = λ i j h. walked-ascends s 0 i j h;
        only = λ n h. far-unique s (length s) 0 f.reason f.place n f.passed h goes;
      }

  -- of an accepted one
  pub accepted-walked : (g : Signature) (next n : ℕ) → signature_of s ≡ got g next n → place_of_header s 0 n ≡ next
  accepted-walked g next n q = let goes : (place_of_header s 0 n ≡ next) × (next ≤ length s) × HeadersPassed s (length s) 0 n = rw q at signature-goes in goes.0

-- what whoever hands on a result's fault needs
pub result-fault-third : (c : Convention) (s : List ℕ) (at : ℕ) (x : Result ResultItem Fault) (f : Fault) → at ≤ length s → x ≡ result_answer c (result_at c s at) →
    x ≡ Err f → at + 3 * f.passed ≤ length s
result-fault-third c s at x f room found q =
    let goes : HowFar s (length s) at f = rw (result-was-refused c (result_at c s at) f (sym q ∙ found)) at (result-goes s c at room) in
    far-third s (length s) at f goes

-- and an ellipsis's
pub ellipsis-fault-third : (s : List ℕ) (at : ℕ) (x : Result EllipsisItem Fault) (f : Fault) → at ≤ length s → x ≡ ellipsis_answer (ellipsis_at s at) →
    x ≡ Err f → at + 3 * f.passed ≤ length s
ellipsis-fault-third s at x f room found q =
    let goes : HowFar s (length s) at f = rw (ellipsis-was-refused (ellipsis_at s at) f (sym q ∙ found)) at (ellipsis-goes s at room) in
    far-third s (length s) at f goes
