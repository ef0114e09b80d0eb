-- What the function `step` found on its way, in the words of the definitions. Assumes nothing.
use mathlib.Core.Path.{◌≡◌, refl, sym, ap, ap₂, ◌∙◌, subst}
use mathlib.Core.Bool.{Bool, true, false}
use mathlib.Core.List.{List}
use Prim.Native.Nat.{ℕ, ◌+◌, ◌-◌, ◌≤◌, ◌<◌, min}
use native.Mathlib.Omega.{arith}
use lib.ListN.{length, take, drop}
use Rattle.base_words.specs.Splice.{overlay}
use Rattle.base_words.proofs.Splices.{part-clipped, length-clipped}
use Rattle.sig_types.specs.declared.ValueType.{ValueType}
use Rattle.sig_items.specs.declared.Refusal.{Refusal}
use Rattle.sig_items.specs.Reading.{fault}
use Rattle.plan_places.specs.declared.Cursor.{Cursor}
use Rattle.plan_places.specs.declared.Placed.{Placed}
use Rattle.plan_places.specs.declared.CallRules.{CallRules}
use Rattle.plan_places.specs.declared.Span.{Span}
use Rattle.plan_places.specs.Step.{rules_of, next_of, unclear_for, placed}
use Rattle.plan_places.specs.Helpers.{LawfulCalls, Roomy}
use Rattle.plan_places.proofs.Bounds.{rules-lawful}
use Rattle.plan_places.proofs.Marked.{lawful-marked, next-marked}
use Rattle.call_slots.specs.Buffers.{Buffers, buffers}
use Rattle.call_slots.specs.Placements.{placement, value_at}
use Rattle.call_slots.specs.Refusals.{first_of}
use Rattle.call_slots.proofs.Refusals.{not-refused}
use Rattle.call_unmarshal.specs.Helpers.{InBuffers, Readable}
use Rattle.call_read.specs.Read.{argument_answer}
use Rattle.call_walker.specs.declared.WalkerAnswer.{WalkerAnswer}
use Rattle.call_walker.specs.declared.Counters.{Counters}
use Rattle.call_walker.specs.declared.Walker.{Walker}
use Rattle.call_walker.specs.Walker.{cursor_at, walker, cursor_of, lost}
use Rattle.call_walker.specs.Step.{size_by, rules_by, step_tests, step_on}
use Rattle.call_walker.specs.Words.{walker_words, walker_outcome, step_for}
use Rattle.call_walker.specs.Helpers.{local}
use Rattle.call_walker.proofs.Shifted.{area_from}
use Rattle.call_walker.proofs.Exactly.{found-possible}
use Rattle.call_walking.specs.Helpers.{Declared, Offset, Countable, counters_after}
use Rattle.call_walking.proofs.Parts.{possible-offset, local-roomy, next-countable}
use Rattle.call_walking.proofs.Steps.{near, span, Passed, lengths-passed, step-unclear, step-lengths, step-answer, step-done, step-moves, step-ready, step-readable}
use Rattle.std.proofs.Common.{is_err}
use Rattle.call_slots.specs.Answer.{CallAnswer, call_done, call_unread}

-- the rules without and with the mark, the cursor at offset 0 and the size
pub record Went (w : Walker) (t : ValueType) (plain r : CallRules) (d : Cursor) (n : ℕ) : Type 0 where
  pub plain-is : plain ≡ rules_of w.convention
  pub rules-is : r ≡ rules_by w
  pub cursor-is : d ≡ local (cursor_at plain w.at)
  pub size_is : n ≡ size_by w t

module _ (w : Walker) (t : ValueType) (plain r : CallRules) (d : Cursor) (n : ℕ) (g : Went w t plain r d n) (base : ℕ) (image area copies : List ℕ) where
  abbrev b : Buffers
  b = buffers image area copies

  abbrev offset : ℕ
  offset = (cursor_of w).stack

  at-near : d ≡ near w t base b
  at-near = g.cursor-is ∙ ap (λ (x : CallRules). local (cursor_at x w.at)) g.plain-is

  clear-is : (u : Bool) → unclear_for plain d t ≡ u → unclear_for (rules_of w.convention) (near w t base b) t ≡ u
  clear-is u e = ap₂ (λ (x : CallRules) (y : Cursor). unclear_for x y t) (sym g.plain-is) (sym at-near) ∙ e

  -- ---- what the calls ask

  module _ (found : lost w ≡ false) (known : Declared w.convention t) where
    pub went-roomy : Roomy d
    went-roomy = rw at-near (local-roomy (rules_of w.convention) w.hidden w.at (found-possible w found))

    pub went-lawful : LawfulCalls r
    went-lawful = rw g.rules-is (lawful-marked w.ellipsis (rules_of w.convention) (rules-lawful w.convention))

    pub went-size : n ≤ 256
    went-size = omega (arith, g.size_is, known.sized.small)

    pub went-offset : Offset plain w.at
    went-offset = rw g.plain-is (possible-offset (rules_of w.convention) w.hidden w.at (rules-lawful w.convention) (found-possible w found))

  -- ---- 29

  module _ (ws v : List ℕ) where
    pub went-unclear : unclear_for plain d t ≡ true
        → walker_outcome (WalkerAnswer.Called (call_unread (fault Refusal.UnclearPlace 0 0))) ws v ≡ step_for ws w t base b v
    went-unclear e = step-unclear w t base b ws v (clear-is true e)

  -- ---- the span, and the part of the area from m on

  module _ (p : Placed) (q : p ≡ placed r d t n) (o m : ℕ) (at : o ≡ (cursor_at plain w.at).stack) (from : m ≡ min o (length area)) where
    span-is : p.span ≡ span w t base b
    unfolding placed
    span-is = ap (λ (x : Placed). x.span) q ∙ rw (g.rules-is, at-near, g.size_is)

    next-is : p.next ≡ next_of (rules_by w) (near w t base b) t (size_by w t)
    unfolding placed
    next-is = ap (λ (x : Placed). x.next) q ∙ rw (g.rules-is, at-near, g.size_is)

    from_is : m ≡ min offset (length area)
    from_is = from ∙ ap (λ (x : ℕ). min x (length area)) (at ∙ ap (λ (x : CallRules). (cursor_at x w.at).stack) g.plain-is)

    abbrev part : List ℕ
    part = take (length area - m) (drop m area)

    part-is : part ≡ drop offset area
    part-is = part-clipped offset m area from_is

    lengths-is : (v i : ℕ) (l : CallAnswer) → l ≡ first_of (step_tests n p.span v i (length area - m))
        → l ≡ first_of (step_tests (size_by w t) (span w t base b) v i (length (drop offset area)))
    lengths-is v i l e = e ∙ rw (g.size_is, span-is, length-clipped offset m area from_is)

    answer-is : (a : CallAnswer) → a ≡ argument_answer r base (placement t n p.span) (buffers image part copies)
        → a ≡ argument_answer (rules_by w) base (placement t (size_by w t) (span w t base b)) (area_from offset b)
    answer-is a e = e ∙ rw (g.rules-is, g.size_is, span-is, part-is)

    module _ (found : lost w ≡ false) (known : Declared w.convention t) where
      pub went-countable : Countable plain p.next
      went-countable =
          rw (next-is, next-marked w.ellipsis (rules_of w.convention) (near w t base b) t (size_by w t), g.plain-is)
          (next-countable (rules_of w.convention) w.hidden w.at t (size_by w t) (rules-lawful w.convention) (found-possible w found) known.sized.small)

      module _ (v : ℕ) (l : CallAnswer) (e : l ≡ first_of (step_tests n p.span v (length image) (length area - m))) (yes : is_err l ≡ false) where
        passed : Passed (size_by w t) (span w t base b) v (length image) (length (drop offset area))
        passed = lengths-passed (size_by w t) (span w t base b) v (length image) (length (drop offset area)) (sym (lengths-is v (length image) l e) ∙ not-refused l yes)

        pub went-value : n ≤ v
        went-value = omega (arith, passed.value, g.size_is)

        pub went-ready : InBuffers r (length image) (length part) (placement t n p.span)
        went-ready = rw (g.rules-is, g.size_is, span-is, part-is) (step-ready w t base b found known passed.image passed.inside)

        pub went-readable : (a : CallAnswer) → a ≡ argument_answer r base (placement t n p.span) (buffers image part copies) → is_err a ≡ false
            → Readable r base (placement t n p.span) (buffers image part copies)
        went-readable a q done =
            rw (g.rules-is, g.size_is, span-is, part-is)
            (step-readable w t base b found known (step-ready w t base b found known passed.image passed.inside) (sym (answer-is a q) ∙ not-refused a done))

    -- ---- what the call answers and leaves

    module _ (clear : unclear_for plain d t ≡ false) (ws v : List ℕ) (l : CallAnswer)
        (e : l ≡ first_of (step_tests n p.span (length v) (length image) (length area - m))) where
      pub went-lengths : is_err l ≡ true → walker_outcome (WalkerAnswer.Called l) ws v ≡ step_for ws w t base b v
      went-lengths h = step-lengths w t base b ws v (clear-is false clear) l (lengths-is (length v) (length image) l e) h

      module _ (yes : is_err l ≡ false) (a : CallAnswer) (q' : a ≡ argument_answer r base (placement t n p.span) (buffers image part copies)) where
        pub went-answer : is_err a ≡ true → walker_outcome (WalkerAnswer.Called a) ws v ≡ step_for ws w t base b v
        went-answer h = step-answer w t base b ws v (clear-is false clear) l (lengths-is (length v) (length image) l e) yes a (answer-is a q') h

        pub went-done : lost w ≡ false → Declared w.convention t → is_err a ≡ false → (k : Counters) → k ≡ counters_after plain w.at p.next
            → walker_outcome (WalkerAnswer.Called call_done) (walker_words (walker w.convention w.ellipsis w.hidden k))
            (overlay v (value_at r base (placement t n p.span) (buffers image part copies))) ≡ step_for ws w t base b v
        went-done found known h k x =
            let on : k ≡ counters_after (rules_of w.convention) w.at (next_of (rules_by w) (near w t base b) t (size_by w t)) = x ∙ rw (g.plain-is, next-is) in
            rw (on, ← step-moves w t base b found known, g.rules-is, g.size_is, span-is, part-is)
            (step-done w t base b ws v (clear-is false clear) l (lengths-is (length v) (length image) l e) yes a (answer-is a q') h)
