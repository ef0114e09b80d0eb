-- A step from offset 0 of its part of the area is the step. Assumes nothing.
use mathlib.Core.Path.{◌≡◌, refl, sym, ap, ap₂, ◌∙◌, subst}
use mathlib.Core.Bool.{Bool, true, false, ◌&&◌}
use mathlib.Core.List.{List, [], ◌∷◌}
use Prim.Native.Nat.{ℕ, ◌+◌, ◌-◌, ◌≤◌, ◌<◌}
use native.Mathlib.Omega.{arith}
use borrow.Author.Tests.{lt-ltb, ltb-false}
use lib.Dec.{ltb}
use lib.ListN.{length, drop}
use Rattle.base_words.specs.Basics.{pick, All}
use Rattle.base_words.specs.Splice.{overlay}
use Rattle.base_conventions.specs.declared.Convention.{Convention}
use Rattle.sig_types.specs.declared.ValueType.{ValueType}
use Rattle.sig_types.specs.Sizes.{Sized}
use Rattle.sig_types.specs.Trees.{type_of}
use Rattle.sig_items.specs.declared.Refusal.{Refusal}
use Rattle.sig_items.specs.Reading.{fault}
use Rattle.plan_places.specs.declared.Cursor.{Cursor}
use Rattle.plan_places.specs.declared.CallRules.{CallRules}
use Rattle.plan_places.specs.declared.Span.{Span}
use Rattle.plan_places.specs.Step.{rules_of, span_of, next_of, unclear_for}
use Rattle.plan_places.specs.Helpers.{LawfulCalls}
use Rattle.plan_places.proofs.Bounds.{rules-lawful, unclear-floating}
use Rattle.plan_places.proofs.Marked.{next-marked, named-marked}
use Rattle.plan_places.proofs.Registers.{step-numbered}
use Rattle.call_slots.specs.Buffers.{Buffers, buffers}
use Rattle.call_slots.specs.Placements.{Placement, placement, value_at}
use Rattle.call_slots.specs.Refusals.{first_of, or_else, first_of_all}
use Rattle.call_slots.proofs.Typed.{Typed, typed}
use Rattle.call_slots.proofs.Held.{step-held}
use Rattle.call_slots.proofs.Refusals.{first_done, differ-false, or-refused, not-refused}
use Rattle.call_unmarshal.specs.Helpers.{InBuffers, Readable}
use Rattle.call_read.specs.Read.{argument_answer, arguments_answer}
use Rattle.call_read.proofs.Arguments.{all-readable}
use Rattle.call_walker.specs.declared.WalkerAnswer.{WalkerAnswer}
use Rattle.call_walker.specs.declared.Walker.{Walker}
use Rattle.call_walker.specs.Walker.{counters_of, walker, cursor_of, lost}
use Rattle.call_walker.specs.Step.{size_by, rules_by, asked, passes, step_tests, step_answer, step_value, step_on}
use Rattle.call_walker.specs.Words.{walker_words, walker_outcome, step_by, step_for}
use Rattle.call_walker.specs.Helpers.{local, Shifted}
use Rattle.call_walker.proofs.Shifted.{area_from, span-shifts, value-shift, answer-shift, tests-shift}
use Rattle.call_walker.proofs.Exactly.{found-possible}
use Rattle.call_walking.specs.Helpers.{Declared, counters_after}
use Rattle.call_walking.proofs.Parts.{local-named, next-after}
use Rattle.std.proofs.Common.{Ok, Err, is_err}
use Rattle.call_slots.specs.declared.CallError.{CallError}
use Rattle.call_slots.specs.Answer.{CallAnswer, call_done, call_unread}

-- ---- what the lengths tell

pub record Passed (n : ℕ) (s : Span) (v i a : ℕ) : Type 0 where
  pub image : i ≡ 512
  pub value : v ≡ n
  pub inside : passes s a ≡ false

pub lengths-passed : (n : ℕ) (s : Span) (value image area : ℕ) → first_of (step_tests n s value image area) ≡ call_done → Passed n s value image area
unfolding step_tests
lengths-passed n s value image area e =
    let a = first_done _ _ e in
    let b = first_done _ _ a.1 in
    let c = first_done _ _ b.1 in
    record { image = differ-false image 512 a.0; value = differ-false value n b.0; inside = c.0 }

stored : (s : Span) (l : ℕ) → passes s l ≡ false → 0 < s.memory.length → s.memory.start + s.memory.length ≤ l
unfolding passes
stored s l e some = ltb-false l (s.memory.start + s.memory.length) (rw (lt-ltb 0 s.memory.length some) at e)

-- ---- the step

-- a refusal leaves all as it was
step-no : (a : CallAnswer) (ws : List ℕ) (w : Walker) (t : ValueType) (base : ℕ) (b : Buffers) (v : List ℕ) → is_err a ≡ true
    → walker_outcome (WalkerAnswer.Called a) ws v ≡ step_by a ws w t base b v
step-no (Ok tt) ws w t base b v h = let z : ◌≡◌ {A = ℕ} 0 1 = cc in absurd (omega arith)
step-no (Err (CallError.Unread f)) ws w t base b v h = refl
step-no (Err (CallError.Refused r)) ws w t base b v h = refl

module _ (w : Walker) (t : ValueType) (base : ℕ) (b : Buffers) where
  -- the cursor at offset 0, its offset, and the span there
  abbrev pub near : Cursor
  near = local (cursor_of w)

  abbrev pub span : Span
  span = span_of (rules_by w) near t (size_by w t)

  abbrev part : List ℕ
  part = drop (cursor_of w).stack b.area

  shifted : Shifted (cursor_of w).stack (span_of (rules_by w) (cursor_of w) t (size_by w t)) span
  shifted = span-shifts (rules_by w) (cursor_of w) t (size_by w t)

  abbrev unclear : CallAnswer
  unclear = call_unread (fault Refusal.UnclearPlace 0 0)

  near-answer : (v : ℕ)
      → step_answer w t v base b
      ≡ pick (unclear_for (rules_of w.convention) near t) unclear
      (or_else (first_of (step_tests (size_by w t) span v (length b.image) (length part)))
      (argument_answer (rules_by w) base (placement t (size_by w t) span) (area_from (cursor_of w).stack b)))
  unfolding step_answer asked
  near-answer v =
      let s : Span = span_of (rules_by w) (cursor_of w) t (size_by w t) in
      let tests = tests-shift t (size_by w t) (cursor_of w).stack s span b shifted v in
      let answer = answer-shift t (size_by w t) (cursor_of w).stack s span b shifted (rules_by w) base in
      ap₂ (λ (u : Bool) (x : CallAnswer). pick u unclear x) (sym (unclear-floating (rules_of w.convention) (local (cursor_of w)) (cursor_of w) t refl)) (ap₂ or_else tests answer)

  module _ (ws v : List ℕ) where
    by_answer : (a : CallAnswer) → step_answer w t (length v) base b ≡ a → is_err a ≡ true → walker_outcome (WalkerAnswer.Called a) ws v ≡ step_for ws w t base b v
    unfolding step_for
    by_answer a e h = step-no a ws w t base b v h ∙ ap (λ (x : CallAnswer). step_by x ws w t base b v) (sym e)

    pub step-unclear : unclear_for (rules_of w.convention) near t ≡ true → walker_outcome (WalkerAnswer.Called unclear) ws v ≡ step_for ws w t base b v
    step-unclear e = by_answer unclear (near-answer (length v) ∙ rw e) refl

    module _ (clear : unclear_for (rules_of w.convention) near t ≡ false) (l : CallAnswer)
        (lengths : l ≡ first_of (step_tests (size_by w t) span (length v) (length b.image) (length part))) where
      answer-is : step_answer w t (length v) base b
          ≡ or_else l (argument_answer (rules_by w) base (placement t (size_by w t) span) (area_from (cursor_of w).stack b))
      answer-is = near-answer (length v) ∙ rw (clear, lengths)

      pub step-lengths : is_err l ≡ true → walker_outcome (WalkerAnswer.Called l) ws v ≡ step_for ws w t base b v
      step-lengths h = by_answer l (answer-is ∙ or-refused l _ h) h

      module _ (passed : is_err l ≡ false) (a : CallAnswer)
          (answer : a ≡ argument_answer (rules_by w) base (placement t (size_by w t) span) (area_from (cursor_of w).stack b)) where
        last : step_answer w t (length v) base b ≡ a
        last = answer-is ∙ ap₂ or_else (not-refused l passed) (sym answer)

        pub step-answer : is_err a ≡ true → walker_outcome (WalkerAnswer.Called a) ws v ≡ step_for ws w t base b v
        step-answer h = by_answer a last h

        pub step-done : is_err a ≡ false
            → walker_outcome (WalkerAnswer.Called call_done) (walker_words (step_on w t)) (overlay v (value_at (rules_by w) base (placement t (size_by w t) span) (area_from (cursor_of w).stack b)))
            ≡ step_for ws w t base b v
        unfolding step_for asked
        step-done h =
            let value = value-shift t (size_by w t) (cursor_of w).stack (span_of (rules_by w) (cursor_of w) t (size_by w t)) span b shifted (rules_by w) base in
            ap (λ (x : List ℕ). walker_outcome (WalkerAnswer.Called call_done) (walker_words (step_on w t)) (overlay v x)) (sym value)
            ∙ ap (λ (x : CallAnswer). step_by x ws w t base b v) (sym (last ∙ not-refused a h))

  module _ (found : lost w ≡ false) (known : Declared w.convention t) where
    lawful : LawfulCalls (rules_of w.convention)
    lawful = rules-lawful w.convention

    -- "and moves on"
    pub step-moves : step_on w t ≡ walker w.convention w.ellipsis w.hidden (counters_after (rules_of w.convention) w.at (next_of (rules_by w) near t (size_by w t)))
    unfolding step_on
    step-moves =
        ap (walker w.convention w.ellipsis w.hidden)
        (sym (ap (counters_after (rules_of w.convention) w.at) (next-marked w.ellipsis (rules_of w.convention) near t (size_by w t)) ∙ next-after (rules_of w.convention) w.hidden w.at t (size_by w t) lawful (found-possible w found)))

    is-typed : Typed w.convention t
    is-typed =
        subst (Typed w.convention) known.same
        (typed w.convention known.tree (subst (Sized w.convention) (sym known.same) known.sized))

    -- the argument can be looked at
    pub step-ready : length b.image ≡ 512 → passes span (length part) ≡ false → InBuffers (rules_by w) (length b.image) (length part) (placement t (size_by w t) span)
    step-ready image inside =
        let q = step-numbered (rules_by w) near t (size_by w t) (named-marked w.ellipsis (rules_of w.convention) near (local-named (rules_of w.convention) w.hidden w.at (found-possible w found))) in
        record {
          registers = record { held = step-held w.convention w.ellipsis near t is-typed; general = q.1; floating = q.0; image = image };
          memory = stored span (length part) inside;
        }

    -- and where nothing refuses it, be read
    pub step-readable : InBuffers (rules_by w) (length b.image) (length part) (placement t (size_by w t) span)
        → argument_answer (rules_by w) base (placement t (size_by w t) span) (area_from (cursor_of w).stack b) ≡ call_done
        → Readable (rules_by w) base (placement t (size_by w t) span) (area_from (cursor_of w).stack b)
    unfolding All arguments_answer first_of_all
    step-readable ready done = (all-readable (rules_by w) base (area_from (cursor_of w).stack b) (placement t (size_by w t) span ∷ []) (ready, tt) (rw done)).0
