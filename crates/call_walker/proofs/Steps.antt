-- One step: what it asks of an argument is there, and a step where an argument of a call stands answers as reading does. Assumes nothing.
use mathlib.Core.Path.{◌≡◌, refl, sym, ap, ◌∙◌}
use mathlib.Core.Bool.{Bool, false, ◌&&◌}
use Prim.Native.Nat.{ℕ, ◌+◌, ◌-◌, ◌≤◌}
use native.Mathlib.Omega.{arith}
use borrow.Author.Tests.{eq-eqb, le-ltb}
use lib.Dec.{ltb}
use lib.ListN.{length}
use Rattle.base_words.proofs.Tests.{and_no}
use Rattle.base_conventions.specs.declared.Convention.{Convention}
use Rattle.sig_types.specs.declared.ValueType.{ValueType}
use Rattle.sig_types.specs.Sizes.{size_of}
use Rattle.plan_places.specs.declared.Cursor.{Cursor}
use Rattle.plan_places.specs.declared.CallRules.{CallRules}
use Rattle.plan_places.specs.declared.Span.{Span}
use Rattle.plan_places.specs.declared.ZClass.{ZClass}
use Rattle.plan_places.specs.Values.{cursor}
use Rattle.plan_places.specs.Power.{power_share}
use Rattle.plan_places.specs.ZSeries.{z_class, z_next_of}
use Rattle.plan_places.specs.Step.{rules_of, span_of, next_of, unclear_for}
use Rattle.plan_places.specs.Helpers.{LawfulCalls}
use Rattle.plan_places.proofs.Between.{step-between}
use Rattle.plan_places.proofs.Marked.{next-marked}
use Rattle.plan_places.proofs.Bounds.{unclear-floating}
use Rattle.call_slots.specs.Buffers.{Buffers}
use Rattle.call_slots.specs.Placements.{placement, value_at}
use Rattle.call_slots.specs.Refusals.{first_of}
use Rattle.call_read.specs.Read.{argument_answer}
use Rattle.call_walker.specs.declared.Walker.{Walker}
use Rattle.call_walker.specs.Walker.{counters_of, walker, cursor_of}
use Rattle.call_walker.specs.Step.{rules_by, asked, passes, step_tests, step_answer, step_value, step_on}
use Rattle.call_walker.specs.Helpers.{local}
use Rattle.call_walker.proofs.Shifted.{span-shifts, value-shift, answer-shift}
use Rattle.call_walker.proofs.Reached.{Reached, reached-cursor}
use Rattle.call_slots.specs.Answer.{call_done}

-- ---- a walker where a call's cursor is: copies have no counter, and nobody looks at them

abbrev pub uncopied : Cursor → Cursor
uncopied d = cursor d.general d.floating d.stack 0

z-uncopied : (d : Cursor) (class : ZClass) (n : ℕ) → counters_of CallRules.Z (z_next_of (uncopied d) class n) ≡ counters_of CallRules.Z (z_next_of d class n)
unfolding counters_of z_next_of
z-uncopied d ZClass.Float n = refl
z-uncopied d ZClass.Simple n = refl
z-uncopied d ZClass.Reference n = refl

next-uncopied : (r : CallRules) (d : Cursor) (t : ValueType) (n : ℕ) → counters_of r (next_of r (uncopied d) t n) ≡ counters_of r (next_of r d t n)
unfolding next_of power_share counters_of
next-uncopied (CallRules.Power f) d t n = refl
next-uncopied CallRules.Z d t n = z-uncopied d (z_class t n) n

module _ (r : CallRules) (base : ℕ) (d : Cursor) (t : ValueType) (n : ℕ) (b : Buffers) where
  answer-uncopied : argument_answer r base (placement t n (span_of r (uncopied d) t n)) b ≡ argument_answer r base (placement t n (span_of r d t n)) b
  answer-uncopied =
      answer-shift t n d.stack (span_of r (uncopied d) t n) (span_of r (local d) t n) b (span-shifts r (uncopied d) t n) r base
      ∙ sym (answer-shift t n d.stack (span_of r d t n) (span_of r (local d) t n) b (span-shifts r d t n) r base)

  value-uncopied : value_at r base (placement t n (span_of r (uncopied d) t n)) b ≡ value_at r base (placement t n (span_of r d t n)) b
  value-uncopied =
      value-shift t n d.stack (span_of r (uncopied d) t n) (span_of r (local d) t n) b (span-shifts r (uncopied d) t n) r base
      ∙ sym (value-shift t n d.stack (span_of r d t n) (span_of r (local d) t n) b (span-shifts r d t n) r base)

-- no length is refused where the next cursor lies in the area
inside-passes : (r : CallRules) (d : Cursor) (t : ValueType) (n l : ℕ) → (next_of r d t n).stack ≤ l → passes (span_of r d t n) l ≡ false
unfolding passes
inside-passes r d t n l h =
    let w = step-between r d t n in
    let s : Span = span_of r d t n in
    let inside : s.memory.start + s.memory.length ≤ l = omega (arith, w.memory-to, w.home-to) in
    ap (λ (x : Bool). ltb 0 s.memory.length && x) (le-ltb l (s.memory.start + s.memory.length) inside) ∙ and_no (ltb 0 s.memory.length)

z-stack : (d : Cursor) (class : ZClass) (n : ℕ) → (z_next_of (uncopied d) class n).stack ≡ (z_next_of d class n).stack
unfolding z_next_of
z-stack d ZClass.Float n = refl
z-stack d ZClass.Simple n = refl
z-stack d ZClass.Reference n = refl

next-stack : (r : CallRules) (d : Cursor) (t : ValueType) (n : ℕ) → (next_of r (uncopied d) t n).stack ≡ (next_of r d t n).stack
unfolding next_of power_share
next-stack (CallRules.Power f) d t n = refl
next-stack CallRules.Z d t n = z-stack d (z_class t n) n

module _ (c : Convention) (v hidden : Bool) (d : Cursor) (h : Reached (rules_of c) hidden d) (l : LawfulCalls (rules_of c)) (t : ValueType) (base : ℕ) (b : Buffers) where
  -- the walker there
  abbrev pub here : Walker
  here = walker c v hidden (counters_of (rules_of c) d)

  at-cursor : cursor_of here ≡ uncopied d
  at-cursor = reached-cursor (rules_of c) hidden d l h

  pub step-done : unclear_for (rules_of c) d t ≡ false → length b.image ≡ 512 → (next_of (rules_of c) d t (size_of c t)).stack ≤ length b.area
      → argument_answer (rules_by here) base (placement t (size_of c t) (span_of (rules_by here) d t (size_of c t))) b ≡ call_done
      → (m : ℕ) → m ≡ size_of c t → step_answer here t m base b ≡ call_done
  unfolding step_answer step_tests first_of asked
  step-done clear image area done m size =
      let inside = inside-passes (rules_by here) (uncopied d) t (size_of c t) (length b.area) (omega (arith, next-stack (rules_by here) d t (size_of c t), ap (λ (k : Cursor). k.stack) (next-marked v (rules_of c) d t (size_of c t)))) in
      rw (at-cursor, unclear-floating (rules_of c) (uncopied d) d t refl ∙ clear, eq-eqb (length b.image) 512 image, eq-eqb m (size_of c t) size, inside) (answer-uncopied (rules_by here) base d t (size_of c t) b ∙ done)

  pub step_value_lem : step_value here t base b ≡ value_at (rules_by here) base (placement t (size_of c t) (span_of (rules_by here) d t (size_of c t))) b
  unfolding asked
  step_value_lem = rw at-cursor (value-uncopied (rules_by here) base d t (size_of c t) b)

  pub step-on : step_on here t ≡ walker c v hidden (counters_of (rules_of c) (next_of (rules_of c) d t (size_of c t)))
  unfolding step_on
  step-on = ap (walker c v hidden) (ap (λ (k : Cursor). counters_of (rules_of c) (next_of (rules_of c) k t (size_of c t))) at-cursor ∙ next-uncopied (rules_of c) d t (size_of c t))
