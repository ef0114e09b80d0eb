-- A span moves with its offset in the area: a step may start from offset 0 of the part of the area that starts at its own. Assumes nothing.
use mathlib.Core.Path.{◌≡◌, refl}
use mathlib.Core.Bool.{Bool, true, false}
use mathlib.Core.List.{List}
use Prim.Native.Nat.{ℕ, ◌+◌, ◌-◌, ◌≤◌, ◌<◌}
use native.Mathlib.Omega.{arith}
use borrow.Author.Tests.{ltb-true, ltb-false, lt-ltb, le-ltb}
use lib.Dec.{ltb}
use lib.ListN.{length, drop, length-drop}
use Rattle.base_words.proofs.Splices.{part-from}
use Rattle.sig_types.specs.declared.ValueType.{ValueType}
use Rattle.plan_places.specs.declared.Cursor.{Cursor}
use Rattle.plan_places.specs.declared.Span.{Span}
use Rattle.plan_places.specs.declared.CallRules.{CallRules}
use Rattle.plan_places.specs.declared.ZClass.{ZClass}
use Rattle.plan_places.specs.Power.{power_share}
use Rattle.plan_places.specs.ZSeries.{z_class, z_span_of}
use Rattle.plan_places.specs.Step.{span_of}
use Rattle.call_slots.specs.Buffers.{Buffers, buffers, bytes_at}
use Rattle.call_slots.specs.Placements.{placement, words_at, words_value, value_at}
use Rattle.call_slots.specs.Refusals.{first_of}
use Rattle.call_read.specs.Read.{own_held, agrees, argument_answer}
use Rattle.call_walker.specs.Step.{passes, step_tests}
use Rattle.call_walker.specs.Helpers.{local, Shifted, SpansShift}

z-shifts : (k : Cursor) (c : ZClass) (n : ℕ) → Shifted k.stack (z_span_of k c n) (z_span_of (local k) c n)
unfolding z_span_of
z-shifts k ZClass.Float n = record { general = refl; floating = refl; home-start = omega arith; home-length = refl; memory_start = omega arith; memory-length = refl; copy-length = refl; indirect = refl }
z-shifts k ZClass.Simple n = record { general = refl; floating = refl; home-start = omega arith; home-length = refl; memory_start = omega arith; memory-length = refl; copy-length = refl; indirect = refl }
z-shifts k ZClass.Reference n = record { general = refl; floating = refl; home-start = omega arith; home-length = refl; memory_start = omega arith; memory-length = refl; copy-length = refl; indirect = refl }

-- at every cursor, for every type and size
pub span-shifts : SpansShift
unfolding span_of power_share
span-shifts (CallRules.Power f) k t n = record { general = refl; floating = refl; home-start = omega arith; home-length = refl; memory_start = omega arith; memory-length = refl; copy-length = refl; indirect = refl }
span-shifts CallRules.Z k t n = z-shifts k (z_class t n) n

-- ---- what is read

-- the buffers, of the area the part from d on
abbrev pub area_from : ℕ → Buffers → Buffers
area_from d b = buffers b.image (drop d b.area) b.copies

-- places that pass the area pass its part, and the other way round
passes-shift : (d : ℕ) (s s' : Span) (l : List ℕ) → Shifted d s s' → passes s (length l) ≡ passes s' (length (drop d l))
unfolding passes
passes-shift d s s' l h = go (ltb (length l) (s.memory.start + s.memory.length)) refl (ltb 0 s'.memory.length) refl
  where
    go : (x : Bool) → ltb (length l) (s.memory.start + s.memory.length) ≡ x → (y : Bool) → ltb 0 s'.memory.length ≡ y → passes s (length l) ≡ passes s' (length (drop d l))
    go x p false q = rw (h.memory-length, q)
    go true p true q =
        let past = ltb-true (length l) (s.memory.start + s.memory.length) p in
        let some = ltb-true 0 s'.memory.length q in
        let there : length (drop d l) < s'.memory.start + s'.memory.length = omega (arith, past, some, h.memory_start, h.memory-length, length-drop d l) in
        rw (p, h.memory-length, lt-ltb (length (drop d l)) (s'.memory.start + s'.memory.length) there)
    go false p true q =
        let inside = ltb-false (length l) (s.memory.start + s.memory.length) p in
        let there : s'.memory.start + s'.memory.length ≤ length (drop d l) = omega (arith, inside, h.memory_start, h.memory-length, length-drop d l) in
        rw (p, h.memory-length, le-ltb (length (drop d l)) (s'.memory.start + s'.memory.length) there)

module _ (t : ValueType) (n d : ℕ) (s s' : Span) (b : Buffers) (h : Shifted d s s') where
  words-shift : (w : ℕ) → words_at w s b ≡ words_at w s' (area_from d b)
  unfolding words_at bytes_at
  words-shift w = rw (h.general, h.memory_start, h.memory-length, part-from d s'.memory.start s'.memory.length b.area)

  own-shift : (r : CallRules) → own_held r (placement t n s) b ≡ own_held r (placement t n s') (area_from d b)
  unfolding own_held bytes_at
  own-shift r = rw h.general

  pub value-shift : (r : CallRules) (base : ℕ) → value_at r base (placement t n s) b ≡ value_at r base (placement t n s') (area_from d b)
  unfolding value_at words_value bytes_at
  value-shift r base = rw (words-shift, h.floating, h.indirect)

  pub answer-shift : (r : CallRules) (base : ℕ) → argument_answer r base (placement t n s) b ≡ argument_answer r base (placement t n s') (area_from d b)
  unfolding argument_answer agrees bytes_at
  answer-shift r base = rw (words-shift, own-shift r, h.floating, h.indirect)

  pub tests-shift : (v : ℕ) → first_of (step_tests n s v (length b.image) (length b.area)) ≡ first_of (step_tests n s' v (length b.image) (length (drop d b.area)))
  unfolding step_tests first_of
  tests-shift v = rw (passes-shift d s s' b.area h)
