-- The hidden address stands in its register after filling (specs/RoundTrip.antt states it): it is put first, and the arguments' slots lie
-- after it. Assumes nothing.
use Rattle.sig_types.specs.declared.ValueType.{ValueType}
use Rattle.std.proofs.Common.{Option}
use mathlib.Core.Path.{◌≡◌, refl, sym, ap, subst, ◌∙◌}
use mathlib.Core.Bool.{true, false}
use mathlib.Core.List.{List}
use Prim.Native.Nat.{ℕ, ◌*◌, ◌<◌}
use native.Mathlib.Omega.{arith}
use lib.ListN.{length}
use Rattle.base_words.specs.Splice.{part, splice}
use Rattle.base_words.specs.Numbers.{bytes_of}
use Rattle.base_words.proofs.Splices.{splice-same}
use Rattle.base_words.proofs.Numbers.{length-bytes_of}
use Rattle.base_conventions.specs.declared.Convention.{Convention}
use Rattle.sig_items.specs.Reading.{Reading, got, no}
use Rattle.sig_signatures.specs.Signature.{Signature}
use Rattle.sig_signatures.specs.Read.{signature_of}
use Rattle.sig_signatures.specs.Answer.{signature_answer, result_type}
use Rattle.sig_signatures.specs.Types.{types_of}
use Rattle.plan_places.specs.declared.Span.{Span}
use Rattle.plan_places.specs.declared.ResultPlaces.{ResultPlaces}
use Rattle.plan_places.specs.Spots.{general}
use Rattle.plan_places.specs.Values.{pointer}
use Rattle.plan_places.specs.ZSeries.{z_class, z_span_of, z_next_of}
use Rattle.plan_places.specs.Power.{words, fprs, share_of, power_share}
use Rattle.plan_places.specs.declared.CallRules.{CallRules}
use Rattle.plan_places.specs.Step.{rules_of, with_ellipsis, word_of, next_of, span_of, fresh_cursor, start_of}
use Rattle.plan_places.proofs.Bounds.{named_start, rules-lawful, word-most}
use Rattle.plan_places.proofs.Marked.{lawful-marked, named-marked}
use Rattle.plan_plans.proofs.Theorems.{hidden-address}
use Rattle.plan_plans.specs.Plan.{start_in, hidden_in, result_places_in, plan_answer, plan_in}
use Rattle.call_registers.specs.Registers.{spread}
use Rattle.call_slots.specs.Buffers.{Buffers, buffers, Slot, put, put_all, bytes_at}
use Rattle.call_slots.specs.Placements.{slots_of_all, hidden_slots}
use Rattle.plan_plans.specs.Call.{outcome_for}
use Rattle.call_slots.specs.Arguments.{placements_in, arguments_of, plan_for, rules_in, rules_for}
use Rattle.call_slots.proofs.Buffers.{put_all-append}
use Rattle.call_slots.proofs.Answered.{arguments-got}
use Rattle.call_fill.specs.Fill.{high_address, fill_answer, filled_slots, fill_buffers}
use Rattle.call_fill.proofs.Accepted.{tests-low, low-address}
use Rattle.call_roundtrip.specs.RoundTrip.{HiddenStands}
use Rattle.call_roundtrip.proofs.Kept.{kept-all, all-later}
use Rattle.call_roundtrip.proofs.Theorems.{reading-done, filled-lent}
use Rattle.call_slots.specs.Answer.{call_done}

-- the first argument register, which is of the image's 32
address-first : (c : Convention)
    → ((span_of (rules_of c) (fresh_cursor (rules_of c)) pointer (word_of (rules_of c))).general.first < (start_of (rules_of c) true).general)
    × ((span_of (rules_of c) (fresh_cursor (rules_of c)) pointer (word_of (rules_of c))).general.first < 32)
unfolding start_of next_of span_of fresh_cursor words fprs share_of power_share z_class z_span_of z_next_of
address-first Convention.Ppc64 = (omega arith, omega arith)
address-first Convention.Z = (omega arith, omega arith)
address-first Convention.Aix = (omega arith, omega arith)
address-first Convention.Ppc64b = (omega arith, omega arith)

-- a hidden address has it, and the arguments have those after it
register-first : (c : Convention) (r : Option ValueType) (x : Span) → result_places_in c r ≡ ResultPlaces.Hidden x → (x.general.first < (start_in c r).general) × (x.general.first < 32)
register-first c r x e = let h = hidden-address c r x e in rw (h.0, h.1) (address-first c)

-- the arguments' slots leave it
hidden-kept : (y : Reading Signature) (base : ℕ) (v : List ℕ) (x : Span) (b : Buffers) → (plan_answer y).result ≡ ResultPlaces.Hidden x
    → bytes_at (general x.general.first) 8 (put_all (slots_of_all (rules_in (signature_answer y)) base (placements_in (signature_answer y) (plan_answer y)) v) b)
    ≡ bytes_at (general x.general.first) 8 b
unfolding plan_answer plan_in
hidden-kept (got g next n) base v x b e =
    let c : Convention = g.convention in
    let r : (Option ValueType) = result_type c g.result in
    let q : CallRules = with_ellipsis g.ellipsis (rules_of c) in
    let f = register-first c r x e in
    rw (arguments-got g next n)
    (kept-all (start_in c r) (general x.general.first) 8 _ b (omega (arith, f.0)) (omega (arith, f.1))
    (all-later c q base (start_in c r) (types_of c g.arguments) v (word-most q (lawful-marked g.ellipsis (rules_of c) (rules-lawful c))) (named-marked g.ellipsis (rules_of c) _ (named_start (rules_of c) (hidden_in c r)))))
hidden-kept (no f) base v x b e = let z : ◌≡◌ {A = ℕ} 0 1 = cc in absurd (omega arith)

register-below : (y : Reading Signature) (x : Span) → (plan_answer y).result ≡ ResultPlaces.Hidden x → x.general.first < 32
unfolding plan_answer plan_in
register-below (got g next n) x e = (register-first g.convention (result_type g.convention g.result) x e).1
register-below (no f) x e = let z : ◌≡◌ {A = ℕ} 0 1 = cc in absurd (omega arith)

pub hidden-stands : HiddenStands
unfolding fill_answer fill_buffers filled_slots arguments_of put_all put bytes_at plan_answer
hidden-stands s values image area copies base hidden x h e =
    let b : Buffers = buffers image area copies in
    let g = signature_answer (signature_of s) in
    let c : Convention = g.convention in
    let w : ℕ = word_of (rules_for s) in
    let ss : List Slot = slots_of_all (rules_for s) base (arguments_of s) values in
    let size : length image ≡ 512 = (filled-lent s values image area copies base hidden h).image in
    let below = register-below (signature_of s) x e in
    let low = tests-low _ _ _ _ _ _ (reading-done (outcome_for s) _ h.accepted call_done refl).0 in
    let word : spread w 1 (bytes_of w hidden) ≡ bytes_of 8 hidden =
    low-address w hidden x (word-most (rules_for s) (lawful-marked g.ellipsis (rules_of c) (rules-lawful c))) (subst (λ (q : ResultPlaces). high_address w q hidden ≡ false) e low) in
    rw e
    (ap (λ (y : Buffers). bytes_at (general x.general.first) 8 y) (put_all-append (hidden_slots w (ResultPlaces.Hidden x) hidden) ss b)
    ∙ hidden-kept (signature_of s) base values x (put_all (hidden_slots w (ResultPlaces.Hidden x) hidden) b) e
    ∙ ap (λ (bs : List ℕ). part (8 * x.general.first) 8 (splice image (8 * x.general.first) bs)) word
    ∙ ap (λ (m : ℕ). part (8 * x.general.first) m (splice image (8 * x.general.first) (bytes_of 8 hidden))) (sym (length-bytes_of 8 hidden))
    ∙ splice-same image (8 * x.general.first) (bytes_of 8 hidden) (omega (arith, length-bytes_of 8 hidden, size)))
