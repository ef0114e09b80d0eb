-- A filling that no test refuses has room for every slot: what its helpers ask. Assumes nothing.
use Rattle.sig_types.specs.declared.ValueType.{ValueType}
use mathlib.Core.Path.{◌≡◌, refl, sym, ap, ap₂, ◌∙◌}
use mathlib.Core.Bool.{Bool, true, false}
use mathlib.Core.List.{List, [], ◌++◌}
use Prim.Native.Nat.{ℕ, ◌+◌, ◌-◌, ◌*◌, ◌%◌, ◌^◌, ◌≤◌, ◌<◌}
use native.Mathlib.Omega.{arith}
use native.Mathlib.Nat.{mod-eq_of_lt}
use lib.Pow.{pow_pos}
use borrow.Author.Tests.{le-ltb, ltb-false, eqb-true}
use lib.Dec.{eqb, ltb}
use Rattle.base_words.specs.Basics.{pick}
use Rattle.base_words.specs.Splice.{splice}
use Rattle.base_words.specs.Numbers.{bytes_of, zero_extended}
use Rattle.base_words.proofs.Numbers.{length-bytes_of}
use Rattle.base_words.proofs.Each.{each-with}
use Rattle.base_conventions.specs.Numbers.{word_bytes}
use Rattle.base_conventions.proofs.Laws.{word-bounds}
use Rattle.plan_places.proofs.Bounds.{rules-word}
use Rattle.plan_places.proofs.Marked.{word-marked}
use Rattle.call_registers.specs.Registers.{spread}
use Rattle.call_registers.proofs.Registers.{register-number, spread-one}
use Rattle.base_conventions.specs.declared.Convention.{Convention}
use Rattle.sig_types.specs.Sizes.{size_of}
use Rattle.sig_items.specs.declared.Fault.{Fault}
use lib.ListN.{length}
use Rattle.sig_items.specs.Reading.{Reading, no}
use Rattle.sig_signatures.specs.Signature.{Signature}
use Rattle.sig_signatures.specs.Read.{signature_of}
use Rattle.plan_plans.specs.Call.{called, outcome_for}
use Rattle.plan_places.specs.declared.ResultPlaces.{ResultPlaces}
use Rattle.plan_places.specs.declared.Span.{Span}
use Rattle.plan_places.specs.Values.{pointer}
use Rattle.plan_places.specs.declared.CallRules.{CallRules}
use Rattle.plan_places.specs.Step.{rules_of, with_ellipsis, word_of, span_of, fresh_cursor, hidden_for, returning, result_of}
use Rattle.plan_places.specs.ZSeries.{z_class, z_span_of}
use Rattle.plan_plans.specs.declared.Plan.{Plan}
use Rattle.plan_plans.specs.declared.Measured.{Measured}
use Rattle.plan_plans.specs.Plan.{hidden_in, result_places_in, plan_answer}
use Rattle.call_slots.specs.Buffers.{Buffers, buffers, Slot, put, put_all}
use Rattle.call_slots.specs.Placements.{Placement, hidden_slots, slots_of_all}
use Rattle.call_slots.specs.Helpers.{Held, Fits, sizes_of}
use Rattle.call_slots.specs.Refusals.{differ, first_of}
use Rattle.call_slots.specs.Arguments.{arguments_of, plan_for, sizes_for, rules_for}
use Rattle.call_slots.proofs.Answered.{carried}
use Rattle.call_kept.specs.Helpers.{kept_all, KeptEach}
use Rattle.call_arguments.specs.Helpers.{KeptOf}
use Rattle.call_arguments.proofs.Kept.{Headed}
use Rattle.call_slots.proofs.Buffers.{put_all-lengths, put_all-append}
use Rattle.call_slots.proofs.Planned.{in_image_lem}
use Rattle.call_slots.proofs.Refusals.{first_done, differ-false}
use Rattle.call_marshal.specs.Helpers.{CanPut}
use Rattle.call_fill.specs.declared.FillLengths.{FillLengths}
use Rattle.call_fill.specs.Fill.{bad_copies, high_address, fill_tests, fill_answer, filled_slots, fill_buffers}
use Rattle.call_fill.specs.Helpers.{address_places}
use Rattle.std.proofs.Common.{Ok, Err, is_err, Some, None, Option}
use Rattle.call_slots.specs.Answer.{CallAnswer, call_done, call_unread}

-- ---- the tests
copies-good : (e n base : ℕ) → base < 2 ^ 64 → bad_copies e n base ≡ false → (e ≤ n) × (base + e < 2 ^ 64)
unfolding bad_copies
copies-good e n base low = none (eqb e 0) refl
  where
    last : (b : Bool) → ltb (2 ^ 64 - 1) (base + e) ≡ b → e ≤ n → b ≡ false → (e ≤ n) × (base + e < 2 ^ 64)
    last b q h f = let l : base + e ≤ 2 ^ 64 - 1 = ltb-false (2 ^ 64 - 1) (base + e) (q ∙ f) in (h, omega arith)

    aligned : (b : Bool) → e ≤ n → pick b true (ltb (2 ^ 64 - 1) (base + e)) ≡ false → (e ≤ n) × (base + e < 2 ^ 64)
    aligned true h f = let z : ◌≡◌ {A = ℕ} 0 1 = cc in absurd (omega arith)
    aligned false h f = last (ltb (2 ^ 64 - 1) (base + e)) refl h f

    long : (b : Bool) → ltb n e ≡ b → pick b true (pick (differ (base % 8) 0) true (ltb (2 ^ 64 - 1) (base + e))) ≡ false → (e ≤ n) × (base + e < 2 ^ 64)
    long true q f = let z : ◌≡◌ {A = ℕ} 0 1 = cc in absurd (omega arith)
    long false q f = aligned (differ (base % 8) 0) (ltb-false n e q) f

    none : (b : Bool) → eqb e 0 ≡ b
        → pick b false (pick (ltb n e) true (pick (differ (base % 8) 0) true (ltb (2 ^ 64 - 1) (base + e)))) ≡ false → (e ≤ n) × (base + e < 2 ^ 64)
    none true q f = let z = eqb-true e 0 q in (omega arith, omega arith)
    none false q f = long (ltb n e) refl f

-- the buffers have what a plan p asks for
pub record Lent (have : FillLengths) (p : Plan) (base : ℕ) : Type 0 where
  pub image : have.image ≡ 512
  pub values : have.values ≡ p.values
  pub area : p.area ≤ have.area
  pub copies : p.copies ≤ have.copies
  pub low : base + p.copies < 2 ^ 64

pub tests-passed : (have : FillLengths) (p : Plan) (base : ℕ) (high : Bool) → base < 2 ^ 64
    → first_of (fill_tests have p.values p.area p.copies base high) ≡ call_done → Lent have p base
unfolding fill_tests
tests-passed have p base high low e =
    let a = first_done _ _ e in
    let b = first_done _ _ a.1 in
    let c = first_done _ _ b.1 in
    let d = first_done _ _ c.1 in
    let good = copies-good p.copies have.copies base low d.0 in
    record {
      image = differ-false have.image 512 a.0;
      values = differ-false have.values p.values b.0;
      area = ltb-false have.area p.area c.0;
      copies = good.0;
      low = good.1;
    }

-- nor is the hidden address too high
pub tests-low : (have : FillLengths) (values area copies base : ℕ) (high : Bool) → first_of (fill_tests have values area copies base high) ≡ call_done → high ≡ false
unfolding fill_tests
tests-low have values area copies base high e =
    let a = first_done _ _ e in
    let b = first_done _ _ a.1 in
    let c = first_done _ _ b.1 in
    let d = first_done _ _ c.1 in
    (first_done _ _ d.1).0

-- the same of sizes m that were measured
pub tests-lent : (s : List ℕ) (have : FillLengths) (base : ℕ) (m : Measured) (high : Bool) → base < 2 ^ 64 → m ≡ sizes_for s
    → first_of (fill_tests have m.values m.area m.copies base high) ≡ call_done → Lent have (plan_for s) base
tests-lent s have base m high low p e = tests-passed have (plan_for s) base high low (rw p at e)

-- ---- the arguments

-- those that are kept have room
pub all-ready : (s : List ℕ) (r : CallRules) (c : Convention) (l : List ℕ) (n base i a k : ℕ) → r ≡ rules_for s → KeptOf s c l n
    → i ≡ 512 → (plan_for s).area ≤ a → (plan_for s).copies ≤ k → base + (plan_for s).copies < 2 ^ 64 → KeptEach (CanPut r base i a k) c l n
unfolding arguments_of
all-ready s r c l n base i a k rules kept image area copies low =
    let h = carried s in
    rw rules
    (record {
      room = kept.room;
      each =
          rw kept.same
          (each-with (Held (rules_for s)) (Fits (plan_for s).area (plan_for s).copies) (CanPut (rules_for s) base i a k) ready (arguments_of s) h.held h.fit);
    })
  where
    ready : (q : Placement) → Held (rules_for s) q → Fits (plan_for s).area (plan_for s).copies q → CanPut (rules_for s) base i a k q
    ready q x y = record {
      registers = in_image_lem (rules_for s) i (plan_for s).area (plan_for s).copies q x y image;
      memory = omega (arith, y.memory);
      copies = omega (arith, y.copies);
      low = omega (arith, y.copies);
    }

pub all-sizes : (s : List ℕ) (c : Convention) (l : List ℕ) (n v : ℕ) → KeptOf s c l n → v ≡ (plan_for s).values → sizes_of (kept_all c l n) ≡ v
unfolding arguments_of
all-sizes s c l n v kept values = ap sizes_of kept.same ∙ (carried s).total ∙ sym values

-- ---- the hidden address

-- its register is the first
pub address-register : (c : Convention) → (span_of (rules_of c) (fresh_cursor (rules_of c)) pointer (word_of (rules_of c))).general.first ≡ (fresh_cursor (rules_of c)).general
unfolding span_of fresh_cursor z_class z_span_of
address-register Convention.Ppc64 = refl
address-register Convention.Z = refl
address-register Convention.Aix = refl
address-register Convention.Ppc64b = refl

pub register-low : (c : Convention) → (fresh_cursor (rules_of c)).general < 32
unfolding fresh_cursor
register-low Convention.Ppc64 = omega arith
register-low Convention.Z = omega arith
register-low Convention.Aix = omega arith
register-low Convention.Ppc64b = omega arith

-- a result's other places are none to whoever looks for the hidden address alone
hidden-alone : {A : Type 0} (f : ResultPlaces → A) → ((s : Span) → f (ResultPlaces.Registers s) ≡ f ResultPlaces.Nothing) → (c : Convention) (t : Option ValueType)
    → f (address_places c (hidden_in c t)) ≡ f (result_places_in c t)
unfolding result_of
hidden-alone f none c None = refl
hidden-alone f none c (Some t) = go (hidden_for (rules_of c) t)
  where
    go : (b : Bool) → f (address_places c b)
        ≡ f (pick b (ResultPlaces.Hidden (span_of (rules_of c) (fresh_cursor (rules_of c)) pointer (word_of (rules_of c))))
        (ResultPlaces.Registers (span_of (returning (rules_of c)) (fresh_cursor (rules_of c)) t (size_of c t))))
    go true = refl
    go false = sym (none (span_of (returning (rules_of c)) (fresh_cursor (rules_of c)) t (size_of c t)))

-- ---- the answer and the buffers

-- a signature that is not read
pub answer-unread : (s : List ℕ) (have : FillLengths) (base address : ℕ) (f : Fault) → signature_of s ≡ no f → call_unread f ≡ fill_answer s have base address
unfolding fill_answer called plan_answer
answer-unread s have base address f q = let o : outcome_for s ≡ Err f = ap (λ (x : Reading Signature). (plan_answer (called x)).outcome) q in rw o

module _ (s : List ℕ) where
  pub answer-refused : (have : FillLengths) (base address : ℕ) (m : Measured) (f : Fault) → m ≡ sizes_for s → m.outcome ≡ Err f
      → call_unread f ≡ fill_answer s have base address
  unfolding fill_answer
  answer-refused have base address m f p e = rw (rw p at e)

  module _ (c : Convention) (t : Option ValueType) (v : Bool) (head : Headed s c t v) where
    -- the word of the signature's convention
    word_read : word_bytes c ≡ word_of (rules_for s)
    word_read = sym (word-marked v (rules_of c) ∙ rules-word c) ∙ ap word_of head.rules

    pub answer-tested : (have : FillLengths) (base address n : ℕ) (m : Measured) (hidden high : Bool) (a : CallAnswer)
        → m ≡ sizes_for s → hidden ≡ hidden_in c t → high ≡ high_address (word_bytes c) (address_places c hidden) address → m.outcome ≡ Ok n
        → a ≡ first_of (fill_tests have m.values m.area m.copies base high) → a ≡ fill_answer s have base address
    unfolding fill_answer
    answer-tested have base address n m hidden high a p x z e q =
        let high-so : high ≡ high_address (word_of (rules_for s)) (plan_for s).result address
        = z
        ∙ ap (λ (b : Bool). high_address (word_bytes c) (address_places c b) address) x
        ∙ hidden-alone (λ q. high_address (word_bytes c) q address) (λ p. refl) c t
        ∙ ap₂ (λ (w : ℕ) (r : ResultPlaces). high_address w r address) word_read head.result in
        rw (rw p at e) (rw (p, high-so) at q)

    -- the slots of a filling
    pub slots-are : (values : List ℕ) (base address : ℕ) (hidden : Bool) (ps : List Placement) → hidden ≡ hidden_in c t → ps ≡ arguments_of s
        → hidden_slots (word_bytes c) (address_places c hidden) address ++ slots_of_all (with_ellipsis v (rules_of c)) base ps values ≡ filled_slots s values base address
    unfolding filled_slots
    slots-are values base address hidden ps x same =
        ap₂ (λ (a b : List Slot). a ++ b)
        (ap (λ (b : Bool). hidden_slots (word_bytes c) (address_places c b) address) x
        ∙ hidden-alone (λ q. hidden_slots (word_bytes c) q address) (λ p. refl) c t
        ∙ ap₂ (λ (w : ℕ) (r : ResultPlaces). hidden_slots w r address) word_read head.result)
        (ap₂ (λ (r : CallRules) (qs : List Placement). slots_of_all r base qs values) head.rules same)

-- ---- the hidden address

-- none is where a word is a doubleword
pub never-high : (q : ResultPlaces) (x : ℕ) → x < 2 ^ 64 → high_address 8 q x ≡ false
never-high ResultPlaces.Nothing x h = refl
never-high (ResultPlaces.Registers s) x h = refl
never-high (ResultPlaces.Hidden s) x h = le-ltb (2 ^ 64 - 1) x (omega arith)

-- its word in the register
pub address_word : (w x : ℕ) → w ≤ 8 → bytes_of 8 (zero_extended w x) ≡ spread w 1 (bytes_of w x)
address_word w x h = register-number w x h ∙ sym (spread-one w (bytes_of w x) (length-bytes_of w x))

pub hidden-put : (c : Convention) (image : List ℕ) (x : ℕ)
    → buffers (splice image (8 * (fresh_cursor (rules_of c)).general) (bytes_of 8 (zero_extended (word_bytes c) x))) [] [] ≡ put_all (hidden_slots (word_bytes c) (address_places c true) x) (buffers image [] [])
unfolding put_all put
hidden-put c image x =
    rw (address-register c) (ap (λ (bs : List ℕ). buffers (splice image (8 * (fresh_cursor (rules_of c)).general) bs) [] []) (address_word (word_bytes c) x (word-bounds c).1))

-- which is the whole address where that is not too high
pub low-address : (w x : ℕ) (s : Span) → w ≤ 8 → high_address w (ResultPlaces.Hidden s) x ≡ false → spread w 1 (bytes_of w x) ≡ bytes_of 8 x
unfolding zero_extended
low-address w x s h e =
    let l : x ≤ 2 ^ (8 * w) - 1 = ltb-false (2 ^ (8 * w) - 1) x e in
    let low : x < 2 ^ (8 * w) = omega (arith, pow_pos (8 * w)) in
    sym (address_word w x h) ∙ ap (bytes_of 8) (mod-eq_of_lt low)

-- a hidden address changes the image alone
hidden-whole : (w : ℕ) (q : ResultPlaces) (address : ℕ) (image area copies i : List ℕ) → buffers i [] [] ≡ put_all (hidden_slots w q address) (buffers image [] [])
    → buffers i area copies ≡ put_all (hidden_slots w q address) (buffers image area copies)
unfolding put_all put
hidden-whole w ResultPlaces.Nothing address image area copies i e = ap (λ (b : Buffers). buffers b.image area copies) e
hidden-whole w (ResultPlaces.Registers s) address image area copies i e = ap (λ (b : Buffers). buffers b.image area copies) e
hidden-whole w (ResultPlaces.Hidden s) address image area copies i e = ap (λ (b : Buffers). buffers b.image area copies) e

pub hidden-length : (w : ℕ) (q : ResultPlaces) (address : ℕ) (image i : List ℕ) → buffers i [] [] ≡ put_all (hidden_slots w q address) (buffers image [] []) → length i ≡ length image
hidden-length w q address image i e = ap (λ (b : Buffers). length b.image) e ∙ (put_all-lengths (hidden_slots w q address) (buffers image [] [])).image

-- a refusal leaves them
pub buffers-kept : (s values : List ℕ) (base hidden : ℕ) (a : CallAnswer) (b : Buffers) → is_err a ≡ true → b ≡ fill_buffers s values base hidden a b
unfolding fill_buffers
buffers-kept s values base hidden (Ok tt) b e = let z : ◌≡◌ {A = ℕ} 0 1 = cc in absurd (omega arith)
buffers-kept s values base hidden (Err x) b e = refl

-- the hidden address is put, and then the arguments' slots
pub buffers-done : (s values image area copies i : List ℕ) (base address w : ℕ) (q : ResultPlaces) (slots : List Slot) (b : Buffers)
    → hidden_slots w q address ++ slots ≡ filled_slots s values base address
    → buffers i [] [] ≡ put_all (hidden_slots w q address) (buffers image [] [])
    → b ≡ put_all slots (buffers i area copies)
    → b ≡ fill_buffers s values base address call_done (buffers image area copies)
unfolding fill_buffers
buffers-done s values image area copies i base address w q slots b e x y =
    let whole = hidden-whole w q address image area copies i x in
    rw (← e) (y ∙ ap (put_all slots) whole ∙ sym (put_all-append (hidden_slots w q address) slots (buffers image area copies)))
