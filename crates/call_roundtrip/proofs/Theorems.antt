-- Reading after filling gives the values back (specs/RoundTrip.antt states it). Assumes nothing.
-- ---- the arguments of a plan, from the cursor k on
use Rattle.std.proofs.Common.{Ok, Err, Result}
use mathlib.Core.Path.{◌≡◌, refl, sym, ap, ap₂, ◌∙◌, subst}
use mathlib.Core.List.{List, [], ◌∷◌, ◌++◌}
use Prim.Native.Nat.{ℕ, ◌+◌, ◌^◌, ◌≤◌, ◌<◌}
use native.Mathlib.Omega.{arith}
use borrow.Author.Tests.{eq-eqb, le-ltb}
use lib.ListN.{length, take, drop, length-drop, take-append-drop}
use lib.Seq.{length-take-le}
use Rattle.base_words.specs.Basics.{All}
use Rattle.base_words.specs.Splice.{overlay}
use Rattle.base_words.specs.Numbers.{Bytes}
use Rattle.base_words.proofs.Splices.{overlay-whole}
use Rattle.base_words.proofs.Numbers.{bytes_drop, bytes-part}
use Rattle.base_conventions.specs.declared.Convention.{Convention}
use Rattle.sig_types.specs.declared.ValueType.{ValueType}
use Rattle.sig_types.specs.Sizes.{size_of}
use Rattle.sig_items.specs.declared.Fault.{Fault}
use Rattle.sig_items.specs.Reading.{Reading, got, no}
use Rattle.sig_signatures.specs.Signature.{Signature}
use Rattle.sig_signatures.specs.Read.{signature_of}
use Rattle.sig_signatures.specs.Answer.{result_type, signature_answer}
use Rattle.sig_signatures.specs.Types.{types_of}
use Rattle.plan_places.specs.declared.Cursor.{Cursor}
use Rattle.plan_places.specs.declared.CallRules.{CallRules}
use Rattle.plan_places.specs.Step.{rules_of, with_ellipsis, word_of, span_of, next_of}
use Rattle.plan_places.proofs.Bounds.{Named, named-next, named_start}
use Rattle.plan_places.proofs.Marked.{named-marked}
use Rattle.plan_places.proofs.Between.{step-between}
use Rattle.plan_places.proofs.Registers.{step-numbered}
use Rattle.plan_plans.specs.declared.Plan.{Plan}
use Rattle.plan_plans.specs.Plan.{spans_of, hidden_in, start_in, plan_answer}
use Rattle.call_slots.specs.Buffers.{Buffers, buffers, Slot, put_all}
use Rattle.call_slots.specs.Placements.{Placement, placement, placements, slots_of, slots_of_all, hidden_slots, values_at}
use Rattle.call_slots.specs.Helpers.{Held, Fits, sizes_of}
use Rattle.call_slots.specs.Refusals.{first_of, or_else, first_of_all, after_reading}
use Rattle.plan_plans.specs.Call.{outcome_for}
use Rattle.call_slots.specs.Arguments.{placements_in, arguments_of, plan_for, rules_in, rules_for}
use Rattle.call_slots.proofs.Planned.{in_image_lem, copy-in}
use Rattle.call_slots.proofs.Buffers.{SameLengths, same_then, put_all-lengths, put_all-append}
use Rattle.call_slots.proofs.Answered.{Carried, carried, arguments-got}
use Rattle.call_fill.specs.Fill.{fill_lengths, fill_answer, filled_slots, fill_buffers}
use Rattle.call_fill.proofs.Accepted.{Lent, tests-passed}
use Rattle.call_read.specs.declared.ReadLengths.{ReadLengths}
use Rattle.call_read.specs.Read.{read_lengths, argument_answer, arguments_answer, read_tests, read_answer, read_values}
use Rattle.call_roundtrip.specs.RoundTrip.{Filled, left_by_fill, ReadBack, ReadAfterFill}
use Rattle.call_roundtrip.proofs.Kept.{all-later}
use Rattle.call_roundtrip.proofs.Arguments.{Stands, Given, stands-put, stands-done, stands-value, Behind, stands-kept, AllPut, given-same, EachValue}
use Rattle.call_slots.specs.Answer.{CallAnswer, call_done}

-- the buffers have room for the arguments ps of a copies' end at m
record Roomy (r : CallRules) (base : ℕ) (ps : List Placement) (a m : ℕ) (v : List ℕ) (b : Buffers) : Type 0 where
  held : All (Held r) ps
  fit : All (Fits a m) ps
  image : length b.image ≡ 512
  area : a ≤ length b.area
  copies : m ≤ length b.copies
  low : base + m < 2 ^ 64
  total : length v ≡ sizes_of ps
  bytes : Bytes v

step-behind : (r : CallRules) (k : Cursor) (t : ValueType) (n : ℕ) (v : List ℕ) → Named r k → Held r (placement t n (span_of r k t n)) → length v ≡ n
    → Behind (next_of r k t n) (placement t n (span_of r k t n)) v
step-behind r k t n v named held size =
    let b = step-between r k t n in
    let q = step-numbered r k t n named in
    record {
      floats = omega arith;
      floats-bank = omega arith;
      registers = omega arith;
      registers-bank = omega arith;
      memory = omega arith;
      copy = copy-in r (placement t n (span_of r k t n)) v (next_of r k t n).copies held (omega arith) b.copy-to;
    }

-- every argument stands once all are put: those after it leave its slots
all-put : (c : Convention) (r : CallRules) (base a m : ℕ) (k : Cursor) (ts : List ValueType) (v : List ℕ) (b : Buffers) → Named r k
    → Roomy r base (placements c ts (spans_of c r k ts)) a m v b
    → AllPut r base (placements c ts (spans_of c r k ts)) v (put_all (slots_of_all r base (placements c ts (spans_of c r k ts)) v) b)
unfolding placements spans_of slots_of_all EachValue All sizes_of slots_of put_all
all-put c r base a m k [] v b named h = tt
all-put c r base a m k (t ∷ ts) v b named h =
    let n : ℕ = size_of c t in
    let p : Placement = placement t n (span_of r k t n) in
    let d : Cursor = next_of r k t n in
    let ps : List Placement = placements c ts (spans_of c r d ts) in
    let x : List ℕ = take n v in
    let y : List ℕ = drop n v in
    let xs : List Slot = slots_of r base p x in
    let ys : List Slot = slots_of_all r base ps y in
    let total : length v ≡ n + sizes_of ps = h.total in
    let size : length x ≡ n = length-take-le n v (omega arith) in
    let given : Given r base p x b = record {
      room = record {
        registers = in_image_lem r (length b.image) a m p h.held.0 h.fit.0 h.image;
        memory = omega (arith, h.fit.0.memory, h.area);
        copies = omega (arith, h.fit.0.copies, h.copies);
        low = omega (arith, h.fit.0.copies, h.low);
      };
      size = size;
      bytes = bytes-part 0 n v h.bytes;
    } in
    let b1 : Buffers = put_all xs b in
    let b2 : Buffers = put_all ys b1 in
    let l1 : SameLengths b b1 = put_all-lengths xs b in
    let l2 : SameLengths b b2 = same_then l1 (put_all-lengths ys b1) in
    let stands : Stands r base p x b2 =
    stands-kept r base p x b1 d ys (step-behind r k t n x named h.held.0 size) (all-later c r base d ts y h.held.0.word.1 (named-next r k t n named)) (stands-put r base p x b given) in
    let rest = all-put c r base a m d ts y b1 (named-next r k t n named) (record {
      held = h.held.1;
      fit = h.fit.1;
      image = l1.image ∙ h.image;
      area = omega (arith, h.area, l1.area);
      copies = omega (arith, h.copies, l1.copies);
      low = h.low;
      total = omega (arith, length-drop n v);
      bytes = bytes_drop n v h.bytes;
    }) in
    rw (put_all-append xs ys b) (record { given = given-same r base p x b b2 l2 given; stands = stands }, rest)

-- every argument can be read, and the values are those that were put
pub put_back : (r : CallRules) (base : ℕ) (ps : List Placement) (v : List ℕ) (b : Buffers) → AllPut r base ps v b → length v ≡ sizes_of ps
    → (arguments_answer r base ps b ≡ call_done) × (values_at r base ps b ≡ v)
unfolding EachValue arguments_answer first_of_all values_at sizes_of
put_back r base [] [] b h e = (refl, refl)
put_back r base [] (x ∷ v) b h e = absurd (omega arith)
put_back r base (p ∷ ps) v b h e =
    let x : List ℕ = take p.size v in
    let rest = put_back r base ps (drop p.size v) b h.1 (omega (arith, length-drop p.size v)) in
    let done : argument_answer r base p b ≡ call_done = stands-done r base p x b h.0.given b h.0.stands refl in
    let value = stands-value r base p x b h.0.given b h.0.stands refl in
    (ap₂ or_else done rest.0, ap₂ (λ (i j : List ℕ). i ++ j) value rest.1 ∙ take-append-drop p.size v)

-- ---- a whole signature

pub read-tests : (have : ReadLengths) (values area : ℕ) → have.image ≡ 512 → have.values ≡ values → area ≤ have.area → first_of (read_tests have values area) ≡ call_done
unfolding first_of read_tests
read-tests have values area i v a = simp (eq-eqb _ _ i, eq-eqb _ _ v, le-ltb _ _ a)

pub reading-done : (o : Result ℕ Fault) (x : CallAnswer) → after_reading o x ≡ call_done → (y : CallAnswer) → y ≡ call_done → (x ≡ call_done) × (after_reading o y ≡ call_done)
reading-done (Ok n) x e y q = (e, q)
reading-done (Err f) x e y q = let z : ◌≡◌ {A = ℕ} 0 1 = cc in absurd (omega arith)

-- a refused signature has no arguments
none-put : (base : ℕ) (v : List ℕ) (b : Buffers) (f : Fault)
    → AllPut (rules_in (signature_answer (no f))) base (placements_in (signature_answer (no f)) (plan_answer (no f))) v b
unfolding EachValue placements_in placements
none-put base v b f = tt

-- a signature's arguments, after its slots are put in any buffers that have room for them
plan-put : (s : List ℕ) (base : ℕ) (v : List ℕ) (b : Buffers) → Bytes v → length v ≡ (plan_for s).values → length b.image ≡ 512 → (plan_for s).area ≤ length b.area
    → (plan_for s).copies ≤ length b.copies → base + (plan_for s).copies < 2 ^ 64
    → AllPut (rules_for s) base (arguments_of s) v (put_all (slots_of_all (rules_for s) base (arguments_of s) v) b)
unfolding arguments_of
plan-put s base v b bytes values image area copies low = go (signature_of s) (carried s) values area copies low
  where
    go : (x : Reading Signature) → Carried (signature_answer x) (plan_answer x) → length v ≡ (plan_answer x).values → (plan_answer x).area ≤ length b.area
        → (plan_answer x).copies ≤ length b.copies → base + (plan_answer x).copies < 2 ^ 64
        → AllPut (rules_in (signature_answer x)) base (placements_in (signature_answer x) (plan_answer x)) v
        (put_all (slots_of_all (rules_in (signature_answer x)) base (placements_in (signature_answer x) (plan_answer x)) v) b)
    go (got g next n) h e i j k =
        let c : Convention = g.convention in
        let r : CallRules = with_ellipsis g.ellipsis (rules_of c) in
        let same = arguments-got g next n in
        rw same
        (all-put c r base (plan_answer (got g next n)).area (plan_answer (got g next n)).copies (start_in c (result_type c g.result)) (types_of c g.arguments) v b
        (named-marked g.ellipsis (rules_of c) _ (named_start (rules_of c) (hidden_in c (result_type c g.result))))
        (record {
          held = subst (All (Held r)) same h.held;
          fit = subst (All (Fits (plan_answer (got g next n)).area (plan_answer (got g next n)).copies)) same h.fit;
          image = image;
          area = i;
          copies = j;
          low = k;
          total = e ∙ sym h.total ∙ ap sizes_of same;
          bytes = bytes;
        }))
    go (no f) h e i j k = none-put base v _ f

-- what an accepted filling leaves: every argument stands, and the buffers have the lengths that the plan asks for
pub record Left (s values : List ℕ) (base : ℕ) (b : Buffers) : Type 0 where
  pub all : AllPut (rules_for s) base (arguments_of s) values b
  pub image : length b.image ≡ 512
  pub total : length values ≡ (plan_for s).values
  pub area : (plan_for s).area ≤ length b.area
  pub copies : (plan_for s).copies ≤ length b.copies

-- the lent buffers have the lengths that the plan asks for
pub filled-lent : (s values image area copies : List ℕ) (base hidden : ℕ) → Filled s values image area copies base hidden → Lent (fill_lengths values image area copies) (plan_for s) base
unfolding fill_answer
filled-lent s values image area copies base hidden h =
    tests-passed (fill_lengths values image area copies) (plan_for s) base _ h.low (reading-done (outcome_for s) _ h.accepted call_done refl).0

pub filled-left : (s values image area copies : List ℕ) (base hidden : ℕ) → Filled s values image area copies base hidden → Left s values base (left_by_fill s values image area copies base hidden)
unfolding fill_buffers filled_slots
filled-left s values image area copies base hidden h =
    let p : Plan = plan_for s in
    let b : Buffers = buffers image area copies in
    let hs : List Slot = hidden_slots (word_of (rules_for s)) p.result hidden in
    let ss : List Slot = slots_of_all (rules_for s) base (arguments_of s) values in
    let b0 : Buffers = put_all hs b in
    let l0 : SameLengths b b0 = put_all-lengths hs b in
    let l : SameLengths b (put_all (hs ++ ss) b) = put_all-lengths (hs ++ ss) b in
    let lent : Lent (fill_lengths values image area copies) p base = filled-lent s values image area copies base hidden h in
    let put = plan-put s base values b0 h.bytes lent.values (l0.image ∙ lent.image) (omega (arith, lent.area, l0.area)) (omega (arith, lent.copies, l0.copies)) lent.low in
    record {
      all = rw (put_all-append hs ss b) put;
      image = l.image ∙ lent.image;
      total = lent.values;
      area = omega (arith, lent.area, l.area);
      copies = omega (arith, lent.copies, l.copies);
    }

-- an accepted filling's signature is read, and a later answer decides
pub filled-answer : (s values image area copies : List ℕ) (base hidden : ℕ) → Filled s values image area copies base hidden → (y : CallAnswer) → y ≡ call_done
    → after_reading (outcome_for s) y ≡ call_done
unfolding fill_answer
filled-answer s values image area copies base hidden h y q = (reading-done (outcome_for s) _ h.accepted y q).1

pub values-total : (s : List ℕ) → sizes_of (arguments_of s) ≡ (plan_for s).values
unfolding arguments_of
values-total s = (carried s).total

-- reading any buffers in which every argument stands, of a call that is accepted
pub read_left : (s values into : List ℕ) (base : ℕ) (b : Buffers) → ((y : CallAnswer) → y ≡ call_done → after_reading (outcome_for s) y ≡ call_done)
    → Left s values base b → length into ≡ length values → ReadBack s values base b into
unfolding read_answer read_values
read_left s values into base b answer l size =
    let p : Plan = plan_for s in
    let total : length values ≡ sizes_of (arguments_of s) = l.total ∙ sym (values-total s) in
    let back = put_back (rules_for s) base (arguments_of s) values b l.all total in
    let good : first_of (read_tests (read_lengths into b.image b.area) p.values p.area) ≡ call_done =
    read-tests (read_lengths into b.image b.area) p.values p.area l.image (size ∙ l.total) l.area in
    record {
      accepted = answer _ (ap₂ or_else good back.0);
      same = ap (overlay into) back.1 ∙ overlay-whole into values size;
    }

pub read-after-fill : ReadAfterFill
read-after-fill s values image area copies into base hidden h size =
    read_left s values into base (left_by_fill s values image area copies base hidden) (filled-answer s values image area copies base hidden h)
    (filled-left s values image area copies base hidden h) size
