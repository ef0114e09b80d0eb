-- What filling leaves for the registers that the plan names are bytes, and for a general register a word, whatever the lent image held: filling writes each of them whole.
-- Assumes nothing.
use mathlib.Core.Path.{◌≡◌, refl, sym, ap, ◌∙◌, subst}
use mathlib.Core.Bool.{false}
use mathlib.Core.List.{List, [], ◌∷◌, ◌++◌}
use Prim.Native.Nat.{ℕ, zero, suc, ◌+◌, ◌-◌, ◌*◌, ◌^◌, ◌≤◌, ◌<◌}
use native.Mathlib.Omega.{arith}
use borrow.Author.Tests.{ltb-false}
use lib.Pow.{pow_pos, pow_mono}
use lib.ListN.{length, take, drop, replicate, length-append, length-take, length-replicate}
use lib.Seq.{take_at, drop-append-add}
use Rattle.base_words.specs.Basics.{All}
use Rattle.base_words.specs.Splice.{part}
use Rattle.base_words.specs.Numbers.{Bytes, bytes_of, value_of}
use Rattle.base_words.proofs.Splices.{part-part, length_part}
use Rattle.base_words.proofs.Numbers.{bytes-bytes_of, bytes-replicate, bytes-append, bytes_drop, bytes-part, value-back, value-append, value-zeros, value-fits}
use Rattle.base_words.proofs.Each.{each_both}
use Rattle.base_words.proofs.Tests.{by-pick}
use Rattle.base_conventions.specs.declared.Convention.{Convention}
use Rattle.sig_types.specs.declared.Equivalent.{Equivalent}
use Rattle.sig_types.specs.declared.ValueType.{ValueType}
use Rattle.sig_types.specs.Sizes.{equivalent_of, size_of}
use Rattle.sig_items.specs.Reading.{Reading, got, no}
use Rattle.sig_signatures.specs.Signature.{Signature}
use Rattle.sig_signatures.specs.Limits.{max_arguments}
use Rattle.sig_signatures.specs.Read.{signature_of}
use Rattle.sig_signatures.specs.Answer.{result_type, signature_answer}
use Rattle.plan_places.specs.declared.Bank.{Bank}
use Rattle.plan_places.specs.declared.Cursor.{Cursor}
use Rattle.plan_places.specs.declared.CallRules.{CallRules}
use Rattle.plan_places.specs.declared.Span.{Span}
use Rattle.plan_places.specs.declared.ResultPlaces.{ResultPlaces}
use Rattle.plan_places.specs.Step.{rules_of, with_ellipsis, word_of, next_of}
use Rattle.plan_places.proofs.Marked.{word-marked}
use Rattle.plan_plans.specs.declared.Plan.{Plan}
use Rattle.plan_plans.specs.Plan.{spans_of, no_span, table_of, start_in, plan_in, plan_answer}
use Rattle.sig_signatures.specs.Types.{types_of}
use Rattle.plan_plans.specs.Call.{outcome_for}
use Rattle.call_registers.specs.Registers.{in_register, spread}
use Rattle.call_registers.proofs.Registers.{spread-short}
use Rattle.call_slots.specs.Buffers.{Buffers, bytes_at}
use Rattle.call_slots.specs.Forms.{starts_at_head, extended, room_of, home_bytes, single_word, float_form, float_bytes}
use Rattle.call_slots.specs.Placements.{Placement, placements, standing}
use Rattle.call_slots.specs.Arguments.{placements_in, arguments_of, plan_for, rules_in, rules_for}
use Rattle.call_slots.proofs.Answered.{arguments-got}
use Rattle.call_fill.specs.Fill.{high_address, fill_answer}
use Rattle.call_fill.proofs.Accepted.{tests-low}
use Rattle.call_roundtrip.specs.RoundTrip.{Filled, left_by_fill}
use Rattle.call_roundtrip.proofs.Arguments.{Put, AllPut, EachValue}
use Rattle.call_roundtrip.proofs.Theorems.{reading-done}
use Rattle.call_roundtrip.proofs.HiddenAddress.{hidden-stands}
use Rattle.frame_rules.specs.Rules.{rules}
use Rattle.frame_rules.proofs.Conventions.{lawful}
use Rattle.both_meeting.proofs.Theorem.{agree}
use Rattle.both_whole_call.specs.Put.{Register, image_at, in_image, hidden_spans, named}
use Rattle.both_whole_call.proofs.Named.{OfSpan, in-spans, hidden-one}
use Rattle.call_slots.specs.Answer.{call_done}

-- an image has bytes for a register, and for a general one a number of a word of w bytes
abbrev pub Low : ℕ → Bank → ℕ → Type 0
Low w Bank.General v = v < 2 ^ (8 * w)
Low w Bank.Floating v = Unit {0}

abbrev pub OfBytes : ℕ → List ℕ → Register → Type 0
OfBytes w image x = Bytes (part (image_at x.bank x.number) 8 image) × Low w x.bank (in_image image x)

-- ---- forms

home-bytes : (r : CallRules) (t : ValueType) (n : ℕ) (v : List ℕ) → Bytes v → Bytes (home_bytes r t n v)
unfolding home_bytes
home-bytes r t n v h =
    by-pick Bytes (starts_at_head r t) _ _ (λ _. bytes-append v (replicate (room_of r n - n) 0) h (bytes-replicate (room_of r n - n) 0 (omega arith)))
    (λ _. bytes-bytes_of (room_of r n) (extended t n (value_of v)))

standing-bytes : (r : CallRules) (base : ℕ) (p : Placement) (v : List ℕ) → Bytes v → Bytes (standing r base p v)
unfolding standing
standing-bytes r base p v h = by-pick Bytes p.span.indirect _ _ (λ _. bytes-bytes_of (word_of r) (base + p.span.copy.start)) (λ _. home-bytes r p.ty p.size v h)

form-bytes : (r : CallRules) (e : Equivalent) (v : List ℕ) → Bytes v → Bytes (float_form r e v)
form-bytes r Equivalent.Single v h = bytes-bytes_of 8 (single_word r (value_of v))
form-bytes r Equivalent.Double v h = h
form-bytes r Equivalent.Nothing v h = h

float-bytes : (r : CallRules) (t : ValueType) (v : List ℕ) → Bytes v → Bytes (float_bytes r t v)
unfolding float_bytes
float-bytes r t v h = form-bytes r (equivalent_of t) v h

-- ---- words in registers

-- a register's eight bytes that hold a word of w
abbrev Word : ℕ → List ℕ → Type 0
Word w bs = Bytes bs × (value_of bs < 2 ^ (8 * w))

register-word : (w : ℕ) (bs : List ℕ) → Bytes bs → length bs ≡ w → Word w (in_register w bs)
register-word w bs h e =
    let zeros : List ℕ = replicate (8 - w) 0 in
    let value : value_of (zeros ++ bs) ≡ value_of bs = value-append zeros bs ∙ rw (value-zeros (8 - w)) (omega arith) in (
      bytes-append zeros bs (bytes-replicate (8 - w) 0 (omega arith)) h,
      rw value (value-fits w bs e h),
    )

-- of words that fill their registers: of one, and of those after it
word-lengths : (w k : ℕ) (bs : List ℕ) → w ≤ 8 → length (spread w (suc k) bs) ≡ 8 * suc k → (length (take w bs) ≡ w) × (length (spread w k (drop w bs)) ≡ 8 * k)
unfolding spread
word-lengths w k bs small size =
    let word : List ℕ = take w bs in
    let rest : List ℕ = spread w k (drop w bs) in
    let both : length (in_register w word ++ rest) ≡ 8 - w + length word + length rest =
    omega (arith, length-append (in_register w word) rest, length-append (replicate (8 - w) 0) word, length-replicate {A = ℕ} (8 - w) 0) in
    let most = spread-short w k (drop w bs) small in
    (omega (arith, length-take w bs), omega (arith, length-take w bs))

spread-words : (w k : ℕ) (bs : List ℕ) → w ≤ 8 → Bytes bs → length (spread w k bs) ≡ 8 * k → (i : ℕ) → i < k → Word w (part (8 * i) 8 (spread w k bs))
unfolding spread
spread-words w zero bs small h size i below = absurd (omega arith)
spread-words w (suc k) bs small h size zero below =
    let word : List ℕ = take w bs in
    let whole = (word-lengths w k bs small size).0 in
    let eight : length (in_register w word) ≡ 8 = omega (arith, length-append (replicate (8 - w) 0) word, length-replicate {A = ℕ} (8 - w) 0, whole) in
    subst (Word w) (sym (take_at (in_register w word) (spread w k (drop w bs)) 8 eight)) (register-word w word (bytes-part 0 w bs h) whole)
spread-words w (suc k) bs small h size (suc i) below =
    let word : List ℕ = take w bs in
    let rest : List ℕ = spread w k (drop w bs) in
    let sizes = word-lengths w k bs small size in
    let eight : length (in_register w word) ≡ 8 = omega (arith, length-append (replicate (8 - w) 0) word, length-replicate {A = ℕ} (8 - w) 0, sizes.0) in
    let at : 8 * suc i ≡ length (in_register w word) + 8 * i = omega (arith, eight) in
    let same : part (8 * suc i) 8 (in_register w word ++ rest) ≡ part (8 * i) 8 rest =
    ap (λ (j : ℕ). part j 8 (in_register w word ++ rest)) at ∙ ap (take 8) (drop-append-add (in_register w word) rest (8 * i)) in
    subst (Word w) (sym same) (spread-words w k (drop w bs) small (bytes_drop w bs h) sizes.1 i (omega arith))

-- ---- the registers of one argument

image-more : (b : Bank) (first i : ℕ) → image_at b first + 8 * i ≡ image_at b (first + i)
image-more Bank.General first i = omega arith
image-more Bank.Floating first i = omega arith

-- a register of a run, in the run's own bytes
run-part : (image : List ℕ) (b : Bank) (first count n : ℕ) → first ≤ n → n < first + count
    → part (8 * (n - first)) 8 (part (image_at b first) (8 * count) image) ≡ part (image_at b n) 8 image
run-part image b first count n p q =
    let i : ℕ = n - first in
    let e : first + i ≡ n = omega arith in
    part-part (image_at b first) (8 * count) (8 * i) 8 image (omega arith)
    ∙ ap (λ (at : ℕ). part at 8 image) (image-more b first i ∙ ap (image_at b) e)

span-bytes : (r : CallRules) (base : ℕ) (p : Placement) (v : List ℕ) (b : Buffers) → Put r base p v b → OfSpan (OfBytes (word_of r) b.image) p.span
unfolding bytes_at
span-bytes r base p v b h =
    let s : Span = p.span in
    let k : ℕ = s.general.count in
    let words : List ℕ = spread (word_of r) k (standing r base p v) in
    let size : length words ≡ 8 * k = ap length (sym h.stands.registers)
    ∙ length_part (8 * s.general.first) (8 * k) b.image (omega (arith, h.given.room.registers.general, h.given.room.registers.image)) in
    record {
      floats = λ n q. (
        subst Bytes (run-part b.image Bank.Floating s.floating.first s.floating.count n q.0 q.1)
            (bytes-part (8 * (n - s.floating.first)) 8 (part (image_at Bank.Floating s.floating.first) (8 * s.floating.count) b.image)
            (subst Bytes (sym h.stands.floats) (bytes-part 0 (8 * s.floating.count) (float_bytes r p.ty v) (float-bytes r p.ty v h.given.bytes)))),
        tt,
      );
      generals = λ n q.
          let i : ℕ = n - s.general.first in
          subst (Word (word_of r)) (ap (part (8 * i) 8) (sym h.stands.registers) ∙ run-part b.image Bank.General s.general.first k n q.0 q.1)
          (spread-words (word_of r) k (standing r base p v) h.given.room.registers.held.word.1 (standing-bytes r base p v h.given.bytes) size i (omega arith));
    }

all-bytes : (r : CallRules) (base : ℕ) (ps : List Placement) (v : List ℕ) (b : Buffers) → AllPut r base ps v b
    → All (λ (p : Placement). OfSpan (OfBytes (word_of r) b.image) p.span) ps
unfolding EachValue All
all-bytes r base [] v b h = tt
all-bytes r base (p ∷ ps) v b h = (span-bytes r base p (take p.size v) b h.0, all-bytes r base ps (drop p.size v) b h.1)

-- ---- those of a plan

-- every span of a table is an argument's, or of nothing
module _ (P : Register → Type 0) where
  none_of : OfSpan P no_span
  none_of = record { floats = λ n q. absurd (omega arith); generals = λ n q. absurd (omega arith) }

  none_each : (n : ℕ) → All (OfSpan P) (replicate n no_span)
  unfolding All
  none_each zero = tt
  none_each (suc n) = (none_of, none_each n)

  fold-each : (c : Convention) (r : CallRules) (k : Cursor) (ts : List ValueType) → All (λ (p : Placement). OfSpan P p.span) (placements c ts (spans_of c r k ts))
      → All (OfSpan P) (spans_of c r k ts)
  unfolding placements spans_of All
  fold-each c r k [] h = tt
  fold-each c r k (t ∷ ts) h = (h.0, fold-each c r (next_of r k t (size_of c t)) ts h.1)

  table-each : (x : Reading Signature) → All (λ (p : Placement). OfSpan P p.span) (placements_in (signature_answer x) (plan_answer x)) → All (OfSpan P) (plan_answer x).spans
  unfolding plan_answer plan_in table_of
  table-each (got g next n) h =
      let c : Convention = g.convention in
      let ts : List ValueType = types_of c g.arguments in
      let k : Cursor = start_in c (result_type c g.result) in
      let r : CallRules = with_ellipsis g.ellipsis (rules_of c) in
      let ss : List Span = spans_of c r k ts in
      each_both (OfSpan P) ss (replicate (max_arguments - length ss) no_span) (fold-each c r k ts (subst (All (λ (p : Placement). OfSpan P p.span)) (arguments-got g next n) h))
      (none_each (max_arguments - length ss))
  table-each (no f) h = none_each max_arguments

-- a hidden address that filling accepts is one of a word
pub hidden-low : (s values image area copies : List ℕ) (base hidden : ℕ) (x : Span) → Filled s values image area copies base hidden → (plan_for s).result ≡ ResultPlaces.Hidden x
    → hidden < 2 ^ (8 * word_of (rules_for s))
unfolding fill_answer
hidden-low s values image area copies base hidden x h e =
    let w : ℕ = word_of (rules_for s) in
    let low = tests-low _ _ _ _ _ _ (reading-done (outcome_for s) _ h.accepted call_done refl).0 in
    let most : hidden ≤ 2 ^ (8 * w) - 1 = ltb-false (2 ^ (8 * w) - 1) hidden (subst (λ (q : ResultPlaces). high_address w q hidden ≡ false) e low) in
    omega (arith, pow_pos (8 * w))

-- the word of a signature's calls is that of its frames
read_word : (x : Reading Signature) → word_of (rules_in (signature_answer x)) ≡ (rules (plan_answer x).convention).word
unfolding plan_answer plan_in with_ellipsis
read_word (got g next n) = word-marked g.ellipsis (rules_of g.convention) ∙ sym (agree g.convention).word
read_word (no f) = refl

pub word-is : (s : List ℕ) → word_of (rules_for s) ≡ (rules (plan_for s).convention).word
word-is s = read_word (signature_of s)

pub hidden-64 : (s values image area copies : List ℕ) (base hidden : ℕ) (x : Span) → Filled s values image area copies base hidden → (plan_for s).result ≡ ResultPlaces.Hidden x
    → hidden < 2 ^ 64
hidden-64 s values image area copies base hidden x h e =
    let w : ℕ = word_of (rules_for s) in
    let small : 8 * w ≤ 64 = omega (arith, word-is s, (lawful (plan_for s).convention).word) in
    omega (arith, hidden-low s values image area copies base hidden x h e, pow_mono {i = 8 * w} {j = 64} small)

-- the hidden address's register
hidden-bytes : (s values image area copies : List ℕ) (base hidden : ℕ) (q : ResultPlaces) → Filled s values image area copies base hidden → (plan_for s).result ≡ q
    → All (OfSpan (OfBytes (word_of (rules_for s)) (left_by_fill s values image area copies base hidden).image)) (hidden_spans q)
unfolding All bytes_at
hidden-bytes s values image area copies base hidden ResultPlaces.Nothing h e = tt
hidden-bytes s values image area copies base hidden (ResultPlaces.Registers x) h e = tt
hidden-bytes s values image area copies base hidden (ResultPlaces.Hidden x) h e =
    let one = hidden-one (signature_of s) x e in
    let w : ℕ = word_of (rules_for s) in
    let word : Word w (bytes_of 8 hidden) = (bytes-bytes_of 8 hidden, rw (value-back 8 hidden (hidden-64 s values image area copies base hidden x h e)) (hidden-low s values image area copies base hidden x h e)) in (
      record {
        floats = λ n q. absurd (omega (arith, one.1));
        generals = λ n q. let at : n ≡ x.general.first = omega (arith, one.0) in rw at
            (subst (Word w) (sym (hidden-stands s values image area copies base hidden x h e)) word);
      },
      tt,
    )

pub named-bytes : (s values image area copies : List ℕ) (base hidden : ℕ) → Filled s values image area copies base hidden
    → AllPut (rules_for s) base (arguments_of s) values (left_by_fill s values image area copies base hidden)
    → All (OfBytes (word_of (rules_for s)) (left_by_fill s values image area copies base hidden).image) (named (plan_for s))
unfolding arguments_of
named-bytes s values image area copies base hidden filled h =
    let p : Plan = plan_for s in
    let b : Buffers = left_by_fill s values image area copies base hidden in
    let P : Register → Type 0 = OfBytes (word_of (rules_for s)) b.image in
    in-spans P (hidden_spans p.result ++ p.spans)
    (each_both (OfSpan P) (hidden_spans p.result) p.spans (hidden-bytes s values image area copies base hidden p.result filled refl)
    (table-each P (signature_of s) (all-bytes (rules_for s) base (arguments_of s) values b h)))
