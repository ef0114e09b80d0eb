-- After filling, home and each view give the values (specs/Views.antt states it). Assumes nothing.
use Rattle.std.proofs.Common.{Option, Some, None}
use mathlib.Core.Path.{◌≡◌, refl, sym, ap, ap₂, ◌∙◌, subst}
use mathlib.Core.Logic.{inl, inr}
use mathlib.Core.Bool.{Bool, true, false}
use mathlib.Core.List.{List, [], ◌∷◌, ◌++◌}
use Prim.Native.Nat.{ℕ, zero, suc, ◌+◌, ◌-◌, ◌*◌, ◌≤◌, ◌<◌}
use native.Mathlib.Omega.{arith}
use borrow.Author.Tests.{lt-ltb, le-ltb, ltb-true, ltb-false, eq-eqb, lt-leb}
use lib.Dec.{ltb}
use lib.ListN.{length, get_or, take, drop, length-drop, length-append}
use lib.Seq.{take_at, drop_at}
use Rattle.base_words.specs.Basics.{pick, All}
use Rattle.base_words.specs.Splice.{splice, part}
use Rattle.base_words.specs.Numbers.{Bytes, value_of}
use Rattle.base_words.proofs.Splices.{overlay-whole, splice-same, splice-other, length-splice, length_part, part-add, part-part}
use Rattle.base_words.proofs.Numbers.{bytes-bytes_of, bytes_drop, bytes-part}
use Rattle.base_ieee.specs.Narrowing.{narrow}
use Rattle.base_conventions.specs.declared.Convention.{Convention}
use Rattle.sig_types.specs.declared.Equivalent.{Equivalent}
use Rattle.sig_types.specs.declared.ValueType.{ValueType}
use Rattle.sig_types.specs.Sizes.{size_of, equivalent_of}
use Rattle.sig_items.specs.declared.Fault.{Fault}
use Rattle.sig_items.specs.Reading.{Reading, got, no}
use Rattle.sig_signatures.specs.Signature.{Signature}
use Rattle.sig_signatures.specs.Read.{signature_of}
use Rattle.sig_signatures.specs.Answer.{result_type, signature_answer}
use Rattle.sig_signatures.specs.Types.{types_of}
use Rattle.plan_places.specs.declared.Cursor.{Cursor}
use Rattle.plan_places.specs.declared.CallRules.{CallRules}
use Rattle.plan_places.specs.declared.ResultPlaces.{ResultPlaces}
use Rattle.plan_places.specs.declared.Span.{Span}
use Rattle.plan_places.specs.declared.PowerRules.{PowerRules}
use Rattle.plan_places.specs.declared.Edition.{Edition}
use Rattle.plan_places.specs.Step.{power, rules_of, with_ellipsis, word_of, span_of, next_of, fresh_cursor, start_of}
use Rattle.plan_places.proofs.Marked.{word-marked}
use Rattle.plan_plans.specs.declared.Plan.{Plan}
use Rattle.plan_plans.proofs.Theorems.{hidden-address}
use Rattle.plan_plans.specs.Plan.{spans_of, result_places_in, start_in, plan_in, plan_answer}
use Rattle.call_slots.specs.Buffers.{Buffers, buffers, bytes_at}
use Rattle.call_slots.specs.Forms.{room_of, starts_at_head, home_bytes, own_start, narrowed_bytes, float_value_as, float_value}
use Rattle.call_slots.specs.Placements.{Placement, placements, words_at, fpr_bytes_at, words_value, value_at, values_at}
use Rattle.call_slots.specs.Helpers.{InImage, sizes_of}
use Rattle.call_slots.specs.Refusals.{first_of, or_else, first_of_all, float_answer, after_reading}
use Rattle.plan_plans.specs.Call.{outcome_for}
use Rattle.call_slots.specs.Arguments.{placements_in, arguments_of, plan_for, rules_in, rules_for}
use Rattle.call_registers.specs.Registers.{gather}
use Rattle.call_registers.proofs.Registers.{length-gather}
use Rattle.call_slots.proofs.Held.{words-room}
use Rattle.call_slots.proofs.Answered.{Carried, carried, arguments-got}
use Rattle.call_slots.proofs.Refusals.{or-done}
use Rattle.call_slots.proofs.Turns.{next-argument}
use Rattle.call_unmarshal.specs.Helpers.{Readable}
use Rattle.call_unmarshal.proofs.Arguments.{value-length, length-values}
use Rattle.call_read.specs.declared.ReadLengths.{ReadLengths}
use Rattle.call_read.specs.Read.{read_lengths, words_answer, agrees, agree_answer, argument_answer, arguments_answer, read_tests, read_answer, read_values}
use Rattle.call_read.proofs.Arguments.{all-readable}
use Rattle.call_read.proofs.Accepted.{tests-passed, each-ready}
use Rattle.call_home_slot.specs.Homes.{homeless, register_answer, homed_bytes}
use Rattle.call_home_slot.specs.Helpers.{Homed}
use Rattle.call_home_slot.proofs.Homed.{homed_all}
use Rattle.call_home_slot.proofs.Marked.{homeless-marked}
use Rattle.call_home.specs.Home.{registers_answer, home_tests, home_answer, homed, home_area}
use Rattle.call_views.specs.View.{view_tests, view_answer, no_argument, own_bytes, view_of}
use Rattle.call_views.proofs.Viewed.{reading-done}
use Rattle.call_home.proofs.Registers.{home-passed}
use Rattle.call_roundtrip.specs.RoundTrip.{left_by_fill}
use Rattle.call_roundtrip.specs.Places.{BuffersAgree}
use Rattle.call_roundtrip.specs.Views.{value_lists, homed_area, Viewed, ViewAfterHome, ViewAsRead, HiddenStays}
use Rattle.call_roundtrip.proofs.Alone.{read-own}
use Rattle.call_roundtrip.proofs.Forms.{own_back, length-home}
use Rattle.call_roundtrip.proofs.Theorems.{reading-done as answer-passed, put_back, values-total, Left, filled-left, filled-answer}
use Rattle.call_roundtrip.proofs.Arguments.{EachValue}
use Rattle.std.proofs.Common.{Ok, Err, is_ok}
use Rattle.call_slots.specs.Answer.{CallAnswer, call_done}

-- ---- one argument

-- an argument that is read as v; a value in an FPR is made of bytes
record Shows (r : CallRules) (base : ℕ) (p : Placement) (v : List ℕ) (b : Buffers) : Type 0 where
  registers : InImage r (length b.image) p
  size : length v ≡ p.size
  bytes : 0 < p.span.floating.count → Bytes v
  value : value_at r base p b ≡ v

module _ (r : CallRules) (base : ℕ) (p : Placement) (v : List ℕ) (b : Buffers) (a : ℕ) (h : Shows r base p v b) (m : Homed r a p) where
  float_value_lem : 0 < p.span.floating.count → float_value r p.ty (fpr_bytes_at p.span b) ≡ v
  unfolding value_at
  float_value_lem some = rw (lt-ltb 0 p.span.floating.count some) at h.value

  words-value : p.span.floating.count ≤ 0 → part (own_start r p.ty p.size) p.size (words_at (word_of r) p.span b) ≡ v
  unfolding value_at words_value words_at
  words-value none = rw (le-ltb 0 p.span.floating.count none, m.direct) at h.value

  -- a float's home holds the value in its memory form
  float-homed : 0 < p.span.floating.count → homed_bytes r p b.image ≡ home_bytes r p.ty p.size v
  unfolding homed_bytes bytes_at
  float-homed some = simp (lt-ltb 0 p.span.floating.count some) (ap (home_bytes r p.ty p.size) (float_value_lem some))

  float-length : length (home_bytes r p.ty p.size v) ≡ room_of r p.size
  float-length =
      ap (λ (n : ℕ). length (home_bytes r p.ty n v)) (sym h.size)
      ∙ length-home r p.ty v (λ e. rw h.size (h.registers.held.room m.direct).0)
      ∙ ap (room_of r) h.size

  -- the words in its general registers
  abbrev held : List ℕ
  held = gather (word_of r) p.span.general.count (part (8 * p.span.general.first) (8 * p.span.general.count) b.image)

  registers-length : length held ≡ word_of r * p.span.general.count
  registers-length =
      let k : ℕ = p.span.general.count in
      let bs : List ℕ = part (8 * p.span.general.first) (8 * k) b.image in
      let size : length bs ≡ 8 * k = length_part (8 * p.span.general.first) (8 * k) b.image (omega (arith, h.registers.general, h.registers.image)) in
      length-gather (word_of r) k bs h.registers.held.word.1 (omega arith)

  homed-held : p.span.floating.count ≤ 0 → homed_bytes r p b.image ≡ held
  unfolding homed_bytes
  homed-held none = simp (le-ltb 0 p.span.floating.count none)

  -- home writes no further than the argument's home
  homed-length : length (homed_bytes r p b.image) ≤ room_of r p.size
  homed-length = go (ltb 0 p.span.floating.count) refl
    where
      go : (f : Bool) → ltb 0 p.span.floating.count ≡ f → length (homed_bytes r p b.image) ≤ room_of r p.size
      go true q = rw (float-homed (ltb-true 0 p.span.floating.count q)) (omega (arith, float-length))
      go false q =
          let none : p.span.floating.count ≤ 0 = ltb-false 0 p.span.floating.count q in
          let no : p.span.floating.count ≡ 0 = omega arith in
          rw (homed-held none) (omega (arith, registers-length, h.registers.held.words no))

  own-within : own_start r p.ty p.size + p.size ≤ room_of r p.size
  unfolding own_start
  own-within = go (starts_at_head r p.ty)
    where
      go : (s : Bool) → pick s 0 (room_of r p.size - p.size) + p.size ≤ room_of r p.size
      go true = omega (arith, h.registers.held.room m.direct)
      go false = omega (arith, h.registers.held.room m.direct)

  -- an area whose home of the argument is as home left it shows the value
  module _ (room : a ≤ length b.area) (l : List ℕ)
      (same : part p.span.home.start (room_of r p.size) l ≡ part p.span.home.start (room_of r p.size) (splice b.area p.span.home.start (homed_bytes r p b.image))) where
    float_own : 0 < p.span.floating.count → part (own_start r p.ty p.size) p.size (part p.span.home.start (room_of r p.size) l) ≡ v
    float_own some =
        let start : ℕ = p.span.home.start in
        let hs : List ℕ = home_bytes r p.ty p.size v in
        let whole : part start (room_of r p.size) l ≡ hs =
        same
        ∙ ap (λ (x : List ℕ). part start (room_of r p.size) (splice b.area start x)) (float-homed some)
        ∙ ap (λ (n : ℕ). part start n (splice b.area start hs)) (sym float-length)
        ∙ splice-same b.area start hs (omega (arith, float-length, m.within)) in
        ap (part (own_start r p.ty p.size) p.size) whole
        ∙ ap (λ (n : ℕ). part (own_start r p.ty n) n (home_bytes r p.ty n v)) (sym h.size)
        ∙ own_back r p.ty v (h.bytes some) (λ e. rw h.size ((h.registers.held.small e m.direct).1, (h.registers.held.room m.direct).0))

    words-own : p.span.floating.count ≤ 0 → part (own_start r p.ty p.size) p.size (part p.span.home.start (room_of r p.size) l) ≡ v
    unfolding words_at bytes_at
    words-own none =
        let start : ℕ = p.span.home.start in
        let k : ℕ = word_of r * p.span.general.count in
        let n : ℕ = p.span.memory.length in
        let ws : List ℕ = held in
        let no : p.span.floating.count ≡ 0 = omega arith in
        let all : k + n ≡ room_of r p.size = h.registers.held.words no in
        let put : List ℕ = splice b.area start ws in
        let first : part start k put ≡ ws = ap (λ (z : ℕ). part start z put) (sym registers-length) ∙ splice-same b.area start ws (omega (arith, registers-length, m.within)) in
        let second : part (start + k) n put ≡ part p.span.memory.start n b.area =
        splice-other b.area start ws (start + k) n (inr (omega (arith, registers-length))) ∙ memory-after n refl in
        let whole : part start (room_of r p.size) l ≡ words_at (word_of r) p.span b =
        same
        ∙ ap (λ (x : List ℕ). part start (room_of r p.size) (splice b.area start x)) (homed-held none)
        ∙ ap (λ (z : ℕ). part start z put) (sym all)
        ∙ part-add start k n put
        ∙ ap₂ (λ (x y : List ℕ). x ++ y) first second in
        ap (part (own_start r p.ty p.size) p.size) whole ∙ words-value none
      where
        -- the words in memory follow those in registers
        memory-after : (n : ℕ) → p.span.memory.length ≡ n
            → part (p.span.home.start + word_of r * p.span.general.count) n b.area ≡ part p.span.memory.start n b.area
        memory-after zero e = refl
        memory-after (suc n) e = ap (λ (z : ℕ). part z (suc n) b.area) (sym (m.follows (omega arith)))

    home-own : own_bytes r p l ≡ v
    home-own =
        sym (part-part p.span.home.start (room_of r p.size) (own_start r p.ty p.size) p.size l own-within) ∙ go (ltb 0 p.span.floating.count) refl
      where
        go : (f : Bool) → ltb 0 p.span.floating.count ≡ f
            → part (own_start r p.ty p.size) p.size (part p.span.home.start (room_of r p.size) l) ≡ v
        go true q = float_own (ltb-true 0 p.span.floating.count q)
        go false q = words-own (ltb-false 0 p.span.floating.count q)

  -- ---- writes below its home leave it
  abbrev over : ℕ → List ℕ → Buffers
  over n bs = buffers b.image (splice b.area n bs) b.copies

  memory_kept : (n : ℕ) (bs : List ℕ) → n + length bs ≤ p.span.home.start
      → part p.span.memory.start p.span.memory.length (splice b.area n bs) ≡ part p.span.memory.start p.span.memory.length b.area
  memory_kept n bs l = go p.span.memory.length refl
    where
      go : (k : ℕ) → p.span.memory.length ≡ k → part p.span.memory.start k (splice b.area n bs) ≡ part p.span.memory.start k b.area
      go zero e = refl
      go (suc k) e = splice-other b.area n bs p.span.memory.start (suc k) (inr (omega (arith, m.follows (omega arith))))

  agree-over : (n : ℕ) (bs : List ℕ) → n + length bs ≤ p.span.home.start → BuffersAgree r base p (over n bs) b
  unfolding words_at bytes_at
  agree-over n bs l = record {
    float = λ some. refl;
    words = ap (λ (x : List ℕ). held ++ x) (memory_kept n bs l);
    copy = λ q. let z : ◌≡◌ {A = ℕ} 0 1 = cc (m.direct, q) in absurd (omega arith);
  }

  shows-over : (n : ℕ) (bs : List ℕ) → n + length bs ≤ p.span.home.start → Shows r base p v (over n bs)
  shows-over n bs l = record {
    registers = h.registers;
    size = h.size;
    bytes = h.bytes;
    value = read-own r base p (over n bs) b (agree-over n bs l) ∙ h.value;
  }

-- ---- several, whose homes follow each other

-- each of several is read as the next part of v
abbrev AllShow : CallRules → ℕ → List Placement → List ℕ → Buffers → Type 0
AllShow r base ps v b = EachValue (λ (p : Placement) (x : List ℕ). Shows r base p x b) ps v

unfoldable HomesFrom : CallRules → ℕ → List Placement → Type 0
HomesFrom r n [] = Unit {0}
HomesFrom r n (p ∷ ps) = (n ≤ p.span.home.start) × HomesFrom r (p.span.home.start + room_of r p.size) ps

homes-from : (f : PowerRules) (c : Convention) (k : Cursor) (ts : List ValueType) → HomesFrom (CallRules.Power f) k.stack (placements c ts (spans_of c (CallRules.Power f) k ts))
unfolding placements spans_of HomesFrom span_of next_of
homes-from f c k [] = tt
homes-from f c k (t ∷ ts) = (omega arith, homes-from f c (next_of (CallRules.Power f) k t (size_of c t)) ts)

homes-later : (r : CallRules) (n m : ℕ) (ps : List Placement) → n ≤ m → HomesFrom r m ps → HomesFrom r n ps
unfolding HomesFrom
homes-later r n m [] l h = tt
homes-later r n m (p ∷ ps) l h = (omega (arith, h.0), h.1)

-- what lies before the homes stays
homed-kept : (r : CallRules) (ps : List Placement) (n q m : ℕ) (image l : List ℕ) → HomesFrom r n ps → q + m ≤ n → part q m (homed r ps image l) ≡ part q m l
unfolding homed HomesFrom
homed-kept r [] n q m image l h k = refl
homed-kept r (p ∷ ps) n q m image l h k =
    homed-kept r ps (p.span.home.start + room_of r p.size) q m image (splice l p.span.home.start (homed_bytes r p image)) h.1 (omega (arith, h.0))
    ∙ splice-other l p.span.home.start (homed_bytes r p image) q m (inl (omega (arith, h.0)))

all-over : (r : CallRules) (base : ℕ) (ps : List Placement) (v : List ℕ) (b : Buffers) (a m n : ℕ) (bs : List ℕ) → AllShow r base ps v b → All (Homed r a) ps → HomesFrom r m ps → n + length bs ≤ m
    → AllShow r base ps v (buffers b.image (splice b.area n bs) b.copies)
unfolding EachValue All HomesFrom
all-over r base [] v b a m n bs h homes from l = tt
all-over r base (p ∷ ps) v b a m n bs h homes from l = (
  shows-over r base p (take p.size v) b a h.0 homes.0 n bs (omega (arith, from.0)),
  all-over r base ps (drop p.size v) b a (p.span.home.start + room_of r p.size) n bs h.1 homes.1 from.1 (omega (arith, from.0)),
)

views : (r : CallRules) (base : ℕ) (ps : List Placement) (v : List ℕ) (b : Buffers) (a m : ℕ) → AllShow r base ps v b → All (Homed r a) ps → HomesFrom r m ps → a ≤ length b.area
    → (i : ℕ) → i < length ps → own_bytes r (get_or ps i no_argument) (homed r ps b.image b.area) ≡ get_or (value_lists ps v) i []
unfolding EachValue All HomesFrom homed value_lists
views r base [] v b a m h homes from room i l = absurd (omega arith)
views r base (p ∷ ps) v b a m h homes from room zero l =
    let l1 : List ℕ = splice b.area p.span.home.start (homed_bytes r p b.image) in
    home-own r base p (take p.size v) b a h.0 homes.0 room (homed r ps b.image l1)
    (homed-kept r ps (p.span.home.start + room_of r p.size) p.span.home.start (room_of r p.size) b.image l1 from.1 (omega arith))
views r base (p ∷ ps) v b a m h homes from room (suc i) l =
    let bs : List ℕ = homed_bytes r p b.image in
    let l1 : List ℕ = splice b.area p.span.home.start bs in
    let d : ℕ = p.span.home.start + room_of r p.size in
    let c : Buffers = buffers b.image l1 b.copies in
    let shorter = homed-length r base p (take p.size v) b a h.0 homes.0 in
    views r base ps (drop p.size v) c a d (all-over r base ps (drop p.size v) b a d p.span.home.start bs h.1 homes.1 from.1 (omega (arith, shorter))) homes.1 from.1
    (omega (arith, length-splice b.area p.span.home.start bs)) i (omega arith)

-- ---- a whole signature

plan-homes : (c : Convention) (r : CallRules) (k : Cursor) (ts : List ValueType) → homeless r ≡ false → HomesFrom r k.stack (placements c ts (spans_of c r k ts))
plan-homes c (CallRules.Power f) k ts e = homes-from f c k ts
plan-homes c CallRules.Z k ts e = let z : ◌≡◌ {A = ℕ} 0 1 = cc in absurd (omega arith)

none-homes : (r : CallRules) (n : ℕ) (f : Fault) → HomesFrom r n (placements_in (signature_answer (no f)) (plan_answer (no f)))
unfolding placements_in placements HomesFrom
none-homes r n f = tt

-- of a signature whose hidden address, if it has one, is the first word
abbrev StartsFrom : ℕ → Reading Signature → Type 0
StartsFrom n (got g next m) = n ≤ (start_in g.convention (result_type g.convention g.result)).stack
StartsFrom n (no f) = Unit {0}

homes-follow : (s : List ℕ) (n : ℕ) → homeless (rules_for s) ≡ false → StartsFrom n (signature_of s) → HomesFrom (rules_for s) n (arguments_of s)
unfolding arguments_of
homes-follow s n = go (signature_of s)
  where
    go : (x : Reading Signature) → homeless (rules_in (signature_answer x)) ≡ false → StartsFrom n x
        → HomesFrom (rules_in (signature_answer x)) n (placements_in (signature_answer x) (plan_answer x))
    go (got g next m) q l =
        let c : Convention = g.convention in
        let k : Cursor = start_in c (result_type c g.result) in
        let r : CallRules = with_ellipsis g.ellipsis (rules_of c) in
        subst (HomesFrom r n) (sym (arguments-got g next m)) (homes-later r n k.stack _ l (plan-homes c r k (types_of c g.arguments) q))
    go (no f) q l = none-homes (rules_in (signature_answer (no f))) n f

starts-any : (x : Reading Signature) → StartsFrom 0 x
starts-any (got g next m) = omega arith
starts-any (no f) = tt

-- what can be read can be homed
register-done : (r : CallRules) (base : ℕ) (p : Placement) (b : Buffers) → argument_answer r base p b ≡ call_done → register_answer r p.ty p.span b.image ≡ call_done
unfolding argument_answer register_answer bytes_at
register-done r base p b = go (words_answer r base p b) (ltb 0 p.span.floating.count)
  where
    go : (x : CallAnswer) (f : Bool)
        → pick f (or_else (float_answer r (equivalent_of p.ty) (value_of (part (256 + 8 * p.span.floating.first) (8 * p.span.floating.count) b.image))) (agree_answer (agrees r p b))) x ≡ call_done
        → pick f (float_answer r (equivalent_of p.ty) (value_of (part (256 + 8 * p.span.floating.first) (8 * p.span.floating.count) b.image))) call_done ≡ call_done
    go x true e = (or-done _ _ e).0
    go x false e = refl

registers-done : (r : CallRules) (base : ℕ) (ps : List Placement) (b : Buffers) → arguments_answer r base ps b ≡ call_done → registers_answer r ps b.image ≡ call_done
unfolding arguments_answer registers_answer first_of_all
registers-done r base [] b e = refl
registers-done r base (p ∷ ps) b e =
    let both = or-done (argument_answer r base p b) (first_of_all (λ (p : Placement). argument_answer r base p b) ps) e in
    ap₂ or_else (register-done r base p b both.0) (registers-done r base ps b both.1)

home-tests : (r : CallRules) (i have area : ℕ) → homeless r ≡ false → i ≡ 512 → area ≤ have → first_of (home_tests r i have area) ≡ call_done
unfolding first_of home_tests
home-tests r i have area e x y = simp (e, eq-eqb _ _ x, le-ltb _ _ y)

view-tests : (r : CallRules) (count index have area : ℕ) → homeless r ≡ false → index < count → area ≤ have → first_of (view_tests r count index have area) ≡ call_done
unfolding first_of view_tests
view-tests r count index have area e x y = simp (e, lt-leb _ _ x, le-ltb _ _ y)

pub length-homed : (r : CallRules) (ps : List Placement) (image l : List ℕ) → length (homed r ps image l) ≡ length l
unfolding homed
length-homed r [] image l = refl
length-homed r (p ∷ ps) image l =
    length-homed r ps image (splice l p.span.home.start (homed_bytes r p image)) ∙ length-splice l p.span.home.start (homed_bytes r p image)

-- as many arguments as the signature counts
counted : (s : List ℕ) (i : ℕ) → i < (signature_answer (signature_of s)).count → i < length (arguments_of s)
unfolding arguments_of
counted s i l =
    let g = signature_answer (signature_of s) in
    let p : Plan = plan_for s in
    let c : Carried g p = carried s in
    let e = next-argument g p i l c.tables.types c.tables.spans in
    omega (arith, length-drop i (placements_in g p), ap (λ (x : List Placement). length x) e)

view-shows : (s area : List ℕ) (i : ℕ) (v : List ℕ) → view_answer s (length area) i ≡ call_done → own_bytes (rules_for s) (get_or (arguments_of s) i no_argument) area ≡ v → view_of s area i ≡ v
unfolding view_of
view-shows s area i v done e = ap (λ (a : CallAnswer). pick (is_ok a) (own_bytes (rules_for s) (get_or (arguments_of s) i no_argument) area) []) done ∙ e

-- the bytes of a value in an FPR
abbrev FloatBytes : CallRules → ℕ → Buffers → Placement → Type 0
FloatBytes r base b p = 0 < p.span.floating.count → Bytes (value_at r base p b)

-- what can be read is read as the parts of its values
all-show : (r : CallRules) (base : ℕ) (ps : List Placement) (b : Buffers) → All (λ (p : Placement). Readable r base p b) ps → All (FloatBytes r base b) ps
    → AllShow r base ps (values_at r base ps b) b
unfolding All EachValue values_at
all-show r base [] b h bytes = tt
all-show r base (p ∷ ps) b h bytes =
    let x : List ℕ = value_at r base p b in
    let rest : List ℕ = values_at r base ps b in
    let size : length x ≡ p.size = value-length r base p b h.0 in
    let q : Readable r base p b = h.0 in
    let shows : Shows r base p x b = record { registers = q.ready.registers; size = size; bytes = bytes.0; value = refl } in (
      subst (λ (v : List ℕ). Shows r base p v b) (sym (take_at x rest p.size size)) shows,
      subst (λ (v : List ℕ). AllShow r base ps v b) (sym (drop_at x rest p.size size)) (all-show r base ps b h.1 bytes.1),
    )

bytes-each : (r : CallRules) (base : ℕ) (ps : List Placement) (b : Buffers) → All (λ (p : Placement). Readable r base p b) ps → Bytes (values_at r base ps b) → All (FloatBytes r base b) ps
unfolding All values_at
bytes-each r base [] b h bytes = tt
bytes-each r base (p ∷ ps) b h bytes =
    let x : List ℕ = value_at r base p b in
    let rest : List ℕ = values_at r base ps b in
    let size : length x ≡ p.size = value-length r base p b h.0 in (
      λ some. subst Bytes (take_at x rest p.size size) (bytes-part 0 p.size (x ++ rest) bytes),
      bytes-each r base ps b h.1 (subst Bytes (drop_at x rest p.size size) (bytes_drop p.size (x ++ rest) bytes)),
    )

narrowed_bytes_lem : (n : Option ℕ) → Bytes (narrowed_bytes n)
narrowed_bytes_lem (Some x) = bytes-bytes_of 4 x
narrowed_bytes_lem None = λ i. omega arith

float-bytes : (r : CallRules) (e : Equivalent) (bs : List ℕ) → Bytes bs → Bytes (float_value_as r e bs)
float-bytes (CallRules.Power f) Equivalent.Single bs h = narrowed_bytes_lem (narrow (value_of bs))
float-bytes CallRules.Z Equivalent.Single bs h = bytes-part 0 4 bs h
float-bytes r Equivalent.Double bs h = h
float-bytes r Equivalent.Nothing bs h = h

image-bytes : (r : CallRules) (base : ℕ) (ps : List Placement) (b : Buffers) → Bytes b.image → All (FloatBytes r base b) ps
unfolding All value_at float_value bytes_at
image-bytes r base [] b h = tt
image-bytes r base (p ∷ ps) b h = (
  λ some. rw (lt-ltb 0 p.span.floating.count some) (float-bytes r (equivalent_of p.ty) _ (bytes-part (256 + 8 * p.span.floating.first) (8 * p.span.floating.count) b.image h)),
  image-bytes r base ps b h,
)

-- every argument of a reading that nothing refuses can be read
arguments-readable : (s : List ℕ) (base : ℕ) (b : Buffers) → length b.image ≡ 512 → (plan_for s).area ≤ length b.area
    → arguments_answer (rules_for s) base (arguments_of s) b ≡ call_done → All (λ (p : Placement). Readable (rules_for s) base p b) (arguments_of s)
arguments-readable s base b image area done =
    all-readable (rules_for s) base b (arguments_of s) (each-ready s (rules_for s) (length b.image) (length b.area) refl image area) done

-- what can be read can be homed, and then each view is the value read
viewed : (s : List ℕ) (base : ℕ) (b : Buffers) → homeless (rules_for s) ≡ false
    → ((y : CallAnswer) → y ≡ call_done → after_reading (outcome_for s) y ≡ call_done) → length b.image ≡ 512 → (plan_for s).area ≤ length b.area
    → arguments_answer (rules_for s) base (arguments_of s) b ≡ call_done
    → (All (λ (p : Placement). Readable (rules_for s) base p b) (arguments_of s) → All (FloatBytes (rules_for s) base b) (arguments_of s))
    → Viewed s (values_at (rules_for s) base (arguments_of s) b) b
unfolding home_answer view_answer home_area
viewed s base b power answer image area done bytes =
    let p : Plan = plan_for s in
    let r : CallRules = rules_for s in
    let readable : All (λ (q : Placement). Readable r base q b) (arguments_of s) = arguments-readable s base b image area done in
    let tests = home-tests r (length b.image) (length b.area) p.area power image area in
    let size : length (homed_area s b) ≡ length b.area = length-homed (rules_for s) (arguments_of s) b.image b.area in
    let answered : (i : ℕ) → i < (signature_answer (signature_of s)).count → view_answer s (length (homed_area s b)) i ≡ call_done =
    λ i k. answer _ (view-tests r (signature_answer (signature_of s)).count i (length (homed_area s b)) p.area power k (omega (arith, area, size))) in
    record {
      homed = answer _ (ap₂ or_else tests (registers-done (rules_for s) base (arguments_of s) b done));
      accepted = answered;
      same = λ i k.
          view-shows s (homed_area s b) i _ (answered i k)
          (views r base (arguments_of s) (values_at r base (arguments_of s) b) b p.area 0 (all-show r base (arguments_of s) b readable (bytes readable)) (homed_all s power) (homes-follow s 0 power (starts-any (signature_of s))) area i (counted s i k));
    }

pub view-as-read : ViewAsRead
unfolding read_answer read_values
view-as-read s into base b bytes accepted power =
    let p : Plan = plan_for s in
    let have : ReadLengths = read_lengths into b.image b.area in
    let passed = (answer-passed (outcome_for s) _ accepted call_done refl).0 in
    let both = or-done (first_of (read_tests have p.values p.area)) (arguments_answer (rules_for s) base (arguments_of s) b) passed in
    let lent = tests-passed have p both.0 in
    let back : Viewed s (values_at (rules_for s) base (arguments_of s) b) b =
    viewed s base b power (λ y q. (answer-passed (outcome_for s) _ accepted y q).1) lent.image lent.area both.1 (λ readable. image-bytes (rules_for s) base (arguments_of s) b bytes) in
    let total = length-values (rules_for s) base (arguments_of s) b (arguments-readable s base b lent.image lent.area both.1) in
    subst (λ (v : List ℕ). Viewed s v b) (sym (overlay-whole into _ (lent.values ∙ sym (values-total s) ∙ sym total))) back

pub view-after-home : ViewAfterHome
view-after-home s values image area copies base hidden h power =
    let b : Buffers = left_by_fill s values image area copies base hidden in
    let l : Left s values base b = filled-left s values image area copies base hidden h in
    let back = put_back (rules_for s) base (arguments_of s) values b l.all (l.total ∙ sym (values-total s)) in
    subst (λ (v : List ℕ). Viewed s v b) back.1
    (viewed s base b power (filled-answer s values image area copies base hidden h) l.image l.area back.0
    (λ readable. bytes-each (rules_for s) base (arguments_of s) b readable (subst Bytes (sym back.1) h.bytes)))

-- ---- the hidden address

-- it takes a word at least
address-power : (w : ℕ) (e : Edition) → 4 ≤ w → w ≤ 8 → w ≤ (start_of (power w e) true).stack
unfolding start_of next_of fresh_cursor
address-power w e least most = omega (arith, words-room w least most w)

address_word : (c : Convention) → homeless (rules_of c) ≡ false → word_of (rules_of c) ≤ (start_of (rules_of c) true).stack
address_word Convention.Ppc64 q = address-power 8 Edition.Earlier (omega arith) (omega arith)
address_word Convention.Z q = let z : ◌≡◌ {A = ℕ} 0 1 = cc in absurd (omega arith)
address_word Convention.Aix q = address-power 4 Edition.Earlier (omega arith) (omega arith)
address_word Convention.Ppc64b q = address-power 8 Edition.Later (omega arith) (omega arith)

hidden-start : (c : Convention) (r : Option ValueType) (x : Span) → homeless (rules_of c) ≡ false → result_places_in c r ≡ ResultPlaces.Hidden x → word_of (rules_of c) ≤ (start_in c r).stack
hidden-start c r x q e = rw (hidden-address c r x e).1 (address_word c q)

starts-hidden : (y : Reading Signature) (x : Span) → homeless (rules_in (signature_answer y)) ≡ false → (plan_answer y).result ≡ ResultPlaces.Hidden x
    → StartsFrom (word_of (rules_in (signature_answer y))) y
unfolding plan_answer plan_in
starts-hidden (got g next m) x q e =
    let r : CallRules = rules_of g.convention in
    rw (word-marked g.ellipsis r) (hidden-start g.convention (result_type g.convention g.result) x (sym (homeless-marked g.ellipsis r) ∙ q) e)
starts-hidden (no f) x q e = tt

pub hidden-stays : HiddenStays
unfolding home_area home_answer
hidden-stays s image area x e = go (home_answer s image (length area)) refl
  where
    w : ℕ
    w = word_of (rules_for s)

    go : (a : CallAnswer) → home_answer s image (length area) ≡ a → part 0 w (pick (is_ok a) (homed (rules_for s) (arguments_of s) image area) area) ≡ part 0 w area
    go (Ok tt) q =
        let tests = (or-done _ _ (reading-done (outcome_for s) _ q)).0 in
        let power = (home-passed _ _ _ _ tests).homes in
        homed-kept (rules_for s) (arguments_of s) w 0 w image area (homes-follow s w power (starts-hidden (signature_of s) x power e)) (omega arith)
    go (Err x) q = refl
