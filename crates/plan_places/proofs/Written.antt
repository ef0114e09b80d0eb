-- The rules as the papers write them: document 01's sentences, each an equation on the definitions by cursors. PowerPC's are by
-- the count w of words so far and the next FPR; they hold for every word width and edition, and each says of which arguments, with an ellipsis and without. Assumes nothing.
use mathlib.Core.Path.{◌≡◌, refl, ap, ap₂, ◌∙◌}
use mathlib.Core.Bool.{Bool, true, false}
use mathlib.Core.List.{List, [], ◌∷◌, ◌++◌, map, append-nil, append_assoc}
use Prim.Native.Nat.{ℕ, zero, suc, ◌+◌, ◌-◌, ◌*◌, ◌/◌, ◌≤◌, ◌<◌, min, max}
use native.Mathlib.Omega.{arith}
use native.Mathlib.Nat.{mul-add, mul-suc, mul-zero, mul-div_cancel_left, add-zero, zero-add, sub-zero, suc-sub-suc, add-div_left, div-eq_of_lt, mul-le-mul_left}
use mathlib.Core.Logic.{◌⊎◌, inl, inr}
use borrow.Author.Tests.{ltb-true, ltb-false, le-ltb, le-leb}
use lib.Dec.{ltb, leb}
use Rattle.base_words.specs.Basics.{pick, round_up}
use Rattle.base_conventions.specs.declared.Convention.{Convention}
use Rattle.base_conventions.specs.Numbers.{word_bytes, least_words}
use Rattle.sig_types.specs.declared.FloatFormat.{FloatFormat}
use Rattle.sig_types.specs.declared.IntegerKind.{IntegerKind}
use Rattle.sig_types.specs.declared.ValueType.{ValueType}
use Rattle.sig_types.specs.Sizes.{size_of}
use Rattle.plan_places.specs.declared.Bank.{Bank}
use Rattle.plan_places.specs.declared.Place.{Place}
use Rattle.plan_places.specs.declared.Cursor.{Cursor}
use Rattle.plan_places.specs.declared.Share.{Share}
use Rattle.plan_places.specs.declared.Edition.{Edition}
use Rattle.plan_places.specs.declared.PowerRules.{PowerRules}
use Rattle.plan_places.specs.declared.CallRules.{CallRules}
use Rattle.plan_places.specs.declared.ZClass.{ZClass}
use Rattle.plan_places.specs.Values.{cursor, registers, bytes, share}
use Rattle.plan_places.specs.Power.{words, fprs, covered, share_of, power_share, unclear}
use Rattle.plan_places.specs.ZSeries.{z_class, z_span_of, z_next_of}
use Rattle.plan_places.specs.Step.{rules_of, span_of, next_of, unclear_for, fresh_cursor, start_of, area_of, hidden_for, returning, result_of}
use Rattle.plan_places.specs.Helpers.{is_earlier, always_clear}
use Rattle.plan_places.specs.Places.{up_from, register_place, registers_of, memory_of, places_of}
use Rattle.plan_places.specs.Results.{returned, returned_by}
use Rattle.plan_places.proofs.Shares.{share-whole, fprs-most}

-- ---- PowerPC: the count of words

-- the cursor at word w of the list, with the next FPR m, and k bytes of copies
abbrev pub counted : ℕ → ℕ → ℕ → ℕ → Cursor
counted word w m k = cursor (3 + min w 8) m (word * w) k

-- "The doubleword count w starts at 0, or at 1 when the result is a struct: its address is then a hidden first argument in r3"
pub start-written : (f : PowerRules) → start_of (CallRules.Power f) false ≡ counted f.word 0 1 0
unfolding start_of fresh_cursor
start-written f = rw (mul-zero f.word)

pub hidden-written : (f : PowerRules) → 0 < f.word → start_of (CallRules.Power f) true ≡ counted f.word 1 1 0
unfolding start_of fresh_cursor next_of words fprs share_of power_share
hidden-written f h =
    let one : (f.word + (f.word - 1)) / f.word ≡ 1 = add-div_left (f.word - 1) h ∙ ap (λ (x : ℕ). x + 1) (div-eq_of_lt (omega arith)) in
    rw (one, zero-add (f.word * 1))

-- "Offset in the area is 8w"
pub offset-written : (f : PowerRules) (w m k : ℕ) (t : ValueType) (n : ℕ) → (span_of (CallRules.Power f) (counted f.word w m k) t n).home.start ≡ f.word * w
unfolding span_of
offset-written f w m k t n = refl

pub same-covered : (n w : ℕ) → min n (11 - (3 + min w 8)) ≡ min n (8 - w)
same-covered n w = omega arith

-- an argument at word w: how many of its words have a GPR, and what share it takes
abbrev pub share_at : PowerRules → ℕ → ℕ → ValueType → ℕ → Share
share_at f w m t n = share_of f.ellipsis (fprs f.edition t) (14 - m) (words f.word n) (min (words f.word n) (8 - w))

-- every argument, a float too, moves w by its words
pub next-counted : (f : PowerRules) (w m k : ℕ) (t : ValueType) (n : ℕ)
    → next_of (CallRules.Power f) (counted f.word w m k) t n ≡ counted f.word (w + words f.word n) (m + (share_at f w m t n).floating) k
unfolding next_of power_share
next-counted f w m k t n =
    let len : ℕ = words f.word n in
    let g : 3 + min w 8 + min len (8 - w) ≡ 3 + min (w + len) 8 = omega arith in
    rw (same-covered len w, g, mul-add f.word w len)

-- "The area is 8 times the larger of 8 and the final w", on AIX "4 times the larger of 8 and w": so many words, in every convention
pub area-written : (c : Convention) (w m k : ℕ) → area_of c (counted (word_bytes c) w m k) ≡ word_bytes c * max (least_words c) w
unfolding area_of
area-written c w m k = go (ltb w (least_words c)) refl
  where
    go : (b : Bool) → ltb w (least_words c) ≡ b → max (word_bytes c * least_words c) (word_bytes c * w) ≡ word_bytes c * max (least_words c) w
    go true q =
        let h : w < least_words c = ltb-true w (least_words c) q in
        let le : w ≤ least_words c = omega arith in
        let e : max (least_words c) w ≡ least_words c = omega arith in
        rw e (omega (arith, mul-le-mul_left (word_bytes c) le))
    go false q =
        let h : least_words c ≤ w = ltb-false w (least_words c) q in
        let e : max (least_words c) w ≡ w = omega arith in
        rw e (omega (arith, mul-le-mul_left (word_bytes c) h))

-- ---- PowerPC: integers, structs and long doubles

-- "goes to r(3+w) while w < 8, then to memory": the place of word j
abbrev pub word_place : ℕ → ℕ → Place
word_place word j = pick (ltb j 8) (register_place Bank.General (3 + j)) (Place.Memory (word * j))

cover-low : (n w : ℕ) → w < 8 → min (suc n) (8 - w) ≡ suc (min n (8 - (w + 1)))
cover-low n w h = omega arith

cover-high : (n w : ℕ) → 8 ≤ w → min n (8 - w) ≡ 0
cover-high n w h = omega arith

low : (w : ℕ) → w < 8 → min w 8 ≡ w
low w h = omega arith

next_low : (w : ℕ) → w < 8 → 3 + w + 1 ≡ 3 + min (w + 1) 8
next_low w h = omega arith

more-suc : (w x : ℕ) → w + suc x ≡ w + 1 + x
more-suc w x = omega arith

none_more : (w : ℕ) → w + 1 + 0 ≡ suc (w + 0)
none_more w = omega arith

-- n words from word w on: those below 8 in GPRs, the others in memory
straddle : (word n w : ℕ)
    → map (register_place Bank.General) (up_from (3 + min w 8) 1 (min n (8 - w))) ++ map Place.Memory (up_from (word * (w + min n (8 - w))) word (n - min n (8 - w)))
    ≡ map (word_place word) (up_from w 1 n)
unfolding up_from
straddle word zero w = let z : min 0 (8 - w) ≡ 0 = omega arith in rw z
straddle word (suc n) w = go (ltb w 8) refl (straddle word n (w + 1))
  where
    go : (b : Bool) → ltb w 8 ≡ b
        → map (register_place Bank.General) (up_from (3 + min (w + 1) 8) 1 (min n (8 - (w + 1)))) ++ map Place.Memory (up_from (word * (w + 1 + min n (8 - (w + 1)))) word (n - min n (8 - (w + 1))))
        ≡ map (word_place word) (up_from (w + 1) 1 n)
        → map (register_place Bank.General) (up_from (3 + min w 8) 1 (min (suc n) (8 - w))) ++ map Place.Memory (up_from (word * (w + min (suc n) (8 - w))) word (suc n - min (suc n) (8 - w)))
        ≡ pick b (register_place Bank.General (3 + w)) (Place.Memory (word * w)) ∷ map (word_place word) (up_from (w + 1) 1 n)
    go true e ih =
        let h : w < 8 = ltb-true w 8 e in
        rw (cover-low n w h, low w h, suc-sub-suc n (min n (8 - (w + 1))), more-suc w (min n (8 - (w + 1))), next_low w h)
        (ap (λ (l : List Place). register_place Bank.General (3 + w) ∷ l) ih)
    go false e ih =
        let h : 8 ≤ w = ltb-false w 8 e in
        let i : map Place.Memory (up_from (word * (w + 1 + 0)) word (n - 0)) ≡ map (word_place word) (up_from (w + 1) 1 n) = rw (cover-high n (w + 1) (omega arith)) at ih in
        let d : word * (w + 1 + 0) ≡ word * (w + 0) + word = ap (λ (x : ℕ). word * x) (none_more w) ∙ mul-suc word (w + 0) in
        rw (cover-high (suc n) w h, sub-zero (suc n))
        (ap₂ (λ (p : Place) (l : List Place). p ∷ l) (ap (λ (y : ℕ). Place.Memory (word * y)) (add-zero w)) (rw (d, sub-zero n) at i))

-- "Each doubleword of a whole, struct or long double goes to r(3+w) while w < 8, then to memory; one argument may straddle"
pub words-written : (f : PowerRules) (w m k : ℕ) (t : ValueType) (n : ℕ) → 0 < f.word → fprs f.edition t ≡ 0
    → places_of f.word (span_of (CallRules.Power f) (counted f.word w m k) t n) ≡ map (word_place f.word) (up_from w 1 (words f.word n))
unfolding span_of power_share share_of places_of registers_of memory_of up_from
words-written f w m k t n h z =
    let len : ℕ = words f.word n in
    let a : len - (len - min len (8 - w)) ≡ min len (8 - w) = omega arith in
    rw (same-covered len w, z, a, ← mul-add f.word w (min len (8 - w)), mul-div_cancel_left (len - min len (8 - w)) h) (straddle f.word len w)

-- ---- PowerPC: floats in FPRs

-- an argument that asks for FPRs, one or more: the next ones, where so many are left; else memory alone. 02, No. 12: "a long double argument
-- takes two successive FPRs instead of GPRs", "With no FPR left it is memory only"
pub floats-written : (f : PowerRules) (w m k : ℕ) (t : ValueType) (n j : ℕ) → 0 < f.word → f.ellipsis ≡ false → fprs f.edition t ≡ suc j
    → places_of f.word (span_of (CallRules.Power f) (counted f.word w m k) t n)
    ≡ pick (leb (suc j) (14 - m)) (map (register_place Bank.Floating) (up_from m 1 (suc j))) (map Place.Memory (up_from (f.word * w) f.word (words f.word n)))
unfolding span_of power_share share_of places_of registers_of memory_of up_from
floats-written f w m k t n j h e z = rw (z, e) (go (leb (suc j) (14 - m)))
  where
    len : ℕ
    len = words f.word n

    go : (b : Bool) → places_of f.word (record {
      general = registers (3 + min w 8) (pick b (share 0 (suc j) 0) (share 0 0 len)).general;
      floating = registers m (pick b (share 0 (suc j) 0) (share 0 0 len)).floating;
      home = bytes (f.word * w) (f.word * len);
      memory = bytes (f.word * w + f.word * (len - (pick b (share 0 (suc j) 0) (share 0 0 len)).memory)) (f.word * (pick b (share 0 (suc j) 0) (share 0 0 len)).memory);
      copy = bytes k 0;
      indirect = false;
    }) ≡ pick b (map (register_place Bank.Floating) (up_from m 1 (suc j))) (map Place.Memory (up_from (f.word * w) f.word len))
    go true = rw (mul-div_cancel_left 0 h, append-nil (map (register_place Bank.Floating) (up_from (m + 1) 1 j)), append-nil (map (register_place Bank.Floating) (up_from (m + 1) 1 j)))
    go false =
        let a : len - len ≡ 0 = omega arith in
        rw (a, mul-div_cancel_left len h, mul-zero f.word, add-zero (f.word * w))

-- "Singles and doubles take f1 to f13 in order, skip their GPR, and aren't stored in memory; after f13, memory only"
pub float-written : (f : PowerRules) (w m k : ℕ) (t : ValueType) (n : ℕ) → 0 < f.word → f.ellipsis ≡ false → fprs f.edition t ≡ 1
    → places_of f.word (span_of (CallRules.Power f) (counted f.word w m k) t n)
    ≡ pick (leb 1 (14 - m)) (register_place Bank.Floating m ∷ []) (map Place.Memory (up_from (f.word * w) f.word (words f.word n)))
unfolding up_from
float-written f w m k t n h e z = floats-written f w m k t n 0 h e z

-- with an ellipsis, 02, No. 5: "in its FPR, and as well in its GPR while w < 8 and in memory from w 8 on"; No. 12: "each doubleword also goes in
-- its GPR while its own w is below 8, then in memory". Every type: the FPRs that it asks for, where so many are left, and its words where those
-- of an integer or a struct would be, also where no FPR is left
pub ellipsis-written : (f : PowerRules) (w m k : ℕ) (t : ValueType) (n : ℕ) → 0 < f.word → f.ellipsis ≡ true
    → places_of f.word (span_of (CallRules.Power f) (counted f.word w m k) t n)
    ≡ map (register_place Bank.Floating) (up_from m 1 (pick (leb (fprs f.edition t) (14 - m)) (fprs f.edition t) 0)) ++ map (word_place f.word) (up_from w 1 (words f.word n))
unfolding span_of power_share places_of registers_of memory_of
ellipsis-written f w m k t n h e =
    let len : ℕ = words f.word n in
    let g : ℕ = min len (8 - w) in
    let fs : List Place = map (register_place Bank.Floating) (up_from m 1 (pick (leb (fprs f.edition t) (14 - m)) (fprs f.edition t) 0)) in
    let gs : List Place = map (register_place Bank.General) (up_from (3 + min w 8) 1 g) in
    let ms : List Place = map Place.Memory (up_from (f.word * (w + g)) f.word (len - g)) in
    let a : len - (len - g) ≡ g = omega arith in
    rw (e, same-covered len w, share-whole (fprs f.edition t) (14 - m) len (min len (8 - w)), a, ← mul-add f.word w (min len (8 - w)), mul-div_cancel_left (len - min len (8 - w)) h)
    (append_assoc fs gs ms ∙ ap (λ (l : List Place). fs ++ l) (straddle f.word len w))

-- 29: where the rules are clear, a float is in all FPRs that it asks for, or none is left
pub clear-written : (f : PowerRules) (c : Cursor) (t : ValueType) (n : ℕ) → unclear f c t ≡ false
    → ((power_share f c t n).floating ≡ fprs f.edition t) ⊎ (14 ≤ c.floating)
unfolding unclear power_share share_of
clear-written f c t n = go (ltb 0 (14 - c.floating)) refl
  where
    k : ℕ
    k = covered c (words f.word n)

    all : (v : Bool) (m : ℕ) → m ≤ 14 - c.floating → (share_of v m (14 - c.floating) (words f.word n) k).floating ≡ m
    all v zero h = refl
    all true (suc m) h = simp (le-leb (suc m) (14 - c.floating) h)
    all false (suc m) h = simp (le-leb (suc m) (14 - c.floating) h)

    go : (b : Bool) → ltb 0 (14 - c.floating) ≡ b → pick b (ltb (14 - c.floating) (fprs f.edition t)) false ≡ false
        → ((share_of f.ellipsis (fprs f.edition t) (14 - c.floating) (words f.word n) k).floating ≡ fprs f.edition t) ⊎ (14 ≤ c.floating)
    go true q e = inl (all f.ellipsis (fprs f.edition t) (ltb-false (14 - c.floating) (fprs f.edition t) e))
    go false q e = let z : 14 - c.floating ≤ 0 = ltb-false 0 (14 - c.floating) q in inr (omega arith)

-- "When only f13 is left": at no other FPR, and of no type but a long double's two
pub unclear-written : (f : PowerRules) (c : Cursor) (t : ValueType) → c.floating ≤ 14 → unclear f c t ≡ true → (c.floating ≡ 13) × (fprs f.edition t ≡ 2)
unfolding unclear
unclear-written f c t h = go (ltb 0 (14 - c.floating)) refl
  where
    go : (b : Bool) → ltb 0 (14 - c.floating) ≡ b → pick b (ltb (14 - c.floating) (fprs f.edition t)) false ≡ true
        → (c.floating ≡ 13) × (fprs f.edition t ≡ 2)
    go true q e =
        let some : 0 < 14 - c.floating = ltb-true 0 (14 - c.floating) q in
        let less : 14 - c.floating < fprs f.edition t = ltb-true (14 - c.floating) (fprs f.edition t) e in
        let most : fprs f.edition t ≤ 2 = fprs-most f.edition t in
        (omega arith, omega arith)
    go false q e = let z : ◌≡◌ {A = ℕ} 0 1 = cc in absurd (omega arith)

fprs-earlier : (t : ValueType) → fprs Edition.Earlier t ≤ 1
unfolding fprs
fprs-earlier (ValueType.Integer k) = omega arith
fprs-earlier (ValueType.Float FloatFormat.Single) = omega arith
fprs-earlier (ValueType.Float FloatFormat.Double) = omega arith
fprs-earlier (ValueType.Float FloatFormat.LongDouble) = omega arith
fprs-earlier (ValueType.Struct s) = omega arith

-- the earlier edition is clear everywhere
pub earlier-clear : (f : PowerRules) (c : Cursor) (t : ValueType) → f.edition ≡ Edition.Earlier → unclear f c t ≡ false
unfolding unclear
earlier-clear f c t e = rw e (go (ltb 0 (14 - c.floating)) refl)
  where
    go : (b : Bool) → ltb 0 (14 - c.floating) ≡ b → pick b (ltb (14 - c.floating) (fprs Edition.Earlier t)) false ≡ false
    go true q = let h : 0 < 14 - c.floating = ltb-true 0 (14 - c.floating) q in le-ltb (14 - c.floating) (fprs Edition.Earlier t) (omega (arith, fprs-earlier t))
    go false q = refl

-- the rules that are clear everywhere
pub always-clear : (r : CallRules) (c : Cursor) (t : ValueType) → always_clear r ≡ true → unclear_for r c t ≡ false
unfolding always_clear unclear_for
always-clear (CallRules.Power f) c t e = earlier-clear f c t (go f.edition e)
  where
    go : (x : Edition) → is_earlier x ≡ true → x ≡ Edition.Earlier
    go Edition.Earlier q = refl
    go Edition.Later q = let z : ◌≡◌ {A = ℕ} 0 1 = cc in absurd (omega arith)
always-clear CallRules.Z c t e = refl

-- ---- Z

-- "Counters start at gr 2 (3 with a hidden result address in r2 ..), fr 0, stack offset 160", which is byte 0 of the area
pub z-start-written : start_of CallRules.Z false ≡ cursor 2 0 0 0
unfolding start_of fresh_cursor
z-start-written = refl

pub z-hidden-written : start_of CallRules.Z true ≡ cursor 3 0 0 0
unfolding start_of fresh_cursor next_of z_class z_next_of
z-hidden-written = refl

-- "f0, f2, f4, f6, then 8 stack bytes"
pub z-float-written : (c : Cursor) (t : ValueType) (n : ℕ) → z_class t n ≡ ZClass.Float
    → places_of 8 (span_of CallRules.Z c t n) ≡ pick (ltb c.floating 8) (register_place Bank.Floating c.floating ∷ []) (Place.Memory c.stack ∷ [])
unfolding places_of registers_of memory_of up_from span_of z_span_of
z-float-written c t n e = rw e (go (ltb c.floating 8) refl)
  where
    go : (b : Bool) → ltb c.floating 8 ≡ b
        → (map (register_place Bank.Floating) (up_from c.floating 1 (min 1 (8 - c.floating))) ++ []) ++ map Place.Memory (up_from c.stack 8 (8 * (1 - (0 + min 1 (8 - c.floating))) / 8))
        ≡ pick b (register_place Bank.Floating c.floating ∷ []) (Place.Memory c.stack ∷ [])
    go true q = let m : min 1 (8 - c.floating) ≡ 1 = omega (arith, ltb-true c.floating 8 q) in rw m
    go false q = let m : min 1 (8 - c.floating) ≡ 0 = omega (arith, ltb-false c.floating 8 q) in rw m

z-held : (c : Cursor) (b : Bool) → ltb c.general 7 ≡ b
    → map (register_place Bank.General) (up_from c.general 1 (min 1 (7 - c.general))) ++ map Place.Memory (up_from c.stack 8 (8 * (1 - (min 1 (7 - c.general) + 0)) / 8))
    ≡ pick b (register_place Bank.General c.general ∷ []) (Place.Memory c.stack ∷ [])
unfolding up_from
z-held c true q = let m : min 1 (7 - c.general) ≡ 1 = omega (arith, ltb-true c.general 7 q) in rw m
z-held c false q = let m : min 1 (7 - c.general) ≡ 0 = omega (arith, ltb-false c.general 7 q) in rw m

-- "Everything else: r2 to r6, then 8 stack bytes", a value and a pointer to a copy alike
pub z-general-written : (c : Cursor) (t : ValueType) (n : ℕ) → (z_class t n ≡ ZClass.Float → ⊥)
    → places_of 8 (span_of CallRules.Z c t n) ≡ pick (ltb c.general 7) (register_place Bank.General c.general ∷ []) (Place.Memory c.stack ∷ [])
unfolding places_of registers_of memory_of up_from span_of z_span_of
z-general-written c t n h = go (z_class t n) h
  where
    go : (k : ZClass) → (k ≡ ZClass.Float → ⊥)
        → places_of 8 (z_span_of c k n) ≡ pick (ltb c.general 7) (register_place Bank.General c.general ∷ []) (Place.Memory c.stack ∷ [])
    go ZClass.Float f = absurd (f refl)
    go ZClass.Simple f = z-held c (ltb c.general 7) refl
    go ZClass.Reference f = z-held c (ltb c.general 7) refl

-- "other structs and long double go by pointer to a copy, at the next multiple of 8 in the copy buffer"
pub z-copy-written : (c : Cursor) (t : ValueType) (n : ℕ) → z_class t n ≡ ZClass.Reference → (span_of CallRules.Z c t n).copy ≡ bytes (round_up c.copies 8) n
unfolding span_of z_span_of
z-copy-written c t n e = rw e

-- how the counters move: fr by 2 up to f6, then the stack by 8
pub z-float-next : (c : Cursor) (t : ValueType) (n : ℕ) → z_class t n ≡ ZClass.Float
    → next_of CallRules.Z c t n ≡ pick (ltb c.floating 8) (cursor c.general (c.floating + 2) c.stack c.copies) (cursor c.general c.floating (c.stack + 8) c.copies)
unfolding next_of z_next_of
z-float-next c t n e = rw e (go (ltb c.floating 8) refl)
  where
    go : (b : Bool) → ltb c.floating 8 ≡ b
        → cursor (c.general + 0) (c.floating + 2 * min 1 (8 - c.floating)) (c.stack + 8 * (1 - (0 + min 1 (8 - c.floating)))) c.copies
        ≡ pick b (cursor c.general (c.floating + 2) c.stack c.copies) (cursor c.general c.floating (c.stack + 8) c.copies)
    go true q = let m : min 1 (8 - c.floating) ≡ 1 = omega (arith, ltb-true c.floating 8 q) in rw (m, add-zero c.general, add-zero c.stack)
    go false q = let m : min 1 (8 - c.floating) ≡ 0 = omega (arith, ltb-false c.floating 8 q) in rw (m, add-zero c.general, add-zero c.floating)

-- gr by 1 up to r6, then the stack by 8, where the copies then end at e
z-moved : (c : Cursor) (e : ℕ) (b : Bool) → ltb c.general 7 ≡ b
    → cursor (c.general + min 1 (7 - c.general)) (c.floating + 2 * 0) (c.stack + 8 * (1 - (min 1 (7 - c.general) + 0))) e
    ≡ pick b (cursor (c.general + 1) c.floating c.stack e) (cursor c.general c.floating (c.stack + 8) e)
z-moved c e true q = let m : min 1 (7 - c.general) ≡ 1 = omega (arith, ltb-true c.general 7 q) in rw (m, add-zero c.floating, add-zero c.stack)
z-moved c e false q = let m : min 1 (7 - c.general) ≡ 0 = omega (arith, ltb-false c.general 7 q) in rw (m, add-zero c.floating, add-zero c.general)

pub z-simple-next : (c : Cursor) (t : ValueType) (n : ℕ) → z_class t n ≡ ZClass.Simple
    → next_of CallRules.Z c t n ≡ pick (ltb c.general 7) (cursor (c.general + 1) c.floating c.stack c.copies) (cursor c.general c.floating (c.stack + 8) c.copies)
unfolding next_of z_next_of
z-simple-next c t n e = rw e (z-moved c c.copies (ltb c.general 7) refl)

-- a pointer moves them as a value does, and the copies end after the new one
pub z-reference-next : (c : Cursor) (t : ValueType) (n : ℕ) → z_class t n ≡ ZClass.Reference
    → next_of CallRules.Z c t n
    ≡ pick (ltb c.general 7) (cursor (c.general + 1) c.floating c.stack (round_up c.copies 8 + n)) (cursor c.general c.floating (c.stack + 8) (round_up c.copies 8 + n))
unfolding next_of z_next_of
z-reference-next c t n e = rw e (z-moved c (round_up c.copies 8 + n) (ltb c.general 7) refl)

-- "The area is the stack bytes used, possibly 0"
pub z-area-written : (c : Cursor) → area_of Convention.Z c ≡ c.stack
unfolding area_of
z-area-written c = omega arith

-- ---- the results

-- every type, in every convention
pub result-written : (c : Convention) (t : ValueType) → returned (word_bytes c) (result_of (rules_of c) t (size_of c t)) ≡ returned_by c t
unfolding result_of hidden_for returning span_of fresh_cursor words fprs share_of power_share z_class z_span_of places_of registers_of memory_of up_from
result-written Convention.Ppc64 (ValueType.Integer IntegerKind.I8) = refl
result-written Convention.Ppc64 (ValueType.Integer IntegerKind.U8) = refl
result-written Convention.Ppc64 (ValueType.Integer IntegerKind.I16) = refl
result-written Convention.Ppc64 (ValueType.Integer IntegerKind.U16) = refl
result-written Convention.Ppc64 (ValueType.Integer IntegerKind.I32) = refl
result-written Convention.Ppc64 (ValueType.Integer IntegerKind.U32) = refl
result-written Convention.Ppc64 (ValueType.Integer IntegerKind.I64) = refl
result-written Convention.Ppc64 (ValueType.Integer IntegerKind.U64) = refl
result-written Convention.Ppc64 (ValueType.Integer IntegerKind.Pointer) = refl
result-written Convention.Ppc64 (ValueType.Float FloatFormat.Single) = refl
result-written Convention.Ppc64 (ValueType.Float FloatFormat.Double) = refl
result-written Convention.Ppc64 (ValueType.Float FloatFormat.LongDouble) = refl
result-written Convention.Ppc64 (ValueType.Struct s) = refl
result-written Convention.Z (ValueType.Integer k) = refl
result-written Convention.Z (ValueType.Float FloatFormat.Single) = refl
result-written Convention.Z (ValueType.Float FloatFormat.Double) = refl
result-written Convention.Z (ValueType.Float FloatFormat.LongDouble) = refl
result-written Convention.Z (ValueType.Struct s) = refl
result-written Convention.Aix (ValueType.Integer IntegerKind.I8) = refl
result-written Convention.Aix (ValueType.Integer IntegerKind.U8) = refl
result-written Convention.Aix (ValueType.Integer IntegerKind.I16) = refl
result-written Convention.Aix (ValueType.Integer IntegerKind.U16) = refl
result-written Convention.Aix (ValueType.Integer IntegerKind.I32) = refl
result-written Convention.Aix (ValueType.Integer IntegerKind.U32) = refl
result-written Convention.Aix (ValueType.Integer IntegerKind.I64) = refl
result-written Convention.Aix (ValueType.Integer IntegerKind.U64) = refl
result-written Convention.Aix (ValueType.Integer IntegerKind.Pointer) = refl
result-written Convention.Aix (ValueType.Float FloatFormat.Single) = refl
result-written Convention.Aix (ValueType.Float FloatFormat.Double) = refl
result-written Convention.Aix (ValueType.Float FloatFormat.LongDouble) = refl
result-written Convention.Aix (ValueType.Struct s) = refl
result-written Convention.Ppc64b (ValueType.Integer IntegerKind.I8) = refl
result-written Convention.Ppc64b (ValueType.Integer IntegerKind.U8) = refl
result-written Convention.Ppc64b (ValueType.Integer IntegerKind.I16) = refl
result-written Convention.Ppc64b (ValueType.Integer IntegerKind.U16) = refl
result-written Convention.Ppc64b (ValueType.Integer IntegerKind.I32) = refl
result-written Convention.Ppc64b (ValueType.Integer IntegerKind.U32) = refl
result-written Convention.Ppc64b (ValueType.Integer IntegerKind.I64) = refl
result-written Convention.Ppc64b (ValueType.Integer IntegerKind.U64) = refl
result-written Convention.Ppc64b (ValueType.Integer IntegerKind.Pointer) = refl
result-written Convention.Ppc64b (ValueType.Float FloatFormat.Single) = refl
result-written Convention.Ppc64b (ValueType.Float FloatFormat.Double) = refl
result-written Convention.Ppc64b (ValueType.Float FloatFormat.LongDouble) = refl
result-written Convention.Ppc64b (ValueType.Struct s) = refl
