-- Filling changes only named slots and copies, home only homes, and reading an argument looks at its own slots and copy alone.
-- Assumes nothing.
-- ---- filling
use mathlib.Core.Path.{◌≡◌, refl, ap, ◌∙◌}
use mathlib.Core.Logic.{inl, inr}
use mathlib.Core.Bool.{Bool, true, false}
use mathlib.Core.List.{List, [], ◌∷◌}
use Prim.Native.Nat.{ℕ, ◌+◌, ◌-◌, ◌≤◌, ◌<◌}
use native.Mathlib.Omega.{arith}
use borrow.Author.Tests.{ltb-true, ltb-false}
use lib.Dec.{ltb}
use lib.ListN.{length, get_or}
use Rattle.base_words.specs.Basics.{pick}
use Rattle.base_words.specs.Splice.{splice, part}
use Rattle.base_words.proofs.Splices.{splice-at-other}
use Rattle.base_words.specs.Numbers.{value_of}
use Rattle.plan_places.specs.declared.CallRules.{CallRules}
use Rattle.plan_places.specs.Step.{word_of}
use Rattle.plan_places.specs.Spots.{Spot, general, floating, area, copies}
use Rattle.call_slots.specs.Buffers.{Buffers, Slot, general_at, floating_at, put, put_all, bytes_at}
use Rattle.call_slots.specs.Forms.{float_value, own_start}
use Rattle.call_slots.specs.Placements.{Placement, words_at, fpr_bytes_at, address_at, words_value, value_at}
use Rattle.call_slots.specs.Arguments.{arguments_of, rules_for}
use Rattle.call_fill.specs.Fill.{filled_slots, fill_buffers}
use Rattle.call_home.specs.Home.{homed, home_area}
use Rattle.call_roundtrip.specs.Places.{Byte, in_image, in_area, in_copies, byte_at, Among, CoversFrom, Touches, FillOnly, ReadOwn}
use Rattle.call_roundtrip.specs.Views.{HomeTouches, HomeOnly}
use Rattle.call_home_slot.specs.Homes.{homed_bytes}

splice-kept : (l : List ℕ) (n : ℕ) (bs : List ℕ) (i : ℕ) → (Among n (length bs) i → ⊥) → get_or (splice l n bs) i 0 ≡ get_or l i 0
splice-kept l n bs i h = go (ltb i n) refl
  where
    go : (t : Bool) → ltb i n ≡ t → get_or (splice l n bs) i 0 ≡ get_or l i 0
    go true e = let q : i < n = ltb-true i n e in splice-at-other l n bs i 0 (inl (omega arith))
    go false e = let q : n ≤ i = ltb-false i n e in past (ltb i (n + length bs)) refl q
      where
        past : (t : Bool) → ltb i (n + length bs) ≡ t → n ≤ i → get_or (splice l n bs) i 0 ≡ get_or l i 0
        past true e q = absurd (h (q, ltb-true i (n + length bs) e))
        past false e q = let k : n + length bs ≤ i = ltb-false i (n + length bs) e in splice-at-other l n bs i 0 (inr (omega arith))

put-kept : (p : Spot) (bs : List ℕ) (b : Buffers) (x : Byte) → (CoversFrom p (length bs) x → ⊥) → byte_at x (put p bs b) ≡ byte_at x b
unfolding put
put-kept (general n) bs b (in_image i) h = splice-kept b.image (general_at n) bs i h
put-kept (general n) bs b (in_area i) h = refl
put-kept (general n) bs b (in_copies i) h = refl
put-kept (floating n) bs b (in_image i) h = splice-kept b.image (floating_at n) bs i h
put-kept (floating n) bs b (in_area i) h = refl
put-kept (floating n) bs b (in_copies i) h = refl
put-kept (area n) bs b (in_image i) h = refl
put-kept (area n) bs b (in_area i) h = splice-kept b.area n bs i h
put-kept (area n) bs b (in_copies i) h = refl
put-kept (copies n) bs b (in_image i) h = refl
put-kept (copies n) bs b (in_area i) h = refl
put-kept (copies n) bs b (in_copies i) h = splice-kept b.copies n bs i h

all-kept : (ss : List Slot) (b : Buffers) (x : Byte) → (Touches ss x → ⊥) → byte_at x (put_all ss b) ≡ byte_at x b
unfolding put_all Touches
all-kept [] b x h = refl
all-kept (s ∷ ss) b x h =
    all-kept ss (put s.spot s.bytes b) x (λ t. h (inr t)) ∙ put-kept s.spot s.bytes b x (λ t. h (inl t))

pub fill-only : FillOnly
unfolding fill_buffers
fill-only s values base hidden b x h = all-kept (filled_slots s values base hidden) b x h

-- ---- home

homed-only : (r : CallRules) (ps : List Placement) (image l : List ℕ) (i : ℕ) → (HomeTouches r ps image i → ⊥) → get_or (homed r ps image l) i 0 ≡ get_or l i 0
unfolding homed HomeTouches
homed-only r [] image l i h = refl
homed-only r (p ∷ ps) image l i h =
    homed-only r ps image (splice l p.span.home.start (homed_bytes r p image)) i (λ t. h (inr t)) ∙ splice-kept l p.span.home.start (homed_bytes r p image) i (λ t. h (inl t))

pub home-only : HomeOnly
unfolding home_area
home-only s image l i h = homed-only (rules_for s) (arguments_of s) image l i h

-- ---- reading

pub read-own : ReadOwn
unfolding value_at words_value
read-own r base p b c h = go (ltb 0 p.span.floating.count) refl
  where
    w : ℕ
    w = word_of r

    in_words : (i : Bool) → p.span.indirect ≡ i
        → pick i (bytes_at (copies (address_at w p.span b - base)) p.size b) (part (own_start r p.ty p.size) p.size (words_at w p.span b))
        ≡ pick i (bytes_at (copies (address_at w p.span c - base)) p.size c) (part (own_start r p.ty p.size) p.size (words_at w p.span c))
    in_words true q = h.copy q ∙ ap (λ (l : List ℕ). bytes_at (copies (value_of l - base)) p.size c) h.words
    in_words false q = ap (part (own_start r p.ty p.size) p.size) h.words

    go : (f : Bool) → ltb 0 p.span.floating.count ≡ f
        → pick f (float_value r p.ty (fpr_bytes_at p.span b))
        (pick p.span.indirect (bytes_at (copies (address_at w p.span b - base)) p.size b) (part (own_start r p.ty p.size) p.size (words_at w p.span b)))
        ≡ pick f (float_value r p.ty (fpr_bytes_at p.span c))
        (pick p.span.indirect (bytes_at (copies (address_at w p.span c - base)) p.size c) (part (own_start r p.ty p.size) p.size (words_at w p.span c)))
    go true q = ap (float_value r p.ty) (h.float (ltb-true 0 p.span.floating.count q))
    go false q = in_words p.span.indirect refl
