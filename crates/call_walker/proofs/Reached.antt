-- Where arguments lead: the counters that 23 lets pass are exactly those that some arguments lead to from the walker's start. Assumes nothing.
use mathlib.Core.Path.{◌≡◌, refl, sym, ap, ◌∙◌, subst}
use mathlib.Core.Logic.{◌⊎◌, inl, inr}
use mathlib.Core.Bool.{Bool, true, false}
use mathlib.Core.List.{List, [], ◌∷◌}
use Prim.Native.Nat.{ℕ, zero, suc, ◌+◌, ◌-◌, ◌*◌, ◌/◌, ◌%◌, ◌≤◌, ◌<◌, min}
use native.Mathlib.Omega.{arith}
use native.Mathlib.Nat.{mul-add, mul-div_cancel_left}
use borrow.Author.Tests.{le-leb}
use Rattle.base_words.specs.Basics.{flag, All}
use Rattle.base_conventions.specs.declared.Convention.{Convention}
use Rattle.sig_types.specs.declared.FloatFormat.{FloatFormat}
use Rattle.sig_types.specs.declared.IntegerKind.{IntegerKind}
use Rattle.sig_types.specs.declared.ValueType.{ValueType}
use Rattle.sig_types.specs.Sizes.{size_of, lacks_float}
use Rattle.sig_types.specs.Trees.{Tree, Trees, integer, float, none, ◌▸◌, type_of}
use Rattle.sig_types.specs.Limits.{depth_of, Fits, TypeWithin, AllWithin}
use Rattle.plan_places.specs.declared.Edition.{Edition}
use Rattle.plan_places.specs.declared.PowerRules.{PowerRules}
use Rattle.plan_places.specs.declared.Cursor.{Cursor}
use Rattle.plan_places.specs.declared.CallRules.{CallRules}
use Rattle.plan_places.specs.declared.ZClass.{ZClass}
use Rattle.plan_places.specs.Values.{cursor}
use Rattle.plan_places.specs.Power.{words, fprs, covered, share_of, power_share}
use Rattle.plan_places.specs.ZSeries.{z_class, z_next_of}
use Rattle.plan_places.specs.Step.{next_of, start_of}
use Rattle.plan_places.specs.Helpers.{LawfulCalls}
use Rattle.plan_places.proofs.Shares.{share-marked, share-room, share-asked, words-some, words-two, words-one}
use Rattle.plan_places.proofs.Written.{counted, next-counted, start-written, hidden-written, z-start-written, z-hidden-written}
use Rattle.sig_signatures.specs.Types.{types_of}
use Rattle.plan_plans.specs.Plan.{last_of}
use Rattle.plan_plans.proofs.Fold.{last_more}
use Rattle.call_slots.proofs.Typed.{Typed}
use Rattle.call_walker.specs.declared.Counters.{Counters}
use Rattle.call_walker.specs.Walker.{counters, cursor_at, counters_of}

-- what the test of 23 says of counters
abbrev pub Possible : CallRules → Bool → Counters → Type 0
Possible (CallRules.Power f) hidden k = (k.floating ≤ 13) × (k.floating + flag hidden ≤ k.general) × (k.stack ≡ 0)
Possible CallRules.Z hidden k =
    (2 + flag hidden ≤ k.general) × (k.general ≤ 7) × (k.floating ≤ 8) × (k.floating % 2 ≡ 0) × (160 ≤ k.stack) × (k.stack % 8 ≡ 0)
    × ((k.stack ≤ 160) ⊎ ((7 ≤ k.general) ⊎ (8 ≤ k.floating)))

-- ---- from the start on

-- what holds of every cursor that arguments lead to
abbrev pub Reached : CallRules → Bool → Cursor → Type 0
Reached (CallRules.Power f) hidden d =
    (w : ℕ) × (d.stack ≡ f.word * w) × (d.general ≡ 3 + min w 8) × (1 ≤ d.floating) × (d.floating ≤ 14) × (d.floating + flag hidden ≤ w + 1)
Reached CallRules.Z hidden d =
    (2 + flag hidden ≤ d.general) × (d.general ≤ 7) × (d.floating ≤ 8) × (d.floating % 2 ≡ 0) × (d.stack % 8 ≡ 0)
    × ((d.stack ≤ 0) ⊎ ((7 ≤ d.general) ⊎ (8 ≤ d.floating)))

-- a float uses up at least as many words as FPRs
fprs-words : (c : Convention) (e : Edition) (w : ℕ) (t : ValueType) → 0 < w → w ≤ 8 → 0 < size_of c t → fprs e t ≤ words w (size_of c t)
unfolding fprs
fprs-words c e w (ValueType.Integer k) h l s = omega arith
fprs-words c e w (ValueType.Float FloatFormat.Single) h l s = words-some w 4 h (omega arith)
fprs-words c e w (ValueType.Float FloatFormat.Double) h l s = words-some w 8 h (omega arith)
fprs-words c Edition.Earlier w (ValueType.Float FloatFormat.LongDouble) h l s = omega arith
fprs-words c Edition.Later w (ValueType.Float FloatFormat.LongDouble) h l s = words-two w 16 h (omega arith)
fprs-words c e w (ValueType.Struct x) h l s = omega arith

pub reached-start : (r : CallRules) (hidden : Bool) → LawfulCalls r → Reached r hidden (start_of r hidden)
reached-start (CallRules.Power f) false l = rw (start-written f) (0, refl, omega arith, omega arith, omega arith, omega arith)
reached-start (CallRules.Power f) true l = rw (hidden-written f (omega arith)) (1, refl, omega arith, omega arith, omega arith, omega arith)
reached-start CallRules.Z false l = rw z-start-written (omega arith, omega arith, omega arith, omega arith, omega arith, inl (omega arith))
reached-start CallRules.Z true l = rw z-hidden-written (omega arith, omega arith, omega arith, omega arith, omega arith, inl (omega arith))

-- eight bytes of the stack more only where no register is left
z-more : (d : Cursor) (x : ℕ) → (1 ≤ x → (d.stack ≤ 0) ⊎ ((7 ≤ d.general) ⊎ (8 ≤ d.floating))) → (g f : ℕ) → d.general ≤ g → d.floating ≤ f
    → (x ≤ 0 → (7 ≤ g) ⊎ (8 ≤ f)) → (d.stack + 8 * (1 - x) ≤ 0) ⊎ ((7 ≤ g) ⊎ (8 ≤ f))
z-more d zero h g f a b k = inr (k (omega arith))
z-more d (suc x) h g f a b k = go (h (omega arith))
  where
    go : (d.stack ≤ 0) ⊎ ((7 ≤ d.general) ⊎ (8 ≤ d.floating)) → (d.stack + 8 * (1 - suc x) ≤ 0) ⊎ ((7 ≤ g) ⊎ (8 ≤ f))
    go (inl e) = inl (omega arith)
    go (inr (inl e)) = inr (inl (omega arith))
    go (inr (inr e)) = inr (inr (omega arith))

z-reached : (hidden : Bool) (d : Cursor) (class : ZClass) (n : ℕ) → Reached CallRules.Z hidden d → Reached CallRules.Z hidden (z_next_of d class n)
unfolding z_next_of
z-reached hidden d ZClass.Float n h = (
  omega (arith, h.0),
  omega (arith, h.1),
  omega (arith, h.2),
  omega (arith, h.2, h.3),
  omega (arith, h.4),
  z-more d (0 + min 1 (8 - d.floating)) (λ x. h.5) _ _ (omega arith) (omega arith) (λ x. inr (omega arith)),
)
z-reached hidden d ZClass.Simple n h = (
  omega (arith, h.0),
  omega (arith, h.1),
  omega (arith, h.2),
  omega (arith, h.2, h.3),
  omega (arith, h.4),
  z-more d (min 1 (7 - d.general) + 0) (λ x. h.5) _ _ (omega arith) (omega arith) (λ x. inl (omega arith)),
)
z-reached hidden d ZClass.Reference n h = (
  omega (arith, h.0),
  omega (arith, h.1),
  omega (arith, h.2),
  omega (arith, h.2, h.3),
  omega (arith, h.4),
  z-more d (min 1 (7 - d.general) + 0) (λ x. h.5) _ _ (omega arith) (omega arith) (λ x. inl (omega arith)),
)

pub reached-next : (c : Convention) (r : CallRules) (hidden : Bool) (d : Cursor) (t : ValueType) → LawfulCalls r → 0 < size_of c t → Reached r hidden d
    → Reached r hidden (next_of r d t (size_of c t))
unfolding next_of power_share
reached-next c (CallRules.Power f) hidden d t l s h =
    let n : ℕ = words f.word (size_of c t) in
    let w : ℕ = h.0 in
    let room = share-room f.ellipsis (fprs f.edition t) (14 - d.floating) n (covered d n) in
    let few = share-asked f.ellipsis (fprs f.edition t) (14 - d.floating) n (covered d n) in
    let most = fprs-words c f.edition f.word t (omega arith) (omega arith) s in (
      w + n,
      ap (λ (x : ℕ). x + f.word * n) h.1 ∙ sym (mul-add f.word w n),
      omega (arith, h.2),
      omega (arith, h.3),
      omega (arith, room, h.4),
      omega (arith, few, most, h.5),
    )
reached-next c CallRules.Z hidden d t l s h = z-reached hidden d (z_class t (size_of c t)) (size_of c t) h

pub reached-last : (c : Convention) (r : CallRules) (hidden : Bool) (d : Cursor) (ts : List ValueType) → LawfulCalls r → All (Typed c) ts → Reached r hidden d
    → Reached r hidden (last_of c r d ts)
unfolding last_of All
reached-last c r hidden d [] l a h = h
reached-last c r hidden d (t ∷ ts) l a h = reached-last c r hidden (next_of r d t (size_of c t)) ts l a.1 (reached-next c r hidden d t l a.0.sized.some h)

z-offset : (d : Cursor) → (d.stack ≤ 0) ⊎ ((7 ≤ d.general) ⊎ (8 ≤ d.floating)) → (160 + d.stack ≤ 160) ⊎ ((7 ≤ d.general) ⊎ (8 ≤ d.floating))
z-offset d (inl e) = inl (omega arith)
z-offset d (inr e) = inr e

pub reached-possible : (r : CallRules) (hidden : Bool) (d : Cursor) → LawfulCalls r → Reached r hidden d → Possible r hidden (counters_of r d)
unfolding counters_of
reached-possible (CallRules.Power f) hidden d l h =
    let some : 0 < f.word = omega arith in
    let w : d.stack / f.word ≡ h.0 = ap (λ (x : ℕ). x / f.word) h.1 ∙ mul-div_cancel_left h.0 some in
    (omega (arith, h.4), omega (arith, w, h.3, h.5), refl)
reached-possible CallRules.Z hidden d l h = (h.0, h.1, h.2, h.3, omega arith, omega (arith, h.4), z-offset d h.5)

-- the counters tell the cursor, but for its copies
pub reached-cursor : (r : CallRules) (hidden : Bool) (d : Cursor) → LawfulCalls r → Reached r hidden d
    → cursor_at r (counters_of r d) ≡ cursor d.general d.floating d.stack 0
unfolding cursor_at counters_of
reached-cursor (CallRules.Power f) hidden d l h =
    let some : 0 < f.word = omega arith in
    let w : d.stack / f.word ≡ h.0 = ap (λ (x : ℕ). x / f.word) h.1 ∙ mul-div_cancel_left h.0 some in
    let m : 1 + (d.floating - 1) ≡ d.floating = omega (arith, h.3) in
    rw (w, m, h.2, h.1)
reached-cursor CallRules.Z hidden d l h = let e : 160 + d.stack - 160 ≡ d.stack = omega arith in rw e

-- counters that pass are those of a cursor that can be reached
pub possible-reached : (r : CallRules) (hidden : Bool) (k : Counters) → LawfulCalls r → Possible r hidden k → Reached r hidden (cursor_at r k)
unfolding cursor_at
possible-reached (CallRules.Power f) hidden k l h = (k.general, refl, refl, omega arith, omega (arith, h.0), omega (arith, h.1))
possible-reached CallRules.Z hidden k l h = (h.0, h.1, h.2, h.3, omega (arith, h.4, h.5), back h.6)
  where
    back : (k.stack ≤ 160) ⊎ ((7 ≤ k.general) ⊎ (8 ≤ k.floating)) → (k.stack - 160 ≤ 0) ⊎ ((7 ≤ k.general) ⊎ (8 ≤ k.floating))
    back (inl e) = inl (omega arith)
    back (inr e) = inr e

-- the counters of that cursor are these
pub counters-back : (r : CallRules) (hidden : Bool) (k : Counters) → LawfulCalls r → Possible r hidden k → counters_of r (cursor_at r k) ≡ k
unfolding counters_of cursor_at
counters-back (CallRules.Power f) hidden k l h =
    let some : 0 < f.word = omega arith in
    let m : 1 + k.floating - 1 ≡ k.floating = omega arith in
    rw (mul-div_cancel_left k.general some, m) (ap (λ (s : ℕ). counters k.general k.floating s) (sym h.2))
counters-back CallRules.Z hidden k l h = let s : 160 + (k.stack - 160) ≡ k.stack = omega (arith, h.4) in rw s

-- ---- and every counter that 23 lets pass is led to: by singles and integers of 32 bits

abbrev int : Tree
int = integer IntegerKind.I32

abbrev single : Tree
single = float FloatFormat.Single

within-int : (c : Convention) → TypeWithin c int
unfolding depth_of Fits
within-int c = record { depth = omega arith; fits = tt }

carries-single : (c : Convention) → lacks_float c false FloatFormat.Single ≡ false
carries-single Convention.Ppc64 = refl
carries-single Convention.Z = refl
carries-single Convention.Aix = refl
carries-single Convention.Ppc64b = refl

within-single : (c : Convention) → TypeWithin c single
unfolding depth_of Fits
within-single c = record { depth = omega arith; fits = (tt, carries-single c) }

-- some arguments, whose last cursor is d
pub record LeadTo (c : Convention) (r : CallRules) (hidden : Bool) (d : Cursor) : Type 0 where
  pub arguments : Trees
  pub within : AllWithin c arguments
  pub last : last_of c r (start_of r hidden) (types_of c arguments) ≡ d

lead-start : (c : Convention) (r : CallRules) (hidden : Bool) (d : Cursor) → start_of r hidden ≡ d → LeadTo c r hidden d
unfolding AllWithin last_of types_of
lead-start c r hidden d e = record { arguments = none; within = tt; last = e }

-- and one more
lead-more : (c : Convention) (r : CallRules) (hidden : Bool) (d e : Cursor) (t : Tree) → TypeWithin c t → next_of r d (type_of c t) (size_of c (type_of c t)) ≡ e
    → LeadTo c r hidden d → LeadTo c r hidden e
unfolding AllWithin types_of
lead-more c r hidden d e t w q h = record {
  arguments = h.arguments ▸ t;
  within = (h.within, w);
  last = last_more c r (start_of r hidden) (types_of c h.arguments) (type_of c t)
      ∙ (ap (λ (k : Cursor). next_of r k (type_of c t) (size_of c (type_of c t))) h.last ∙ q);
}

-- PowerPC: one word each, and an FPR for a single while one is left
module _ (c : Convention) (f : PowerRules) (hidden : Bool) (l : LawfulCalls (CallRules.Power f)) where
  no-fprs : (m n k : ℕ) → m + (share_of f.ellipsis (fprs f.edition (type_of c int)) (14 - m) n k).floating ≡ m
  unfolding fprs share_of type_of
  no-fprs m n k = omega arith

  single-fpr : (m n k : ℕ) → m ≤ 13 → (share_of false (fprs f.edition (type_of c single)) (14 - m) n k).floating ≡ 1
  unfolding fprs share_of type_of
  single-fpr m n k h = let x : 1 ≤ 14 - m = omega arith in simp (le-leb 1 (14 - m) x)

  one-fpr : (m n k : ℕ) → m ≤ 13 → m + (share_of f.ellipsis (fprs f.edition (type_of c single)) (14 - m) n k).floating ≡ m + 1
  one-fpr m n k h = ap (λ (x : ℕ). m + x) (share-marked f.ellipsis (fprs f.edition (type_of c single)) (14 - m) n k ∙ single-fpr m n k h)

  power-int : (w m : ℕ) → next_of (CallRules.Power f) (counted f.word w m 0) (type_of c int) (size_of c (type_of c int)) ≡ counted f.word (w + 1) m 0
  unfolding type_of
  power-int w m =
      let x : words f.word 4 ≡ 1 = words-one f.word 4 (omega arith) (omega arith) in
      next-counted f w m 0 (type_of c int) 4 ∙ rw (no-fprs m (words f.word 4) (min (words f.word 4) (8 - w)), x)

  power-single : (w m : ℕ) → m ≤ 13 → next_of (CallRules.Power f) (counted f.word w m 0) (type_of c single) (size_of c (type_of c single)) ≡ counted f.word (w + 1) (m + 1) 0
  unfolding type_of
  power-single w m h =
      let x : words f.word 4 ≡ 1 = words-one f.word 4 (omega arith) (omega arith) in
      next-counted f w m 0 (type_of c single) 4 ∙ rw (one-fpr m (words f.word 4) (min (words f.word 4) (8 - w)) h, x)

  power-ints : (n w m : ℕ) → LeadTo c (CallRules.Power f) hidden (counted f.word w m 0) → LeadTo c (CallRules.Power f) hidden (counted f.word (w + n) m 0)
  power-ints zero w m h = let e : w + 0 ≡ w = omega arith in rw e h
  power-ints (suc n) w m h =
      let e : w + suc n ≡ w + 1 + n = omega arith in
      rw e (power-ints n (w + 1) m (lead-more c (CallRules.Power f) hidden _ _ int (within-int c) (power-int w m) h))

  power-singles : (n w m : ℕ) → m + n ≤ 14 → LeadTo c (CallRules.Power f) hidden (counted f.word w m 0) → LeadTo c (CallRules.Power f) hidden (counted f.word (w + n) (m + n) 0)
  power-singles zero w m h d = let e : w + 0 ≡ w = omega arith in let g : m + 0 ≡ m = omega arith in rw (e, g) d
  power-singles (suc n) w m h d =
      let e : w + suc n ≡ w + 1 + n = omega arith in
      let g : m + suc n ≡ m + 1 + n = omega arith in
      rw (e, g) (power-singles n (w + 1) (m + 1) (omega arith) (lead-more c (CallRules.Power f) hidden _ _ single (within-single c) (power-single w m (omega arith)) d))

  power-start : (v : Bool) → start_of (CallRules.Power f) v ≡ counted f.word (flag v) 1 0
  power-start false = start-written f
  power-start true = hidden-written f (omega arith)

  power-led : (w m : ℕ) → m ≤ 13 → m + flag hidden ≤ w → LeadTo c (CallRules.Power f) hidden (counted f.word w (1 + m) 0)
  power-led w m few enough =
      let rest : flag hidden + m + (w - (flag hidden + m)) ≡ w = omega arith in
      subst (λ (x : ℕ). LeadTo c (CallRules.Power f) hidden (counted f.word x (1 + m) 0)) rest
      (power-ints (w - (flag hidden + m)) (flag hidden + m) (1 + m)
      (power-singles m (flag hidden) 1 (omega arith) (lead-start c (CallRules.Power f) hidden _ (power-start hidden))))

-- Z: registers while they are left, then eight bytes each
module _ (c : Convention) (hidden : Bool) where
  z-int : (g m s : ℕ) → g ≤ 6 → next_of CallRules.Z (cursor g m s 0) (type_of c int) (size_of c (type_of c int)) ≡ cursor (g + 1) m s 0
  unfolding next_of z_class z_next_of type_of
  z-int g m s h =
      let a : min 1 (7 - g) ≡ 1 = omega arith in
      let b : m + 2 * 0 ≡ m = omega arith in
      let d : s + 8 * (1 - (1 + 0)) ≡ s = omega arith in
      rw (a, b, d)

  z-single : (g m s : ℕ) → m ≤ 7 → next_of CallRules.Z (cursor g m s 0) (type_of c single) (size_of c (type_of c single)) ≡ cursor g (m + 2) s 0
  unfolding next_of z_class z_next_of type_of
  z-single g m s h =
      let a : min 1 (8 - m) ≡ 1 = omega arith in
      let b : g + 0 ≡ g = omega arith in
      let d : s + 8 * (1 - (0 + 1)) ≡ s = omega arith in
      rw (a, b, d)

  z-int-stack : (m s : ℕ) → next_of CallRules.Z (cursor 7 m s 0) (type_of c int) (size_of c (type_of c int)) ≡ cursor 7 m (s + 8) 0
  unfolding next_of z_class z_next_of type_of
  z-int-stack m s = let b : m + 2 * 0 ≡ m = omega arith in rw b

  z-single-stack : (g s : ℕ) → next_of CallRules.Z (cursor g 8 s 0) (type_of c single) (size_of c (type_of c single)) ≡ cursor g 8 (s + 8) 0
  unfolding next_of z_class z_next_of type_of
  z-single-stack g s = let b : g + 0 ≡ g = omega arith in rw b

  z-ints : (n g m s : ℕ) → g + n ≤ 7 → LeadTo c CallRules.Z hidden (cursor g m s 0) → LeadTo c CallRules.Z hidden (cursor (g + n) m s 0)
  z-ints zero g m s h d = let e : g + 0 ≡ g = omega arith in rw e d
  z-ints (suc n) g m s h d =
      let e : g + suc n ≡ g + 1 + n = omega arith in
      rw e (z-ints n (g + 1) m s (omega arith) (lead-more c CallRules.Z hidden _ _ int (within-int c) (z-int g m s (omega arith)) d))

  z-singles : (n g m s : ℕ) → m + 2 * n ≤ 8 → LeadTo c CallRules.Z hidden (cursor g m s 0) → LeadTo c CallRules.Z hidden (cursor g (m + 2 * n) s 0)
  z-singles zero g m s h d = let e : m + 2 * 0 ≡ m = omega arith in rw e d
  z-singles (suc n) g m s h d =
      let e : m + 2 * suc n ≡ m + 2 + 2 * n = omega arith in
      rw e (z-singles n g (m + 2) s (omega arith) (lead-more c CallRules.Z hidden _ _ single (within-single c) (z-single g m s (omega arith)) d))

  z-ints-stack : (n m s : ℕ) → LeadTo c CallRules.Z hidden (cursor 7 m s 0) → LeadTo c CallRules.Z hidden (cursor 7 m (s + 8 * n) 0)
  z-ints-stack zero m s d = let e : s + 8 * 0 ≡ s = omega arith in rw e d
  z-ints-stack (suc n) m s d =
      let e : s + 8 * suc n ≡ s + 8 + 8 * n = omega arith in
      rw e (z-ints-stack n m (s + 8) (lead-more c CallRules.Z hidden _ _ int (within-int c) (z-int-stack m s) d))

  z-singles-stack : (n g s : ℕ) → LeadTo c CallRules.Z hidden (cursor g 8 s 0) → LeadTo c CallRules.Z hidden (cursor g 8 (s + 8 * n) 0)
  z-singles-stack zero g s d = let e : s + 8 * 0 ≡ s = omega arith in rw e d
  z-singles-stack (suc n) g s d =
      let e : s + 8 * suc n ≡ s + 8 + 8 * n = omega arith in
      rw e (z-singles-stack n g (s + 8) (lead-more c CallRules.Z hidden _ _ single (within-single c) (z-single-stack g s) d))

  z-start : (v : Bool) → start_of CallRules.Z v ≡ cursor (2 + flag v) 0 0 0
  z-start false = z-start-written
  z-start true = z-hidden-written

  z-registers : (g m : ℕ) → 2 + flag hidden ≤ g → g ≤ 7 → m ≤ 8 → m % 2 ≡ 0 → LeadTo c CallRules.Z hidden (cursor g m 0 0)
  z-registers g m a b d e =
      let x : 2 + flag hidden + (g - (2 + flag hidden)) ≡ g = omega arith in
      let y : 0 + 2 * (m / 2) ≡ m = omega arith in
      let start = lead-start c CallRules.Z hidden _ (z-start hidden) in
      let ints : LeadTo c CallRules.Z hidden (cursor g 0 0 0) = subst (λ (z : ℕ). LeadTo c CallRules.Z hidden (cursor z 0 0 0)) x (z-ints (g - (2 + flag hidden)) (2 + flag hidden) 0 0 (omega arith) start) in
      subst (λ (z : ℕ). LeadTo c CallRules.Z hidden (cursor g z 0 0)) y (z-singles (m / 2) g 0 0 (omega arith) ints)

  z-led : (g m s : ℕ) → 2 + flag hidden ≤ g → g ≤ 7 → m ≤ 8 → m % 2 ≡ 0 → s % 8 ≡ 0 → (s ≤ 0) ⊎ ((7 ≤ g) ⊎ (8 ≤ m)) → LeadTo c CallRules.Z hidden (cursor g m s 0)
  z-led g m s a b d e q (inl x) = let z : s ≡ 0 = omega arith in rw z (z-registers g m a b d e)
  z-led g m s a b d e q (inr (inl x)) =
      let z : g ≡ 7 = omega arith in
      let n : 0 + 8 * (s / 8) ≡ s = omega arith in
      rw z (subst (λ (y : ℕ). LeadTo c CallRules.Z hidden (cursor 7 m y 0)) n (z-ints-stack (s / 8) m 0 (rw z at (z-registers g m a b d e))))
  z-led g m s a b d e q (inr (inr x)) =
      let z : m ≡ 8 = omega arith in
      let n : 0 + 8 * (s / 8) ≡ s = omega arith in
      rw z (subst (λ (y : ℕ). LeadTo c CallRules.Z hidden (cursor g 8 y 0)) n (z-singles-stack (s / 8) g 0 (rw z at (z-registers g m a b d e))))

pub possible-led : (c : Convention) (r : CallRules) (hidden : Bool) (k : Counters) → LawfulCalls r → Possible r hidden k → LeadTo c r hidden (cursor_at r k)
unfolding cursor_at
possible-led c (CallRules.Power f) hidden k l h = power-led c f hidden l k.general k.floating h.0 h.1
possible-led c CallRules.Z hidden k l h =
    let d = possible-reached CallRules.Z hidden k l h in
    z-led c hidden k.general k.floating (k.stack - 160) d.0 d.1 d.2 d.3 d.4 d.5
