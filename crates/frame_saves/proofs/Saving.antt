-- The laws of several saved runs: ascending runs need one comparison each to be apart, and what is saved is then held.
-- Assumes nothing.
use Prim.Native.Nat.{ℕ, ◌+◌, ◌*◌, ◌^◌, ◌<◌, ◌≤◌}
use mathlib.Core.Path.{◌≡◌, refl, sym, ◌∙◌}
use mathlib.Core.Logic.{inl, inr, ⊎_elim}
use mathlib.Core.List.{List, [], ◌∷◌}
use native.Mathlib.Omega.{arith}
use lib.ListN.{length, get_or}
use Rattle.base_words.specs.Basics.{All}
use Rattle.base_words.proofs.Basics.{word_in}
use Rattle.frame_saves.specs.Saves.{load, Save, end_of, saved, save_all, Outside}
use Rattle.frame_saves.proofs.Words.{load-agree}
use Rattle.frame_saves.proofs.Runs.{save-length, save-below, save-above, load-save}

-- the runs lie between lo and hi, ascending
abbrev pub Ascending : ℕ → List Save → ℕ → Type 0
Ascending lo [] hi = lo ≤ hi
Ascending lo (v ∷ vs) hi = (lo ≤ v.at) × Ascending (end_of v) vs hi

-- the memory holds what was saved
abbrev pub Held : List ℕ → Save → Type 0
Held l v = (j : ℕ) → j < v.count → load l (v.at + v.width * j) v.width ≡ get_or v.values (v.from + j) 0

-- each register saved fits its word
abbrev pub Fitting : Save → Type 0
Fitting v = (i : ℕ) → get_or v.values i 0 < 2 ^ (8 * v.width)

-- two memories of one length agree from a up to b
pub record Agree (l l' : List ℕ) (a b : ℕ) : Type 0 where
  pub lengths : length l ≡ length l'
  pub bytes : (k : ℕ) → a ≤ k → k < b → get_or l k 0 ≡ get_or l' k 0

pub narrow : {l l' : List ℕ} {a b : ℕ} → Agree l l' a b → (c d : ℕ) → a ≤ c → d ≤ b → Agree l l' c d
narrow g c d p q = record { lengths = g.lengths; bytes = λ k s t. g.bytes k (omega arith) (omega arith) }

-- ---- lengths and shape

pub all-length : (vs : List Save) (l : List ℕ) → length (save_all l vs) ≡ length l
all-length [] l = refl
all-length (v ∷ vs) l = all-length vs (saved l v) ∙ save-length v.count l v.values v.at v.width v.from

pub ascending-le : (vs : List Save) (lo hi : ℕ) → Ascending lo vs hi → lo ≤ hi
ascending-le [] lo hi a = a
ascending-le (v ∷ vs) lo hi a = omega (arith, ascending-le vs (end_of v) hi a.1)

pub outside_below : (vs : List Save) (lo hi b : ℕ) → Ascending lo vs hi → b < lo → Outside b vs
outside_below [] lo hi b a h = tt
outside_below (v ∷ vs) lo hi b a h = (inl (omega arith), outside_below vs (end_of v) hi b a.1 (omega arith))

pub outside_above : (vs : List Save) (lo hi b : ℕ) → Ascending lo vs hi → hi ≤ b → Outside b vs
outside_above [] lo hi b a h = tt
outside_above (v ∷ vs) lo hi b a h = (inr (omega (arith, ascending-le vs (end_of v) hi a.1)), outside_above vs (end_of v) hi b a.1 h)

-- ---- other places

pub all-outside : (vs : List Save) (l : List ℕ) (b : ℕ) → Outside b vs → get_or (save_all l vs) b 0 ≡ get_or l b 0
all-outside [] l b o = refl
all-outside (v ∷ vs) l b o =
    all-outside vs (saved l v) b o.1
    ∙ ⊎_elim (λ h. save-below v.count l v.values v.at v.width v.from b h) (λ h. save-above v.count l v.values v.at v.width v.from b h) o.0

-- ---- the same place

pub held-agree : (v : Save) (l l' : List ℕ) → Agree l l' v.at (end_of v) → Held l v → Held l' v
held-agree v l l' a h j p =
    sym (load-agree l l' (v.at + v.width * j) v.width a.lengths (λ k s t. a.bytes k (omega arith) (omega (arith, word_in v.width v.count j p)))) ∙ h j p

pub all-agree : (vs : List Save) (lo hi : ℕ) (l l' : List ℕ) → Ascending lo vs hi → Agree l l' lo hi → All (Held l) vs → All (Held l') vs
unfolding All
all-agree [] lo hi l l' a g h = tt
all-agree (v ∷ vs) lo hi l l' a g h =
    let top = ascending-le vs (end_of v) hi a.1 in
    (held-agree v l l' (narrow g v.at (end_of v) a.0 top) h.0, all-agree vs (end_of v) hi l l' a.1 (narrow g (end_of v) hi (omega arith) (omega arith)) h.1)

pub all_held : (vs : List Save) (lo hi : ℕ) (l : List ℕ) → Ascending lo vs hi → hi ≤ length l → All Fitting vs → All (Held (save_all l vs)) vs
unfolding All
all_held [] lo hi l a r f = tt
all_held (v ∷ vs) lo hi l a r f =
    let l₁ = saved l v in
    let top = ascending-le vs (end_of v) hi a.1 in (
      held-agree v l₁ (save_all l₁ vs)
          (record { lengths = sym (all-length vs l₁); bytes = λ k s t. sym (all-outside vs l₁ k (outside_below vs (end_of v) hi k a.1 t)) })
          (load-save v.count l v.values v.at v.width v.from f.0 (omega arith)),
      all_held vs (end_of v) hi l₁ a.1 (rw (save-length v.count l v.values v.at v.width v.from) r) f.1,
    )
