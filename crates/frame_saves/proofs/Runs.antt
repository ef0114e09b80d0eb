-- The laws of a run of registers in memory: lengths, the same place, other places, and a turn of a loop over the run.
-- Assumes nothing.
use Prim.Native.Nat.{ℕ, zero, suc, ◌+◌, ◌-◌, ◌*◌, ◌^◌, ◌<◌, ◌≤◌}
use mathlib.Core.Path.{◌≡◌, refl, ◌∙◌}
use mathlib.Core.List.{List}
use native.Mathlib.Omega.{arith}
use native.Mathlib.Nat.{mul-suc}
use lib.ListN.{length, set, get_or, length-set}
use lib.Seq.{get_or-set_same, get_or-set_other}
use Rattle.frame_saves.specs.Saves.{store, load, save_run, load_run}
use Rattle.frame_saves.proofs.Words.{store_length, store_below, store-above, load-agree, load_store}

-- ---- saving

pub save-length : (c : ℕ) (l xs : List ℕ) (at w n : ℕ) → length (save_run l xs at w n c) ≡ length l
unfolding save_run
save-length zero l xs at w n = refl
save-length (suc c) l xs at w n = save-length c (store l at w (get_or xs n 0)) xs (at + w) w (n + 1) ∙ store_length l at w (get_or xs n 0)

pub save-below : (c : ℕ) (l xs : List ℕ) (at w n b : ℕ) → b < at → get_or (save_run l xs at w n c) b 0 ≡ get_or l b 0
unfolding save_run
save-below zero l xs at w n b h = refl
save-below (suc c) l xs at w n b h =
    save-below c (store l at w (get_or xs n 0)) xs (at + w) w (n + 1) b (omega arith) ∙ store_below l at w (get_or xs n 0) b h

pub save-above : (c : ℕ) (l xs : List ℕ) (at w n b : ℕ) → at + w * c ≤ b → get_or (save_run l xs at w n c) b 0 ≡ get_or l b 0
unfolding save_run
save-above zero l xs at w n b h = refl
save-above (suc c) l xs at w n b h =
    save-above c (store l at w (get_or xs n 0)) xs (at + w) w (n + 1) b (omega (arith, mul-suc w c))
    ∙ store-above l at w (get_or xs n 0) b (omega (arith, mul-suc w c))

-- each register saved is loaded from its word
pub load-save : (c : ℕ) (l xs : List ℕ) (at w n : ℕ) → ((i : ℕ) → get_or xs i 0 < 2 ^ (8 * w)) → at + w * c ≤ length l
    → (j : ℕ) → j < c → load (save_run l xs at w n c) (at + w * j) w ≡ get_or xs (n + j) 0
unfolding save_run
load-save zero l xs at w n v r j h = absurd (omega arith)
load-save (suc c) l xs at w n v r zero h =
    let l₁ = store l at w (get_or xs n 0) in
    let e : at + w * 0 ≡ at = omega arith in
    let f : n + 0 ≡ n = omega arith in
    rw (e, f) (load-agree (save_run l₁ xs (at + w) w (n + 1) c) l₁ at w (save-length c l₁ xs (at + w) w (n + 1)) (λ b p q. save-below c l₁ xs (at + w) w (n + 1) b q)
    ∙ load_store l at w (get_or xs n 0) (v n) (omega (arith, mul-suc w c)))
load-save (suc c) l xs at w n v r (suc j) h =
    let l₁ = store l at w (get_or xs n 0) in
    let e : at + w * suc j ≡ at + w + w * j = omega (arith, mul-suc w j) in
    let f : n + suc j ≡ n + 1 + j = omega arith in
    rw (e, f) (load-save c l₁ xs (at + w) w (n + 1) v (rw (store_length l at w (get_or xs n 0)) (omega (arith, mul-suc w c))) j (omega arith))

-- ---- loading

pub load-length : (c : ℕ) (xs l : List ℕ) (at w n : ℕ) → length (load_run xs l at w n c) ≡ length xs
unfolding load_run
load-length zero xs l at w n = refl
load-length (suc c) xs l at w n = load-length c (set xs n (load l at w)) l (at + w) w (n + 1) ∙ length-set xs n (load l at w)

-- registers below and above the run stay
pub load-under : (c : ℕ) (xs l : List ℕ) (at w n i : ℕ) → i < n → get_or (load_run xs l at w n c) i 0 ≡ get_or xs i 0
unfolding load_run
load-under zero xs l at w n i h = refl
load-under (suc c) xs l at w n i h =
    load-under c (set xs n (load l at w)) l (at + w) w (n + 1) i (omega arith) ∙ get_or-set_other xs n i (load l at w) 0 (λ e. omega arith)

pub load-over : (c : ℕ) (xs l : List ℕ) (at w n i : ℕ) → n + c ≤ i → get_or (load_run xs l at w n c) i 0 ≡ get_or xs i 0
unfolding load_run
load-over zero xs l at w n i h = refl
load-over (suc c) xs l at w n i h =
    load-over c (set xs n (load l at w)) l (at + w) w (n + 1) i (omega arith) ∙ get_or-set_other xs n i (load l at w) 0 (λ e. omega arith)

-- a register of the run is what its word holds
pub load-in : (c : ℕ) (xs l : List ℕ) (at w n : ℕ) → n + c ≤ length xs → (j : ℕ) → j < c → get_or (load_run xs l at w n c) (n + j) 0 ≡ load l (at + w * j) w
unfolding load_run
load-in zero xs l at w n r j h = absurd (omega arith)
load-in (suc c) xs l at w n r zero h =
    let e : at + w * 0 ≡ at = omega arith in
    let f : n + 0 ≡ n = omega arith in
    rw (e, f) (load-under c (set xs n (load l at w)) l (at + w) w (n + 1) n (omega arith) ∙ get_or-set_same xs n (load l at w) 0 (omega arith))
load-in (suc c) xs l at w n r (suc j) h =
    let e : at + w * suc j ≡ at + w + w * j = omega (arith, mul-suc w j) in
    let f : n + suc j ≡ n + 1 + j = omega arith in
    rw (e, f) (load-in c (set xs n (load l at w)) l (at + w) w (n + 1) (rw length-set (omega arith)) j (omega arith))

-- ---- a turn of a loop, and its end

pub save-turn : (c : ℕ) (l xs : List ℕ) (at w n : ℕ) → 0 < c
    → save_run (store l at w (get_or xs n 0)) xs (at + w) w (n + 1) (c - 1) ≡ save_run l xs at w n c
unfolding save_run
save-turn zero l xs at w n h = absurd (omega arith)
save-turn (suc c) l xs at w n h = let e : suc c - 1 ≡ c = omega arith in rw e

pub load-turn : (c : ℕ) (xs l : List ℕ) (at w n : ℕ) → 0 < c
    → load_run (set xs n (load l at w)) l (at + w) w (n + 1) (c - 1) ≡ load_run xs l at w n c
unfolding load_run
load-turn zero xs l at w n h = absurd (omega arith)
load-turn (suc c) xs l at w n h = let e : suc c - 1 ≡ c = omega arith in rw e

pub save-none : (c : ℕ) (l xs : List ℕ) (at w n : ℕ) → c ≤ 0 → l ≡ save_run l xs at w n c
unfolding save_run
save-none zero l xs at w n h = refl
save-none (suc c) l xs at w n h = absurd (omega arith)

pub load-none : (c : ℕ) (xs l : List ℕ) (at w n : ℕ) → c ≤ 0 → xs ≡ load_run xs l at w n c
unfolding load_run
load-none zero xs l at w n h = refl
load-none (suc c) xs l at w n h = absurd (omega arith)
