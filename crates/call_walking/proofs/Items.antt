-- What was read, of the words and of the item, tells the whole call. Assumes nothing.
use Rattle.sig_items.proofs.Laws.{item-got}
use Rattle.sig_items.specs.declared.Item.{Item}
use Rattle.base_conventions.specs.declared.UnknownConvention.{UnknownConvention}
use Rattle.std.proofs.Common.{Ok, Err, Result}
use mathlib.Core.Path.{◌≡◌, refl, sym, ap, ◌∙◌, subst}
use mathlib.Core.Bool.{Bool, true, false, ◌&&◌}
use mathlib.Core.List.{List}
use Prim.Native.Nat.{ℕ, ◌≤◌, ◌<◌}
use native.Mathlib.Omega.{arith}
use borrow.Author.Tests.{lt-ltb, le-ltb}
use lib.Dec.{ltb, leb}
use lib.ListN.{length, get_or}
use Rattle.base_words.specs.Basics.{pick}
use Rattle.base_conventions.specs.declared.Convention.{Convention}
use Rattle.base_conventions.specs.Numbers.{convention_code}
use Rattle.sig_types.specs.declared.ValueType.{ValueType}
use Rattle.sig_types.specs.Sizes.{Sized, max_depth}
use Rattle.sig_types.specs.Trees.{Tree, type_of}
use Rattle.sig_items.specs.declared.Fault.{Fault}
use Rattle.sig_items.specs.declared.Refusal.{Refusal}
use Rattle.sig_items.specs.Reading.{Reading, fault, got, no, choose, and_then}
use Rattle.sig_items.specs.Read.{item_at}
use Rattle.sig_items.specs.Answer.{item_answer, item_found}
use Rattle.sig_items.proofs.Sound.{item-taken}
use Rattle.sig_signatures.specs.declared.SignatureRead.{SignatureRead}
use Rattle.sig_signatures.specs.Signature.{Signature}
use Rattle.sig_signatures.specs.Answer.{signature_answer}
use Rattle.sig_signatures.specs.Limits.{max_length}
use Rattle.plan_places.specs.Step.{rules_of}
use Rattle.plan_plans.specs.Plan.{hidden_in, start_in}
use Rattle.call_slots.specs.Buffers.{Buffers}
use Rattle.call_walker.specs.declared.WalkerAnswer.{WalkerAnswer}
use Rattle.call_walker.specs.declared.Walker.{Walker}
use Rattle.call_walker.specs.declared.WalkerRead.{WalkerRead}
use Rattle.call_walker.specs.Walker.{counters_of, walker, walker_of, lost}
use Rattle.call_walker.specs.Step.{type_item}
use Rattle.call_walker.specs.Words.{unlost, walker_by, walker_in, walker_words, walk_start_answer, walker_start_words, walker_outcome, step_for, walk_by_item, walk_by, walker_step}
use Rattle.call_walking.specs.Helpers.{Declared}
use Rattle.call_slots.specs.Answer.{call_done, call_unread}

-- ---- the item

-- what is told of an item that was read, in bytes of this length
abbrev whole_item : List ℕ → Reading Tree → Reading Tree
whole_item s x = and_then x (λ t next n. pick (ltb next (length s)) (no (fault Refusal.Malformed next n)) (got t next n))

module _ (c : Convention) (s : List ℕ) where
  pub item-long : max_length < length s → Err (fault Refusal.TooLong 0 0) ≡ item_answer c (type_item c s)
  unfolding type_item
  item-long h = rw (lt-ltb max_length (length s) h)

  item-short : length s ≤ max_length → type_item c s ≡ whole_item s (item_at c max_depth s (length s) 0)
  unfolding type_item
  item-short h = rw (le-ltb max_length (length s) h)

  pub item_refused : length s ≤ max_length → (f : Fault) → Err f ≡ item_answer c (item_at c max_depth s (length s) 0) → Err f ≡ item_answer c (type_item c s)
  item_refused h f e = rw (item-short h) (go (item_at c max_depth s (length s) 0) e)
    where
      go : (x : Reading Tree) → Err f ≡ item_answer c x → Err f ≡ item_answer c (whole_item s x)
      go (got t next n) q = let z : ◌≡◌ {A = ℕ} 0 1 = cc in absurd (omega arith)
      go (no g) q = q

  module _ (t : ValueType) (next n : ℕ) where
    told : (x : Reading Tree) → item_found t next n ≡ item_answer c x → item_answer c (whole_item s x) ≡ item_answer c (pick (ltb next (length s)) (no (fault Refusal.Malformed next n)) x)
    told (got u m k) q =
        let (v, same, ty) = item-got c (got u m k) t next n q in
        let p : m ≡ next = cc in
        let r : k ≡ n = cc in
        rw (p, r)
    told (no g) q = let z : ◌≡◌ {A = ℕ} 0 1 = cc in absurd (omega arith)

    abbrev at : Bool → Result Item Fault
    at b = item_answer c (pick b (no (fault Refusal.Malformed next n)) (item_at c max_depth s (length s) 0))

    pub item-after : length s ≤ max_length → item_found t next n ≡ item_answer c (item_at c max_depth s (length s) 0) → next < length s
        → Err (fault Refusal.Malformed next n) ≡ item_answer c (type_item c s)
    item-after h e l = sym (ap (item_answer c) (item-short h) ∙ told (item_at c max_depth s (length s) 0) e ∙ ap at (lt-ltb next (length s) l))

    pub item-whole : length s ≤ max_length → item_found t next n ≡ item_answer c (item_at c max_depth s (length s) 0) → length s ≤ next
        → item_found t next n ≡ item_answer c (type_item c s)
    item-whole h e l = sym (ap (item_answer c) (item-short h) ∙ told (item_at c max_depth s (length s) 0) e ∙ ap at (le-ltb next (length s) l) ∙ sym e)

    -- its type is one that a signature may have
    pub item-declared : item_found t next n ≡ item_answer c (type_item c s) → Declared c t
    unfolding type_item
    item-declared e = long (ltb max_length (length s)) e
      where
        last : (b : Bool) (u : Tree) (m k : ℕ) → item_at c max_depth s (length s) 0 ≡ got u m k
            → item_found t next n ≡ item_answer c (pick b (no (fault Refusal.Malformed m k)) (got u m k)) → Declared c t
        last true u m k p q = let z : ◌≡◌ {A = ℕ} 0 1 = cc in absurd (omega arith)
        last false u m k p q =
            let (v, is, ty) = item-got c (got u m k) t next n q in
            let same : type_of c u ≡ t = cc in
            record { tree = u; same = same; sized = subst (Sized c) same (item-taken c max_depth s (length s) 0 u m k (omega arith) p).sized }

        short : (x : Reading Tree) → item_at c max_depth s (length s) 0 ≡ x → item_found t next n ≡ item_answer c (whole_item s x) → Declared c t
        short (got u m k) p q = last (ltb m (length s)) u m k p q
        short (no g) p q = let z : ◌≡◌ {A = ℕ} 0 1 = cc in absurd (omega arith)

        long : (b : Bool) → item_found t next n ≡ item_answer c (choose b (λ _. no (fault Refusal.TooLong 0 0)) (λ _. whole_item s (item_at c max_depth s (length s) 0))) → Declared c t
        long true q = let z : ◌≡◌ {A = ℕ} 0 1 = cc in absurd (omega arith)
        long false q = short (item_at c max_depth s (length s) 0) refl q

-- ---- the words

-- a walker that was read is not lost
pub found : (ws : List ℕ) (w : Walker) → WalkerRead.Walker w ≡ walker_in ws → lost w ≡ false
unfolding walker_in
found ws w e = code (convention_code (get_or ws 0 0)) e
  where
    is : (u : Walker) (b : Bool) → lost u ≡ b → WalkerRead.Walker w ≡ pick b WalkerRead.Lost (WalkerRead.Walker u) → lost w ≡ false
    is u true p q = let z : ◌≡◌ {A = ℕ} 0 1 = cc in absurd (omega arith)
    is u false p q = let same : u ≡ w = cc in subst (λ (x : Walker). lost x ≡ false) same p

    marks : (b : Bool) (u : Walker) → WalkerRead.Walker w ≡ pick b (unlost u) WalkerRead.Lost → lost w ≡ false
    marks true u q = is u (lost u) refl q
    marks false u q = let z : ◌≡◌ {A = ℕ} 0 1 = cc in absurd (omega arith)

    code : (k : Result Convention UnknownConvention) → WalkerRead.Walker w ≡ walker_by k ws → lost w ≡ false
    code (Ok c) q = marks (leb (get_or ws 1 0) 1 && leb (get_or ws 2 0) 1) _ q
    code (Err _) q = let z : ◌≡◌ {A = ℕ} 0 1 = cc in absurd (omega arith)

module _ (ws s : List ℕ) (base : ℕ) (b : Buffers) (v : List ℕ) where
  pub walk-lost : WalkerRead.Lost ≡ walker_in ws → walker_outcome WalkerAnswer.Lost ws v ≡ walker_step ws s base b v
  unfolding walker_step
  walk-lost e = ap (λ (x : WalkerRead). walk_by x ws s base b v) e

  module _ (w : Walker) (e : WalkerRead.Walker w ≡ walker_in ws) where
    walk_at : walk_by_item (type_item w.convention s) ws w base b v ≡ walker_step ws s base b v
    unfolding walker_step
    walk_at = ap (λ (x : WalkerRead). walk_by x ws s base b v) e

    pub walk_refused : (f : Fault) → Err f ≡ item_answer w.convention (type_item w.convention s)
        → walker_outcome (WalkerAnswer.Called (call_unread f)) ws v ≡ walker_step ws s base b v
    walk_refused f q = go (type_item w.convention s) q ∙ walk_at
      where
        go : (x : Reading Tree) → Err f ≡ item_answer w.convention x → walker_outcome (WalkerAnswer.Called (call_unread f)) ws v ≡ walk_by_item x ws w base b v
        go (got t next n) p = let z : ◌≡◌ {A = ℕ} 0 1 = cc in absurd (omega arith)
        go (no g) p = let same : f ≡ g = cc in rw same

    pub walk-item : (t : ValueType) (next n : ℕ) → item_found t next n ≡ item_answer w.convention (type_item w.convention s)
        → step_for ws w t base b v ≡ walker_step ws s base b v
    walk-item t next n q = go (type_item w.convention s) q ∙ walk_at
      where
        go : (x : Reading Tree) → item_found t next n ≡ item_answer w.convention x → step_for ws w t base b v ≡ walk_by_item x ws w base b v
        go (got u m k) p =
            let (v, is, ty) = item-got w.convention (got u m k) t next n p in
            let same : t ≡ type_of w.convention u = cc in
            rw same
        go (no g) p = let z : ◌≡◌ {A = ℕ} 0 1 = cc in absurd (omega arith)

-- ---- the start

-- the walker of what the reader answers
abbrev pub walker_read : SignatureRead → Walker
walker_read g = walker g.convention g.ellipsis (hidden_in g.convention g.result) (counters_of (rules_of g.convention) (start_in g.convention g.result))

read-walker : (g : Signature) (next n : ℕ) → walker_read (signature_answer (got g next n)) ≡ walker_of g
unfolding walker_of
read-walker g next n = refl

module _ (x : Reading Signature) (g : SignatureRead) (ws : List ℕ) where
  pub start-refused : g ≡ signature_answer x → (f : Fault) → g.outcome ≡ Err f → (WalkerAnswer.Called (call_unread f) ≡ walk_start_answer x) × (ws ≡ walker_start_words x ws)
  start-refused e f q = go x (sym (ap (λ (y : SignatureRead). y.outcome) e) ∙ q)
    where
      go : (y : Reading Signature) → (signature_answer y).outcome ≡ Err f → (WalkerAnswer.Called (call_unread f) ≡ walk_start_answer y) × (ws ≡ walker_start_words y ws)
      go (got h next n) p = let z : ◌≡◌ {A = ℕ} 0 1 = cc in absurd (omega arith)
      go (no k) p = let same : f ≡ k = cc in (rw same, refl)

  pub start-accepted : g ≡ signature_answer x → (n : ℕ) → g.outcome ≡ Ok n → (w : Walker) → w ≡ walker_read g
      → (WalkerAnswer.Called call_done ≡ walk_start_answer x) × (walker_words w ≡ walker_start_words x ws)
  start-accepted e n q w r = go x (sym (ap (λ (y : SignatureRead). y.outcome) e) ∙ q) (r ∙ ap walker_read e)
    where
      go : (y : Reading Signature) → (signature_answer y).outcome ≡ Ok n → w ≡ walker_read (signature_answer y)
          → (WalkerAnswer.Called call_done ≡ walk_start_answer y) × (walker_words w ≡ walker_start_words y ws)
      go (got h next m) p o = (refl, ap walker_words (o ∙ read-walker h next m))
      go (no k) p o = let z : ◌≡◌ {A = ℕ} 0 1 = cc in absurd (omega arith)
