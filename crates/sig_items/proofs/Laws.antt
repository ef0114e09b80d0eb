-- The readings' definitions, a law for each way through them: headers, sequences of items, structs, items; then what a
-- program's answer says of the reading. Assumes nothing.
use Rattle.sig_types.specs.Codes.{integer_code, float_code}
use Rattle.sig_types.specs.declared.IntegerKind.{IntegerKind}
use Rattle.sig_types.specs.declared.UnknownCode.{UnknownCode}
use Rattle.std.proofs.Common.{Ok, Err, Result}
use Prim.Native.Nat.{ℕ, zero, suc, ◌+◌, ◌-◌, ◌≤◌, ◌<◌}
use mathlib.Core.Path.{◌≡◌, refl, ap, ◌∙◌}
use mathlib.Core.Bool.{Bool, true, false}
use mathlib.Core.List.{List}
use lib.ListN.{get_or}
use lib.Dec.{ltb}
use native.Mathlib.Numerals.{sub-one}
use native.Mathlib.Omega.{arith}
use borrow.Author.Tests.{lt-ltb, le-ltb, eq-eqb, ne_eqb}
use Rattle.base_words.specs.Basics.{pick}
use Rattle.base_conventions.specs.declared.Convention.{Convention}
use Rattle.sig_types.specs.declared.FloatFormat.{FloatFormat}
use Rattle.sig_types.specs.declared.ValueType.{ValueType}
use Rattle.sig_types.specs.Structs.{shape_of, unless_too_large, closed}
use Rattle.sig_types.specs.Trees.{Tree, Trees, struct, none, ◌▸◌, type_of, fields_of}
use Rattle.sig_items.specs.declared.Item.{Item}
use Rattle.sig_items.specs.declared.Refusal.{Refusal}
use mathlib.Core.Logic.{◌⊎◌, inl, inr}
use Rattle.sig_items.specs.declared.Fault.{Fault}
use Rattle.sig_items.specs.Reading.{Reading, fault, got, no, later}
use Rattle.sig_items.specs.Read.{length_at, body_at, integer_by, integer_at, float_by, float_at, sequence, sized_at, contents_at, item_by, struct_at, item_at}
use Rattle.sig_items.specs.Answer.{item_answer, closed_answer, item_found}

-- a header

module _ (s : List ℕ) (low high e at : ℕ) where
  pub body-short : e < at + 3 → body_at s low high e at ≡ Err Refusal.Truncated
  unfolding body_at
  body-short h = simp (lt-ltb e (at + 3) h)

  module _ (room : at + 3 ≤ e) where
    pub body-low : get_or s at 0 < low → body_at s low high e at ≡ Err Refusal.UnexpectedTag
    unfolding body_at
    body-low h = simp (le-ltb e (at + 3) room, lt-ltb (get_or s at 0) low h)

    module _ (l : low ≤ get_or s at 0) where
      pub body-high : high < get_or s at 0 → body_at s low high e at ≡ Err Refusal.UnexpectedTag
      unfolding body_at
      body-high h = simp (le-ltb e (at + 3) room, le-ltb (get_or s at 0) low l, lt-ltb high (get_or s at 0) h)

      module _ (u : get_or s at 0 ≤ high) (n : ℕ) (length : n ≡ length_at s at) where
        pub body-past : e < at + 3 + n → body_at s low high e at ≡ Err Refusal.Truncated
        unfolding body_at
        body-past h = simp (le-ltb e (at + 3) room, le-ltb (get_or s at 0) low l, le-ltb high (get_or s at 0) u, ← length, lt-ltb e (at + 3 + n) h)

        pub body-to : at + 3 + n ≤ e → body_at s low high e at ≡ Ok (at + 3 + n)
        unfolding body_at
        body-to h = simp (le-ltb e (at + 3) room, le-ltb (get_or s at 0) low l, le-ltb high (get_or s at 0) u, ← length, le-ltb e (at + 3 + n) h)

  -- a tag on either side of those that are allowed
  pub body-outside : at + 3 ≤ e → (get_or s at 0 < low) ⊎ ((low ≤ get_or s at 0) × (high < get_or s at 0)) → body_at s low high e at ≡ Err Refusal.UnexpectedTag
  body-outside room (inl below) = body-low room below
  body-outside room (inr (l, above)) = body-high room l above

-- a fault after m headers and n more before them
pub later-later : (n m : ℕ) (f : Fault) → later (n + m) f ≡ later n (later m f)
later-later n m f = let same : n + m + f.passed ≡ n + (m + f.passed) = omega arith in ap (fault f.reason f.place) same

-- a sequence, of which some items are read: what the whole gives is what reading on from here gives

module _ (item : ℕ → Reading Tree) (e : ℕ) (whole : Reading Trees) where
  module _ (left next n : ℕ) (ts : Trees) (rest : whole ≡ sequence item e left next n ts) where
    pub sequence-done : e ≤ next → whole ≡ got ts next n
    unfolding sequence
    sequence-done h = rest ∙ go left
      where
        go : (k : ℕ) → sequence item e k next n ts ≡ got ts next n
        go zero = rw (le-ltb next e h)
        go (suc k) = rw (le-ltb next e h)

    module _ (h : next < e) where
      pub sequence-full : left ≡ 0 → whole ≡ no (fault Refusal.TooManyArguments next n)
      unfolding sequence
      sequence-full q = rest ∙ rw (q, lt-ltb next e h)

      pub sequence-more : 0 < left → (t : Tree) (after m : ℕ) → item next ≡ got t after m → whole ≡ sequence item e (left - 1) after (n + m) (ts ▸ t)
      unfolding sequence
      sequence-more some t after m q = rest ∙ go left some
        where
          go : (k : ℕ) → 0 < k → sequence item e k next n ts ≡ sequence item e (k - 1) after (n + m) (ts ▸ t)
          go zero z = absurd (omega arith)
          go (suc k) z = rw (sub-one, lt-ltb next e h, q)

      pub sequence-no : 0 < left → (f : Fault) → item next ≡ no f → whole ≡ no (later n f)
      unfolding sequence
      sequence-no some f q = rest ∙ go left some
        where
          go : (k : ℕ) → 0 < k → sequence item e k next n ts ≡ no (later n f)
          go zero z = absurd (omega arith)
          go (suc k) z = rw (lt-ltb next e h, q)

-- a struct

module _ (c : Convention) (d : ℕ) (s : List ℕ) (at b : ℕ) where
  pub struct-deep : d ≡ 0 → struct_at c d s at b ≡ no (fault Refusal.TooDeep at 0)
  unfolding struct_at
  struct-deep q = rw q

  -- the items in it
  abbrev pub contents : Reading Trees
  contents = sequence (item_at c (d - 1) s b) b (b - (at + 3)) (at + 3) 1 none

  module _ (some : 0 < d) where
    below : struct_at c d s at b ≡ contents_at c (item_at c (d - 1) s b) at b
    unfolding struct_at item_at
    below = go d some
      where
        go : (k : ℕ) → 0 < k → struct_at c k s at b ≡ contents_at c (item_at c (k - 1) s b) at b
        go zero z = absurd (omega arith)
        go (suc k) z = rw sub-one

    pub struct-empty : b ≡ at + 3 → struct_at c d s at b ≡ no (fault Refusal.Malformed at 0)
    unfolding contents_at
    struct-empty q = below ∙ rw (eq-eqb b (at + 3) q)

    module _ (more : at + 3 < b) where
      pub struct-refused : (f : Fault) → contents ≡ no f → struct_at c d s at b ≡ no f
      unfolding contents_at
      struct-refused f q = below ∙ rw (ne_eqb b (at + 3) (omega arith), q)

      pub struct-read : (ts : Trees) (next n : ℕ) → contents ≡ got ts next n → struct_at c d s at b ≡ sized_at c at b n ts
      unfolding contents_at
      struct-read ts next n q = below ∙ rw (ne_eqb b (at + 3) (omega arith), q)

-- an item

module _ (c : Convention) (d : ℕ) (s : List ℕ) (e at : ℕ) where
  pub item_refused : (r : Refusal) → body_at s 0x10 0x12 e at ≡ Err r → item_at c d s e at ≡ no (fault r at 0)
  unfolding item_at item_by
  item_refused r q = rw q

  module _ (b : ℕ) (body : body_at s 0x10 0x12 e at ≡ Ok b) where
    pub item-integer : get_or s at 0 ≡ 0x10 → item_at c d s e at ≡ integer_at s at b
    unfolding item_at item_by
    item-integer q = rw (body, eq-eqb (get_or s at 0) 0x10 q)

    pub item-float : get_or s at 0 ≡ 0x11 → item_at c d s e at ≡ float_at c s (ltb d 8) at b
    unfolding item_at item_by
    item-float q = rw (body, ne_eqb (get_or s at 0) 0x10 (omega arith), eq-eqb (get_or s at 0) 0x11 q)

    pub item-struct : (get_or s at 0 ≡ 0x10 → ⊥) → (get_or s at 0 ≡ 0x11 → ⊥) → item_at c d s e at ≡ struct_at c d s at b
    unfolding item_at item_by
    item-struct q r = rw (body, ne_eqb (get_or s at 0) 0x10 q, ne_eqb (get_or s at 0) 0x11 r)

-- the bodies of one byte, by their code

module _ (c : Convention) (s : List ℕ) (at b : ℕ) where
  pub integer-length : (b ≡ at + 4 → ⊥) → item_answer c (integer_at s at b) ≡ Err (fault Refusal.Malformed at 0)
  unfolding integer_at
  integer-length h = rw (ne_eqb b (at + 4) h)

  pub integer-by : b ≡ at + 4 → (x : Result IntegerKind UnknownCode) → x ≡ integer_code (get_or s (at + 3) 0) → item_answer c (integer_at s at b) ≡ item_answer c (integer_by x at b)
  unfolding integer_at
  integer-by h x q = rw (eq-eqb b (at + 4) h, ← q)

  module _ (inside : Bool) where
    pub float-length : (b ≡ at + 4 → ⊥) → item_answer c (float_at c s inside at b) ≡ Err (fault Refusal.Malformed at 0)
    unfolding float_at
    float-length h = rw (ne_eqb b (at + 4) h)

    pub float-by : b ≡ at + 4 → (x : Result FloatFormat UnknownCode) → x ≡ float_code (get_or s (at + 3) 0) → item_answer c (float_at c s inside at b) ≡ item_answer c (float_by c x inside at b)
    unfolding float_at
    float-by h x q = rw (eq-eqb b (at + 4) h, ← q)

    pub long-double-by : b ≡ at + 4 → Ok FloatFormat.LongDouble ≡ float_code (get_or s (at + 3) 0) → (i : Bool) → inside ≡ i →
        item_answer c (float_at c s inside at b) ≡ item_answer c (float_by c (Ok FloatFormat.LongDouble) i at b)
    long-double-by h q i r = float-by h (Ok FloatFormat.LongDouble) q ∙ rw r

-- what a program's answer says of the reading

module _ (c : Convention) where
  pub item-got : (x : Reading Tree) (t : ValueType) (next n : ℕ) → item_found t next n ≡ item_answer c x →
      (tree : Tree) × (x ≡ got tree next n) × (t ≡ type_of c tree)
  item-got (got tree a m) t next n q =
      let same : ◌≡◌ {A = Item} (record { ty = t; next = next; items = n }) (record { ty = type_of c tree; next = a; items = m }) = cc in
      let place = ap (λ (i : Item). i.next) same in
      let count = ap (λ (i : Item). i.items) same in
      (tree, cc, ap (λ (i : Item). i.ty) same)
  item-got (no f) t next n q = let z : ◌≡◌ {A = ℕ} 0 1 = cc in absurd (omega arith)

  pub item-no : (x : Reading Tree) (f : Fault) → Err f ≡ item_answer c x → x ≡ no f
  item-no (got tree a m) f q = let z : ◌≡◌ {A = ℕ} 0 1 = cc in absurd (omega arith)
  item-no (no g) f q = cc

  pub sized-answer : (at b n : ℕ) (ts : Trees) → item_answer c (sized_at c at b n ts) ≡ closed_answer at b n (closed (fields_of c ts))
  unfolding sized_at closed type_of
  sized-answer at b n ts = go (ltb 256 (shape_of (fields_of c ts)).size)
    where
      go : (large : Bool) →
          item_answer c (pick large (no (fault Refusal.StructTooLarge at (n - 1))) (got (struct ts) b n)) ≡ closed_answer at b n (unless_too_large large (shape_of (fields_of c ts)))
      go true = refl
      go false = refl
