-- The signature's definitions, a law for each way through them: the convention, the result, the ellipsis, the arguments, the whole.
-- Assumes nothing.
use Rattle.sig_signatures.specs.declared.Head.{Head}
use Rattle.sig_signatures.specs.declared.EllipsisItem.{EllipsisItem}
use Rattle.sig_signatures.specs.declared.ResultItem.{ResultItem}
use Rattle.sig_items.specs.declared.Item.{Item}
use Rattle.base_conventions.specs.declared.UnknownConvention.{UnknownConvention}
use Rattle.std.proofs.Common.{Ok, Err, Some, Result, Option}
use Prim.Native.Nat.{ℕ, ◌+◌, ◌≤◌, ◌<◌}
use mathlib.Core.Path.{◌≡◌, refl, sym, ap, ◌∙◌}
use mathlib.Core.Bool.{Bool, true, false}
use mathlib.Core.List.{List}
use lib.ListN.{length, get_or, get_or-eq_default}
use lib.Dec.{ltb, eqb}
use native.Mathlib.Omega.{arith}
use borrow.Author.Tests.{lt-ltb, le-ltb, eq-eqb, ne_eqb}
use Rattle.base_words.specs.Basics.{pick}
use Rattle.base_words.proofs.Tests.{by-pick}
use Rattle.base_conventions.specs.declared.Convention.{Convention}
use Rattle.sig_types.specs.declared.ValueType.{ValueType}
use Rattle.sig_types.specs.Trees.{Trees}
use Rattle.sig_items.specs.declared.Refusal.{Refusal}
use Rattle.sig_items.specs.declared.Fault.{Fault}
use Rattle.sig_items.specs.Reading.{Reading, fault, got, no, later, later_reading, choose, and_then, in_body}
use Rattle.sig_items.specs.Read.{body_at, item_at}
use Rattle.sig_items.specs.Answer.{item_answer, item_found}
use Rattle.sig_items.proofs.Laws.{item-got, item-no}
use Rattle.base_conventions.specs.Numbers.{convention_code}
use Rattle.sig_types.specs.Sizes.{max_depth}
use Rattle.sig_signatures.specs.Signature.{ResultTree, nothing, Signature, HeadTree}
use Rattle.sig_signatures.specs.Limits.{max_length}
use Rattle.sig_signatures.specs.Read.{convention_by, convention_at, result_in, result_at, ellipsis_at, arguments_in, arguments_at, after_ellipsis, after_result, after_convention, signature_of, head_by, head_then, head_after, head_of}
use Rattle.sig_signatures.specs.Answer.{convention_answer, result_type, result_answer, ellipsis_answer, head_answer, refused_signature, accepted, signature_answer, result_found, ellipsis_found, head_found}
use Rattle.sig_signatures.specs.Helpers.{with_arguments, body_answer}

-- the convention

module _ (s : List ℕ) where
  pub convention-no : (r : Refusal) → body_at s 0x01 0x01 (length s) 0 ≡ Err r → convention_at s ≡ no (fault r 0 0)
  unfolding convention_at
  convention-no r q = rw q

  module _ (b : ℕ) (body : body_at s 0x01 0x01 (length s) 0 ≡ Ok b) where
    pub convention-length : (b ≡ 4 → ⊥) → convention_at s ≡ no (fault Refusal.Malformed 0 0)
    unfolding convention_at
    convention-length h = rw (body, ne_eqb b 4 h)

    pub convention-by : b ≡ 4 → (x : Result Convention UnknownConvention) → x ≡ convention_code (get_or s 3 0) → convention_at s ≡ convention_by x
    unfolding convention_at
    convention-by h x q = rw (body, eq-eqb b 4 h, ← q)

-- a convention ends at 4 and is one item

abbrev First : Reading Convention → Type 0
First (got c next n) = (next ≡ 4) × (n ≡ 1)
First (no f) = Unit {0}

convention-first : (s : List ℕ) → First (convention_at s)
unfolding convention_at
convention-first s = go (body_at s 0x01 0x01 (length s) 0)
  where
    code : (x : Result Convention UnknownConvention) → First (convention_by x)
    code (Ok c) = (refl, refl)
    code (Err _) = tt

    go : (x : Result ℕ Refusal) → First (in_body x 0 (λ b. pick (eqb b 4) (convention_by (convention_code (get_or s 3 0))) (no (fault Refusal.Malformed 0 0))))
    go (Ok b) = by-pick First (eqb b 4) _ _ (λ _. code (convention_code (get_or s 3 0))) (λ _. tt)
    go (Err r) = tt

-- so the program's answer says what was read
first-known : (x : Reading Convention) (c : Convention) → First x → Ok c ≡ convention_answer x → x ≡ got c 4 1
first-known (got k next n) c f q = cc (f.0, f.1)
first-known (no r) c f q = let z : ◌≡◌ {A = ℕ} 0 1 = cc in absurd (omega arith)

convention-refused : (x : Reading Convention) (f : Fault) → Err f ≡ convention_answer x → x ≡ no f
convention-refused (got k next n) f q = let z : ◌≡◌ {A = ℕ} 0 1 = cc in absurd (omega arith)
convention-refused (no x) f q = cc

pub convention-known : (s : List ℕ) (x : Result Convention Fault) (c : Convention) → x ≡ convention_answer (convention_at s) → x ≡ Ok c → convention_at s ≡ got c 4 1
convention-known s x c found q = first-known (convention_at s) c (convention-first s) (sym q ∙ found)

-- the result

module _ (c : Convention) (s : List ℕ) (at b : ℕ) where
  pub result-none : at ≡ b → result_in c s at b ≡ got nothing b 1
  unfolding result_in
  result-none q = rw (eq-eqb at b q)

  module _ (some : at ≡ b → ⊥) (r : Result Item Fault) (found : r ≡ item_answer c (item_at c max_depth s b at)) where
    pub result-no : (f : Fault) → r ≡ Err f → result_in c s at b ≡ no (later 1 f)
    unfolding result_in
    result-no f q = rw (ne_eqb at b some, item-no c (item_at c max_depth s b at) f (sym q ∙ found))

    module _ (t : ValueType) (next n : ℕ) (q : r ≡ item_found t next n) where
      pub result-more : next < b → result_in c s at b ≡ no (fault Refusal.Malformed next (1 + n))
      unfolding result_in
      result-more h =
          let (tree, read, same) = item-got c (item_at c max_depth s b at) t next n (sym q ∙ found) in
          rw (ne_eqb at b some, read, lt-ltb next b h)

      pub result-one : b ≤ next → result_answer c (result_in c s at b) ≡ result_found (Some t) b (1 + n)
      unfolding result_in
      result-one h =
          let (tree, read, same) = item-got c (item_at c max_depth s b at) t next n (sym q ∙ found) in
          rw (ne_eqb at b some, read, le-ltb next b h) (ap (λ (u : ValueType). result_found (Some u) b (1 + n)) (sym same))

module _ (c : Convention) (s : List ℕ) (at : ℕ) where
  pub result-refused : (r : Refusal) → body_at s 0x02 0x02 (length s) at ≡ Err r → result_at c s at ≡ no (fault r at 0)
  unfolding result_at
  result-refused r q = rw q

  pub result-to : (b : ℕ) → body_at s 0x02 0x02 (length s) at ≡ Ok b → result_at c s at ≡ result_in c s (at + 3) b
  unfolding result_at
  result-to b q = rw q

  pub arguments-to : (b : ℕ) → body_at s 0x03 0x03 (length s) at ≡ Ok b → arguments_at c s at ≡ arguments_in c s (at + 3) b
  unfolding arguments_at
  arguments-to b q = rw q

-- what a program's answer says of the result

pub result-got : (c : Convention) (x : Reading ResultTree) (t : Option ValueType) (next n : ℕ) → result_found t next n ≡ result_answer c x →
    (r : ResultTree) × (x ≡ got r next n) × (t ≡ result_type c r)
result-got c (got r a m) t next n q =
    let same : ◌≡◌ {A = ResultItem} (record { ty = t; next = next; items = n }) (record { ty = result_type c r; next = a; items = m }) = cc in
    let place = ap (λ (i : ResultItem). i.next) same in
    let count = ap (λ (i : ResultItem). i.items) same in
    (r, cc, ap (λ (i : ResultItem). i.ty) same)
result-got c (no f) t next n q = let z : ◌≡◌ {A = ℕ} 0 1 = cc in absurd (omega arith)

pub result-was-refused : (c : Convention) (x : Reading ResultTree) (f : Fault) → Err f ≡ result_answer c x → x ≡ no f
result-was-refused c (got y a m) f q = let z : ◌≡◌ {A = ℕ} 0 1 = cc in absurd (omega arith)
result-was-refused c (no x) f q = cc

-- the ellipsis

module _ (s : List ℕ) (at : ℕ) where
  pub ellipsis-none : (get_or s at 0 ≡ 0x04 → ⊥) → ellipsis_at s at ≡ got false at 0
  unfolding ellipsis_at
  ellipsis-none h = rw (ne_eqb (get_or s at 0) 0x04 h)

  pub ellipsis-end : length s ≤ at → ellipsis_at s at ≡ got false at 0
  ellipsis-end h = let z = get_or-eq_default s 0 {n = at} h in ellipsis-none (λ q. omega arith)

  module _ (tag : get_or s at 0 ≡ 0x04) where
    pub ellipsis-no : (r : Refusal) → body_at s 0x04 0x04 (length s) at ≡ Err r → ellipsis_at s at ≡ no (fault r at 0)
    unfolding ellipsis_at
    ellipsis-no r q = rw (eq-eqb (get_or s at 0) 0x04 tag, q)

    module _ (b : ℕ) (body : body_at s 0x04 0x04 (length s) at ≡ Ok b) where
      pub ellipsis-more : (b ≡ at + 3 → ⊥) → ellipsis_at s at ≡ no (fault Refusal.Malformed at 0)
      unfolding ellipsis_at
      ellipsis-more h = rw (eq-eqb (get_or s at 0) 0x04 tag, body, ne_eqb b (at + 3) h)

      pub ellipsis-one : b ≡ at + 3 → ellipsis_at s at ≡ got true b 1
      unfolding ellipsis_at
      ellipsis-one h = rw (eq-eqb (get_or s at 0) 0x04 tag, body, eq-eqb b (at + 3) h)

-- what a program's answer says of the ellipsis

pub ellipsis-got : (x : Reading Bool) (v : Bool) (next n : ℕ) → ellipsis_found v next n ≡ ellipsis_answer x → x ≡ got v next n
ellipsis-got (got w a m) v next n q =
    let same : ◌≡◌ {A = EllipsisItem} (record { present = v; next = next; items = n }) (record { present = w; next = a; items = m }) = cc in
    let mark = ap (λ (i : EllipsisItem). i.present) same in
    let place = ap (λ (i : EllipsisItem). i.next) same in
    let count = ap (λ (i : EllipsisItem). i.items) same in
    cc
ellipsis-got (no f) v next n q = let z : ◌≡◌ {A = ℕ} 0 1 = cc in absurd (omega arith)

pub ellipsis-was-refused : (x : Reading Bool) (f : Fault) → Err f ≡ ellipsis_answer x → x ≡ no f
ellipsis-was-refused (got v a m) f q = let z : ◌≡◌ {A = ℕ} 0 1 = cc in absurd (omega arith)
ellipsis-was-refused (no x) f q = cc

-- what comes before the arguments

module _ (s : List ℕ) (c : Convention) (at n : ℕ) (x : Result ResultItem Fault) (found : x ≡ result_answer c (result_at c s at)) where
  pub head-no-result : (f : Fault) → x ≡ Err f → head_after s c at n ≡ no (later n f)
  unfolding head_after
  head-no-result f q = rw (result-was-refused c (result_at c s at) f (sym q ∙ found))

  module _ (t : Option ValueType) (next m : ℕ) (q : x ≡ result_found t next m) where
    module _ (y : Result EllipsisItem Fault) (marked : y ≡ ellipsis_answer (ellipsis_at s next)) where
      pub head-no-ellipsis : (f : Fault) → y ≡ Err f → head_after s c at n ≡ no (later (n + m) f)
      unfolding head_after head_then
      head-no-ellipsis f e =
          let (tree, read, same) = result-got c (result_at c s at) t next m (sym q ∙ found) in
          rw (read, ellipsis-was-refused (ellipsis_at s next) f (sym e ∙ marked))

      module _ (v : Bool) (last k : ℕ) (e : y ≡ ellipsis_found v last k) where
        pub head-no-arguments : (r : Refusal) → body_at s 0x03 0x03 (length s) last ≡ Err r → head_after s c at n ≡ no (fault r last (n + m + k))
        unfolding head_after head_then
        head-no-arguments r body =
            let (tree, read, same) = result-got c (result_at c s at) t next m (sym q ∙ found) in
            rw (read, ellipsis-got (ellipsis_at s next) v last k (sym e ∙ marked), body)

        pub head-to : (b : ℕ) → body_at s 0x03 0x03 (length s) last ≡ Ok b → head_answer (head_after s c at n) ≡ head_found c t v (last + 3) b (n + m + k)
        unfolding head_after head_then
        head-to b body =
            let (tree, read, same) = result-got c (result_at c s at) t next m (sym q ∙ found) in
            rw (read, ellipsis-got (ellipsis_at s next) v last k (sym e ∙ marked), body)
            (ap (λ (u : Option ValueType). head_found c u v (last + 3) b (n + m + k)) (sym same))

module _ (s : List ℕ) where
  pub head-long : max_length < length s → head_of s ≡ no (fault Refusal.TooLong 0 0)
  unfolding head_of
  head-long h = rw (lt-ltb max_length (length s) h)

  module _ (short : length s ≤ max_length) (x : Result Convention Fault) (found : x ≡ convention_answer (convention_at s)) where
    pub head-no-convention : (f : Fault) → x ≡ Err f → head_of s ≡ no f
    unfolding head_of
    head-no-convention f q = rw (le-ltb max_length (length s) short, convention-refused (convention_at s) f (sym q ∙ found))

    pub head-known : (c : Convention) → x ≡ Ok c → head_of s ≡ head_after s c 4 1
    unfolding head_of
    head-known c q = rw (le-ltb max_length (length s) short, convention-known s x c found q)

-- what a program's answer says of it

same_head : {c k : Convention} (r : ResultTree) {v w : Bool} {b d at next n m : ℕ} → c ≡ k → v ≡ w → b ≡ d → at ≡ next → n ≡ m →
    ◌≡◌ {A = Reading HeadTree} (got (record { convention = k; result = r; ellipsis = w; end = d }) next m) (got (record { convention = c; result = r; ellipsis = v; end = b }) at n)
same_head r p z q u v = cc

pub head-got : (x : Reading HeadTree) (c : Convention) (t : Option ValueType) (v : Bool) (at b n : ℕ) → head_found c t v at b n ≡ head_answer x →
    (r : ResultTree) × (x ≡ got (record { convention = c; result = r; ellipsis = v; end = b }) at n) × (t ≡ result_type c r)
head-got (got h next m) c t v at b n q =
    let found : Head = record { convention = c; result = t; ellipsis = v; at = at; end = b; earlier = n } in
    let was : Head = record { convention = h.convention; result = result_type h.convention h.result; ellipsis = h.ellipsis; at = next; end = h.end; earlier = m } in
    let same : found ≡ was = cc in
    let convention = ap (λ (x : Head). x.convention) same in (
      h.result,
      same_head h.result convention (ap (λ (x : Head). x.ellipsis) same) (ap (λ (x : Head). x.end) same) (ap (λ (x : Head). x.at) same) (ap (λ (x : Head). x.earlier) same),
      ap (λ (x : Head). x.result) same ∙ ap (λ (k : Convention). result_type k h.result) (sym convention),
    )
head-got (no f) c t v at b n q = let z : ◌≡◌ {A = ℕ} 0 1 = cc in absurd (omega arith)

pub head-was-refused : (x : Reading HeadTree) (f : Fault) → Err f ≡ head_answer x → x ≡ no f
head-was-refused (got h next m) f q = let z : ◌≡◌ {A = ℕ} 0 1 = cc in absurd (omega arith)
head-was-refused (no x) f q = cc

-- the whole: its head, then the arguments

module _ (s : List ℕ) where
  -- a signature from its arguments on, where n items came before theirs
  abbrev pub then_arguments : Convention → ResultTree → Bool → ℕ → Reading Trees → Reading Signature
  then_arguments c r v n x =
      and_then (later_reading n x) (λ ts next m.
      pick (ltb next (length s)) (no (fault Refusal.TrailingBytes next m)) (got (record { convention = c; result = r; ellipsis = v; arguments = ts }) next m))

  abbrev pub after_head : HeadTree → ℕ → ℕ → Reading Signature
  after_head h at n = then_arguments h.convention h.result h.ellipsis n (arguments_in h.convention s at h.end)

  pub signature-head : signature_of s ≡ and_then (head_of s) after_head
  unfolding signature_of head_of after_convention head_after after_result head_then after_ellipsis arguments_at
  signature-head = whole (ltb max_length (length s))
    where
      last : (c : Convention) (r : ResultTree) (v : Bool) (at n : ℕ) (x : Result ℕ Refusal) →
          then_arguments c r v n (in_body x at (λ b. arguments_in c s (at + 3) b))
          ≡ and_then (head_by c r v at n x) after_head
      last c r v at n (Ok b) = refl
      last c r v at n (Err x) = let same : n + 0 ≡ n = omega arith in ap (λ (k : ℕ). no (fault x at k)) same

      third : (c : Convention) (r : ResultTree) (n : ℕ) (x : Reading Bool) →
          and_then (later_reading n x) (after_ellipsis s c r)
          ≡ and_then (and_then (later_reading n x) (λ v next m. head_by c r v next m (body_at s 0x03 0x03 (length s) next))) after_head
      third c r n (got v next m) = last c r v next (n + m) (body_at s 0x03 0x03 (length s) next)
      third c r n (no f) = refl

      second : (c : Convention) (n : ℕ) (x : Reading ResultTree) →
          and_then (later_reading n x) (after_result s c) ≡ and_then (and_then (later_reading n x) (head_then s c)) after_head
      second c n (got r next m) = third c r (n + m) (ellipsis_at s next)
      second c n (no f) = refl

      first : (x : Reading Convention) → and_then x (after_convention s) ≡ and_then (and_then x (head_after s)) after_head
      first (got c at n) = second c n (result_at c s at)
      first (no f) = refl

      whole : (long : Bool) →
          choose long (λ _. no (fault Refusal.TooLong 0 0)) (λ _. and_then (convention_at s) (after_convention s))
          ≡ and_then (choose long (λ _. no (fault Refusal.TooLong 0 0)) (λ _. and_then (convention_at s) (head_after s))) after_head
      whole true = refl
      whole false = first (convention_at s)

  -- the arguments' answer is the signature's
  arguments-answer : (c : Convention) (r : ResultTree) (v : Bool) (n : ℕ) (x : Reading Trees) →
      signature_answer (then_arguments c r v n x) ≡ with_arguments c (result_type c r) v n (length s) x
  arguments-answer c r v n (got ts next m) = go (ltb next (length s))
    where
      go : (more : Bool) →
          signature_answer (pick more (no (fault Refusal.TrailingBytes next (n + m))) (got (record { convention = c; result = r; ellipsis = v; arguments = ts }) next (n + m)))
          ≡ pick more (refused_signature (fault Refusal.TrailingBytes next (n + m))) (accepted c (result_type c r) v ts (n + m))
      go true = refl
      go false = refl
  arguments-answer c r v n (no f) = refl

  module _ (x : Result Head Fault) (found : x ≡ head_answer (head_of s)) where
    pub signature-refused : (f : Fault) → x ≡ Err f → signature_of s ≡ no f
    signature-refused f q = signature-head ∙ ap (λ (y : Reading HeadTree). and_then y after_head) (head-was-refused (head_of s) f (sym q ∙ found))

    -- the result's tree is gone, its type is there
    pub signature-then : (c : Convention) (t : Option ValueType) (v : Bool) (at b n : ℕ) → x ≡ head_found c t v at b n →
        (r : ResultTree) × (signature_of s ≡ then_arguments c r v n (arguments_in c s at b)) × (t ≡ result_type c r)
    signature-then c t v at b n q =
        let (r, read, same) = head-got (head_of s) c t v at b n (sym q ∙ found) in
        (r, signature-head ∙ ap (λ (y : Reading HeadTree). and_then y after_head) read, same)

    pub signature-arguments : (c : Convention) (t : Option ValueType) (v : Bool) (at b n : ℕ) → x ≡ head_found c t v at b n →
        signature_answer (signature_of s) ≡ with_arguments c t v n (length s) (arguments_in c s at b)
    signature-arguments c t v at b n q =
        let (r, read, same) = signature-then c t v at b n q in
        ap signature_answer read
        ∙ arguments-answer c r v n (arguments_in c s at b)
        ∙ ap (λ (u : Option ValueType). with_arguments c u v n (length s) (arguments_in c s at b)) (sym same)

-- what the answer on an item's header says of it

pub header-to : (at : ℕ) (x : Result ℕ Refusal) (b : ℕ) → body_answer at x ≡ Ok b → x ≡ Ok b
header-to at (Ok e) b q = cc
header-to at (Err r) b q = let z : ◌≡◌ {A = ℕ} 0 1 = cc in absurd (omega arith)

pub header-no : (at : ℕ) (x : Result ℕ Refusal) (f : Fault) → body_answer at x ≡ Err f → (r : Refusal) × (x ≡ Err r) × (f ≡ fault r at 0)
header-no at (Ok e) f q = let z : ◌≡◌ {A = ℕ} 0 1 = cc in absurd (omega arith)
header-no at (Err r) f q = (r, refl, cc)
