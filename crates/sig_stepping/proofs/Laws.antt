-- The stepping definitions, a law for each way through them. Assumes nothing.
use Rattle.sig_items.specs.declared.Item.{Item}
use Rattle.sig_items.specs.declared.Fault.{Fault}
use Rattle.std.proofs.Common.{Ok, Err, Result}
use Prim.Native.Nat.{ℕ, ◌+◌, ◌-◌, ◌≤◌, ◌<◌}
use mathlib.Core.Path.{◌≡◌, refl, sym, ◌∙◌}
use mathlib.Core.List.{List}
use lib.ListN.{length, get_or}
use lib.Dec.{ltb}
use native.Mathlib.Omega.{arith}
use borrow.Author.Tests.{lt-ltb, le-ltb, ltb-false}
use Rattle.base_words.proofs.Tests.{by-pick}
use Rattle.base_conventions.specs.declared.Convention.{Convention}
use Rattle.sig_items.specs.declared.Refusal.{Refusal}
use Rattle.sig_items.specs.Reading.{fault}
use Rattle.sig_items.specs.Read.{body_at, item_at}
use Rattle.sig_items.specs.Answer.{item_answer}
use Rattle.sig_items.proofs.Laws.{body-short, item_refused}
use Rattle.sig_items.proofs.Sound.{body-framed}
use Rattle.sig_signatures.specs.Limits.{max_length}
use Rattle.sig_stepping.specs.declared.Header.{Header}
use Rattle.sig_stepping.specs.Step.{end_in, left_at, body_in, header_in, body_start, body_end, type_in, header_found}

-- the end

module _ (s : List ℕ) (e : ℕ) where
  pub end-past : length s < e → length s ≡ end_in s e
  unfolding end_in
  end-past h = rw (lt-ltb (length s) e h)

  pub end-within : e ≤ length s → e ≡ end_in s e
  unfolding end_in
  end-within h = rw (le-ltb (length s) e h)

  pub end-inside : (to : ℕ) → to ≡ end_in s e → to ≤ length s
  unfolding end_in
  end-inside to q = rw q (by-pick (λ (k : ℕ). k ≤ length s) (ltb (length s) e) _ _ (λ _. omega arith) (λ l. ltb-false (length s) e l))

-- a body within the bytes

abbrev Inside : List ℕ → ℕ → Result ℕ Refusal → Type 0
Inside s at (Ok b) = at + 3 ≤ length s
Inside s at (Err r) = Unit {0}

inside : (s : List ℕ) (at e : ℕ) → Inside s at (body_in s at e)
unfolding body_in
inside s at e = by-pick (Inside s at) (ltb max_length (length s)) _ _ (λ _. tt) (λ _. go _ _ (body_at s _ _ (end_in s e) at) refl)
  where
    go : (low high : ℕ) (x : Result ℕ Refusal) → body_at s low high (end_in s e) at ≡ x → Inside s at x
    go low high (Ok b) found =
        let framed = body-framed s low high (end_in s e) at b found in
        let within = end-inside s e (end_in s e) refl in
        omega arith
    go low high (Err r) found = tt

-- the parts of an item

module _ (s : List ℕ) (at e : ℕ) where
  pub left-none : (to : ℕ) → to ≡ end_in s e → to < at → 0 ≡ left_at s at e
  unfolding left_at
  left-none to q h = omega arith

  pub left-some : (to : ℕ) → to ≡ end_in s e → to - at ≡ left_at s at e
  unfolding left_at
  left-some to q = rw q

  pub body-long : max_length < length s → Err Refusal.TooLong ≡ body_in s at e
  unfolding body_in
  body-long h = rw (lt-ltb max_length (length s) h)

  pub type-long : (c : Convention) → max_length < length s → Err (fault Refusal.TooLong 0 0) ≡ item_answer c (type_in c s at e)
  unfolding type_in
  type-long c h = rw (lt-ltb max_length (length s) h)

  module _ (short : length s ≤ max_length) (to : ℕ) (q : to ≡ end_in s e) where
    pub body-here : (x : Result ℕ Refusal) → x ≡ body_at s 0x00 0xff to at → x ≡ body_in s at e
    unfolding body_in
    body-here x found = rw (le-ltb max_length (length s) short, ← q) found

    pub body-past : to < at → Err Refusal.Truncated ≡ body_in s at e
    body-past h = body-here (Err Refusal.Truncated) (sym (body-short s 0x00 0xff to at (omega arith)))

    pub type-here : (c : Convention) (x : Result Item Fault) → x ≡ item_answer c (item_at c 8 s to at) → x ≡ item_answer c (type_in c s at e)
    unfolding type_in
    type-here c x found = rw (le-ltb max_length (length s) short, ← q) found

    pub type-past : (c : Convention) → to < at → Err (fault Refusal.Truncated at 0) ≡ item_answer c (type_in c s at e)
    type-past c h = type-here c (Err (fault Refusal.Truncated at 0))
        (rw (item_refused c 8 s to at Refusal.Truncated (body-short s 0x10 0x12 to at (omega arith))))

  -- a body that was found lies within the bytes
  pub body-inside : (b : ℕ) → body_in s at e ≡ Ok b → at + 3 ≤ length s
  body-inside b q = rw q at (inside s at e)

  module _ (x : Result ℕ Refusal) (found : x ≡ body_in s at e) where
    module _ (b : ℕ) (q : x ≡ Ok b) where
      pub header-found : header_found (get_or s at 0) b ≡ header_in s at e
      unfolding header_in
      header-found = rw (sym found ∙ q)

      pub start-found : at + 3 ≡ body_start s at e
      unfolding body_start
      start-found = rw (sym found ∙ q)

      pub end-found : b ≡ body_end s at e
      unfolding body_end
      end-found = rw (sym found ∙ q)

    module _ (r : Refusal) (q : x ≡ Err r) where
      pub header_refused : Err r ≡ header_in s at e
      unfolding header_in
      header_refused = rw (sym found ∙ q)

      pub start-refused : at ≡ body_start s at e
      unfolding body_start
      start-refused = rw (sym found ∙ q)

      pub end_refused : at ≡ body_end s at e
      unfolding body_end
      end_refused = rw (sym found ∙ q)
