-- What each way through the public functions gives, from the plan that they made. Assumes nothing.
use mathlib.Core.Path.{◌≡◌, sym, ap, subst, ◌∙◌}
use mathlib.Core.List.{List}
use Prim.Native.Nat.{ℕ, ◌≤◌, ◌<◌}
use native.Mathlib.Omega.{arith}
use borrow.Author.Tests.{lt-ltb, le-ltb}
use lib.ListN.{length}
use Rattle.base_words.specs.Splice.{overlay}
use Rattle.base_words.proofs.Splices.{splice-head}
use Rattle.sig_items.specs.declared.Fault.{Fault}
use Rattle.sig_signatures.specs.Limits.{max_length}
use Rattle.plan_plans.specs.declared.Plan.{Plan}
use Rattle.plan_plans.specs.Plan.{plan_answer}
use Rattle.plan_plans.specs.Call.{call_of, outcome_for}
use Rattle.plan_text.specs.Writing.{Wrote}
use Rattle.plan_stored.specs.declared.StoreRefusal.{StoreRefusal}
use Rattle.std.proofs.Common.{Option, Result, Ok, Err}
use Rattle.plan_stored.specs.Stored.{plan_bytes, stored_of, length_answer, store_answer, stored_buffer, compared, check_answer}
use Rattle.plan_stored.specs.Helpers.{Writable}
use Rattle.plan_stored.proofs.Answers.{answer-storable, accepted-short}

module _ (s : List ℕ) (p : Plan) (made : p ≡ plan_answer (call_of s)) where
  pub writable : Writable p
  writable = subst Writable (sym made) (answer-storable s)

  same_outcome : (o : Result ℕ Fault) → p.outcome ≡ o → outcome_for s ≡ o
  same_outcome o h = sym (ap (λ (x : Plan). x.outcome) made) ∙ h

  same_bytes_lem : plan_bytes s p ≡ stored_of s
  unfolding stored_of
  same_bytes_lem = ap (plan_bytes s) made

  module _ (f : Fault) (no : p.outcome ≡ Err f) where
    pub length-refused : Err (StoreRefusal.Unread f) ≡ length_answer s
    unfolding length_answer
    length-refused = rw (same_outcome (Err f) no)

    pub store-refused : (buffer : List ℕ) → (Err (StoreRefusal.Unread f) ≡ store_answer s (length buffer)) × (buffer ≡ stored_buffer s buffer)
    unfolding store_answer stored_buffer
    store-refused buffer = (rw (same_outcome (Err f) no), rw (same_outcome (Err f) no))

    pub check-refused : (stored : List ℕ) → Err f ≡ check_answer stored s
    unfolding check_answer
    check-refused stored = rw (same_outcome (Err f) no)

  module _ (k : ℕ) (yes : p.outcome ≡ Ok k) where
    pub short : length s ≤ max_length
    short = accepted-short s k (same_outcome (Ok k) yes)

    pub length-accepted : (n : ℕ) → n ≡ length (plan_bytes s p) → Ok n ≡ length_answer s
    unfolding length_answer
    length-accepted n e = rw (same_outcome (Ok k) yes) (ap Ok (e ∙ ap length same_bytes_lem))

    pub store-short : (buffer : List ℕ) (n : ℕ) → n ≡ length (plan_bytes s p) → length buffer < n
        → (Err StoreRefusal.TooShort ≡ store_answer s (length buffer)) × (buffer ≡ stored_buffer s buffer)
    unfolding store_answer stored_buffer
    store-short buffer n e h =
        let less : length buffer < length (stored_of s) = omega (arith, ap length same_bytes_lem) in
        (rw (same_outcome (Ok k) yes, lt-ltb (length buffer) (length (stored_of s)) less), rw (same_outcome (Ok k) yes, lt-ltb (length buffer) (length (stored_of s)) less))

    pub store-accepted : (buffer after : List ℕ) (n m : ℕ) → n ≡ length (plan_bytes s p) → n ≤ length buffer → Wrote buffer after 0 m (plan_bytes s p)
        → (Ok m ≡ store_answer s (length buffer)) × (after ≡ stored_buffer s buffer)
    unfolding store_answer stored_buffer
    store-accepted buffer after n m e h w =
        let room : length (stored_of s) ≤ length buffer = omega (arith, ap length same_bytes_lem) in
        let end : m ≡ length (stored_of s) = omega (arith, w.end, ap length same_bytes_lem) in (
          rw (same_outcome (Ok k) yes, le-ltb (length buffer) (length (stored_of s)) room) (ap Ok end),
          rw (same_outcome (Ok k) yes, le-ltb (length buffer) (length (stored_of s)) room) (w.bytes ∙ splice-head buffer (plan_bytes s p) ∙ ap (overlay buffer) same_bytes_lem),
        )

    pub check-accepted : (stored : List ℕ) (a : Result (Option ℕ) Fault) → a ≡ compared stored (plan_bytes s p) → a ≡ check_answer stored s
    unfolding check_answer
    check-accepted stored a e = rw (same_outcome (Ok k) yes) (e ∙ ap (compared stored) same_bytes_lem)
