-- What no refusal of an argument tells: it can be read; and which arguments nothing refuses. Assumes nothing.
use mathlib.Core.Path.{◌≡◌, refl, sym, ap, ◌∙◌}
use mathlib.Core.Bool.{Bool, true, false}
use mathlib.Core.List.{List, [], ◌∷◌}
use Prim.Native.Nat.{ℕ, ◌+◌, ◌-◌, ◌≤◌, ◌<◌}
use native.Mathlib.Omega.{arith}
use borrow.Author.Tests.{lt-ltb, le-ltb, leb-true}
use lib.Dec.{ltb, leb}
use lib.ListN.{length}
use Rattle.base_words.specs.Basics.{pick, All}
use Rattle.base_words.specs.Numbers.{value_of}
use Rattle.sig_types.specs.Sizes.{equivalent_of}
use Rattle.plan_places.specs.declared.CallRules.{CallRules}
use Rattle.plan_places.specs.Step.{word_of}
use Rattle.call_slots.specs.Buffers.{Buffers}
use Rattle.call_slots.specs.Placements.{Placement, fpr_bytes_at, address_at}
use Rattle.call_slots.specs.Refusals.{or_else, first_of_all, float_answer}
use Rattle.call_slots.proofs.Refusals.{or-done, or-refused, not-refused}
use Rattle.call_unmarshal.specs.Helpers.{InBuffers, Readable}
use Rattle.call_read.specs.Read.{in_copies, copy_answer, agrees, agree_answer, argument_answer, arguments_answer}
use Rattle.call_read.specs.Helpers.{asks}
use Rattle.call_read.proofs.Agree.{agrees-alone}
use Rattle.std.proofs.Common.{Ok, Err, is_err}
use Rattle.call_slots.specs.Answer.{CallAnswer, call_done}

inside-facts : (address base n c : ℕ) → copy_answer (in_copies address base n c) ≡ call_done → (base ≤ address) × (address - base + n ≤ c)
inside-facts address base n c = go (leb base address) refl
  where
    last : (b : Bool) → leb (address - base + n) c ≡ b → base ≤ address → copy_answer b ≡ call_done → (base ≤ address) × (address - base + n ≤ c)
    last true q h e = (h, leb-true (address - base + n) c q)
    last false q h e = let z : ◌≡◌ {A = ℕ} 0 1 = cc in absurd (omega arith)

    go : (b : Bool) → leb base address ≡ b → copy_answer (pick b (leb (address - base + n) c) false) ≡ call_done → (base ≤ address) × (address - base + n ≤ c)
    go true q e = last (leb (address - base + n) c) refl (leb-true base address q) e
    go false q e = let z : ◌≡◌ {A = ℕ} 0 1 = cc in absurd (omega arith)

pub or-done-right : (a : CallAnswer) → or_else a call_done ≡ a
or-done-right (Ok tt) = refl
or-done-right (Err x) = refl

-- ---- an argument in FPRs: 14, and then 26

module _ (r : CallRules) (base : ℕ) (p : Placement) (b : Buffers) (some : 0 < p.span.floating.count) (a : CallAnswer)
    (e : a ≡ float_answer r (equivalent_of p.ty) (value_of (fpr_bytes_at p.span b))) where
  -- in these alone
  pub argument-float : p.span.general.count ≡ 0 → a ≡ argument_answer r base p b
  unfolding argument_answer
  argument-float none = simp (lt-ltb 0 p.span.floating.count some) (rw (agrees-alone r p b none) (sym (or-done-right a) ∙ ap (λ (x : CallAnswer). or_else x call_done) e))

  pub argument-unwidened : is_err a ≡ true → a ≡ argument_answer r base p b
  unfolding argument_answer
  argument-unwidened t =
      simp (lt-ltb 0 p.span.floating.count some) (sym (or-refused a (agree_answer (agrees r p b)) t) ∙ ap (λ (x : CallAnswer). or_else x (agree_answer (agrees r p b))) e)

  pub argument-compared : (d : CallAnswer) → is_err a ≡ false → d ≡ agree_answer (agrees r p b) → d ≡ argument_answer r base p b
  unfolding argument_answer
  argument-compared d t q =
      let done : float_answer r (equivalent_of p.ty) (value_of (fpr_bytes_at p.span b)) ≡ call_done = sym e ∙ not-refused a t in
      simp (lt-ltb 0 p.span.floating.count some) (q ∙ ap (λ (x : CallAnswer). or_else x (agree_answer (agrees r p b))) (sym done))

-- ---- what is never refused

-- neither in FPRs nor by pointer
pub nothing-asked : (r : CallRules) (base : ℕ) (p : Placement) (b : Buffers) → asks p.span ≡ false → call_done ≡ argument_answer r base p b
unfolding argument_answer
nothing-asked r base p b = go (ltb 0 p.span.floating.count) p.span.indirect
  where
    go : (f i : Bool) → pick f true i ≡ false
        → call_done
        ≡ pick f (or_else (float_answer r (equivalent_of p.ty) (value_of (fpr_bytes_at p.span b))) (agree_answer (agrees r p b)))
        (pick i (copy_answer (in_copies (address_at (word_of r) p.span b) base p.size (length b.copies))) call_done)
    go true i e = let z : ◌≡◌ {A = ℕ} 0 1 = cc in absurd (omega arith)
    go false true e = let z : ◌≡◌ {A = ℕ} 0 1 = cc in absurd (omega arith)
    go false false e = refl

-- ---- what is read

module _ (r : CallRules) (base : ℕ) (b : Buffers) where
  readable : (p : Placement) → InBuffers r (length b.image) (length b.area) p → argument_answer r base p b ≡ call_done → Readable r base p b
  unfolding argument_answer
  readable p ready done = record {
    ready = ready;
    exact = λ some. (or-done _ _ (simp (lt-ltb 0 p.span.floating.count some) at done)).0;
    inside = λ none e. inside-facts (address_at (word_of r) p.span b) base p.size (length b.copies) (simp (le-ltb 0 p.span.floating.count none, e) at done);
  }

  pub all-readable : (ps : List Placement) → All (InBuffers r (length b.image) (length b.area)) ps → arguments_answer r base ps b ≡ call_done
      → All (λ (p : Placement). Readable r base p b) ps
  unfolding All arguments_answer first_of_all
  all-readable [] each done = tt
  all-readable (p ∷ ps) each done =
      let both = or-done (argument_answer r base p b) (arguments_answer r base ps b) done in
      (readable p each.0 both.0, all-readable ps each.1 both.1)
