-- Filling by the longer signature, reading by the shorter one (specs/Driver.antt states it). Assumes nothing.
use Rattle.sig_items.specs.declared.Fault.{Fault}
use Rattle.std.proofs.Common.{Ok, Err, Result}
use mathlib.Core.Path.{◌≡◌, refl, sym, ap, ap₂, subst, ◌∙◌}
use mathlib.Core.List.{List, [], ◌∷◌, ◌++◌}
use Prim.Native.Nat.{ℕ, ◌+◌, ◌≤◌}
use native.Mathlib.Omega.{arith}
use lib.ListN.{length, take, drop, length-drop}
use lib.Seq.{take-append-le, drop-append-le}
use Rattle.base_words.specs.Splice.{overlay}
use Rattle.base_words.proofs.Splices.{overlay-whole}
use Rattle.sig_items.specs.Reading.{Reading, got}
use Rattle.sig_signatures.specs.Signature.{Signature}
use Rattle.sig_signatures.specs.Read.{signature_of}
use Rattle.sig_signatures.specs.Answer.{signature_answer}
use Rattle.plan_places.specs.declared.CallRules.{CallRules}
use Rattle.plan_plans.specs.declared.Plan.{Plan}
use Rattle.plan_plans.specs.Plan.{plan_in, plan_answer}
use Rattle.plan_plans.specs.Call.{call_of, outcome_for}
use Rattle.call_slots.specs.Buffers.{Buffers}
use Rattle.call_slots.specs.Placements.{Placement}
use Rattle.call_slots.specs.Helpers.{sizes_of}
use Rattle.call_slots.specs.Refusals.{first_of, or_else, after_reading}
use Rattle.call_slots.specs.Arguments.{arguments_of, plan_for, rules_in, rules_for}
use Rattle.call_fill.specs.Fill.{fill_answer}
use Rattle.call_read.specs.Read.{read_lengths, read_tests, read_answer, read_values}
use Rattle.call_roundtrip.specs.RoundTrip.{Filled, left_by_fill}
use Rattle.call_roundtrip.proofs.Arguments.{Put, AllPut, EachValue}
use Rattle.call_roundtrip.proofs.Theorems.{put_back, read-tests, Left, filled-left, values-total}
use Rattle.call_appending.specs.Appending.{Appended}
use Rattle.call_appending.specs.Driver.{OldDriverReads}
use Rattle.call_appending.proofs.Encoded.{extended}
use Rattle.call_appending.proofs.Theorems.{kept, longer-reads, readings}
use Rattle.call_appending.proofs.Filled.{others, arguments-extended}
use Rattle.call_slots.specs.Answer.{CallAnswer, call_done}

-- the first arguments of those that stand
all-put-first : (r : CallRules) (base : ℕ) (ps qs : List Placement) (v w : List ℕ) (b : Buffers) → length v ≡ sizes_of ps → AllPut r base (ps ++ qs) (v ++ w) b
    → AllPut r base ps v b
unfolding EachValue sizes_of
all-put-first r base [] qs v w b e h = tt
all-put-first r base (p ∷ ps) qs v w b e h = (
  subst (λ (x : List ℕ). Put r base p x b) (take-append-le p.size v w (omega arith)) h.0,
  all-put-first r base ps qs (drop p.size v) w b (omega (arith, length-drop p.size v))
      (subst (λ (x : List ℕ). AllPut r base (ps ++ qs) x b) (drop-append-le p.size v w (omega arith)) h.1),
)

-- an accepted filling's call is accepted
record Accepted (o : Result ℕ Fault) : Type 0 where
  items : ℕ
  same : o ≡ Ok items

done-accepted : (o : Result ℕ Fault) (x : CallAnswer) → after_reading o x ≡ call_done → Accepted o
done-accepted (Ok n) x e = record { items = n; same = refl }
done-accepted (Err f) x e = let z : ◌≡◌ {A = ℕ} 0 1 = cc in absurd (omega arith)

filled-accepted : (s values image area copies : List ℕ) (base hidden : ℕ) → Filled s values image area copies base hidden → Accepted (outcome_for s)
unfolding fill_answer
filled-accepted s values image area copies base hidden h = done-accepted (outcome_for s) _ h.accepted

got-accepted : (g : Signature) (next n : ℕ) → (plan_answer (got g next n)).outcome ≡ Ok n
unfolding plan_answer plan_in
got-accepted g next n = refl

module _ (s u : List ℕ) (a : Appended s u) where
  rules-same : rules_for u ≡ rules_for s
  rules-same = rw (a.read, longer-reads s u a)

  arguments-first : arguments_of u ≡ arguments_of s ++ others a.shorter a.appends.more
  unfolding arguments_of
  arguments-first = rw (a.read, longer-reads s u a) (arguments-extended a.shorter a.appends.more a.next a.items a.longer-next a.longer-items)

  area-grown : (plan_for s).area ≤ (plan_for u).area
  area-grown = rw (a.read, longer-reads s u a) (kept a.shorter a.appends.more a.next a.items a.longer-next a.longer-items).area

  shorter-outcome : (n : ℕ) → outcome_for u ≡ Ok n → outcome_for s ≡ Ok a.items
  shorter-outcome n e = ap (λ (x : Reading Signature). (plan_answer x).outcome) (readings s u a n e).shorter ∙ got-accepted a.shorter a.next a.items

pub old-driver-reads : OldDriverReads
unfolding read_answer read_values
old-driver-reads s u values more image area copies into base hidden a h total size =
    let after : Buffers = left_by_fill u (values ++ more) image area copies base hidden in
    let l : Left u (values ++ more) base after = filled-left u (values ++ more) image area copies base hidden h in
    let b = filled-accepted u (values ++ more) image area copies base hidden h in
    let p : Plan = plan_for s in
    let whole : length values ≡ sizes_of (arguments_of s) = total ∙ sym (values-total s) in
    let both : AllPut (rules_for s) base (arguments_of s ++ others a.shorter a.appends.more) (values ++ more) after =
    rw (← rules-same s u a, ← arguments-first s u a) l.all in
    let back = put_back (rules_for s) base (arguments_of s) values after (all-put-first (rules_for s) base (arguments_of s) (others a.shorter a.appends.more) values more after whole both) whole in
    let good : first_of (read_tests (read_lengths into after.image after.area) p.values p.area) ≡ call_done =
    read-tests (read_lengths into after.image after.area) p.values p.area l.image (size ∙ total) (omega (arith, l.area, area-grown s u a)) in
    record {
      accepted = ap₂ after_reading (shorter-outcome s u a b.items b.same) (ap₂ or_else good back.0);
      same = ap (overlay into) back.1 ∙ overlay-whole into values size;
    }
