-- Appended arguments move nothing (specs/Appending.antt states it). Assumes nothing.
use Rattle.sig_reader.specs.declared.ArgumentItem.{ArgumentItem}
use Rattle.std.proofs.Common.{Ok, Result, Option}
use mathlib.Core.Path.{◌≡◌, refl, sym, ap, ap₂, subst, ◌∙◌}
use mathlib.Core.Bool.{Bool, false}
use mathlib.Core.List.{List, ◌++◌}
use Prim.Native.Nat.{ℕ, zero, suc, ◌+◌, ◌≤◌, ◌<◌}
use native.Mathlib.Omega.{arith}
use borrow.Author.Tests.{ne_eqb}
use lib.ListN.{length, length-append}
use Rattle.base_words.specs.Basics.{pick}
use Rattle.base_conventions.specs.declared.Convention.{Convention}
use Rattle.sig_types.specs.declared.ValueType.{ValueType}
use Rattle.sig_types.specs.Trees.{Trees, none, ◌▸◌, count_of}
use Rattle.sig_items.specs.declared.Fault.{Fault}
use Rattle.sig_items.specs.declared.Refusal.{Refusal}
use Rattle.sig_items.specs.Reading.{Reading, fault, got, no}
use Rattle.sig_signatures.specs.Signature.{Signature}
use Rattle.sig_signatures.specs.Read.{signature_of}
use Rattle.sig_signatures.specs.Answer.{result_type}
use Rattle.sig_signatures.specs.Encode.{encode, signature_items, SignatureWithin}
use Rattle.sig_signatures.proofs.Theorems.{accepted}
use Rattle.sig_signatures.proofs.Complete.{encode-reads}
use Rattle.sig_reader.specs.Argument.{argument_in, arguments_place, argument_of, item_in, unclear_fault}
use Rattle.plan_places.specs.declared.Cursor.{Cursor}
use Rattle.plan_places.specs.declared.CallRules.{CallRules}
use Rattle.plan_places.specs.Step.{rules_of, with_ellipsis}
use Rattle.plan_plans.specs.Plan.{last_of, start_in, last_cursor_in, plan_in, plan_answer}
use Rattle.sig_signatures.specs.Types.{types_of, values_of}
use Rattle.plan_plans.specs.Disjoint.{span_at}
use Rattle.plan_plans.specs.Call.{first_unclear, unclear_in, clear_read, called, call_of, outcome_for}
use Rattle.plan_plans.proofs.Fold.{last-forward, last-append, values-append}
use Rattle.sig_signatures.proofs.Types.{length-of-types}
use Rattle.plan_plans.proofs.Calls.{unclear_from, unclear-append, called-got, called-accepted}
use Rattle.plan_words.specs.Entries.{size_at, value_start, entry_at}
use Rattle.call_appending.specs.Appending.{joined, Appends, Appended, AppendingKeeps, Stays, PlacesStay, ShorterAccepted, RefusedAlike}
use Rattle.call_appending.proofs.Folds.{types-joined, joined-count, area-grows, table-append, unclear-within}
use Rattle.call_appending.proofs.Encoded.{extended, appends-extended, shorter-within}

-- ---- an argument's type and the place of its item

argument-joined : (c : Convention) (start i : ℕ) (ts us : Trees) → i < count_of ts → argument_in c start i (joined ts us) ≡ argument_in c start i ts
unfolding argument_in joined
argument-joined c start i ts none h = refl
argument-joined c start i ts (us ▸ u) h = rw (ne_eqb i (count_of (joined ts us)) (omega (arith, joined-count ts us))) (argument-joined c start i ts us h)

-- ---- the plan, and its words

module _ (g : Signature) (us : Trees) (k n l m : ℕ) where
  abbrev x : Reading Signature
  x = got g k n

  abbrev y : Reading Signature
  y = got (extended g us) l m

  count-types : (plan_answer x).count ≡ count_of g.arguments
  unfolding plan_answer plan_in
  count-types = length-of-types g.convention g.arguments

  argument-kept : (i : ℕ) → i < (plan_answer x).count → argument_of i y ≡ argument_of i x
  argument-kept i h = argument-joined g.convention (arguments_place g.result g.ellipsis) i g.arguments us (omega (arith, count-types))

  span-kept : (i : ℕ) → i < (plan_answer x).count → span_at (plan_answer y) i ≡ span_at (plan_answer x) i
  unfolding plan_answer plan_in
  span-kept i h =
      let c : Convention = g.convention in
      rw (types-joined c g.arguments us)
      (table-append c (with_ellipsis g.ellipsis (rules_of c)) (start_in c (result_type c g.result)) (types_of c g.arguments) (types_of c us) i h)

  convention-kept : (plan_answer y).convention ≡ (plan_answer x).convention
  unfolding plan_answer plan_in
  convention-kept = refl

  size-kept : (i : ℕ) → i < (plan_answer x).count → size_at y i ≡ size_at x i
  size-kept i h = rw (argument-kept i h, convention-kept)

  value-kept : (i : ℕ) → i ≤ (plan_answer x).count → value_start y i ≡ value_start x i
  unfolding value_start
  value-kept zero h = refl
  value-kept (suc i) h = ap₂ ◌+◌ (value-kept i (omega arith)) (size-kept i (omega arith))

  entry_kept : (i : ℕ) → i < (plan_answer x).count → entry_at y i ≡ entry_at x i
  entry_kept i h = rw (argument-kept i h, convention-kept, value-kept i (omega arith), span-kept i h)

  pub kept : AppendingKeeps x y
  unfolding plan_answer plan_in
  kept =
      let c : Convention = g.convention in
      let ts : List ValueType = types_of c g.arguments in
      let vs : List ValueType = types_of c us in
      let r : (Option ValueType) = result_type c g.result in
      let on = last-forward c (rules_of c) (last_cursor_in c r ts) vs in
      let types = types-joined c g.arguments us in
      let last = last-append c (rules_of c) (start_in c r) ts vs in
      record {
        convention = refl;
        ellipsis = refl;
        result = refl;
        count = rw types (omega (arith, length-append ts vs));
        places = span-kept;
        offset = λ i h. value-kept i (omega arith);
        words = entry_kept;
        area = rw (types, last) (area-grows c (last_cursor_in c r ts) (last_of c (rules_of c) (last_cursor_in c r ts) vs) on.stack);
        values = rw types (omega (arith, values-append c ts vs));
        copies = rw (types, last) on.copies;
      }

-- ---- 29

unclear-joined : (g : Signature) (us : Trees)
    → unclear_in (extended g us)
    ≡ unclear_from g.convention (rules_of g.convention) (unclear_in g)
    (last_cursor_in g.convention (result_type g.convention g.result) (types_of g.convention g.arguments))
    (0 + length (types_of g.convention g.arguments)) (types_of g.convention us)
unclear-joined g us =
    let c : Convention = g.convention in
    let k : Cursor = start_in c (result_type c g.result) in
    ap (first_unclear c (rules_of c) k 0) (types-joined c g.arguments us)
    ∙ unclear-append c (rules_of c) k 0 (types_of c g.arguments) (types_of c us)

-- where the longer one has no unclear argument, the shorter one has none
unclear-none : (g : Signature) (us : Trees) → unclear_in (extended g us) ≡ 0 → unclear_in g ≡ 0
unclear-none g us e = go (unclear_in g) _ _ _ _ _ (sym (unclear-joined g us) ∙ e)
  where
    go : (u : ℕ) (c : Convention) (r : CallRules) (k : Cursor) (i : ℕ) (ts : List ValueType) → unclear_from c r u k i ts ≡ 0 → u ≡ 0
    go zero c r k i ts q = refl
    go (suc u) c r k i ts q = q

-- where the shorter one has one, it is the longer one's first
unclear-first : (g : Signature) (us : Trees) (i : ℕ) → unclear_in g ≡ suc i → unclear_in (extended g us) ≡ suc i
unclear-first g us i e =
    let c : Convention = g.convention in
    unclear-joined g us
    ∙ ap (λ (u : ℕ). unclear_from c (rules_of c) u (last_cursor_in c (result_type c g.result) (types_of c g.arguments)) (0 + length (types_of c g.arguments)) (types_of c us)) e

-- ---- on bytes

clear-read : (g : Signature) (next n : ℕ) → unclear_in g ≡ 0 → called (got g next n) ≡ got g next n
unfolding called
clear-read g next n e = rw e

-- an accepted call has no unclear argument
read-clear : (g h : Signature) (next n l m : ℕ) → called (got g next n) ≡ got h l m → unclear_in g ≡ 0
unfolding called
read-clear g h next n l m e = go (unclear_in g) e
  where
    go : (u : ℕ) → clear_read u g next n ≡ got h l m → u ≡ 0
    go zero q = refl
    go (suc i) q = let z : ◌≡◌ {A = ℕ} 0 1 = cc in absurd (omega arith)

pub longer-reads : (s u : List ℕ) (a : Appended s u) → signature_of u ≡ got (extended a.shorter a.appends.more) a.longer-next a.longer-items
longer-reads s u a = a.longer-read ∙ ap (λ (z : Signature). got z a.longer-next a.longer-items) (appends-extended a.shorter a.longer a.appends)

-- what both calls are read as, where the longer one is accepted
pub record Readings (s u : List ℕ) (a : Appended s u) : Type 0 where
  pub shorter : call_of s ≡ got a.shorter a.next a.items
  pub longer : call_of u ≡ got (extended a.shorter a.appends.more) a.longer-next a.longer-items

pub readings : (s u : List ℕ) (a : Appended s u) (n : ℕ) → outcome_for u ≡ Ok n → Readings s u a
readings s u a n e =
    let g : Signature = a.shorter in
    let us : Trees = a.appends.more in
    let read = longer-reads s u a in
    let whole = called-accepted (signature_of u) n e ∙ read in
    let clear : unclear_in (extended g us) ≡ 0 = read-clear (extended g us) _ _ _ _ _ (ap called (sym read) ∙ whole) in
    record { shorter = ap called a.read ∙ clear-read g a.next a.items (unclear-none g us clear); longer = whole }

pub places-stay : PlacesStay
places-stay s u a n e =
    let r = readings s u a n e in
    record {
      accepted = r.shorter ∙ sym a.read;
      kept = rw (r.shorter, r.longer) (kept a.shorter a.appends.more a.next a.items a.longer-next a.longer-items);
    }

pub shorter-accepted : ShorterAccepted
shorter-accepted u g h next n e a =
    let read : signature_of u ≡ got h next n = called-got (signature_of u) h next n e in
    let clear : unclear_in (extended g a.more) ≡ 0 =
    subst (λ (z : Signature). unclear_in z ≡ 0) (appends-extended g h a) (read-clear h h next n next n (ap called (sym read) ∙ e)) in
    ap called (encode-reads g (shorter-within g h a (accepted u h next n read).within))
    ∙ clear-read g (length (encode g)) (signature_items g) (unclear-none g a.more clear)

-- a call that is read and refused: by 29, of one of its arguments
record Refused (g : Signature) (next n : ℕ) (f : Fault) : Type 0 where
  number : ℕ
  first : unclear_in g ≡ suc number
  fault : f ≡ unclear_fault number (got g next n)

read-unclear : (g : Signature) (next n : ℕ) (f : Fault) → called (got g next n) ≡ no f → Refused g next n f
unfolding called
read-unclear g next n f e = go (unclear_in g) refl e
  where
    go : (u : ℕ) → unclear_in g ≡ u → clear_read u g next n ≡ no f → Refused g next n f
    go zero q e = let z : ◌≡◌ {A = ℕ} 0 1 = cc in absurd (omega arith)
    go (suc i) q e = record { number = i; first = q; fault = cc }

unclear-read : (g : Signature) (next n i : ℕ) → unclear_in g ≡ suc i → called (got g next n) ≡ no (unclear_fault i (got g next n))
unfolding called
unclear-read g next n i e = rw e

number-within : (g : Signature) (next n i : ℕ) → unclear_in g ≡ suc i → i < (plan_answer (got g next n)).count
unfolding plan_answer plan_in
number-within g next n i e =
    let c : Convention = g.convention in
    omega (arith, unclear-within c (rules_of c) (start_in c (result_type c g.result)) 0 (types_of c g.arguments) i e)

pub refused-alike : RefusedAlike
refused-alike s u a f e =
    let g : Signature = a.shorter in
    let us : Trees = a.appends.more in
    let x : Reading Signature = got g a.next a.items in
    let y : Reading Signature = got (extended g us) a.longer-next a.longer-items in
    let b : Refused g a.next a.items f = read-unclear g a.next a.items f (ap called (sym a.read) ∙ e) in
    let i : ℕ = b.number in
    let same : argument_of i y ≡ argument_of i x =
    argument-kept g us a.next a.items a.longer-next a.longer-items i (number-within g a.next a.items i b.first) in
    ap called (longer-reads s u a)
    ∙ unclear-read (extended g us) a.longer-next a.longer-items i (unclear-first g us i b.first)
    ∙ ap (λ (z : Result (Option ArgumentItem) Fault). no (fault Refusal.UnclearPlace (item_in z) 0)) same
    ∙ ap no (sym b.fault)

-- two encodings within the limits are such bytes
pub encodings-appended : (g h : Signature) → SignatureWithin h → Appends g h → Appended (encode g) (encode h)
encodings-appended g h w a = record {
  shorter = g;
  longer = h;
  appends = a;
  next = length (encode g);
  items = signature_items g;
  read = encode-reads g (shorter-within g h a w);
  longer-next = length (encode h);
  longer-items = signature_items h;
  longer-read = encode-reads h w;
}
