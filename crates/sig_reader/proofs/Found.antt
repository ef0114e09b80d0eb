-- The loop over the arguments that knows where each item stands, and what it finds of one of them. Assumes nothing.
use Rattle.sig_reader.specs.declared.ArgumentItem.{ArgumentItem}
use Rattle.sig_signatures.specs.declared.Head.{Head}
use Rattle.sig_items.specs.declared.Item.{Item}
use Rattle.std.proofs.Common.{Ok, Err, Result, Some, None, Option}
use Prim.Native.Nat.{ℕ, ◌+◌, ◌-◌, ◌≤◌, ◌<◌}
use mathlib.Core.Path.{◌≡◌, refl, sym, ap, ◌∙◌}
use mathlib.Core.Bool.{Bool, true, false}
use mathlib.Core.List.{List}
use lib.ListN.{length}
use lib.Dec.{ltb, eqb}
use native.Mathlib.Omega.{arith}
use borrow.Author.Tests.{lt-ltb, le-ltb}
use Rattle.base_words.specs.Basics.{pick}
use Rattle.base_conventions.specs.declared.Convention.{Convention}
use Rattle.sig_types.specs.declared.ValueType.{ValueType}
use Rattle.sig_types.specs.Trees.{Trees, none, ◌▸◌}
use Rattle.sig_items.specs.declared.Refusal.{Refusal}
use Rattle.sig_items.specs.declared.Fault.{Fault}
use Rattle.sig_items.specs.Reading.{Reading, fault, got, no, later, and_then}
use Rattle.sig_items.specs.Read.{body_at, item_at}
use Rattle.sig_items.specs.Answer.{item_answer, item_found}
use Rattle.sig_items.specs.Encode.{encode_trees}
use Rattle.sig_items.proofs.Sound.{by-choose, by-then, by_next, Got, got-self}
use Rattle.sig_signatures.specs.Limits.{max_length, max_arguments}
use Rattle.sig_signatures.specs.Signature.{ResultTree, HeadTree}
use Rattle.sig_signatures.specs.Read.{convention_at, result_at, ellipsis_at, arguments_in, signature_of, head_by, head_then, head_after, head_of}
use Rattle.sig_signatures.specs.Answer.{result_type, head_answer, head_found}
use Rattle.sig_signatures.proofs.Laws.{head-got, then_arguments, after_head, signature-head}
use Rattle.sig_signatures.proofs.Loop.{Turn, turn-start, turn_more, turn_last}
use Rattle.sig_signatures.proofs.Sound.{convention-read, result-read, ellipsis-read}
use Rattle.sig_stepping.specs.Step.{type_in}
use Rattle.sig_reader.specs.Argument.{argument_in, arguments_place, argument_of, argument_found}
use Rattle.sig_reader.specs.Helpers.{argument_with, noted_as}
use Rattle.sig_reader.proofs.Arguments.{type-is}

-- ---- where the arguments' items start

pub head-starts : (s : List ℕ) → Got (λ h next n. next ≡ arguments_place h.result h.ellipsis) (head_of s)
unfolding head_of head_after head_then
head-starts s = by-choose (Got Starts) (ltb max_length (length s)) _ _ (λ _. tt)
    (λ _. by-then (λ c at n. convention_at s ≡ got c at n) Starts (convention_at s) _ (got-self (convention_at s))
    (λ c at n first. by_next (λ r next m. result_at c s at ≡ got r next m) Starts n (result_at c s at) _ (got-self (result_at c s at))
    (λ r next m second. by_next (λ v last k. ellipsis_at s next ≡ got v last k) Starts (n + m) (ellipsis_at s next) _ (got-self (ellipsis_at s next))
    (λ v last k mark. go c at n first r next m second v last k mark (body_at s 0x03 0x03 (length s) last)))))
  where
    Starts : HeadTree → ℕ → ℕ → Type 0
    Starts h next n = next ≡ arguments_place h.result h.ellipsis

    go : (c : Convention) (at n : ℕ) → convention_at s ≡ got c at n → (r : ResultTree) (next m : ℕ) → result_at c s at ≡ got r next m →
        (v : Bool) (last k : ℕ) → ellipsis_at s next ≡ got v last k → (x : Result ℕ Refusal) → Got Starts (head_by c r v last (n + m + k) x)
    go c at n first r next m second v last k mark (Ok b) =
        omega (arith, (convention-read s c at n first).ends, (result-read c s at r next m second).ends, (ellipsis-read s next v last k mark).ends)
    go c at n first r next m second v last k mark (Err x) = tt

-- the whole, from its head on: the result's tree is gone but for its type and the length of its encoding
pub record Begun (s : List ℕ) (c : Convention) (t : Option ValueType) (v : Bool) (at b n : ℕ) : Type 0 where
  pub result : ResultTree
  pub same : t ≡ result_type c result
  pub starts : at ≡ arguments_place result v
  pub whole : signature_of s ≡ then_arguments s c result v n (arguments_in c s at b)

pub begun : (s : List ℕ) (x : Result Head Fault) → x ≡ head_answer (head_of s) → (c : Convention) (t : Option ValueType) (v : Bool) (at b n : ℕ) → x ≡ head_found c t v at b n → Begun s c t v at b n
begun s x found c t v at b n q =
    let (r, read, same) = head-got (head_of s) c t v at b n (sym q ∙ found) in
    record {
      result = r;
      same = same;
      starts = rw read at (head-starts s);
      whole = signature-head s ∙ ap (λ (y : Reading HeadTree). and_then y (after_head s)) read;
    }

-- ---- a turn of the loop

-- a reader of the arguments' part finds what the whole reading finds there
pub part-read : (c : Convention) (s : List ℕ) (at e : ℕ) → length s ≤ max_length → e ≤ length s → (x : Result Item Fault) → x ≡ item_answer c (type_in c s at e) →
    x ≡ item_answer c (item_at c 8 s e at)
part-read c s at e short within x found = found ∙ ap (item_answer c) (type-is c s e 0 short within at)

-- ---- one of the arguments

-- what is found among the arguments so far
pub record Noting (c : Convention) (s : List ℕ) (at e index : ℕ) (found : Option ArgumentItem) (count next n : ℕ) : Type 0 where
  pub ts : Trees
  pub turn : Turn c s at e ts count next n
  pub found-is : Ok found ≡ argument_in c at index ts

same-note : (f : Option ArgumentItem) (g : Result (Option ArgumentItem) Fault) (i j n m : ℕ) (t u : ValueType) → (index : ℕ) → Ok f ≡ g → i ≡ j → t ≡ u → n ≡ m →
    Ok (noted_as f index i t n) ≡ pick (eqb index j) (argument_found u m) g
same-note f g i j n m t u index p q r w = rw (← p, ← q, ← r, ← w) (go (eqb index i))
  where
    go : (b : Bool) → ◌≡◌ {A = Result (Option ArgumentItem) Fault} (Ok (pick b (Some (record { ty = t; place = n })) f)) (pick b (argument_found t n) (Ok f))
    go true = refl
    go false = refl

module _ (c : Convention) (s : List ℕ) (at e index : ℕ) where
  pub noting-start : at ≤ e → Noting c s at e index None 0 at 1
  unfolding argument_in encode_trees
  noting-start h = record { ts = none; turn = turn-start c s at e h; found-is = refl }

  module _ (found : Option ArgumentItem) (count next n : ℕ) (m : Noting c s at e index found count next n) where
    pub noting-more : next < e → (count ≡ max_arguments → ⊥) → (x : Result Item Fault) → x ≡ item_answer c (item_at c 8 s e next) → (t : ValueType) (after j : ℕ) →
        x ≡ item_found t after j → Noting c s at e index (noted_as found index count t next) (count + 1) after (n + j)
    unfolding argument_in
    noting-more h some x is t after j q =
        let more = turn_more c s at e m.ts count next n m.turn h some x is t after j q in
        record {
          ts = m.ts ▸ more.tree;
          turn = more.turn;
          found-is = same-note _ _ _ _ _ _ _ _ index m.found-is m.turn.many more.same m.turn.ends;
        }

    module _ (last : e ≤ next) (earlier : ℕ) where
      pub noting-trailing : next < length s → Err (fault Refusal.TrailingBytes next (earlier + n)) ≡ argument_with c at earlier (length s) index (arguments_in c s at e)
      noting-trailing h = rw (turn_last c s at e m.ts count next n m.turn last, lt-ltb next (length s) h)

      pub noting-end : length s ≤ next → Ok found ≡ argument_with c at earlier (length s) index (arguments_in c s at e)
      noting-end h = rw (turn_last c s at e m.ts count next n m.turn last, le-ltb next (length s) h) m.found-is

  pub noting-no : (f : Fault) → arguments_in c s at e ≡ no f → (earlier all : ℕ) → Err (later earlier f) ≡ argument_with c at earlier all index (arguments_in c s at e)
  noting-no f q earlier all = rw q

-- ---- the whole

argument-then : (s : List ℕ) (c : Convention) (r : ResultTree) (v : Bool) (n index : ℕ) (x : Reading Trees) →
    argument_of index (then_arguments s c r v n x) ≡ argument_with c (arguments_place r v) n (length s) index x
argument-then s c r v n index (got ts next m) = go (ltb next (length s))
  where
    go : (more : Bool) →
        argument_of index (pick more (no (fault Refusal.TrailingBytes next (n + m))) (got (record { convention = c; result = r; ellipsis = v; arguments = ts }) next (n + m)))
        ≡ pick more (Err (fault Refusal.TrailingBytes next (n + m))) (argument_in c (arguments_place r v) index ts)
    go true = refl
    go false = refl
argument-then s c r v n index (no f) = refl

pub argument-begun : (s : List ℕ) (c : Convention) (t : Option ValueType) (v : Bool) (at b n index : ℕ) → Begun s c t v at b n →
    argument_of index (signature_of s) ≡ argument_with c at n (length s) index (arguments_in c s at b)
argument-begun s c t v at b n index g =
    ap (argument_of index) g.whole
    ∙ argument-then s c g.result v n index (arguments_in c s at b)
    ∙ ap (λ (k : ℕ). argument_with c k n (length s) index (arguments_in c s at b)) (sym g.starts)
