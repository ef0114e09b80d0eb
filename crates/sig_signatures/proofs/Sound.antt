-- What is read is an encoding of a signature within the limits. Assumes nothing.
use Rattle.sig_signatures.specs.declared.Head.{Head}
use Rattle.sig_signatures.specs.declared.EllipsisItem.{EllipsisItem}
use Rattle.sig_signatures.specs.declared.ResultItem.{ResultItem}
use Rattle.sig_items.specs.declared.Fault.{Fault}
use Rattle.sig_types.specs.declared.ValueType.{ValueType}
use Rattle.base_conventions.specs.declared.UnknownConvention.{UnknownConvention}
use Rattle.std.proofs.Common.{Ok, Err, Result, Option}
use Prim.Native.Nat.{ℕ, ◌+◌, ◌*◌, ◌≤◌}
use mathlib.Core.Path.{◌≡◌, refl, sym, ◌∙◌}
use mathlib.Core.Bool.{Bool, true, false}
use mathlib.Core.List.{List, [], ◌∷◌, ◌++◌}
use lib.ListN.{length, get_or, length-append}
use lib.Dec.{ltb, eqb}
use native.Mathlib.Omega.{arith}
use borrow.Author.Tests.{ltb-false, eqb-true}
use Rattle.base_words.specs.Numbers.{Bytes}
use Rattle.base_words.proofs.Tests.{by-pick}
use Rattle.base_conventions.specs.declared.Convention.{Convention}
use Rattle.sig_types.specs.Trees.{Tree, Trees, none, count_of}
use Rattle.sig_types.specs.Limits as limits
use Rattle.sig_items.specs.Reading.{got}
use Rattle.sig_items.specs.Read.{item_at}
use Rattle.sig_items.specs.Encode.{item, encode_tree, encode_trees, items_in}
use Rattle.sig_items.proofs.Levels.{left-within, all-left-within}
use Rattle.sig_items.proofs.Has.{Has, has_move, has-append, has-item, has_same, length-item}
use Rattle.sig_items.proofs.Trees.{tree-third, trees-third}
use Rattle.sig_items.proofs.Sound.{by-choose, by-then, by_next, by-body, Got, Framed, Read, Ended, none_read, sequence-sound, item-sound, got-with, body-cases}
use Rattle.base_conventions.specs.Numbers.{convention_code, code_of}
use Rattle.base_conventions.proofs.Laws.{CodeIs, code_is}
use Rattle.sig_types.specs.Sizes.{max_depth}
use Rattle.sig_signatures.specs.Answer.{result_answer, ellipsis_answer, head_answer, result_found, ellipsis_found, head_found}
use Rattle.sig_signatures.specs.Signature.{ResultTree, nothing, value, Signature, HeadTree}
use Rattle.sig_signatures.specs.Limits.{max_length, max_arguments}
use Rattle.sig_signatures.specs.Read.{convention_by, convention_at, result_in, result_at, ellipsis_at, arguments_in, arguments_at, after_ellipsis, after_result, after_convention, signature_of, head_by, head_then, head_after, head_of}
use Rattle.sig_signatures.proofs.Laws.{result-got, ellipsis-got, head-got}
use Rattle.sig_signatures.specs.Encode.{encode_result, ellipsis_item, encode, result_items, ellipsis_items, signature_items, ResultWithin, SignatureWithin}

-- an item of the signature that ends the item's framing
pub framed-item : (s : List ℕ) (tag at b : ℕ) (body : List ℕ) → Framed s tag tag (length s) at b → b ≡ at + 3 + length body → Bytes s →
    Has s (at + 3) body → Has s at (item tag body)
framed-item s tag at b body f q bytes h = has-item s bytes tag body at (omega arith) (omega arith) h

-- the convention

pub record ConventionSound (s : List ℕ) (c : Convention) (next n : ℕ) : Type 0 where
  pub framed : Framed s 0x01 0x01 (length s) 0 next
  pub here : Bytes s → Has s 0 (item 0x01 (code_of c ∷ []))
  pub ends : next ≡ 4
  pub inside : next ≤ length s
  pub count : n ≡ 1

pub convention-sound : (s : List ℕ) → Got (ConventionSound s) (convention_at s)
unfolding convention_at Has
convention-sound s = by-body (ConventionSound s) s 0x01 0x01 (length s) 0 _ (λ b framed.
    by-pick (Got (ConventionSound s)) (eqb b 4) _ _ (λ q. code b framed (eqb-true b 4 q) (convention_code (get_or s 3 0)) (code_is (get_or s 3 0))) (λ _. tt))
  where
    code : (b : ℕ) → Framed s 0x01 0x01 (length s) 0 b → b ≡ 4 → (x : Result Convention UnknownConvention) → CodeIs (get_or s 3 0) x → Got (ConventionSound s) (convention_by x)
    code b framed q (Ok c) v =
        let whole : Framed s 0x01 0x01 (length s) 0 4 = rw q at framed in
        record { framed = whole; here = λ bytes. framed-item s 0x01 0 4 (code_of c ∷ []) whole refl bytes (v, tt); ends = refl; inside = whole.inside; count = refl }
    code b framed q (Err _) v = tt

-- the result

pub record ResultSound (c : Convention) (s : List ℕ) (at : ℕ) (r : ResultTree) (next n : ℕ) : Type 0 where
  pub framed : Framed s 0x02 0x02 (length s) at next
  pub within : ResultWithin c r
  pub here : Bytes s → Has s at (item 0x02 (encode_result r))
  pub ends : next ≡ at + 3 + length (encode_result r)
  pub inside : next ≤ length s
  pub count : n ≡ result_items r + 1

module _ (c : Convention) (s : List ℕ) (at b : ℕ) (framed : Framed s 0x02 0x02 (length s) at b) where
  result-one-sound : (t : Tree) (next n : ℕ) → Read c max_depth s b (at + 3) t next n → b ≤ next → ResultSound c s at (value t) b (1 + n)
  unfolding ResultWithin encode_result result_items
  result-one-sound t next n r last =
      let ends = r.ends in
      let inside = r.inside in
      let count = r.count in
      record {
        framed = framed;
        within = left-within c t r.within;
        here = λ bytes. framed-item s 0x02 at b (encode_tree t) framed (omega arith) bytes (r.here bytes);
        ends = omega arith;
        inside = framed.inside;
        count = omega arith;
      }

  result-none-sound : at + 3 ≡ b → ResultSound c s at nothing b 1
  unfolding ResultWithin encode_result result_items Has
  result-none-sound q = record {
    framed = framed;
    within = tt;
    here = λ bytes. framed-item s 0x02 at b [] framed (omega arith) bytes tt;
    ends = omega arith;
    inside = framed.inside;
    count = refl;
  }

  result-in-sound : Got (ResultSound c s at) (result_in c s (at + 3) b)
  unfolding result_in
  result-in-sound = by-choose (Got (ResultSound c s at)) (eqb (at + 3) b) _ _ (λ q. result-none-sound (eqb-true (at + 3) b q))
      (λ _. by_next (Read c max_depth s b (at + 3)) (ResultSound c s at) 1 (item_at c max_depth s b (at + 3)) _ (item-sound c max_depth s b (at + 3))
      (λ t next n r. by-pick (Got (ResultSound c s at)) (ltb next b) _ _ (λ _. tt) (λ l. result-one-sound t next n r (ltb-false next b l))))

pub result-sound : (c : Convention) (s : List ℕ) (at : ℕ) → Got (ResultSound c s at) (result_at c s at)
unfolding result_at
result-sound c s at = by-body (ResultSound c s at) s 0x02 0x02 (length s) at _ (λ b framed. result-in-sound c s at b framed)

-- the ellipsis

pub record EllipsisSound (s : List ℕ) (at : ℕ) (v : Bool) (next n : ℕ) : Type 0 where
  pub here : Bytes s → Has s at (ellipsis_item v)
  pub ends : next ≡ at + length (ellipsis_item v)
  pub inside : at ≤ length s → next ≤ length s
  pub count : n ≡ ellipsis_items v

ellipsis-one-sound : (s : List ℕ) (at b : ℕ) → Framed s 0x04 0x04 (length s) at b → b ≡ at + 3 → EllipsisSound s at true b 1
unfolding ellipsis_item ellipsis_items Has
ellipsis-one-sound s at b framed q =
    let size = length-item 0x04 [] in
    record { here = λ bytes. framed-item s 0x04 at b [] framed (omega arith) bytes tt; ends = omega arith; inside = λ _. framed.inside; count = refl }

ellipsis-none-sound : (s : List ℕ) (at : ℕ) → EllipsisSound s at false at 0
unfolding ellipsis_item ellipsis_items Has
ellipsis-none-sound s at = record { here = λ _. tt; ends = omega arith; inside = λ room. room; count = refl }

pub ellipsis-sound : (s : List ℕ) (at : ℕ) → Got (EllipsisSound s at) (ellipsis_at s at)
unfolding ellipsis_at
ellipsis-sound s at = by-choose (Got (EllipsisSound s at)) (eqb (get_or s at 0) 0x04) _ _
    (λ _. by-body (EllipsisSound s at) s 0x04 0x04 (length s) at _ (λ b framed.
    by-pick (Got (EllipsisSound s at)) (eqb b (at + 3)) _ _ (λ q. ellipsis-one-sound s at b framed (eqb-true b (at + 3) q)) (λ _. tt)))
    (λ _. ellipsis-none-sound s at)

-- the arguments

-- their item's body, up to `end`, where they are read
pub record ArgumentsSound (c : Convention) (s : List ℕ) (at : ℕ) (ts : Trees) (next n : ℕ) : Type 0 where
  pub end : ℕ
  pub framed : Framed s 0x03 0x03 (length s) at end
  pub read : arguments_in c s (at + 3) end ≡ got ts next n
  pub within : limits.AllWithin c ts
  pub here : Bytes s → Has s at (item 0x03 (encode_trees ts))
  pub ends : next ≡ at + 3 + length (encode_trees ts)
  pub inside : next ≤ end
  pub few : count_of ts ≤ max_arguments
  pub count : n ≡ 1 + items_in ts

arguments-ended : (c : Convention) (s : List ℕ) (at b : ℕ) → Framed s 0x03 0x03 (length s) at b → (ts : Trees) (next n : ℕ) → arguments_in c s (at + 3) b ≡ got ts next n →
    Ended c max_depth s b (at + 3) 1 max_arguments ts next n → ArgumentsSound c s at ts next n
arguments-ended c s at b framed ts next n read e =
    let ends = e.all.ends in
    let inside = e.all.inside in
    let last = e.last in
    record {
      end = b;
      framed = framed;
      read = read;
      within = all-left-within c ts e.all.within;
      here = λ bytes. framed-item s 0x03 at b (encode_trees ts) framed (omega arith) bytes (e.all.here bytes);
      ends = omega arith;
      inside = inside;
      few = e.few;
      count = e.all.count;
    }

pub arguments_sound : (c : Convention) (s : List ℕ) (at : ℕ) → Got (ArgumentsSound c s at) (arguments_at c s at)
unfolding arguments_at arguments_in count_of
arguments_sound c s at = by-body (ArgumentsSound c s at) s 0x03 0x03 (length s) at _ (λ b framed.
    let ends = framed.ends in
    got-with (Ended c max_depth s b (at + 3) 1 max_arguments) (ArgumentsSound c s at) (arguments_in c s (at + 3) b) (arguments-ended c s at b framed)
    (sequence-sound c max_depth s b (at + 3) 1 max_arguments (item_at c max_depth s b) (λ k. item-sound c max_depth s b k) max_arguments (at + 3) 1 none
    (none_read c max_depth s b (at + 3) 1 (omega arith)) refl))

-- the whole

pub length-encode : (g : Signature) →
    length (encode g) ≡ 10 + length (encode_result g.result) + length (ellipsis_item g.ellipsis) + length (encode_trees g.arguments)
unfolding encode
length-encode g = simp (length-append, length-item) (omega arith)

has-encode : (s : List ℕ) (g : Signature) (at last : ℕ) → Has s 0 (item 0x01 (code_of g.convention ∷ [])) → Has s 4 (item 0x02 (encode_result g.result)) →
    at ≡ 7 + length (encode_result g.result) → Has s at (ellipsis_item g.ellipsis) → last ≡ at + length (ellipsis_item g.ellipsis) →
    Has s last (item 0x03 (encode_trees g.arguments)) → Has s 0 (encode g)
unfolding encode
has-encode s g at last first second q mark-here u third =
    let one = item 0x01 (code_of g.convention ∷ []) in
    let two = item 0x02 (encode_result g.result) in
    let mark = ellipsis_item g.ellipsis in
    let three = item 0x03 (encode_trees g.arguments) in
    let size₁ : length one ≡ 4 = length-item 0x01 (code_of g.convention ∷ []) in
    let size₂ = length-item 0x02 (encode_result g.result) in
    let marked = has-append s mark three at mark-here (has_move s three last (at + length mark) u third) in
    has-append s one (two ++ (mark ++ three)) 0 first (has_move s (two ++ (mark ++ three)) 4 (0 + length one) (omega arith)
    (has-append s two (mark ++ three) 4 second (has_move s (mark ++ three) at (4 + length two) (omega arith) marked)))

-- what is got of a signature; only that it has the encoding's bytes needs that it has bytes
pub record SignatureSound (s : List ℕ) (g : Signature) (next n : ℕ) : Type 0 where
  pub within : SignatureWithin g
  pub here : Bytes s → s ≡ encode g
  pub size : length s ≡ length (encode g)
  pub ends : next ≡ length s
  pub items : n ≡ signature_items g

module _ (s : List ℕ) (short : length s ≤ max_length) (c : Convention) (at₁ n₁ : ℕ) (first : ConventionSound s c at₁ n₁) (r : ResultTree) (at₂ n₂ : ℕ)
    (second : ResultSound c s at₁ r at₂ n₂) where
  module _ (v : Bool) (at₃ n₃ : ℕ) (mark : EllipsisSound s at₂ v at₃ n₃) where
    all_sound : (ts : Trees) (next m : ℕ) → ArgumentsSound c s at₃ ts next m → length s ≤ next →
        SignatureSound s (record { convention = c; result = r; ellipsis = v; arguments = ts }) next (n₁ + n₂ + n₃ + m)
    unfolding signature_items
    all_sound ts next m third last =
        let g : Signature = record { convention = c; result = r; ellipsis = v; arguments = ts } in
        let size = length-encode g in
        let two = item 0x02 (encode_result r) in
        let inside = third.framed.inside in
        record {
          within = record { result = second.within; arguments = third.within; few = third.few; short = omega arith };
          here = λ bytes. has_same s (encode g) (omega arith)
              (has-encode s g at₂ at₃ (first.here bytes) (has_move s two at₁ 4 first.ends (second.here bytes)) (omega arith) (mark.here bytes)
              mark.ends (third.here bytes));
          size = omega arith;
          ends = omega arith;
          items = omega arith;
        }

    after-ellipsis-sound : Got (SignatureSound s) (after_ellipsis s c r v at₃ (n₁ + n₂ + n₃))
    unfolding after_ellipsis
    after-ellipsis-sound = by_next (ArgumentsSound c s at₃) (SignatureSound s) (n₁ + n₂ + n₃) (arguments_at c s at₃) _ (arguments_sound c s at₃)
        (λ ts next m third. by-pick (Got (SignatureSound s)) (ltb next (length s)) _ _ (λ _. tt) (λ l. all_sound ts next m third (ltb-false next (length s) l)))

  after-result-sound : Got (SignatureSound s) (after_result s c r at₂ (n₁ + n₂))
  unfolding after_result
  after-result-sound = by_next (EllipsisSound s at₂) (SignatureSound s) (n₁ + n₂) (ellipsis_at s at₂) _ (ellipsis-sound s at₂)
      (λ v next m mark. after-ellipsis-sound v next m mark)

after-convention-sound : (s : List ℕ) → length s ≤ max_length → (c : Convention) (at n : ℕ) → ConventionSound s c at n → Got (SignatureSound s) (after_convention s c at n)
unfolding after_convention
after-convention-sound s short c at n first = by_next (ResultSound c s at) (SignatureSound s) n (result_at c s at) _ (result-sound c s at)
    (λ r next m second. after-result-sound s short c at n first r next m second)

signature-sound : (s : List ℕ) → Got (SignatureSound s) (signature_of s)
unfolding signature_of
signature-sound s = by-choose (Got (SignatureSound s)) (ltb max_length (length s)) _ _ (λ _. tt)
    (λ l. by-then (ConventionSound s) (SignatureSound s) (convention_at s) _ (convention-sound s) (after-convention-sound s (ltb-false max_length (length s) l)))

-- the same of a reading that is known

pub convention-read : (s : List ℕ) (c : Convention) (next n : ℕ) → convention_at s ≡ got c next n → ConventionSound s c next n
convention-read s c next n q = rw q at (convention-sound s)

pub result-read : (c : Convention) (s : List ℕ) (at : ℕ) (r : ResultTree) (next n : ℕ) → result_at c s at ≡ got r next n → ResultSound c s at r next n
result-read c s at r next n q = rw q at (result-sound c s at)

pub ellipsis-read : (s : List ℕ) (at : ℕ) (v : Bool) (next n : ℕ) → ellipsis_at s at ≡ got v next n → EllipsisSound s at v next n
ellipsis-read s at v next n q = rw q at (ellipsis-sound s at)

pub signature-read : (s : List ℕ) (g : Signature) (next n : ℕ) → signature_of s ≡ got g next n → SignatureSound s g next n
signature-read s g next n q = rw q at (signature-sound s)

pub result-third : (r : ResultTree) → 3 * result_items r ≤ length (encode_result r)
unfolding result_items encode_result
result-third nothing = omega arith
result-third (value t) = tree-third t

pub ellipsis-third : (v : Bool) → 3 * ellipsis_items v ≤ length (ellipsis_item v)
unfolding ellipsis_items ellipsis_item
ellipsis-third true = let size = length-item 0x04 [] in omega arith
ellipsis-third false = omega arith

-- what comes before the arguments: they stand within the signature, after three bytes or more for each item
pub record HeadBounded (s : List ℕ) (at b n : ℕ) : Type 0 where
  pub inside : at ≤ b
  pub within : b ≤ length s
  pub short : length s ≤ max_length
  pub third : 3 * n ≤ at

abbrev HeadSound : List ℕ → HeadTree → ℕ → ℕ → Type 0
HeadSound s h next n = HeadBounded s next h.end n

head-then-sound : (s : List ℕ) → length s ≤ max_length → (c : Convention) (r : ResultTree) (at n : ℕ) → at ≤ length s → 3 * n ≤ at →
    Got (HeadSound s) (head_then s c r at n)
unfolding head_then
head-then-sound s short c r at n room few = by_next (EllipsisSound s at) (HeadSound s) n (ellipsis_at s at) _ (ellipsis-sound s at)
    (λ v next m mark. body-cases (λ x. Got (HeadSound s) (head_by c r v next (n + m) x)) s 0x03 0x03 (length s) next tt tt
    (λ b framed. let third = ellipsis-third v in let ends = framed.ends in record { inside = omega arith; within = framed.inside; short = short; third = omega arith }))

head-after-sound : (s : List ℕ) → length s ≤ max_length → (c : Convention) (at n : ℕ) → ConventionSound s c at n → Got (HeadSound s) (head_after s c at n)
unfolding head_after
head-after-sound s short c at n first = by_next (ResultSound c s at) (HeadSound s) n (result_at c s at) _ (result-sound c s at)
    (λ r next m second. let third = result-third r in head-then-sound s short c r next (n + m) second.inside (omega arith))

head-sound : (s : List ℕ) → Got (HeadSound s) (head_of s)
unfolding head_of
head-sound s = by-choose (Got (HeadSound s)) (ltb max_length (length s)) _ _ (λ _. tt)
    (λ l. by-then (ConventionSound s) (HeadSound s) (convention_at s) _ (convention-sound s) (head-after-sound s (ltb-false max_length (length s) l)))

pub head-bounded : (s : List ℕ) (x : Result Head Fault) (c : Convention) (t : Option ValueType) (v : Bool) (at b n : ℕ) → x ≡ head_answer (head_of s) →
    x ≡ head_found c t v at b n → HeadBounded s at b n
head-bounded s x c t v at b n found q = let (r, read, same) = head-got (head_of s) c t v at b n (sym q ∙ found) in rw read at (head-sound s)

-- what a program's answer says of the result's item: it ends within the signature, three bytes or more for each item in it
pub record Bounded (s : List ℕ) (at next n : ℕ) : Type 0 where
  pub inside : next ≤ length s
  pub third : at + 3 * n ≤ next

pub result-bounded : (c : Convention) (s : List ℕ) (at : ℕ) (x : Result ResultItem Fault) (t : Option ValueType) (next n : ℕ) → x ≡ result_answer c (result_at c s at) →
    x ≡ result_found t next n → Bounded s at next n
result-bounded c s at x t next n found q =
    let (r, read, same) = result-got c (result_at c s at) t next n (sym q ∙ found) in
    let k = result-read c s at r next n read in
    let third = result-third r in
    record { inside = k.inside; third = omega arith }

-- and of the ellipsis's
pub ellipsis-bounded : (s : List ℕ) (at : ℕ) (x : Result EllipsisItem Fault) (v : Bool) (next n : ℕ) → at ≤ length s → x ≡ ellipsis_answer (ellipsis_at s at) →
    x ≡ ellipsis_found v next n → Bounded s at next n
ellipsis-bounded s at x v next n room found q =
    let k = ellipsis-read s at v next n (ellipsis-got (ellipsis_at s at) v next n (sym q ∙ found)) in
    let third = ellipsis-third v in
    record { inside = k.inside room; third = omega arith }

-- "at most a third of the input length"

pub encode-third : (g : Signature) → 3 * signature_items g ≤ length (encode g)
unfolding signature_items
encode-third g = omega (arith, length-encode g, result-third g.result, ellipsis-third g.ellipsis, trees-third g.arguments)
