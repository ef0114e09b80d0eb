-- Stepping through an accepted signature gives its arguments in order: past two items and the ellipsis, and into the last, stands the
-- first argument's item, and the item after k others is the k-th argument's, of its type and at its place in the encoding.
-- Assumes nothing.
use Rattle.std.proofs.Common.{Ok}
use Prim.Native.Nat.{ℕ, zero, suc, ◌+◌, ◌≤◌, ◌<◌}
use mathlib.Core.Path.{◌≡◌, refl, sym, ap, ◌∙◌}
use mathlib.Core.Bool.{Bool, true, false}
use mathlib.Core.List.{List}
use lib.ListN.{length, get_or, length-append}
use lib.Dec.{ltb, eqb}
use native.Mathlib.Omega.{arith}
use borrow.Author.Tests.{le-ltb, eq-eqb, ne_eqb, ltb-false}
use Rattle.base_words.specs.Basics.{pick}
use Rattle.base_words.proofs.Tests.{by-pick}
use Rattle.base_conventions.specs.declared.Convention.{Convention}
use Rattle.sig_types.specs.Trees.{Tree, Trees, none, ◌▸◌, type_of, count_of}
use Rattle.sig_items.specs.declared.Refusal.{Refusal}
use Rattle.sig_items.specs.Reading.{fault, got, no, choose, in_body}
use Rattle.sig_items.specs.Read.{length_at, body_at, sequence, item_at}
use Rattle.sig_items.specs.Encode.{encode_tree, encode_trees}
use Rattle.sig_items.proofs.Laws.{body-to}
use Rattle.sig_items.proofs.Sound.{by-choose, by-then, by_next, Got, Framed, by-body, item-read, got-self, got-map}
use Rattle.sig_signatures.specs.Limits.{max_length, max_arguments}
use Rattle.sig_signatures.specs.Signature.{ResultTree, Signature}
use Rattle.sig_signatures.specs.Read.{convention_at, result_at, ellipsis_at, arguments_in, arguments_at, after_ellipsis, after_result, after_convention, signature_of}
use Rattle.sig_signatures.specs.Encode.{encode_result, ellipsis_item}
use Rattle.sig_signatures.proofs.Sound.{ConventionSound, convention-sound, ResultSound, result-sound, ArgumentsSound, arguments_sound, ellipsis-read}
use Rattle.sig_stepping.specs.Step.{body_in, body_start, body_end, type_in}
use Rattle.sig_reader.specs.Argument.{argument_in, arguments_place, past_ellipsis, arguments_start, stepped_to, argument_found}
use Rattle.sig_stepping.proofs.Laws.{end-within, body-here, start-found, end-found}

-- one argument of types in order

module _ (c : Convention) (start : ℕ) where
  argument-last : (ts : Trees) (t : Tree) → argument_in c start (count_of ts) (ts ▸ t) ≡ argument_found (type_of c t) (start + length (encode_trees ts))
  unfolding argument_in
  argument-last ts t = rw (eq-eqb (count_of ts) (count_of ts) refl)

  argument-before : (ts : Trees) (t : Tree) (index : ℕ) → index < count_of ts → argument_in c start index (ts ▸ t) ≡ argument_in c start index ts
  unfolding argument_in
  argument-before ts t index h = rw (ne_eqb index (count_of ts) (λ q. omega arith))

-- Type items one after the other up to e, of which those of ts are read: reading on keeps them, and the item after k others from
-- here is the type with that number.

module _ (c : Convention) (s : List ℕ) (e start : ℕ) (short : length s ≤ max_length) (within : e ≤ length s) where
  pub type-is : (at : ℕ) → type_in c s at e ≡ item_at c 8 s e at
  unfolding type_in
  type-is at = rw (le-ltb max_length (length s) short, ← (end-within s e within))

  pub record Stepped (ts : Trees) (at : ℕ) (us : Trees) (next n : ℕ) : Type 0 where
    pub keeps : (index : ℕ) → index < count_of ts → argument_in c start index us ≡ argument_in c start index ts
    pub steps : (k : ℕ) → count_of ts + k < count_of us → stepped_to c s at e k ≡ argument_in c start (count_of ts + k) us

  stepped-end : (ts : Trees) (at next n : ℕ) → Stepped ts at ts next n
  stepped-end ts at next n = record { keeps = λ index h. refl; steps = λ k h. absurd (omega arith) }

  module _ (ts : Trees) (at : ℕ) (place : at ≡ start + length (encode_trees ts)) (t : Tree) (after m : ℕ) (read : item_at c 8 s e at ≡ got t after m) where
    -- the next item's place
    next_place : after ≡ start + length (encode_trees (ts ▸ t))
    unfolding encode_trees
    next_place = let r = item-read c 8 s e at t after m read in let size = length-append (encode_trees ts) (encode_tree t) in omega arith

    one_more : (us : Trees) (next n : ℕ) → Stepped (ts ▸ t) after us next n → Stepped ts at us next n
    unfolding stepped_to count_of
    one_more us next n more = record {
      keeps = λ index h. more.keeps index (omega arith) ∙ argument-before c start ts t index h;
      steps = go;
    }
      where
        go : (k : ℕ) → count_of ts + k < count_of us → stepped_to c s at e k ≡ argument_in c start (count_of ts + k) us
        go zero h =
            let found : stepped_to c s at e 0 ≡ argument_found (type_of c t) at = rw (type-is at, read) in
            found ∙ ap (argument_found (type_of c t)) place ∙ sym (argument-last c start ts t) ∙ sym (more.keeps (count_of ts) (omega arith))
            ∙ ap (λ (i : ℕ). argument_in c start i us) (omega arith)
        go (suc k) h =
            let onward : stepped_to c s at e (suc k) ≡ stepped_to c s after e k = rw (type-is at, read) in
            onward ∙ more.steps k (omega arith) ∙ ap (λ (i : ℕ). argument_in c start i us) (omega arith)

  all-stepped : (most at n : ℕ) (ts : Trees) → at ≡ start + length (encode_trees ts) → Got (Stepped ts at) (sequence (item_at c 8 s e) e most at n ts)
  unfolding sequence
  all-stepped zero at n ts place = by-pick (Got (Stepped ts at)) (ltb at e) _ _ (λ _. tt) (λ _. stepped-end ts at at n)
  all-stepped (suc most) at n ts place = by-choose (Got (Stepped ts at)) (ltb at e) _ _
      (λ _. by_next (λ t after m. item_at c 8 s e at ≡ got t after m) (Stepped ts at) n (item_at c 8 s e at) _ (got-self (item_at c 8 s e at))
      (λ t after m read. got-map (Stepped (ts ▸ t) after) (Stepped ts at) (sequence (item_at c 8 s e) e most after (n + m) (ts ▸ t))
      (one_more ts at place t after m read) (all-stepped most after (n + m) (ts ▸ t) (next_place ts at place t after m read))))
      (λ _. stepped-end ts at at n)

-- a header with one tag is one with any tag
any-tag : (s : List ℕ) → length s ≤ max_length → (tag at b : ℕ) → tag ≤ 255 → Framed s tag tag (length s) at b → Ok b ≡ body_in s at (length s)
any-tag s short tag at b small framed =
    body-here s at (length s) short (length s) (end-within s (length s) (omega arith)) (Ok b)
    (ap Ok framed.ends ∙ sym (body-to s 0x00 0xff (length s) at (omega arith) (omega arith) (omega arith) (length_at s at) refl (omega arith)))

ellipsis-passed : (s : List ℕ) → length s ≤ max_length → (at : ℕ) → Got (λ v next n. next ≡ past_ellipsis s at) (ellipsis_at s at)
unfolding ellipsis_at past_ellipsis
ellipsis-passed s short at = go (eqb (get_or s at 0) 0x04)
  where
    go : (tag : Bool) → Got (λ v next n. next ≡ pick tag (body_end s at (length s)) at)
        (choose tag (λ _. in_body (body_at s 0x04 0x04 (length s) at) at (λ b. pick (eqb b (at + 3)) (got true b 1) (no (fault Refusal.Malformed at 0)))) (λ _. got false at 0))
    go true = by-body (λ v next n. next ≡ body_end s at (length s)) s 0x04 0x04 (length s) at _ (λ b framed.
        by-pick (Got (λ v next n. next ≡ body_end s at (length s))) (eqb b (at + 3)) _ _
        (λ _. end-found s at (length s) (Ok b) (any-tag s short 0x04 at b (omega arith) framed) b refl) (λ _. tt))
    go false = refl

-- of an accepted signature: the first argument's place, by stepping and by the encoder, and what is read from there
pub record Placed (s : List ℕ) (g : Signature) : Type 0 where
  pub short : length s ≤ max_length
  pub start : arguments_start s ≡ arguments_place g.result g.ellipsis
  pub next : ℕ
  pub count : ℕ
  pub read : arguments_in g.convention s (arguments_place g.result g.ellipsis) (length s) ≡ got g.arguments next count

module _ (s : List ℕ) (short : length s ≤ max_length) (c : Convention) (at₁ n₁ : ℕ) (first : ConventionSound s c at₁ n₁) (r : ResultTree) (at₂ n₂ : ℕ)
    (second : ResultSound c s at₁ r at₂ n₂) (v : Bool) (at₃ n₃ : ℕ) (mark : ellipsis_at s at₂ ≡ got v at₃ n₃) (ts : Trees) (next m : ℕ)
    (third : ArgumentsSound c s at₃ ts next m) (last : length s ≤ next) where
  here : at₁ ≡ 4
  here = first.ends

  -- the last item's header
  there : at₃ ≡ 7 + length (encode_result r) + length (ellipsis_item v)
  there = let e = second.ends in let g = (ellipsis-read s at₂ v at₃ n₃ mark).ends in let f = here in omega arith

  ends : third.end ≡ length s
  ends = let f = third.framed.inside in let i = third.inside in omega arith

  past_first : 4 ≡ body_end s 0 (length s)
  past_first = end-found s 0 (length s) (Ok 4) (any-tag s short 0x01 0 4 (omega arith) (rw here at first.framed)) 4 refl

  past-second : at₂ ≡ body_end s 4 (length s)
  past-second = end-found s 4 (length s) (Ok at₂)
      (any-tag s short 0x02 4 at₂ (omega arith) (rw here at second.framed)) at₂ refl

  past-mark : at₃ ≡ past_ellipsis s at₂
  past-mark = rw mark at (ellipsis-passed s short at₂)

  into-last : at₃ + 3 ≡ body_start s at₃ (length s)
  into-last = start-found s at₃ (length s) (Ok third.end) (any-tag s short 0x03 at₃ third.end (omega arith) third.framed) third.end refl

  started : arguments_start s ≡ arguments_place r v
  unfolding arguments_start
  started = rw (← past_first, ← past-second, ← past-mark, ← into-last) (let t = there in omega arith)

  placed : Placed s (record { convention = c; result = r; ellipsis = v; arguments = ts })
  placed = record {
    short = short;
    start = started;
    next = next;
    count = m;
    read = rw (ends, the-start) at third.read;
  }
    where
      the-start : at₃ + 3 ≡ arguments_place r v
      the-start = let t = there in omega arith

signature-placed : (s : List ℕ) → Got (λ g next n. Placed s g) (signature_of s)
unfolding signature_of after_convention after_result after_ellipsis
signature-placed s = by-choose (Got (λ g next n. Placed s g)) (ltb max_length (length s)) _ _ (λ _. tt)
    (λ l. by-then (ConventionSound s) (λ g next n. Placed s g) (convention_at s) _ (convention-sound s)
    (λ c at₁ n₁ first. by_next (ResultSound c s at₁) (λ g next n. Placed s g) n₁ (result_at c s at₁) _ (result-sound c s at₁)
    (λ r at₂ n₂ second. by_next (λ v next k. ellipsis_at s at₂ ≡ got v next k) (λ g next n. Placed s g) (n₁ + n₂) (ellipsis_at s at₂) _ (got-self (ellipsis_at s at₂))
    (λ v at₃ n₃ mark. by_next (ArgumentsSound c s at₃) (λ g next n. Placed s g) (n₁ + n₂ + n₃) (arguments_at c s at₃) _ (arguments_sound c s at₃)
    (λ ts next m third. by-pick (Got (λ g next n. Placed s g)) (ltb next (length s)) _ _ (λ _. tt)
    (λ last. placed s (ltb-false max_length (length s) l) c at₁ n₁ first r at₂ n₂ second v at₃ n₃ mark ts next m third (ltb-false next (length s) last)))))))

-- an accepted signature's arguments, one after the other
arguments-stepped : (s : List ℕ) (g : Signature) → Placed s g → (index : ℕ) → index < count_of g.arguments →
    stepped_to g.convention s (arguments_start s) (length s) index ≡ argument_in g.convention (arguments_place g.result g.ellipsis) index g.arguments
unfolding arguments_in encode_trees count_of
arguments-stepped s g p index h =
    let start = arguments_place g.result g.ellipsis in
    let all = all-stepped g.convention s (length s) start p.short (omega arith) max_arguments start 1 none (omega arith) in
    rw p.start ((got_of s g p all).steps index (omega arith) ∙ ap (λ (i : ℕ). argument_in g.convention start i g.arguments) (omega arith))
  where
    got_of : (s : List ℕ) (g : Signature) (p : Placed s g) →
        Got (Stepped g.convention s (length s) (arguments_place g.result g.ellipsis) p.short (omega arith) none (arguments_place g.result g.ellipsis))
        (arguments_in g.convention s (arguments_place g.result g.ellipsis) (length s)) →
        Stepped g.convention s (length s) (arguments_place g.result g.ellipsis) p.short (omega arith) none (arguments_place g.result g.ellipsis) g.arguments p.next p.count
    got_of s g p all = rw p.read at all

pub arguments-in-order : (s : List ℕ) (g : Signature) (next n : ℕ) → signature_of s ≡ got g next n → (index : ℕ) → index < count_of g.arguments →
    stepped_to g.convention s (arguments_start s) (length s) index ≡ argument_in g.convention (arguments_place g.result g.ellipsis) index g.arguments
arguments-in-order s g next n q index h = arguments-stepped s g (rw q at (signature-placed s)) index h
