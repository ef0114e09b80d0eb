-- What is read is an encoding: the type is within the limits, its bytes stand there, and the place after it and the count of
-- items are those of its encoding. A property of readings is pushed through each definition. Assumes nothing.
use Rattle.sig_types.specs.Codes.{integer_code, float_code, integer_number, float_number}
use Rattle.sig_types.specs.declared.IntegerKind.{IntegerKind}
use Rattle.sig_types.specs.declared.UnknownCode.{UnknownCode}
use Rattle.std.proofs.Common.{Ok, Err, Result}
use Prim.Native.Nat.{ℕ, zero, suc, ◌+◌, ◌-◌, ◌*◌, ◌≤◌, ◌<◌}
use mathlib.Core.Path.{◌≡◌, refl}
use mathlib.Core.Bool.{Bool, true, false}
use mathlib.Core.List.{List, [], ◌∷◌}
use lib.ListN.{length, get_or, length-append}
use lib.Dec.{ltb, eqb}
use native.Mathlib.Omega.{arith}
use borrow.Author.Tests.{ltb-false, eqb-true, eqb-false}
use Rattle.base_words.specs.Numbers.{Bytes}
use Rattle.base_words.proofs.Tests.{by-pick}
use Rattle.base_conventions.specs.declared.Convention.{Convention}
use Rattle.sig_types.specs.declared.FloatFormat.{FloatFormat}
use Rattle.sig_types.specs.declared.ValueType.{ValueType}
use Rattle.sig_types.specs.Sizes.{lacks_float, Sized}
use Rattle.sig_types.specs.Structs.{shape_of}
use Rattle.sig_types.specs.Trees.{Tree, Trees, none, ◌▸◌, type_of, fields_of, count_of}
use Rattle.sig_items.specs.declared.Refusal.{Refusal}
use Rattle.sig_items.specs.Reading.{Reading, got, no, later_reading, choose, and_then, in_body}
use Rattle.sig_items.specs.Read.{length_at, body_at, integer_by, integer_at, float_of, float_by, float_at, sequence, sized_at, contents_at, item_by, struct_at, item_at}
use Rattle.sig_items.specs.Encode.{item, encode_tree, encode_trees, items_of, items_in}
use Rattle.sig_items.proofs.Levels.{FloatLeft, Left, AllLeft, left-sized}
use Rattle.sig_items.proofs.Has.{Has, has_move, has-append, has-item, length-item}
use Rattle.sig_items.proofs.Trees.{tree-long, tree-third, long-some}

-- what holds in each case of a test

pub by-choose : {A : Type 0} (G : A → Type 0) (b : Bool) (x y : Unit {0} → A) → (b ≡ true → G (x tt)) → (b ≡ false → G (y tt)) → G (choose b x y)
by-choose G true x y f g = f refl
by-choose G false x y f g = g refl

-- of a reading: what holds of what it got
abbrev pub Got : {A : Type 0} → (A → ℕ → ℕ → Type 0) → Reading A → Type 0
Got P (got x next n) = P x next n
Got P (no f) = Unit {0}

-- what was got is what the reading is
pub got-self : {A : Type 0} (x : Reading A) → Got (λ a next n. x ≡ got a next n) x
got-self (got a next n) = refl
got-self (no f) = tt

pub got-with : {A : Type 0} (P Q : A → ℕ → ℕ → Type 0) (x : Reading A) → ((a : A) (next n : ℕ) → x ≡ got a next n → P a next n → Q a next n) → Got P x → Got Q x
got-with P Q (got a next n) f p = f a next n refl p
got-with P Q (no r) f p = tt

pub got-map : {A : Type 0} (P Q : A → ℕ → ℕ → Type 0) (x : Reading A) → ((a : A) (next n : ℕ) → P a next n → Q a next n) → Got P x → Got Q x
got-map P Q x f p = got-with P Q x (λ a next n _. f a next n) p

pub by-then : {A B : Type 0} (P : A → ℕ → ℕ → Type 0) (Q : B → ℕ → ℕ → Type 0) (x : Reading A) (f : A → ℕ → ℕ → Reading B) →
    Got P x → ((a : A) (next n : ℕ) → P a next n → Got Q (f a next n)) → Got Q (and_then x f)
by-then P Q (got a next n) f p q = q a next n p
by-then P Q (no r) f p q = tt

-- the same where n headers came before the first
pub by_next : {A B : Type 0} (P : A → ℕ → ℕ → Type 0) (Q : B → ℕ → ℕ → Type 0) (n : ℕ) (x : Reading A) (f : A → ℕ → ℕ → Reading B) →
    Got P x → ((a : A) (next m : ℕ) → P a next m → Got Q (f a next (n + m))) → Got Q (and_then (later_reading n x) f)
by_next P Q n (got a next m) f p q = q a next m p
by_next P Q n (no r) f p q = tt

-- a header with an allowed tag, whose body ends at b
pub record Framed (s : List ℕ) (low high e at b : ℕ) : Type 0 where
  pub least : low ≤ get_or s at 0
  pub most : get_or s at 0 ≤ high
  pub ends : b ≡ at + 3 + length_at s at
  pub inside : b ≤ e

-- what a header may answer: two refusals, or a body
pub body-cases : (P : Result ℕ Refusal → Type 0) (s : List ℕ) (low high e at : ℕ) → P (Err Refusal.Truncated) → P (Err Refusal.UnexpectedTag) →
    ((b : ℕ) → Framed s low high e at b → P (Ok b)) → P (body_at s low high e at)
unfolding body_at
body-cases P s low high e at short tagged to =
    let tag = get_or s at 0 in
    let b = at + 3 + length_at s at in
    by-pick P (ltb e (at + 3)) _ _ (λ _. short)
    (λ _. by-pick P (ltb tag low) _ _ (λ _. tagged)
    (λ l. by-pick P (ltb high tag) _ _ (λ _. tagged)
    (λ h. by-pick P (ltb e b) _ _ (λ _. short)
    (λ room. to b (record { least = ltb-false tag low l; most = ltb-false high tag h; ends = refl; inside = ltb-false e b room })))))

abbrev BodyIs : List ℕ → ℕ → ℕ → ℕ → ℕ → Result ℕ Refusal → Type 0
BodyIs s low high e at (Ok b) = Framed s low high e at b
BodyIs s low high e at (Err r) = Unit {0}

body_is : (s : List ℕ) (low high e at : ℕ) → BodyIs s low high e at (body_at s low high e at)
body_is s low high e at = body-cases (BodyIs s low high e at) s low high e at tt tt (λ b framed. framed)

-- the same of a body that was found
pub body-framed : (s : List ℕ) (low high e at b : ℕ) → body_at s low high e at ≡ Ok b → Framed s low high e at b
body-framed s low high e at b q = rw q at (body_is s low high e at)

pub by-body : {A : Type 0} (P : A → ℕ → ℕ → Type 0) (s : List ℕ) (low high e at : ℕ) (f : ℕ → Reading A) →
    ((b : ℕ) → Framed s low high e at b → Got P (f b)) → Got P (in_body (body_at s low high e at) at f)
by-body P s low high e at f g = body-cases (λ x. Got P (in_body x at f)) s low high e at tt tt g

-- the codes

abbrev IntegerIs : ℕ → Result IntegerKind UnknownCode → Type 0
IntegerIs x (Ok k) = x ≡ integer_number k
IntegerIs x (Err _) = Unit {0}

integer-is : (x : ℕ) → IntegerIs x (integer_code x)
unfolding integer_code
integer-is x =
    by-pick (IntegerIs x) (eqb x 0) _ _ (eqb-true x 0)
    (λ _. by-pick (IntegerIs x) (eqb x 1) _ _ (eqb-true x 1)
    (λ _. by-pick (IntegerIs x) (eqb x 2) _ _ (eqb-true x 2)
    (λ _. by-pick (IntegerIs x) (eqb x 3) _ _ (eqb-true x 3)
    (λ _. by-pick (IntegerIs x) (eqb x 4) _ _ (eqb-true x 4)
    (λ _. by-pick (IntegerIs x) (eqb x 5) _ _ (eqb-true x 5)
    (λ _. by-pick (IntegerIs x) (eqb x 6) _ _ (eqb-true x 6)
    (λ _. by-pick (IntegerIs x) (eqb x 7) _ _ (eqb-true x 7)
    (λ _. by-pick (IntegerIs x) (eqb x 8) _ _ (eqb-true x 8) (λ _. tt)))))))))

abbrev FloatIs : ℕ → Result FloatFormat UnknownCode → Type 0
FloatIs x (Ok f) = x ≡ float_number f
FloatIs x (Err _) = Unit {0}

float_is : (x : ℕ) → FloatIs x (float_code x)
unfolding float_code
float_is x =
    by-pick (FloatIs x) (eqb x 0) _ _ (eqb-true x 0)
    (λ _. by-pick (FloatIs x) (eqb x 1) _ _ (eqb-true x 1)
    (λ _. by-pick (FloatIs x) (eqb x 2) _ _ (eqb-true x 2) (λ _. tt)))

-- what is got of a type item at `at`: that its bytes stand there needs that they are bytes, and the rest does not
pub record Read (c : Convention) (d : ℕ) (s : List ℕ) (e at : ℕ) (t : Tree) (next n : ℕ) : Type 0 where
  pub within : Left c d t
  pub here : Bytes s → Has s at (encode_tree t)
  pub ends : next ≡ at + length (encode_tree t)
  pub inside : next ≤ e
  pub count : n ≡ items_of t

module _ (c : Convention) (d : ℕ) (s : List ℕ) (e at b : ℕ) (framed : Framed s 0x10 0x12 e at b) where
  has-byte : (tag x : ℕ) → get_or s at 0 ≡ tag → b ≡ at + 4 → get_or s (at + 3) 0 ≡ x → Bytes s → Has s at (item tag (x ∷ []))
  unfolding Has
  has-byte tag x t q v bytes = has-item s bytes tag (x ∷ []) at t (omega arith) (v, tt)

  integer-sound : get_or s at 0 ≡ 0x10 → Got (Read c d s e at) (integer_at s at b)
  unfolding integer_at encode_tree Left items_of
  integer-sound t = by-pick (Got (Read c d s e at)) (eqb b (at + 4)) _ _
      (λ q. go (integer_code (get_or s (at + 3) 0)) (eqb-true b (at + 4) q) (integer-is (get_or s (at + 3) 0))) (λ _. tt)
    where
      go : (x : Result IntegerKind UnknownCode) → b ≡ at + 4 → IntegerIs (get_or s (at + 3) 0) x → Got (Read c d s e at) (integer_by x at b)
      go (Ok k) q v =
          let size = length-item 0x10 (integer_number k ∷ []) in
          record { within = tt; here = has-byte 0x10 (integer_number k) t q v; ends = omega arith; inside = framed.inside; count = refl }
      go (Err _) q v = tt

  float-sound : get_or s at 0 ≡ 0x11 → Got (Read c d s e at) (float_at c s (ltb d 8) at b)
  unfolding float_at float_of encode_tree Left items_of
  float-sound t = by-pick (Got (Read c d s e at)) (eqb b (at + 4)) _ _
      (λ q. go (float_code (get_or s (at + 3) 0)) (eqb-true b (at + 4) q) (float_is (get_or s (at + 3) 0))) (λ _. tt)
    where
      one : (f : FloatFormat) → b ≡ at + 4 → get_or s (at + 3) 0 ≡ float_number f → FloatLeft d f → Got (Read c d s e at) (float_of c f (ltb d 8) at b)
      one f q v w = by-pick (Got (Read c d s e at)) (lacks_float c (ltb d 8) f) _ _ (λ _. tt) (λ l.
          let size = length-item 0x11 (float_number f ∷ []) in
          record { within = (w, l); here = has-byte 0x11 (float_number f) t q v; ends = omega arith; inside = framed.inside; count = refl })

      go : (x : Result FloatFormat UnknownCode) → b ≡ at + 4 → FloatIs (get_or s (at + 3) 0) x → Got (Read c d s e at) (float_by c x (ltb d 8) at b)
      go (Ok FloatFormat.Single) q v = one FloatFormat.Single q v tt
      go (Ok FloatFormat.Double) q v = one FloatFormat.Double q v tt
      go (Ok FloatFormat.LongDouble) q v =
          by-pick (Got (Read c d s e at)) (ltb d 8) _ _ (λ _. tt) (λ l. one FloatFormat.LongDouble q v (ltb-false d 8 l))
      go (Err _) q v = tt

-- types one after the other, from `start` on, after n₀ items
pub record AllRead (c : Convention) (d : ℕ) (s : List ℕ) (b start n₀ : ℕ) (ts : Trees) (next n : ℕ) : Type 0 where
  pub within : AllLeft c d ts
  pub here : Bytes s → Has s start (encode_trees ts)
  pub ends : next ≡ start + length (encode_trees ts)
  pub inside : next ≤ b
  pub count : n ≡ n₀ + items_in ts

-- and all of them: there are no more before the end b, and at most `limit`
pub record Ended (c : Convention) (d : ℕ) (s : List ℕ) (b start n₀ limit : ℕ) (ts : Trees) (next n : ℕ) : Type 0 where
  pub all : AllRead c d s b start n₀ ts next n
  pub last : b ≤ next
  pub few : count_of ts ≤ limit

pub none_read : (c : Convention) (d : ℕ) (s : List ℕ) (b start n₀ : ℕ) → start ≤ b → AllRead c d s b start n₀ none start n₀
unfolding encode_trees Has AllLeft items_in
none_read c d s b start n₀ h = record { within = tt; here = λ _. tt; ends = omega arith; inside = h; count = omega arith }

pub one-read : (c : Convention) (d : ℕ) (s : List ℕ) (b start n₀ : ℕ) (ts : Trees) (next n : ℕ) (t : Tree) (later_reading m : ℕ) →
    AllRead c d s b start n₀ ts next n → Read c d s b next t later_reading m → AllRead c d s b start n₀ (ts ▸ t) later_reading (n + m)
unfolding encode_trees AllLeft items_in
one-read c d s b start n₀ ts next n t later_reading m a r =
    let size = length-append (encode_trees ts) (encode_tree t) in
    record {
      within = (a.within, r.within);
      here = λ bytes. has-append s (encode_trees ts) (encode_tree t) start (a.here bytes)
          (has_move s (encode_tree t) next (start + length (encode_trees ts)) a.ends (r.here bytes));
      ends = omega arith;
      inside = r.inside;
      count = omega arith;
    }

module _ (c : Convention) (d : ℕ) (s : List ℕ) (b start n₀ limit : ℕ) (reader : ℕ → Reading Tree) (sound : (k : ℕ) → Got (Read c d s b k) (reader k)) where
  pub sequence-sound : (most next n : ℕ) (ts : Trees) → AllRead c d s b start n₀ ts next n → count_of ts + most ≡ limit →
      Got (Ended c d s b start n₀ limit) (sequence reader b most next n ts)
  unfolding sequence count_of
  sequence-sound zero next n ts a q =
      by-pick (Got (Ended c d s b start n₀ limit)) (ltb next b) _ _ (λ _. tt) (λ l. record { all = a; last = ltb-false next b l; few = omega arith })
  sequence-sound (suc most) next n ts a q =
      by-choose (Got (Ended c d s b start n₀ limit)) (ltb next b) _ _
      (λ _. by_next (Read c d s b next) (Ended c d s b start n₀ limit) n (reader next) _ (sound next)
      (λ t onward m r. sequence-sound most onward (n + m) (ts ▸ t) (one-read c d s b start n₀ ts next n t onward m a r) (omega arith)))
      (λ l. record { all = a; last = ltb-false next b l; few = omega arith })

left_below : (c : Convention) (d k : ℕ) (ts : Trees) → d ≡ k → AllLeft c d ts → AllLeft c k ts
left_below c d k ts q w = rw q at w

module _ (c : Convention) (d : ℕ) (s : List ℕ) (e at b : ℕ) (framed : Framed s 0x10 0x12 e at b) (tag : get_or s at 0 ≡ 0x12)
    (reader : ℕ → Reading Tree) (sound : (k : ℕ) → Got (Read c d s b k) (reader k)) where
  sized-sound : at + 3 < b → (limit : ℕ) (ts : Trees) (next n : ℕ) → Ended c d s b (at + 3) 1 limit ts next n → Got (Read c (suc d) s e at) (sized_at c at b n ts)
  unfolding sized_at encode_tree Left items_of type_of
  sized-sound some limit ts next n r =
      let size = length-item 0x12 (encode_trees ts) in
      let ends = r.all.ends in
      let inside = r.all.inside in
      let last = r.last in
      let count = r.all.count in
      by-pick (Got (Read c (suc d) s e at)) (ltb 256 (shape_of (fields_of c ts)).size) _ _ (λ _. tt)
      (λ small. record {
        within = (omega arith, long-some ts (omega arith), left_below c d (suc d - 1) ts (omega arith) r.all.within, ltb-false 256 (shape_of (fields_of c ts)).size small);
        here = λ bytes. has-item s bytes 0x12 (encode_trees ts) at tag (omega arith) (r.all.here bytes);
        ends = omega arith;
        inside = framed.inside;
        count = omega arith;
      })

  contents-sound : Got (Read c (suc d) s e at) (contents_at c reader at b)
  unfolding contents_at count_of
  contents-sound = by-choose (Got (Read c (suc d) s e at)) (eqb b (at + 3)) _ _ (λ _. tt)
      (λ q.
      let differs = eqb-false b (at + 3) q in
      let limit = b - (at + 3) in
      by-then (Ended c d s b (at + 3) 1 limit) (Read c (suc d) s e at) (sequence reader b limit (at + 3) 1 none) _
      (sequence-sound c d s b (at + 3) 1 limit reader sound limit (at + 3) 1 none (none_read c d s b (at + 3) 1 (omega arith)) (omega arith))
      (sized-sound (omega arith) limit))

item-by-sound : (c : Convention) (d : ℕ) (s : List ℕ) (e at : ℕ) (structure : ℕ → ℕ → Reading Tree) →
    ((b : ℕ) → Framed s 0x10 0x12 e at b → get_or s at 0 ≡ 0x12 → Got (Read c d s e at) (structure at b)) → Got (Read c d s e at) (item_by c structure (ltb d 8) s e at)
unfolding item_by
item-by-sound c d s e at structure sound = by-body (Read c d s e at) s 0x10 0x12 e at _ (λ b framed.
    by-choose (Got (Read c d s e at)) (eqb (get_or s at 0) 0x10) _ _ (λ q. integer-sound c d s e at b framed (eqb-true (get_or s at 0) 0x10 q))
    (λ q. by-choose (Got (Read c d s e at)) (eqb (get_or s at 0) 0x11) _ _ (λ r. float-sound c d s e at b framed (eqb-true (get_or s at 0) 0x11 r))
    (λ r.
    let i = eqb-false (get_or s at 0) 0x10 q in
    let f = eqb-false (get_or s at 0) 0x11 r in
    sound b framed (omega arith))))

struct-sound : (c : Convention) (d : ℕ) (s : List ℕ) (e at b : ℕ) → Framed s 0x10 0x12 e at b → get_or s at 0 ≡ 0x12 → Got (Read c d s e at) (struct_at c d s at b)
unfolding struct_at
struct-sound c zero s e at b framed tag = tt
struct-sound c (suc d) s e at b framed tag =
    contents-sound c d s e at b framed tag (λ k. item_by c (struct_at c d s) (ltb d 8) s b k)
    (λ k. item-by-sound c d s b k (struct_at c d s) (λ b' framed' tag'. struct-sound c d s b k b' framed' tag'))

pub item-sound : (c : Convention) (d : ℕ) (s : List ℕ) (e at : ℕ) → Got (Read c d s e at) (item_at c d s e at)
unfolding item_at
item-sound c d s e at = item-by-sound c d s e at (struct_at c d s) (λ b framed tag. struct-sound c d s e at b framed tag)

-- the same of an item that was read
pub item-read : (c : Convention) (d : ℕ) (s : List ℕ) (e at : ℕ) (t : Tree) (next n : ℕ) → item_at c d s e at ≡ got t next n → Read c d s e at t next n
item-read c d s e at t next n q = rw q at (item-sound c d s e at)

-- what whoever reads on from an item of a type needs: it ends within e, three bytes or more for each item in it, and its type is small
pub record Taken (c : Convention) (e at : ℕ) (t : ValueType) (next n : ℕ) : Type 0 where
  pub on : at + 3 ≤ next
  pub inside : next ≤ e
  pub third : at + 3 * n ≤ next
  pub sized : Sized c t

pub item-taken : (c : Convention) (d : ℕ) (s : List ℕ) (e at : ℕ) (t : Tree) (next n : ℕ) → d ≤ 8 → item_at c d s e at ≡ got t next n → Taken c e at (type_of c t) next n
item-taken c d s e at t next n h q =
    let r = item-read c d s e at t next n q in
    let long = tree-long t in
    let third = tree-third t in
    record { on = omega arith; inside = r.inside; third = omega arith; sized = left-sized c t d h r.within }
