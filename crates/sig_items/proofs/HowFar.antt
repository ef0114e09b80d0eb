-- How far readings go: the headers that a reading counts lead, header by header, from its first item to where it ends or stops. Pushed
-- through each definition. Assumes nothing.
use Rattle.sig_types.specs.Codes.{integer_code, float_code}
use Rattle.sig_types.specs.declared.IntegerKind.{IntegerKind}
use Rattle.sig_types.specs.declared.UnknownCode.{UnknownCode}
use Rattle.std.proofs.Common.{Ok, Err, Result}
use Prim.Native.Nat.{ℕ, zero, suc, ◌+◌, ◌-◌, ◌*◌, ◌≤◌, ◌<◌}
use mathlib.Core.Path.{◌≡◌, refl, sym, ap, ◌∙◌}
use mathlib.Core.Logic.{inr}
use mathlib.Core.Bool.{Bool, true, false}
use mathlib.Core.List.{List}
use lib.ListN.{get_or}
use lib.Dec.{ltb, eqb}
use native.Mathlib.Omega.{arith}
use borrow.Author.Tests.{ltb-false, ltb-true, eqb-true, eqb-false}
use Rattle.base_words.specs.Basics.{pick}
use Rattle.base_words.proofs.Tests.{by-pick}
use Rattle.base_conventions.specs.declared.Convention.{Convention}
use Rattle.sig_types.specs.declared.FloatFormat.{FloatFormat}
use Rattle.sig_types.specs.Sizes.{lacks_float}
use Rattle.sig_types.specs.Structs.{shape_of}
use Rattle.sig_types.specs.Trees.{Tree, Trees, none, ◌▸◌, fields_of}
use Rattle.sig_items.specs.declared.Refusal.{Refusal}
use Rattle.sig_items.specs.declared.Fault.{Fault}
use Rattle.sig_items.specs.Reading.{Reading, fault, got, no, later, later_reading, and_then, in_body}
use Rattle.sig_items.specs.Read.{length_at, body_at, integer_by, integer_at, float_of, float_by, float_at, sequence, sized_at, contents_at, item_by, struct_at, item_at}
use Rattle.sig_items.specs.HowFar.{encloses, next_header, place_of_header, is_large, stop_of, met_by, IsTag, PassedHeader, HeadersPassed, HowFar}
use Rattle.sig_items.proofs.Sound.{by-choose, Framed, body-cases}

-- the walk

pub walked-add : (s : List ℕ) (at m n : ℕ) → place_of_header s at (m + n) ≡ place_of_header s (place_of_header s at m) n
unfolding place_of_header
walked-add s at zero n = let same : 0 + n ≡ n = omega arith in ap (place_of_header s at) same
walked-add s at (suc m) n =
    let one : suc m + n ≡ suc (m + n) = omega arith in
    ap (place_of_header s at) one ∙ walked-add s (next_header s at) m n

step-far : (s : List ℕ) (at : ℕ) → at + 3 ≤ next_header s at
unfolding next_header
step-far s at = by-pick (λ x. at + 3 ≤ x) (encloses (get_or s at 0)) (at + 3) (at + 3 + length_at s at) (λ _. omega arith) (λ _. omega arith)

-- each step goes at least three bytes on, so that no other count leads to the same place
pub walked-far : (s : List ℕ) (at n : ℕ) → at + 3 * n ≤ place_of_header s at n
unfolding place_of_header
walked-far s at zero = omega arith
walked-far s at (suc n) = omega (arith, step-far s at, walked-far s (next_header s at) n)

-- the places ascend, each at least three bytes after the one before
pub walked-ascends : (s : List ℕ) (at i j : ℕ) → i < j → place_of_header s at i + 3 ≤ place_of_header s at j
walked-ascends s at i j h =
    let split : i + (j - i) ≡ j = omega arith in
    let on : place_of_header s at j ≡ place_of_header s (place_of_header s at i) (j - i) = sym (ap (place_of_header s at) split) ∙ walked-add s at i (j - i) in
    omega (arith, on, walked-far s (place_of_header s at i) (j - i))

-- to go on takes a header
walked-some : (s : List ℕ) (at n next : ℕ) → place_of_header s at n ≡ next → at < next → 0 < n
unfolding place_of_header
walked-some s at zero next w h = absurd (omega arith)
walked-some s at (suc n) next w h = omega arith

-- an item without others in it, and one with
pub walked-over : (s : List ℕ) (at b : ℕ) → encloses (get_or s at 0) ≡ false → b ≡ at + 3 + length_at s at → place_of_header s at 1 ≡ b
unfolding place_of_header next_header
walked-over s at b q e = rw q (sym e)

pub walked-into : (s : List ℕ) (at : ℕ) → encloses (get_or s at 0) ≡ true → place_of_header s at 1 ≡ at + 3
unfolding place_of_header next_header
walked-into s at q = rw q

-- no other count leads to the same place
walked_once : (s : List ℕ) (at m n : ℕ) → m < n → place_of_header s at m ≡ place_of_header s at n → ⊥
walked_once s at m n h q = omega (arith, walked-ascends s at m n h)

-- headers that passed

pub passed_none : (s : List ℕ) (e at : ℕ) → HeadersPassed s e at 0
unfolding HeadersPassed
passed_none s e at i h = absurd (omega arith)

pub passed-one : (s : List ℕ) (low high e at b : ℕ) → IsTag (get_or s at 0) → Framed s low high e at b → HeadersPassed s e at 1
unfolding HeadersPassed place_of_header
passed-one s low high e at b tag framed i h =
    let first : i ≡ 0 = omega arith in
    let ends = framed.ends in
    let inside = framed.inside in
    rw first (record { tag = tag; room = omega arith })

-- of a type
type-tag : {s : List ℕ} {e at b : ℕ} → Framed s 0x10 0x12 e at b → IsTag (get_or s at 0)
type-tag framed = inr (framed.least, framed.most)

pub passed-within : (s : List ℕ) (b e at n : ℕ) → b ≤ e → HeadersPassed s b at n → HeadersPassed s e at n
unfolding HeadersPassed
passed-within s b e at n h p i l = let k = (p i l).room in record { tag = (p i l).tag; room = omega arith }

pub passed-more : (s : List ℕ) (e at n next m : ℕ) → place_of_header s at n ≡ next → HeadersPassed s e at n → HeadersPassed s e next m → HeadersPassed s e at (n + m)
unfolding HeadersPassed
passed-more s e at n next m w p q i h = go (ltb i n) refl
  where
    go : (b : Bool) → ltb i n ≡ b → PassedHeader s e (place_of_header s at i)
    go true l = p i (ltb-true i n l)
    go false l =
        let past = ltb-false i n l in
        let split : i ≡ n + (i - n) = omega arith in
        let same : place_of_header s at i ≡ place_of_header s next (i - n) = ap (place_of_header s at) split ∙ walked-add s at n (i - n) ∙ ap (λ k. place_of_header s k (i - n)) w in
        rw same (q (i - n) (omega arith))

passed-same : (s : List ℕ) (e at m n : ℕ) → m ≡ n → HeadersPassed s e at n → HeadersPassed s e at m
passed-same s e at m n q p = rw q p

-- a reading from `at` on that ends or stops within e
abbrev pub Goes : {A : Type 0} → List ℕ → ℕ → ℕ → Reading A → Type 0
Goes s e at (got x next n) = (place_of_header s at n ≡ next) × (next ≤ e) × HeadersPassed s e at n
Goes s e at (no f) = HowFar s e at f

-- one that ends at e
abbrev pub Fills : {A : Type 0} → List ℕ → ℕ → ℕ → Reading A → Type 0
Fills s e at (got x next n) = (place_of_header s at n ≡ next) × (next ≡ e) × HeadersPassed s e at n
Fills s e at (no f) = HowFar s e at f

-- a fault at a place to which n headers lead
pub stops : (s : List ℕ) (e at : ℕ) (r : Refusal) (place n : ℕ) → is_large r ≡ false → place_of_header s at n ≡ place → place ≤ e → HeadersPassed s e at n →
    HowFar s e at (fault r place n)
stops s e at r place n q w h p = record { stop = rw q w; inside = rw q h; passed = rw q p; met = n; place = w }

-- at the first item itself
pub stops-here : (s : List ℕ) (e at : ℕ) (r : Refusal) → is_large r ≡ false → at ≤ e → HowFar s e at (fault r at 0)
unfolding place_of_header
stops-here s e at r q h = stops s e at r at 0 q refl h (passed_none s e at)

-- n headers more

met-later : (large : Bool) (n p : ℕ) → pick large (n + p + 1) (n + p) ≡ n + pick large (p + 1) p
met-later true n p = omega arith
met-later false n p = omega arith

pub later-far : (s : List ℕ) (e at n next : ℕ) (f : Fault) → place_of_header s at n ≡ next → HeadersPassed s e at n → HowFar s e next f → HowFar s e at (later n f)
later-far s e at n next f w p h =
    let more = met-later (is_large f.reason) n f.passed in
    record {
      stop = ap (place_of_header s at) more ∙ walked-add s at n (met_by f) ∙ ap (λ k. place_of_header s k (met_by f)) w ∙ h.stop;
      inside = h.inside;
      passed = passed-same s e at (met_by (later n f)) (n + met_by f) more (passed-more s e at n next (met_by f) w p h.passed);
      met = n + h.met;
      place = walked-add s at n h.met ∙ ap (λ k. place_of_header s k h.met) w ∙ h.place;
    }

pub far_within : (s : List ℕ) (b e at : ℕ) (f : Fault) → b ≤ e → HowFar s b at f → HowFar s e at f
far_within s b e at f l h =
    let inside = h.inside in
    record { stop = h.stop; inside = omega arith; passed = passed-within s b e at (met_by f) l h.passed; met = h.met; place = h.place }

module _ {A : Type 0} (s : List ℕ) (e at : ℕ) where
  pub goes_after : (n next : ℕ) (x : Reading A) → place_of_header s at n ≡ next → HeadersPassed s e at n → Goes s e next x → Goes s e at (later_reading n x)
  goes_after n next (got a k m) w p g = (walked-add s at n m ∙ ap (λ k. place_of_header s k m) w ∙ g.0, g.1, passed-more s e at n next m w p g.2)
  goes_after n next (no f) w p g = later-far s e at n next f w p g

  pub goes-within : (b : ℕ) (x : Reading A) → b ≤ e → Goes s b at x → Goes s e at x
  goes-within b (got a next n) h g = let k = g.1 in (g.0, omega arith, passed-within s b e at n h g.2)
  goes-within b (no f) h g = far_within s b e at f h g

  pub fills-goes : (b : ℕ) (x : Reading A) → b ≤ e → Fills s b at x → Goes s e at x
  fills-goes b (got a next n) h g = let k = g.1 in (g.0, omega arith, passed-within s b e at n h g.2)
  fills-goes b (no f) h g = far_within s b e at f h g

  -- what follows a reading is a fault of its own, or what comes after it
  pub goes_then : {B : Type 0} (G : Reading A → Type 0) (x : Reading B) (g : B → ℕ → ℕ → Reading A) → Goes s e at x →
      ((f : Fault) → HowFar s e at f → G (no f)) →
      ((y : B) (next n : ℕ) → place_of_header s at n ≡ next → next ≤ e → HeadersPassed s e at n → G (g y next n)) → G (and_then x g)
  goes_then G (got y next n) g h j k = k y next n h.0 h.1 h.2
  goes_then G (no f) g h j k = j f h

-- a header's refusal is of the header
pub goes-body : {A : Type 0} (s : List ℕ) (low high e at : ℕ) (f : ℕ → Reading A) → at ≤ e →
    ((b : ℕ) → Framed s low high e at b → Goes s e at (f b)) → Goes s e at (in_body (body_at s low high e at) at f)
goes-body s low high e at f room g =
    body-cases (λ x. Goes s e at (in_body x at f)) s low high e at (stops-here s e at Refusal.Truncated refl room) (stops-here s e at Refusal.UnexpectedTag refl room) g

-- the bodies of one byte

module _ (s : List ℕ) (e at b : ℕ) (room : at ≤ e) (framed : Framed s 0x10 0x12 e at b) (alone : encloses (get_or s at 0) ≡ false) where
  one-goes : {A : Type 0} (x : A) → Goes s e at (got x b 1)
  one-goes x = (walked-over s at b alone framed.ends, framed.inside, passed-one s 0x10 0x12 e at b (type-tag framed) framed)

  integer-goes : Goes s e at (integer_at s at b)
  unfolding integer_at
  integer-goes = by-pick (Goes s e at) (eqb b (at + 4)) _ _ (λ _. go (integer_code (get_or s (at + 3) 0))) (λ _. stops-here s e at Refusal.Malformed refl room)
    where
      go : (x : Result IntegerKind UnknownCode) → Goes s e at (integer_by x at b)
      go (Ok k) = one-goes k
      go (Err _) = stops-here s e at Refusal.Malformed refl room

  carried-goes : (c : Convention) (f : FloatFormat) (inside : Bool) → Goes s e at (float_of c f inside at b)
  unfolding float_of
  carried-goes c f inside = by-pick (Goes s e at) (lacks_float c inside f) _ _ (λ _. stops-here s e at Refusal.FloatNotCarried refl room) (λ _. one-goes b)

  float-goes : (c : Convention) (inside : Bool) → Goes s e at (float_at c s inside at b)
  unfolding float_at
  float-goes c inside = by-pick (Goes s e at) (eqb b (at + 4)) _ _ (λ _. go (float_code (get_or s (at + 3) 0))) (λ _. stops-here s e at Refusal.Malformed refl room)
    where
      go : (x : Result FloatFormat UnknownCode) → Goes s e at (float_by c x inside at b)
      go (Ok FloatFormat.Single) = carried-goes c FloatFormat.Single inside
      go (Ok FloatFormat.Double) = carried-goes c FloatFormat.Double inside
      go (Ok FloatFormat.LongDouble) =
          by-pick (Goes s e at) inside _ _ (λ _. stops-here s e at Refusal.LongDoubleInStruct refl room) (λ _. carried-goes c FloatFormat.LongDouble inside)
      go (Err _) = stops-here s e at Refusal.Malformed refl room

-- a header's own body is room enough for it
pub framed-here : {s : List ℕ} {low high e at b : ℕ} → Framed s low high e at b → Framed s low high b at b
framed-here f = record { least = f.least; most = f.most; ends = f.ends; inside = omega arith }

-- types one after the other, after n headers from `at` on

module _ (s : List ℕ) (e at : ℕ) (reader : ℕ → Reading Tree) (goes : (k : ℕ) → k ≤ e → Goes s e k (reader k)) where
  pub sequence-goes : (most next n : ℕ) (ts : Trees) → place_of_header s at n ≡ next → next ≤ e → HeadersPassed s e at n → Fills s e at (sequence reader e most next n ts)
  unfolding sequence
  sequence-goes zero next n ts w h p =
      by-pick (Fills s e at) (ltb next e) _ _ (λ _. stops s e at Refusal.TooManyArguments next n refl w h p)
      (λ l. let k = ltb-false next e l in (w, omega arith, p))
  sequence-goes (suc most) next n ts w h p =
      by-choose (Fills s e at) (ltb next e) _ _
      (λ _. goes_then s e at (Fills s e at) (later_reading n (reader next)) _ (goes_after s e at n next (reader next) w p (goes next h)) (λ f k. k)
      (λ t onward m v k q. sequence-goes most onward m (ts ▸ t) v k q))
      (λ l. let k = ltb-false next e l in (w, omega arith, p))

-- a struct: its own header leads into its body

module _ (c : Convention) (s : List ℕ) (e at b : ℕ) (framed : Framed s 0x10 0x12 e at b) (tag : get_or s at 0 ≡ 0x12) where
  sized-goes : at + 3 < b → (ts : Trees) (next n : ℕ) → place_of_header s at n ≡ next → next ≡ b → HeadersPassed s b at n → Goes s e at (sized_at c at b n ts)
  unfolding sized_at place_of_header
  sized-goes some ts next n w q p =
      let own = walked-some s at n next w (omega arith) in
      let same : n - 1 + 1 ≡ n = omega arith in
      let ends = framed.ends in
      let inside = framed.inside in
      let room = passed-within s b e at n inside p in
      by-pick (Goes s e at) (ltb 256 (shape_of (fields_of c ts)).size) _ _
      (λ _. record {
        stop = ap (place_of_header s at) same ∙ w ∙ q ∙ ends;
        inside = omega arith;
        passed = passed-same s e at (n - 1 + 1) n same room;
        met = 0;
        place = refl;
      })
      (λ _. (w ∙ q, framed.inside, room))

  contents-goes : (reader : ℕ → Reading Tree) → ((k : ℕ) → k ≤ b → Goes s b k (reader k)) → Goes s e at (contents_at c reader at b)
  unfolding contents_at
  contents-goes reader goes =
      let ends = framed.ends in
      let inside = framed.inside in
      by-choose (Goes s e at) (eqb b (at + 3)) _ _ (λ _. stops-here s e at Refusal.Malformed refl (omega arith))
      (λ q.
      let differs = eqb-false b (at + 3) q in
      go (omega arith) (sequence reader b (b - (at + 3)) (at + 3) 1 none)
      (sequence-goes s b at reader goes (b - (at + 3)) (at + 3) 1 none (walked-into s at (rw (tag))) (omega arith) (passed-one s 0x10 0x12 b at b (type-tag framed) (framed-here framed))))
    where
      go : at + 3 < b → (x : Reading Trees) → Fills s b at x → Goes s e at (and_then x (λ ts next n. sized_at c at b n ts))
      go some (got ts next n) g = sized-goes some ts next n g.0 g.1 g.2
      go some (no f) g = far_within s b e at f framed.inside g

item-by-goes : (c : Convention) (s : List ℕ) (e at : ℕ) (structure : ℕ → ℕ → Reading Tree) (inside : Bool) → at ≤ e →
    ((b : ℕ) → Framed s 0x10 0x12 e at b → get_or s at 0 ≡ 0x12 → Goes s e at (structure at b)) → Goes s e at (item_by c structure inside s e at)
unfolding item_by
item-by-goes c s e at structure inside room goes = goes-body s 0x10 0x12 e at _ room (λ b framed.
    by-choose (Goes s e at) (eqb (get_or s at 0) 0x10) _ _ (λ q. integer-goes s e at b room framed (rw (eqb-true (get_or s at 0) 0x10 q)))
    (λ q. by-choose (Goes s e at) (eqb (get_or s at 0) 0x11) _ _ (λ r. float-goes s e at b room framed (rw (eqb-true (get_or s at 0) 0x11 r)) c inside)
    (λ r.
    let i = eqb-false (get_or s at 0) 0x10 q in
    let f = eqb-false (get_or s at 0) 0x11 r in
    goes b framed (omega arith))))

struct-goes : (c : Convention) (d : ℕ) (s : List ℕ) (e at b : ℕ) → at ≤ e → Framed s 0x10 0x12 e at b → get_or s at 0 ≡ 0x12 → Goes s e at (struct_at c d s at b)
unfolding struct_at
struct-goes c zero s e at b room framed tag = stops-here s e at Refusal.TooDeep refl room
struct-goes c (suc d) s e at b room framed tag =
    contents-goes c s e at b framed tag (λ k. item_by c (struct_at c d s) (ltb d 8) s b k)
    (λ k h. item-by-goes c s b k (struct_at c d s) (ltb d 8) h (λ b' framed' tag'. struct-goes c d s b k b' h framed' tag'))

pub item-goes : (c : Convention) (d : ℕ) (s : List ℕ) (e at : ℕ) → at ≤ e → Goes s e at (item_at c d s e at)
unfolding item_at
item-goes c d s e at room = item-by-goes c s e at (struct_at c d s) (ltb d 8) room (λ b framed tag. struct-goes c d s e at b room framed tag)

-- each header that was met begins before the place where the reading stopped, and three bytes or more after the one before
pub far-before : (s : List ℕ) (e at : ℕ) (f : Fault) → HowFar s e at f → (i : ℕ) → i < met_by f → place_of_header s at i + 3 ≤ stop_of s f
far-before s e at f h i l = omega (arith, walked-ascends s at i (met_by f) l, h.stop)

-- three bytes or more for each header that had passed
pub far-third : (s : List ℕ) (e at : ℕ) (f : Fault) → HowFar s e at f → at + 3 * f.passed ≤ e
far-third s e at f h =
    let far = walked-far s at (met_by f) in
    let stop = h.stop in
    let inside = h.inside in
    let more : f.passed ≤ met_by f = by-pick (λ n. f.passed ≤ n) (is_large f.reason) (f.passed + 1) f.passed (λ _. omega arith) (λ _. omega arith) in
    omega arith

-- one fault at one place has one count
pub far-unique : (s : List ℕ) (e at : ℕ) (r : Refusal) (place m n : ℕ) → HowFar s e at (fault r place m) → HowFar s e at (fault r place n) → m ≡ n
far-unique s e at r place m n f g = go (is_large r) (ltb m n) (ltb n m) refl refl (f.stop ∙ sym g.stop)
  where
    go : (large less more : Bool) → ltb m n ≡ less → ltb n m ≡ more → place_of_header s at (pick large (m + 1) m) ≡ place_of_header s at (pick large (n + 1) n) → m ≡ n
    go true true more p q e = let l = ltb-true m n p in absurd (walked_once s at (m + 1) (n + 1) (omega arith) e)
    go false true more p q e = absurd (walked_once s at m n (ltb-true m n p) e)
    go true false true p q e = let l = ltb-true n m q in absurd (walked_once s at (n + 1) (m + 1) (omega arith) (sym e))
    go false false true p q e = absurd (walked_once s at n m (ltb-true n m q) (sym e))
    go large false false p q e = let l = ltb-false m n p in let k = ltb-false n m q in omega arith

-- what whoever hands on an item's fault needs
pub fault-third : (c : Convention) (d : ℕ) (s : List ℕ) (e at : ℕ) (f : Fault) → at ≤ e → item_at c d s e at ≡ no f → at + 3 * f.passed ≤ e
fault-third c d s e at f room q =
    let goes : HowFar s e at f = rw q at (item-goes c d s e at room) in
    far-third s e at f goes
