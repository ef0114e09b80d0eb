-- What is proved of the walker, each claim one type. Assumes nothing.
use Rattle.std.specs.Prelude.{ℕ, ◌+◌, ◌^◌, ◌≤◌, ◌≡◌, false, List, [], ◌∷◌, ◌++◌, take, drop, Ok, Err}
use Rattle.base_conventions.specs.declared.Convention.{Convention}
use Rattle.sig_types.specs.Sizes.{size_of}
use Rattle.sig_types.specs.Trees.{Tree, Trees, none, ◌▸◌, type_of}
use Rattle.sig_types.specs.Limits.{AllWithin}
use Rattle.sig_items.specs.Reading.{Reading, got, no}
use Rattle.sig_items.specs.Encode.{encode_tree}
use Rattle.sig_signatures.specs.Signature.{Signature}
use Rattle.sig_signatures.specs.Read.{signature_of}
use Rattle.sig_signatures.specs.Types.{types_of}
use Rattle.plan_places.specs.Step.{rules_of, start_of}
use Rattle.plan_plans.specs.Plan.{last_of}
use Rattle.call_slots.specs.Buffers.{Buffers}
use Rattle.call_read.specs.Read.{read_lengths, read_answer, read_values}
use Rattle.call_walker.specs.declared.WalkerAnswer.{WalkerAnswer}
use Rattle.call_walker.specs.declared.Counters.{Counters}
use Rattle.call_walker.specs.declared.Walker.{Walker}
use Rattle.call_walker.specs.Walker.{counters_of, lost, max_counter}
use Rattle.call_walker.specs.Words.{WalkerOutcome, walker_outcome, walker_step, walk_start_answer, walker_start_words}
use Rattle.call_slots.specs.Answer.{call_done}

-- ---- 23: counters "that no arguments, however many, lead to"

-- some arguments, of types that a signature may have, whose last cursor has the walker's counters
pub record Led (w : Walker) : Type 0 where
  pub arguments : Trees
  pub within : AllWithin w.convention arguments
  pub last : counters_of (rules_of w.convention)
      (last_of w.convention (rules_of w.convention) (start_of (rules_of w.convention) w.hidden) (types_of w.convention arguments)) ≡ w.at

-- no counter is "over 2^32"
pub record Small (k : Counters) : Type 0 where
  pub general : k.general ≤ max_counter
  pub floating : k.floating ≤ max_counter
  pub stack : k.stack ≤ max_counter

-- 23 is given for all other counters, and for those alone
pub record LostExactly (w : Walker) : Type 0 where
  pub small : lost w ≡ false → Small w.at
  pub led : lost w ≡ false → Led w
  pub found : Small w.at → Led w → lost w ≡ false

-- ---- "Where plain reading accepts, a walk over the declared types gives the same"

-- the arguments from left to right
unfoldable pub in_order : Trees → List Tree
in_order none = []
in_order (ts ▸ t) = in_order ts ++ t ∷ []

-- a step and what follows it, where the step is accepted: the values follow each other
abbrev pub followed_by : WalkerAnswer → WalkerOutcome → WalkerOutcome → WalkerOutcome
followed_by (WalkerAnswer.Called (Ok tt)) o rest = walker_outcome rest.answer rest.words (o.value ++ rest.value)
followed_by (WalkerAnswer.Called (Err x)) o rest = o
followed_by WalkerAnswer.Lost o rest = o

-- the walk over types, one after the other: each is asked for with its bytes, and with as much of the values v as it has
unfoldable pub walk_over : Convention → List ℕ → List Tree → ℕ → Buffers → List ℕ → WalkerOutcome
walk_over c ws [] base b v = walker_outcome (WalkerAnswer.Called call_done) ws []
walk_over c ws (t ∷ ts) base b v =
    let n = size_of c (type_of c t) in
    let o = walker_step ws (encode_tree t) base b (take n v) in
    followed_by o.answer o (walk_over c o.words ts base b (drop n v))

-- of a signature that was read, walked from its start, whatever the words ws were before
abbrev pub walk_whole : Reading Signature → List ℕ → ℕ → Buffers → List ℕ → WalkerOutcome
walk_whole (got g next n) ws base b v = walk_over g.convention (walker_start_words (got g next n) ws) (in_order g.arguments) base b v
walk_whole (no f) ws base b v = walker_outcome (walk_start_answer (no f)) ws []

pub record SameWalk (s ws : List ℕ) (base : ℕ) (b : Buffers) (v : List ℕ) : Type 0 where
  pub start : walk_start_answer (signature_of s) ≡ WalkerAnswer.Called call_done
  pub answer : (walk_whole (signature_of s) ws base b v).answer ≡ WalkerAnswer.Called call_done
  pub values : (walk_whole (signature_of s) ws base b v).value ≡ read_values s base call_done b v

-- of values v, the register image, the area and the copies b
abbrev pub WalksAlike : Type 0
WalksAlike = (s ws : List ℕ) (base : ℕ) (b : Buffers) (v : List ℕ) → read_answer s (read_lengths v b.image b.area) base b ≡ call_done → SameWalk s ws base b v
