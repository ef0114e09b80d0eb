-- For proofs and helpers alone: no claim cites this file.
-- What planners ask of a signature that was read: it holds of every answer of the reader (law `answer-plannable`);
-- and the answer from the arguments on. Assumes nothing.
use Rattle.sig_items.specs.declared.Fault.{Fault}
use Rattle.std.specs.Prelude.{ℕ, ◌≤◌, ◌<◌, ◌+◌, ◌*◌, length, get_or, Bool, ltb, Some, None, Option, Result, Ok, Err}
use Rattle.base_conventions.specs.declared.Convention.{Convention}
use Rattle.sig_types.specs.declared.IntegerKind.{IntegerKind}
use Rattle.sig_types.specs.declared.ValueType.{ValueType}
use Rattle.sig_types.specs.Sizes.{size_of, max_size}
use Rattle.sig_signatures.specs.declared.SignatureRead.{SignatureRead}
use Rattle.sig_signatures.specs.Limits.{max_arguments}
use Rattle.sig_signatures.specs.Answer.{argument, refused_signature, accepted}
use Rattle.base_words.specs.Basics.{pick}
use Rattle.sig_types.specs.Trees.{Trees}
use Rattle.sig_items.specs.declared.Refusal.{Refusal}
use Rattle.sig_items.specs.Reading.{Reading, fault, got, no, later}

-- refusal 8: no "struct size over 256"
abbrev pub SmallResult : Convention → Option ValueType → Type 0
SmallResult c None = Unit {0}
SmallResult c (Some t) = size_of c t ≤ max_size

abbrev pub type_at : SignatureRead → ℕ → ValueType
type_at g i = (get_or g.arguments i (argument (ValueType.Integer IntegerKind.I8))).ty

pub record Plannable (g : SignatureRead) : Type 0 where
  pub few : g.count ≤ max_arguments
  pub room : g.count ≤ length g.arguments
  pub result : SmallResult g.convention g.result
  pub small : (i : ℕ) → i < g.count → size_of g.convention (type_at g i) ≤ max_size

-- from the arguments on, in a signature of `all` bytes, where the convention and the result's type took n items
abbrev pub with_arguments : Convention → Option ValueType → Bool → ℕ → ℕ → Reading Trees → SignatureRead
with_arguments c r v n all (got ts next m) = pick (ltb next all) (refused_signature (fault Refusal.TrailingBytes next (n + m))) (accepted c r v ts (n + m))
with_arguments c r v n all (no f) = refused_signature (later n f)

-- n words, w for each, are enough for as many arguments as can stand between `at` and e: each takes three bytes or more
abbrev pub RoomFor : ℕ → ℕ → ℕ → ℕ → Type 0
RoomFor w at e n = (i : ℕ) → i ≤ max_arguments → at + 3 * i ≤ e → w * i ≤ n

-- the answer on an item's header alone: where its body ends, or the fault of the item at `at`
abbrev pub body_answer : ℕ → Result ℕ Refusal → Result ℕ Fault
body_answer at (Ok b) = Ok b
body_answer at (Err r) = Err (fault r at 0)
