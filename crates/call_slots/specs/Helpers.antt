-- For proofs and helpers alone: no claim cites this file.
-- What holds of each argument of a plan: how its span and its form agree, and that its places lie in the
-- plan's area and copies. The law `carried` has it of every signature. Assumes nothing.
use Rattle.std.specs.Prelude.{ℕ, ◌+◌, ◌*◌, ◌≤◌, ◌<◌, ◌≡◌, true, false, List, [], ◌∷◌, length}
use Rattle.sig_types.specs.declared.Equivalent.{Equivalent}
use Rattle.sig_types.specs.Sizes.{equivalent_of}
use Rattle.sig_signatures.specs.Limits.{max_arguments}
use Rattle.sig_signatures.specs.declared.SignatureRead.{SignatureRead}
use Rattle.plan_places.specs.declared.CallRules.{CallRules}
use Rattle.plan_places.specs.Step.{word_of}
use Rattle.plan_places.specs.Spots.{image_bytes}
use Rattle.plan_plans.specs.declared.Plan.{Plan}
use Rattle.call_slots.specs.Forms.{room_of, starts_at_head}
use Rattle.call_slots.specs.Placements.{Placement}

-- m FPRs hold a float of n bytes: a single and a double have one; a long double, which no struct is equivalent to, has "two successive FPRs" (No. 12)
abbrev pub FloatSized : Equivalent → ℕ → ℕ → Type 0
FloatSized Equivalent.Single m n = (m ≡ 1) × (n ≡ 4)
FloatSized Equivalent.Double m n = (m ≡ 1) × (n ≡ 8)
FloatSized Equivalent.Nothing m n = (m ≡ 2) × (n ≡ 16)

-- the span has room for exactly the argument's form
pub record Held (r : CallRules) (p : Placement) : Type 0 where
  pub word : (4 ≤ word_of r) × (word_of r ≤ 8)
  -- FPRs hold a whole float
  pub direct : 0 < p.span.floating.count → p.span.indirect ≡ false
  pub float : 0 < p.span.floating.count → FloatSized (equivalent_of p.ty) p.span.floating.count p.size
  -- else general registers and memory hold all words; beside FPRs they hold all or none; memory holds none or a word at least
  pub words : p.span.floating.count ≡ 0 → word_of r * p.span.general.count + p.span.memory.length ≡ room_of r p.size
  pub also : 0 < word_of r * p.span.general.count + p.span.memory.length
      → word_of r * p.span.general.count + p.span.memory.length ≡ room_of r p.size
  pub stored : 0 < p.span.memory.length → word_of r ≤ p.span.memory.length
  -- a value's words have no word too many
  pub room : p.span.indirect ≡ false → (p.size ≤ room_of r p.size) × (room_of r p.size < p.size + word_of r)
  pub whole : starts_at_head r p.ty ≡ true → p.span.indirect ≡ false
  -- what stands at the end of its words has at most 64 bits
  pub small : starts_at_head r p.ty ≡ false → p.span.indirect ≡ false → (1 ≤ p.size) × (p.size ≤ 8)
  -- an address is a doubleword: no convention with smaller words passes copies
  pub address : p.span.indirect ≡ true → (word_of r ≡ 8) × (room_of r p.size ≡ 8)
  pub copied : p.span.indirect ≡ true → p.span.copy.length ≡ p.size

-- the places lie in the registers' banks, in an area of a bytes, and in copies of c bytes
pub record Fits (a c : ℕ) (p : Placement) : Type 0 where
  pub general : p.span.general.first + p.span.general.count ≤ 32
  pub floating : p.span.floating.first + p.span.floating.count ≤ 32
  pub memory : p.span.memory.start + p.span.memory.length ≤ a
  pub copies : p.span.copy.start + p.span.copy.length ≤ c

-- an argument whose registers lie in an image of i bytes
pub record InImage (r : CallRules) (i : ℕ) (p : Placement) : Type 0 where
  pub held : Held r p
  pub general : p.span.general.first + p.span.general.count ≤ 32
  pub floating : p.span.floating.first + p.span.floating.count ≤ 32
  pub image : i ≡ image_bytes

-- the bytes of all values
unfoldable pub sizes_of : List Placement → ℕ
sizes_of [] = 0
sizes_of (p ∷ ps) = p.size + sizes_of ps

-- the tables of a signature that was read and of its plan have all of its arguments
pub record Tabled (g : SignatureRead) (p : Plan) : Type 0 where
  pub few : g.count ≤ max_arguments
  pub types : g.count ≤ length g.arguments
  pub spans : g.count ≤ length p.spans
