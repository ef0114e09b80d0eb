-- One argument that can be read: its bytes are there, and as many as its size. Assumes nothing.
use Rattle.std.proofs.Common.{Option, Some, None}
use mathlib.Core.Path.{◌≡◌, refl, sym, ◌∙◌}
use mathlib.Core.Bool.{Bool, true, false}
use mathlib.Core.List.{List, [], ◌∷◌}
use Prim.Native.Nat.{ℕ, zero, suc, ◌+◌, ◌-◌, ◌*◌, ◌≤◌, ◌<◌}
use native.Mathlib.Omega.{arith}
use borrow.Author.Tests.{ltb-true, ltb-false}
use lib.Dec.{ltb}
use lib.ListN.{length, length-append}
use lib.Seq.{length-take-le}
use Rattle.base_words.specs.Basics.{pick, All}
use Rattle.base_words.specs.Splice.{part}
use Rattle.base_words.specs.Numbers.{value_of}
use Rattle.base_words.proofs.Splices.{length_part}
use Rattle.base_words.proofs.Numbers.{length-bytes_of}
use Rattle.base_ieee.specs.Narrowing.{narrow}
use Rattle.sig_types.specs.declared.Equivalent.{Equivalent}
use Rattle.sig_types.specs.Sizes.{equivalent_of}
use Rattle.plan_places.specs.declared.CallRules.{CallRules}
use Rattle.plan_places.specs.Step.{word_of}
use Rattle.plan_places.specs.Spots.{copies}
use Rattle.call_registers.specs.Registers.{gather}
use Rattle.call_registers.proofs.Registers.{length-gather}
use Rattle.call_slots.specs.Buffers.{Buffers, bytes_at}
use Rattle.call_slots.specs.Forms.{starts_at_head, own_start, room_of, narrowed_bytes, float_value_as, float_value}
use Rattle.call_slots.specs.Placements.{Placement, words_at, fpr_bytes_at, address_at, words_value, value_at, values_at}
use Rattle.call_slots.specs.Helpers.{FloatSized, Held, sizes_of}
use Rattle.call_slots.specs.Refusals.{narrowed_answer, float_answer}
use Rattle.call_unmarshal.specs.Helpers.{LiesIn, FprsHold, Readable}
use Rattle.call_slots.specs.Answer.{call_done}

pub float-room : (e : Equivalent) (m n l : ℕ) → FloatSized e m n → n ≤ l → FprsHold e (8 * m) l
float-room Equivalent.Single m n l h k = (omega (arith, h.0), omega (arith, h.1))
float-room Equivalent.Double m n l h k = (omega (arith, h.0), omega (arith, h.1))
float-room Equivalent.Nothing m n l h k = omega (arith, h.0, h.1)

-- a value's own bytes start in its first word
pub own_first : (r : CallRules) (p : Placement) → Held r p → p.span.indirect ≡ false → own_start r p.ty p.size < word_of r
unfolding own_start
own_first r p h e = go (starts_at_head r p.ty)
  where
    go : (s : Bool) → pick s 0 (room_of r p.size - p.size) < word_of r
    go true = omega (arith, h.word)
    go false = omega (arith, h.room e, h.word)

stored-length : (s m : ℕ) (l : List ℕ) → LiesIn s m (length l) → length (part s m l) ≡ m
stored-length s zero l h = refl
stored-length s (suc m) l h = length_part s (suc m) l (h (omega arith))

module _ (r : CallRules) (base : ℕ) (p : Placement) (b : Buffers) (h : Readable r base p b) where
  -- the value's own bytes lie in its words
  pub own-within : p.span.floating.count ≤ 0 → p.span.indirect ≡ false
      → own_start r p.ty p.size + p.size ≤ word_of r * p.span.general.count + p.span.memory.length
  unfolding own_start
  own-within none e = go (starts_at_head r p.ty)
    where
      no : p.span.floating.count ≡ 0
      no = omega arith

      go : (s : Bool) → pick s 0 (room_of r p.size - p.size) + p.size ≤ word_of r * p.span.general.count + p.span.memory.length
      go true = omega (arith, h.ready.registers.held.room e, h.ready.registers.held.words no)
      go false = omega (arith, h.ready.registers.held.room e, h.ready.registers.held.words no)

  length-words : length (words_at (word_of r) p.span b) ≡ word_of r * p.span.general.count + p.span.memory.length
  unfolding words_at bytes_at
  length-words =
      let k : ℕ = p.span.general.count in
      let bs : List ℕ = part (8 * p.span.general.first) (8 * k) b.image in
      let size : length bs ≡ 8 * k = length_part (8 * p.span.general.first) (8 * k) b.image (omega (arith, h.ready)) in
      length-append (gather (word_of r) k bs) (part p.span.memory.start p.span.memory.length b.area)
      ∙ rw (
        length-gather (word_of r) k bs h.ready.registers.held.word.1 (omega arith),
        stored-length p.span.memory.start p.span.memory.length b.area h.ready.memory,
      )

  length-fprs : length (fpr_bytes_at p.span b) ≡ 8 * p.span.floating.count
  unfolding bytes_at
  length-fprs = length_part (256 + 8 * p.span.floating.first) (8 * p.span.floating.count) b.image (omega (arith, h.ready))

-- a value in FPRs
narrowed-length : (q : Option ℕ) → narrowed_answer q ≡ call_done → length (narrowed_bytes q) ≡ 4
narrowed-length (Some x) e = length-bytes_of 4 x
narrowed-length None e = let z : ◌≡◌ {A = ℕ} 0 1 = cc in absurd (omega arith)

pub float-length : (r : CallRules) (e : Equivalent) (bs : List ℕ) (m n : ℕ) → FloatSized e m n → length bs ≡ 8 * m → float_answer r e (value_of bs) ≡ call_done
    → length (float_value_as r e bs) ≡ n
float-length (CallRules.Power f) Equivalent.Single bs m n s l d = narrowed-length (narrow (value_of bs)) d ∙ sym s.1
float-length CallRules.Z Equivalent.Single bs m n s l d = length-take-le 4 bs (omega (arith, s.0)) ∙ sym s.1
float-length r Equivalent.Double bs m n s l d = omega (arith, s.0, s.1)
float-length r Equivalent.Nothing bs m n s l d = omega (arith, s.0, s.1)

copy-length : (at n : ℕ) (b : Buffers) → at + n ≤ length b.copies → length (bytes_at (copies at) n b) ≡ n
unfolding bytes_at
copy-length at n b h = length_part at n b.copies h

-- every value that can be read has its size
pub value-length : (r : CallRules) (base : ℕ) (p : Placement) (b : Buffers) → Readable r base p b → length (value_at r base p b) ≡ p.size
unfolding value_at words_value float_value
value-length r base p b h = go (ltb 0 p.span.floating.count) refl
  where
    words : (i : Bool) → p.span.indirect ≡ i → p.span.floating.count ≤ 0
        → length
        (pick i (bytes_at (copies (address_at (word_of r) p.span b - base)) p.size b) (part (own_start r p.ty p.size) p.size (words_at (word_of r) p.span b)))
        ≡ p.size
    words true q none = copy-length (address_at (word_of r) p.span b - base) p.size b (h.inside none q).1
    words false q none =
        length_part (own_start r p.ty p.size) p.size (words_at (word_of r) p.span b) (omega (arith, own-within r base p b h none q, length-words r base p b h))

    go : (f : Bool) → ltb 0 p.span.floating.count ≡ f
        → length
        (pick f (float_value_as r (equivalent_of p.ty) (fpr_bytes_at p.span b))
        (pick p.span.indirect (bytes_at (copies (address_at (word_of r) p.span b - base)) p.size b)
        (part (own_start r p.ty p.size) p.size (words_at (word_of r) p.span b))))
        ≡ p.size
    go true q =
        let some : 0 < p.span.floating.count = ltb-true 0 p.span.floating.count q in
        float-length r (equivalent_of p.ty) (fpr_bytes_at p.span b) p.span.floating.count p.size (h.ready.registers.held.float some) (length-fprs r base p b h)
        (h.exact some)
    go false q = words p.span.indirect refl (ltb-false 0 p.span.floating.count q)

-- and so have those of several, one after the other
pub length-values : (r : CallRules) (base : ℕ) (ps : List Placement) (b : Buffers) → All (λ (p : Placement). Readable r base p b) ps → length (values_at r base ps b) ≡ sizes_of ps
unfolding All values_at sizes_of
length-values r base [] b h = refl
length-values r base (p ∷ ps) b h =
    length-append (value_at r base p b) (values_at r base ps b) ∙ rw (value-length r base p b h.0, length-values r base ps b h.1)
