-- One argument: what its slots hold once they are put, that later slots leave it, and that reading it gives the value back.
-- Assumes nothing.
use mathlib.Core.Path.{◌≡◌, refl, sym, ap, ap₂, subst, ◌∙◌}
use mathlib.Core.Logic.{inr}
use mathlib.Core.Bool.{Bool, true, false}
use mathlib.Core.List.{List, [], ◌∷◌, ◌++◌}
use Prim.Native.Nat.{ℕ, zero, suc, ◌+◌, ◌-◌, ◌*◌, ◌≤◌, ◌<◌}
use native.Mathlib.Omega.{arith}
use native.Mathlib.Nat.{add-sub_cancel_left}
use borrow.Author.Tests.{ltb-true, ltb-false, le-leb}
use lib.Dec.{ltb}
use lib.ListN.{length, take, drop}
use lib.Seq.{take_all, take-add, length-take-le}
use Rattle.base_words.specs.Basics.{pick, All}
use Rattle.base_words.specs.Splice.{splice, part}
use Rattle.base_words.specs.Numbers.{Bytes, bytes_of, value_of}
use Rattle.base_words.proofs.Splices.{splice-same, splice-other, length-splice, length_part, part-prefix}
use Rattle.base_words.proofs.Numbers.{length-bytes_of, value-back}
use Rattle.sig_types.specs.Sizes.{equivalent_of}
use Rattle.plan_places.specs.declared.Cursor.{Cursor}
use Rattle.plan_places.specs.declared.CallRules.{CallRules}
use Rattle.plan_places.specs.Step.{word_of}
use Rattle.plan_places.specs.Spots.{general, floating, area, copies}
use Rattle.call_slots.specs.Buffers.{Buffers, Slot, put, put_all, bytes_at}
use Rattle.call_slots.specs.Forms.{room_of, home_bytes, own_start, float_form, float_bytes, float_value_as, float_value}
use Rattle.call_slots.specs.Placements.{Placement, standing, copy_bytes, slots_of, words_at, fpr_bytes_at, address_at, words_value, value_at}
use Rattle.call_slots.specs.Helpers.{FloatSized, InImage}
use Rattle.call_slots.proofs.Limits.{form-length, one_word}
use Rattle.call_slots.proofs.Planned.{copy-in}
use Rattle.call_registers.specs.Registers.{spread, gather}
use Rattle.call_registers.proofs.Registers.{length-spread, gather-spread}
use Rattle.call_slots.proofs.Buffers.{SameLengths}
use Rattle.call_slots.specs.Refusals.{or_else, float_answer}
use Rattle.call_marshal.specs.Helpers.{CanPut}
use Rattle.call_read.specs.Read.{in_copies, copy_answer, own_held, agrees, agree_answer, argument_answer}
use Rattle.call_read.proofs.Agree.{same_refl}
use Rattle.call_roundtrip.proofs.Kept.{Upto, Banked, Later, kept-all}
use Rattle.call_roundtrip.proofs.Forms.{float_back, own_back, length-home}
use Rattle.call_slots.specs.Answer.{call_done}

-- what the buffers b hold of the argument p, of value v
pub record Stands (r : CallRules) (base : ℕ) (p : Placement) (v : List ℕ) (b : Buffers) : Type 0 where
  pub floats : bytes_at (floating p.span.floating.first) (8 * p.span.floating.count) b ≡ take (8 * p.span.floating.count) (float_bytes r p.ty v)
  pub registers : bytes_at (general p.span.general.first) (8 * p.span.general.count) b ≡ spread (word_of r) p.span.general.count (standing r base p v)
  pub memory : bytes_at (area p.span.memory.start) p.span.memory.length b
      ≡ part (word_of r * p.span.general.count) p.span.memory.length (standing r base p v)
  pub copy : bytes_at (copies p.span.copy.start) (length (copy_bytes p v)) b ≡ copy_bytes p v

-- an argument that can be put in the buffers, and its value
pub record Given (r : CallRules) (base : ℕ) (p : Placement) (v : List ℕ) (b : Buffers) : Type 0 where
  pub room : CanPut r base (length b.image) (length b.area) (length b.copies) p
  pub size : length v ≡ p.size
  pub bytes : Bytes v

module _ (r : CallRules) (base : ℕ) (p : Placement) (v : List ℕ) (b : Buffers) (g : Given r base p v b) where
  -- ---- lengths

  -- the form of a value that is passed itself
  value-length : p.span.indirect ≡ false → length (home_bytes r p.ty p.size v) ≡ room_of r p.size
  value-length q =
      ap (λ (n : ℕ). length (home_bytes r p.ty n v)) (sym g.size)
      ∙ length-home r p.ty v (λ e. rw g.size (g.room.registers.held.room q).0)
      ∙ ap (room_of r) g.size

  value-stands : p.span.indirect ≡ false → standing r base p v ≡ home_bytes r p.ty p.size v
  unfolding standing
  value-stands q = rw q

  -- all words of an argument that is in no FPR
  words-length : p.span.floating.count ≤ 0 → length (standing r base p v) ≡ word_of r * p.span.general.count + p.span.memory.length
  unfolding standing
  words-length none = go p.span.indirect refl
    where
      no : p.span.floating.count ≡ 0
      no = omega arith

      go : (i : Bool) → p.span.indirect ≡ i
          → length (pick i (bytes_of (word_of r) (base + p.span.copy.start)) (home_bytes r p.ty p.size v)) ≡ word_of r * p.span.general.count + p.span.memory.length
      go true q = length-bytes_of (word_of r) (base + p.span.copy.start) ∙ sym (one_word r p g.room.registers.held none q)
      go false q = value-length q ∙ sym (g.room.registers.held.words no)

  sized : 0 < p.span.floating.count → FloatSized (equivalent_of p.ty) p.span.floating.count (length v)
  sized some = rw g.size (g.room.registers.held.float some)

  run_length : 0 < p.span.floating.count → length (float_form r (equivalent_of p.ty) v) ≡ 8 * p.span.floating.count
  run_length some = form-length r (equivalent_of p.ty) p.span.floating.count v (sized some)

  floats-length : length (take (8 * p.span.floating.count) (float_bytes r p.ty v)) ≡ 8 * p.span.floating.count
  unfolding float_bytes
  floats-length = go (ltb 0 p.span.floating.count) refl
    where
      go : (f : Bool) → ltb 0 p.span.floating.count ≡ f → length (take (8 * p.span.floating.count) (float_form r (equivalent_of p.ty) v)) ≡ 8 * p.span.floating.count
      go true q =
          length-take-le (8 * p.span.floating.count) (float_form r (equivalent_of p.ty) v) (omega (arith, run_length (ltb-true 0 p.span.floating.count q)))
      go false q =
          let none : p.span.floating.count ≤ 0 = ltb-false 0 p.span.floating.count q in
          let no : p.span.floating.count ≡ 0 = omega arith in
          rw no

  -- beside FPRs there are all words of the value, or none
  word_room : word_of r * p.span.general.count + p.span.memory.length ≤ length (standing r base p v)
  word_room = go (ltb 0 p.span.floating.count) refl
    where
      words : (n : ℕ) → word_of r * p.span.general.count + p.span.memory.length ≡ n → p.span.indirect ≡ false → n ≤ length (standing r base p v)
      words zero e q = omega arith
      words (suc n) e q = omega (arith, g.room.registers.held.also (omega arith), ap length (value-stands q), value-length q)

      go : (f : Bool) → ltb 0 p.span.floating.count ≡ f → word_of r * p.span.general.count + p.span.memory.length ≤ length (standing r base p v)
      go true q = words (word_of r * p.span.general.count + p.span.memory.length) refl (g.room.registers.held.direct (ltb-true 0 p.span.floating.count q))
      go false q = let none : p.span.floating.count ≤ 0 = ltb-false 0 p.span.floating.count q in omega (arith, words-length none)

  registers-length : length (spread (word_of r) p.span.general.count (standing r base p v)) ≡ 8 * p.span.general.count
  registers-length = length-spread (word_of r) p.span.general.count (standing r base p v) g.room.registers.held.word.1 (omega (arith, word_room))

  memory-length : length (part (word_of r * p.span.general.count) p.span.memory.length (standing r base p v)) ≡ p.span.memory.length
  memory-length = length_part (word_of r * p.span.general.count) p.span.memory.length (standing r base p v) (omega (arith, word_room))

  copy-room : p.span.copy.start + length (copy_bytes p v) ≤ length b.copies
  copy-room = copy-in r p v (length b.copies) g.room.registers.held (omega (arith, g.size)) g.room.copies

  -- ---- put
  pub stands-put : Stands r base p v (put_all (slots_of r base p v) b)
  unfolding slots_of put_all put bytes_at
  stands-put =
      let f : ℕ = 256 + 8 * p.span.floating.first in
      let a : ℕ = 8 * p.span.general.first in
      let fs : List ℕ = take (8 * p.span.floating.count) (float_bytes r p.ty v) in
      let ws : List ℕ = spread (word_of r) p.span.general.count (standing r base p v) in
      let ms : List ℕ = part (word_of r * p.span.general.count) p.span.memory.length (standing r base p v) in
      let i : List ℕ = splice b.image f fs in
      let li : length i ≡ length b.image = length-splice b.image f fs in
      let e = floats-length in
      let h = registers-length in
      record {
        floats =
            ap (λ (m : ℕ). part f m (splice i a ws)) (sym floats-length)
            ∙ splice-other i a ws f (length fs) (inr (omega (arith, g.room)))
            ∙ splice-same b.image f fs (omega (arith, g.room));
        registers =
            ap (λ (m : ℕ). part a m (splice i a ws)) (sym registers-length)
            ∙ splice-same i a ws (omega (arith, g.room));
        memory =
            ap (λ (m : ℕ). part p.span.memory.start m (splice b.area p.span.memory.start ms)) (sym memory-length)
            ∙ splice-same b.area p.span.memory.start ms (omega (arith, g.room, memory-length));
        copy = splice-same b.copies p.span.copy.start (copy_bytes p v) copy-room;
      }

  -- ---- read
  module _ (c : Buffers) (s : Stands r base p v c) (l : length c.copies ≡ length b.copies) where
    words_back : p.span.floating.count ≤ 0 → words_at (word_of r) p.span c ≡ standing r base p v
    unfolding words_at
    words_back none =
        let k : ℕ = p.span.general.count in
        let ws : List ℕ = standing r base p v in
        ap₂ (λ (x y : List ℕ). gather (word_of r) k x ++ y) s.registers s.memory
        ∙ ap (λ (x : List ℕ). x ++ part (word_of r * k) p.span.memory.length ws) (gather-spread (word_of r) k ws g.room.registers.held.word.1 (omega (arith, words-length none)))
        ∙ sym (take-add (word_of r * k) p.span.memory.length ws)
        ∙ take_all (word_of r * k + p.span.memory.length) ws (omega (arith, words-length none))

    pub float-stands : 0 < p.span.floating.count → fpr_bytes_at p.span c ≡ float_form r (equivalent_of p.ty) v
    unfolding float_bytes
    float-stands some = s.floats ∙ take_all (8 * p.span.floating.count) (float_form r (equivalent_of p.ty) v) (omega (arith, run_length some))

    pub float_read : 0 < p.span.floating.count
        → (float_answer r (equivalent_of p.ty) (value_of (fpr_bytes_at p.span c)) ≡ call_done) × (float_value_as r (equivalent_of p.ty) (fpr_bytes_at p.span c) ≡ v)
    float_read some =
        let back = float_back r (equivalent_of p.ty) p.span.floating.count v (sized some) g.bytes in
        (ap (λ (l : List ℕ). float_answer r (equivalent_of p.ty) (value_of l)) (float-stands some) ∙ back.0, ap (float_value_as r (equivalent_of p.ty)) (float-stands some) ∙ back.1)

    -- 26 is not given: what stands in general registers are bytes of the value, and so is what stands in FPRs
    float-agrees : 0 < p.span.floating.count → agrees r p c ≡ true
    unfolding agrees own_held float_value
    float-agrees some =
        let q : p.span.indirect ≡ false = g.room.registers.held.direct some in
        let o : ℕ = own_start r p.ty p.size in
        let k : ℕ = p.span.general.count in
        let hs : List ℕ = home_bytes r p.ty p.size v in
        let own : List ℕ = part o p.size (take (word_of r * k) hs) in
        let held : gather (word_of r) k (bytes_at (general p.span.general.first) (8 * k) c) ≡ take (word_of r * k) hs =
        ap (gather (word_of r) k) s.registers
        ∙ gather-spread (word_of r) k (standing r base p v) g.room.registers.held.word.1 (omega (arith, word_room))
        ∙ ap (take (word_of r * k)) (value-stands q) in
        let value : part o p.size hs ≡ v =
        ap (λ (n : ℕ). part (own_start r p.ty n) n (home_bytes r p.ty n v)) (sym g.size)
        ∙ own_back r p.ty v g.bytes (λ e. rw g.size ((g.room.registers.held.small e q).1, (g.room.registers.held.room q).0)) in
        let same : take (length own) v ≡ own = ap (take (length own)) (sym value) ∙ part-prefix o p.size (word_of r * k) hs in
        rw (held, (float_read some).1, same) (same_refl own)

    address-back : p.span.floating.count ≤ 0 → p.span.indirect ≡ true → address_at (word_of r) p.span c ≡ base + p.span.copy.start
    unfolding standing
    address-back none q =
        let m : standing r base p v ≡ bytes_of 8 (base + p.span.copy.start) = rw (q, (g.room.registers.held.address q).0) in
        ap value_of (words_back none ∙ m) ∙ value-back 8 (base + p.span.copy.start) (omega (arith, g.room.low))

    copied-back : p.span.indirect ≡ true → bytes_at (copies p.span.copy.start) p.size c ≡ v
    copied-back q =
        let x : bytes_at (copies p.span.copy.start) (length v) c ≡ v = rw q at s.copy in
        ap (λ (n : ℕ). bytes_at (copies p.span.copy.start) n c) (sym g.size) ∙ x

    pub own_value : p.span.floating.count ≤ 0 → p.span.indirect ≡ false → part (own_start r p.ty p.size) p.size (words_at (word_of r) p.span c) ≡ v
    unfolding standing
    own_value none q =
        let m : standing r base p v ≡ home_bytes r p.ty p.size v = rw q in
        ap (part (own_start r p.ty p.size) p.size) (words_back none ∙ m)
        ∙ ap (λ (n : ℕ). part (own_start r p.ty n) n (home_bytes r p.ty n v)) (sym g.size)
        ∙ own_back r p.ty v g.bytes (λ e. rw g.size ((g.room.registers.held.small e q).1, (g.room.registers.held.room q).0))

    in-copies : p.span.indirect ≡ true → in_copies (base + p.span.copy.start) base p.size (length c.copies) ≡ true
    in-copies q =
        let e : base + p.span.copy.start - base ≡ p.span.copy.start = add-sub_cancel_left base p.span.copy.start in
        let x : base ≤ base + p.span.copy.start = omega arith in
        let y : p.span.copy.start + p.size ≤ length c.copies = omega (arith, g.room.registers.held.copied q, g.room.copies) in
        simp (le-leb base (base + p.span.copy.start) x, e, le-leb (p.span.copy.start + p.size) (length c.copies) y)

    pub stands-done : argument_answer r base p c ≡ call_done
    unfolding argument_answer
    stands-done = go (ltb 0 p.span.floating.count) refl
      where
        words : (i : Bool) → p.span.indirect ≡ i → p.span.floating.count ≤ 0
            → pick i (copy_answer (in_copies (address_at (word_of r) p.span c) base p.size (length c.copies))) call_done ≡ call_done
        words true q none =
            ap (λ (x : ℕ). copy_answer (in_copies x base p.size (length c.copies))) (address-back none q) ∙ ap copy_answer (in-copies q)
        words false q none = refl

        go : (f : Bool) → ltb 0 p.span.floating.count ≡ f
            → pick f (or_else (float_answer r (equivalent_of p.ty) (value_of (fpr_bytes_at p.span c))) (agree_answer (agrees r p c)))
            (pick p.span.indirect (copy_answer (in_copies (address_at (word_of r) p.span c) base p.size (length c.copies))) call_done)
            ≡ call_done
        go true q =
            let some : 0 < p.span.floating.count = ltb-true 0 p.span.floating.count q in
            ap₂ or_else (float_read some).0 (ap agree_answer (float-agrees some))
        go false q = words p.span.indirect refl (ltb-false 0 p.span.floating.count q)

    pub stands-value : value_at r base p c ≡ v
    unfolding value_at words_value float_value
    stands-value = go (ltb 0 p.span.floating.count) refl
      where
        words : (i : Bool) → p.span.indirect ≡ i → p.span.floating.count ≤ 0
            → pick i (bytes_at (copies (address_at (word_of r) p.span c - base)) p.size c) (part (own_start r p.ty p.size) p.size (words_at (word_of r) p.span c)) ≡ v
        words true q none =
            ap (λ (x : ℕ). bytes_at (copies (x - base)) p.size c) (address-back none q)
            ∙ ap (λ (x : ℕ). bytes_at (copies x) p.size c) (add-sub_cancel_left base p.span.copy.start)
            ∙ copied-back q
        words false q none = own_value none q

        go : (f : Bool) → ltb 0 p.span.floating.count ≡ f
            → pick f (float_value_as r (equivalent_of p.ty) (fpr_bytes_at p.span c))
            (pick p.span.indirect (bytes_at (copies (address_at (word_of r) p.span c - base)) p.size c)
            (part (own_start r p.ty p.size) p.size (words_at (word_of r) p.span c)))
            ≡ v
        go true q = (float_read (ltb-true 0 p.span.floating.count q)).1
        go false q = words p.span.indirect refl (ltb-false 0 p.span.floating.count q)

-- ---- kept

-- the four places end at or before a cursor, and lie in their banks
pub record Behind (d : Cursor) (p : Placement) (v : List ℕ) : Type 0 where
  pub floats : Upto d (floating p.span.floating.first) (8 * p.span.floating.count)
  pub floats-bank : Banked (floating p.span.floating.first) (8 * p.span.floating.count)
  pub registers : Upto d (general p.span.general.first) (8 * p.span.general.count)
  pub registers-bank : Banked (general p.span.general.first) (8 * p.span.general.count)
  pub memory : Upto d (area p.span.memory.start) p.span.memory.length
  pub copy : Upto d (copies p.span.copy.start) (length (copy_bytes p v))

pub stands-kept : (r : CallRules) (base : ℕ) (p : Placement) (v : List ℕ) (b : Buffers) (d : Cursor) (ss : List Slot) → Behind d p v → All (Later d) ss
    → Stands r base p v b → Stands r base p v (put_all ss b)
stands-kept r base p v b d ss h l s = record {
  floats = kept-all d _ _ ss b h.floats h.floats-bank l ∙ s.floats;
  registers = kept-all d _ _ ss b h.registers h.registers-bank l ∙ s.registers;
  memory = kept-all d _ _ ss b h.memory tt l ∙ s.memory;
  copy = kept-all d _ _ ss b h.copy tt l ∙ s.copy;
}

-- ---- several

-- an argument that stands in buffers with room for it
pub record Put (r : CallRules) (base : ℕ) (p : Placement) (v : List ℕ) (b : Buffers) : Type 0 where
  pub given : Given r base p v b
  pub stands : Stands r base p v b

-- each of several, with its own of the values that stand one after the other in v
unfoldable pub EachValue : (Placement → List ℕ → Type 0) → List Placement → List ℕ → Type 0
EachValue P [] v = Unit {0}
EachValue P (p ∷ ps) v = P p (take p.size v) × EachValue P ps (drop p.size v)

abbrev pub AllPut : CallRules → ℕ → List Placement → List ℕ → Buffers → Type 0
AllPut r base ps v b = EachValue (λ (p : Placement) (x : List ℕ). Put r base p x b) ps v

-- room depends on lengths alone
pub given-same : (r : CallRules) (base : ℕ) (p : Placement) (v : List ℕ) (b c : Buffers) → SameLengths b c → Given r base p v b → Given r base p v c
given-same r base p v b c l g = record {
  room = record {
    registers = subst (λ (i : ℕ). InImage r i p) (sym l.image) g.room.registers;
    memory = omega (arith, g.room.memory, l.area);
    copies = omega (arith, g.room.copies, l.copies);
    low = g.room.low;
  };
  size = g.size;
  bytes = g.bytes;
}
