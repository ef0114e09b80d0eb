-- An argument stands in what a callee finds, where it stands in what filling left and the two agree on its registers, its memory and the copies. Assumes nothing.
use mathlib.Core.Path.{◌≡◌, refl, sym, ap, ap₂, ◌∙◌, subst}
use mathlib.Core.List.{List, [], ◌∷◌, ◌++◌}
use Prim.Native.Nat.{ℕ, zero, suc, ◌+◌, ◌*◌, ◌^◌, ◌≤◌, ◌<◌}
use native.Mathlib.Omega.{arith}
use lib.ListN.{length, get_or, take, drop, length-append, length-drop, length-take}
use lib.Seq.{take-append-le, drop-append-le, drop-append-add}
use Rattle.base_words.specs.Basics.{All}
use Rattle.base_words.specs.Splice.{part}
use Rattle.base_words.specs.Numbers.{Bytes, bytes_of, value_of}
use Rattle.base_words.proofs.Splices.{part-add, part-part, length_part}
use Rattle.base_words.proofs.Numbers.{bytes-bytes_of, bytes-append, bytes_of-value, value-below}
use Rattle.base_conventions.specs.declared.Convention.{Convention}
use Rattle.sig_types.specs.declared.ValueType.{ValueType}
use Rattle.plan_places.specs.declared.Bank.{Bank}
use Rattle.plan_places.specs.declared.CallRules.{CallRules}
use Rattle.plan_places.specs.declared.Span.{Span}
use Rattle.call_slots.specs.Buffers.{Buffers, buffers, bytes_at}
use Rattle.call_slots.specs.Placements.{Placement, placements, copy_bytes}
use Rattle.call_slots.specs.Helpers.{Fits}
use Rattle.call_slots.proofs.Planned.{in_image_lem, copy-in}
use Rattle.call_roundtrip.proofs.Arguments.{Put, AllPut, EachValue}
use Rattle.frame_rules.specs.declared.FrameRules as frames
use Rattle.frame_rules.specs.declared.Registers.{Registers}
use Rattle.frame_rules.specs.Helpers.{LawfulFrames}
use Rattle.both_whole_call.specs.Put.{Register, register, file_of, words_of, image_of, image_at, in_image}
use Rattle.both_whole_call.proofs.Lists.{words-length, words-at}
use Rattle.both_whole_call.proofs.Registers.{Holds, most_in}
use Rattle.both_whole_call.proofs.Named.{OfSpan}
use Rattle.both_whole_call.proofs.Filled.{OfBytes}

-- two images have the same for a register
abbrev pub Same : List ℕ → List ℕ → Register → Type 0
Same i j x = part (image_at x.bank x.number) 8 i ≡ part (image_at x.bank x.number) 8 j

image-room : (b : Bank) (n : ℕ) → n < 32 → image_at b n + 8 ≤ 512
image-room Bank.General n h = omega arith
image-room Bank.Floating n h = omega arith

part-eight : (image : List ℕ) → length image ≡ 512 → (b : Bank) (n : ℕ) → n < 32 → length (part (image_at b n) 8 image) ≡ 8
part-eight image size b n h = length_part (image_at b n) 8 image (omega (arith, image-room b n h))

-- what it has for a register is a number that the register takes
pub image-fits : (k : frames.FrameRules) → LawfulFrames k → (image : List ℕ) → length image ≡ 512 → (x : Register) → x.number < 32 → OfBytes k.word image x → in_image image x ≤ most_in k x.bank
image-fits k law image size x h o = go x.bank o
  where
    go : (b : Bank) → OfBytes k.word image (register b x.number) → in_image image (register b x.number) ≤ most_in k b
    go Bank.General o = omega (arith, o.1, law.limit)
    go Bank.Floating o =
        let below : in_image image (register Bank.Floating x.number) < 2 ^ 64
        = subst (λ (n : ℕ). in_image image (register Bank.Floating x.number) < 2 ^ (8 * n)) (part-eight image size Bank.Floating x.number h)
        (value-below (part (image_at Bank.Floating x.number) 8 image) o.0) in
        omega arith

-- ---- the machine's image

module _ (r : Registers) (gprs : length r.gpr ≡ 32) (fprs : length r.fpr ≡ 32) where
  pub image-length : length (image_of r) ≡ 512
  image-length = simp length-append (omega (arith, words-length r.gpr, words-length r.fpr))

  pub image-at : (b : Bank) (n : ℕ) → n < 32 → part (image_at b n) 8 (image_of r) ≡ bytes_of 8 (get_or (file_of b r) n 0)
  image-at Bank.General n h =
      let g : List ℕ = words_of r.gpr in
      let size : length g ≡ 256 = omega (arith, words-length r.gpr) in
      ap (take 8) (drop-append-le (8 * n) g (words_of r.fpr) (omega arith))
      ∙ take-append-le 8 (drop (8 * n) g) (words_of r.fpr) (omega (arith, length-drop (8 * n) g))
      ∙ words-at r.gpr n (omega arith)
  image-at Bank.Floating n h =
      let g : List ℕ = words_of r.gpr in
      let e : 256 + 8 * n ≡ length g + 8 * n = omega (arith, words-length r.gpr) in
      ap (λ (at : ℕ). part at 8 (g ++ words_of r.fpr)) e ∙ ap (take 8) (drop-append-add g (words_of r.fpr) (8 * n)) ∙ words-at r.fpr n (omega arith)

  -- a register that holds the number that an image has in bytes for it has the same bytes
  pub image-same : (image : List ℕ) → length image ≡ 512 → (x : Register) → x.number < 32 → Bytes (part (image_at x.bank x.number) 8 image) → Holds image r x → Same (image_of r) image x
  image-same image size x h bytes e =
      let at : ℕ = image_at x.bank x.number in
      image-at x.bank x.number h
      ∙ ap (bytes_of 8) e
      ∙ ap (λ (n : ℕ). bytes_of n (value_of (part at 8 image))) (sym (part-eight image size x.bank x.number h))
      ∙ bytes_of-value (part at 8 image) bytes

-- it is of bytes
words-bytes : (xs : List ℕ) → Bytes (words_of xs)
unfolding words_of
words-bytes [] = λ i. omega arith
words-bytes (x ∷ xs) = bytes-append (bytes_of 8 x) (words_of xs) (bytes-bytes_of 8 x) (words-bytes xs)

pub image-bytes : (r : Registers) → Bytes (image_of r)
image-bytes r = bytes-append (words_of r.gpr) (words_of r.fpr) (words-bytes r.gpr) (words-bytes r.fpr)

-- ---- registers that agree

image-next : (b : Bank) (n : ℕ) → image_at b (n + 1) ≡ image_at b n + 8
image-next Bank.General n = omega arith
image-next Bank.Floating n = omega arith

-- and so for a run of them
run-same : (i j : List ℕ) (b : Bank) (first count : ℕ) → ((n : ℕ) → first ≤ n → n < first + count → Same i j (register b n))
    → part (image_at b first) (8 * count) i ≡ part (image_at b first) (8 * count) j
run-same i j b first zero h = refl
run-same i j b first (suc count) h =
    let e : 8 * suc count ≡ 8 + 8 * count = omega arith in
    let rest : part (image_at b first + 8) (8 * count) i ≡ part (image_at b first + 8) (8 * count) j =
    subst (λ (at : ℕ). part at (8 * count) i ≡ part at (8 * count) j) (image-next b first) (run-same i j b (first + 1) count (λ n p q. h n (omega arith) (omega arith))) in
    ap (λ (m : ℕ). part (image_at b first) m i) e ∙ part-add (image_at b first) 8 (8 * count) i
    ∙ ap₂ (λ (x y : List ℕ). x ++ y) (h first (omega arith) (omega arith)) rest
    ∙ sym (part-add (image_at b first) 8 (8 * count) j) ∙ ap (λ (m : ℕ). part (image_at b first) m j) (sym e)

-- ---- the arguments

-- of two sets of buffers: the image of the one has the same for an argument's registers, its area and copies are the first a and m bytes of the other's
module _ (r : CallRules) (base a m : ℕ) (b : Buffers) (image : List ℕ) (size : length image ≡ 512) (area-room : a ≤ length b.area) (copies-room : m ≤ length b.copies) where
  abbrev c : Buffers
  c = buffers image (take a b.area) (take m b.copies)

  -- the copy of an argument lies in the copies
  copied : (p : Placement) (v : List ℕ) → Fits a m p → Put r base p v b → p.span.copy.start + length (copy_bytes p v) ≤ m
  copied p v fits h = copy-in r p v m h.given.room.registers.held (omega (arith, h.given.size)) fits.copies

  stands-found : (p : Placement) (v : List ℕ) → Fits a m p → OfSpan (Same image b.image) p.span → Put r base p v b → Put r base p v c
  unfolding bytes_at
  stands-found p v fits same h =
      let s : Span = p.span in
      let plain : (n : ℕ) → 0 + n ≡ n = λ n. omega arith in
      record {
        given = record {
          room = record {
            registers = in_image_lem r (length image) a m p h.given.room.registers.held fits size;
            memory = omega (arith, fits.memory, length-take a b.area);
            copies = omega (arith, fits.copies, length-take m b.copies);
            low = h.given.room.low;
          };
          size = h.given.size;
          bytes = h.given.bytes;
        };
        stands = record {
          floats = run-same image b.image Bank.Floating s.floating.first s.floating.count (λ n u w. same.floats n (u, w)) ∙ h.stands.floats;
          registers = run-same image b.image Bank.General s.general.first s.general.count (λ n u w. same.generals n (u, w)) ∙ h.stands.registers;
          memory =
              part-part 0 a s.memory.start s.memory.length b.area fits.memory
              ∙ ap (λ (n : ℕ). part n s.memory.length b.area) (plain s.memory.start)
              ∙ h.stands.memory;
          copy =
              part-part 0 m s.copy.start (length (copy_bytes p v)) b.copies (copied p v fits h)
              ∙ ap (λ (n : ℕ). part n (length (copy_bytes p v)) b.copies) (plain s.copy.start)
              ∙ h.stands.copy;
        };
      }

  pub all_found : (ps : List Placement) (v : List ℕ) → All (Fits a m) ps → All (λ (p : Placement). OfSpan (Same image b.image) p.span) ps → AllPut r base ps v b
      → AllPut r base ps v c
  unfolding All EachValue
  all_found [] v f s h = tt
  all_found (p ∷ ps) v f s h = (stands-found p (take p.size v) f.0 s.0 h.0, all_found ps (drop p.size v) f.1 s.1 h.1)

-- what holds of every span of a table holds of every argument's
pub of-arguments : (P : Span → Type 0) (c : Convention) (ts : List ValueType) (ss : List Span) → All P ss → All (λ (p : Placement). P p.span) (placements c ts ss)
unfolding placements All
of-arguments P c [] ss h = tt
of-arguments P c (t ∷ ts) [] h = tt
of-arguments P c (t ∷ ts) (s ∷ ss) h = (h.0, of-arguments P c ts ss h.1)
