-- The areas of memory that may be written lie inside the memory. Assumes nothing.
use Prim.Native.Nat.{ℕ, zero, suc, ◌+◌, ◌-◌, ◌≤◌, ◌<◌}
use mathlib.Core.Path.{◌≡◌, refl, sym, ap, ◌∙◌, subst}
use mathlib.Core.Logic.{◌⊎◌, inl, inr, ⊎_elim}
use mathlib.Core.Bool.{true, false, ◌&&◌, ◌||◌}
use mathlib.Core.List.{List}
use native.Mathlib.Omega.{arith}
use lib.Dec.{leb, ltb}
use borrow.Author.Tests.{leb-true, ltb-true}
use Rattle.base_words.proofs.Basics.{le-or-lt}
use Rattle.base_words.proofs.Tests.{either, and_yes, or_yes}
use Rattle.frame_rules.specs.declared.FrameRules.{FrameRules}
use Rattle.frame_rules.specs.declared.Frame.{Frame}
use Rattle.frame_rules.specs.Frames.{start_frame, ok_request, outgoing_length, below, frame_size}
use Rattle.frame_rules.specs.Helpers.{LawfulFrames}
use Rattle.frame_rules.proofs.Places.{leaf-size, size-parts, below-reach}
use Rattle.frame_machine.specs.Machine.{State, offset, frame_at, top_frame, caller_frame, top, caller, ok_frames, sizes, inside, outgoing_from, locals_from, writable_bytes, writable_address}
use Rattle.frame_machine.specs.Helpers.{Sound}
use Rattle.frame_machine.proofs.Coding.{frames-read, sizes-down, top-none, top-some, frame-request, pointer-room, top-request}

inside_is : (a n b e : ℕ) → inside a n b e ≡ true → (b ≤ a) × (a + n ≤ e)
inside_is a n b e h = let p = and_yes (leb b a) (leb (a + n) e) h in (leb-true b a p.0, leb-true (a + n) e p.1)

-- own outgoing area; or, where a frame is entered, own locals or the caller's outgoing area
pub areas : (k : FrameRules) (s : State) (a n : ℕ) → writable_bytes k s a n ≡ true
    → (f : Frame) → top_frame k s.frames s.depth ≡ f
    → (g : Frame) → caller_frame k s.frames s.depth ≡ g
    → ((outgoing_from k f (offset k s) ≤ a) × (a + n ≤ locals_from k f (offset k s)))
    ⊎ ((0 < s.depth) × (((locals_from k f (offset k s) ≤ a) × (a + n ≤ offset k s + frame_size k f - below k.linkage k f))
    ⊎ ((offset k s + frame_size k f + k.header ≤ a) × (a + n ≤ offset k s + frame_size k f + k.header + outgoing_length k g))))
unfolding writable_bytes
areas k s a n e f ef g eg =
    let o = offset k s in
    let c = o + frame_size k f in
    let own = inside a n (outgoing_from k f o) (locals_from k f o) in
    let locals = inside a n (locals_from k f o) (c - below k.linkage k f) in
    let callers = inside a n (c + k.header) (c + k.header + outgoing_length k g) in
    let e' : (leb 1 n && (leb n 256 && (own || (ltb 0 s.depth && (locals || callers))))) ≡ true = rw (ef, eg) at e in
    let p = and_yes (leb 1 n) _ e' in
    let q = and_yes (leb n 256) _ p.1 in
    ⊎_elim (λ u. inl (inside_is a n (outgoing_from k f o) (locals_from k f o) u))
    (λ u. let v = and_yes (ltb 0 s.depth) (locals || callers) u in
    inr (
      ltb-true 0 s.depth v.0,
      ⊎_elim (λ w. inl (inside_is a n (locals_from k f o) (c - below k.linkage k f) w))
          (λ w. inr (inside_is a n (c + k.header) (c + k.header + outgoing_length k g) w))
          (or_yes locals callers v.1),
    ))
    (or_yes own (ltb 0 s.depth && (locals || callers)) q.1)

-- where the own areas of a frame, and of a leaf, lie with its pointer at o
pub solid-outgoing : (k : FrameRules) (f : Frame) (o : ℕ) → f.leaf ≡ false → outgoing_from k f o ≡ o + k.header
solid-outgoing k f o e = rw e

solid-locals : (k : FrameRules) (f : Frame) (o : ℕ) → f.leaf ≡ false → locals_from k f o ≡ o + k.header + outgoing_length k f
solid-locals k f o e = rw e

leaf-locals : (k : FrameRules) (f : Frame) (o : ℕ) → f.leaf ≡ true → locals_from k f o ≡ o - k.floor
leaf-locals k f o e = rw e

-- the outgoing area comes before the locals, and these before the saves
pub outgoing-le : (k : FrameRules) (f : Frame) (o : ℕ) → outgoing_from k f o ≤ locals_from k f o
outgoing-le k f o = either f.leaf (λ e. rw e (omega arith)) (λ e. rw e (omega arith))

pub locals-le : (k : FrameRules) → LawfulFrames k → (f : Frame) → ok_request k f ≡ true → (o : ℕ) → locals_from k f o ≤ o + frame_size k f - below k.linkage k f
locals-le k law f r o =
    either f.leaf (λ e. omega (arith, leaf-locals k f o e, below-reach k law f r, leaf-size k f e)) (λ e. omega (arith, solid-locals k f o e, size-parts k law f r e))

-- the outgoing area of a frame lies in the frame, that of the start in the start's room
outgoing-in : (k : FrameRules) → LawfulFrames k → (f : Frame) → ok_request k f ≡ true → f.leaf ≡ false → k.header + outgoing_length k f ≤ frame_size k f
outgoing-in k law f e z = omega (arith, size-parts k law f e z)

start-in : (k : FrameRules) → LawfulFrames k → k.header + outgoing_length k (start_frame k) ≤ k.room
start-in k law = omega (arith, law.head)

-- a top frame that is no leaf lies with its outgoing area in what is entered and the start's room
top_in : (k : FrameRules) → LawfulFrames k → (fs : List Frame) (d : ℕ) → ok_frames k fs d ≡ true → (top_frame k fs d).leaf ≡ false
    → k.header + outgoing_length k (top_frame k fs d) ≤ sizes k fs d + k.room
top_in k law fs d e z =
    ⊎_elim (λ p. let t = top-none k fs d p in omega (arith, subst (λ (f : Frame). k.header + outgoing_length k f ≤ k.room) (sym t) (start-in k law)))
    (λ p. let t = top-some k fs d p in
    omega (
      arith,
      sizes-down k fs d p,
      subst (λ (f : Frame). k.header + outgoing_length k f ≤ frame_size k (frame_at fs (d - 1))) (sym t)
          (outgoing-in k law (frame_at fs (d - 1)) (frame-request k fs d (d - 1) e (omega arith)) (rw t at z)),
    ))
    (le-or-lt d 0)

caller-top : (k : FrameRules) (fs : List Frame) (d : ℕ) → 0 < d → caller_frame k fs d ≡ top_frame k fs (d - 1)
unfolding caller_frame
caller-top k fs zero h = absurd (omega arith)
caller-top k fs (suc d) h = let e : suc d - 1 ≡ d = omega arith in rw e

module _ (k : FrameRules) (law : LawfulFrames k) (s : State) (n : ℕ) (sound : Sound k s n) where
  room : offset k s + sizes k s.frames s.depth + k.room ≡ n
  room = pointer-room k law s n sound

  -- the top frame is the last of the sizes
  top-last : 0 < s.depth → sizes k s.frames s.depth ≡ sizes k s.frames (s.depth - 1) + frame_size k (top k s)
  top-last h = sizes-down k s.frames s.depth h ∙ rw (top-some k s.frames s.depth h)

  -- the own outgoing area is in the memory
  own_in : (a m : ℕ) → a + m ≤ locals_from k (top k s) (offset k s) → a + m ≤ n
  own_in a m h =
      ⊎_elim (λ p. omega (arith, room, start-in k law, ap (λ (f : Frame). locals_from k f (offset k s)) (top-none k s.frames s.depth p)))
      (λ p. omega (arith, room, top-last p, locals-le k law (top k s) (top-request k law s n sound p) (offset k s)))
      (le-or-lt s.depth 0)

  -- what may be written is in the memory
  pub bytes-in : (a m : ℕ) → writable_bytes k s a m ≡ true → a + m ≤ n
  bytes-in a m e =
      ⊎_elim (λ u. own_in a m u.1)
      (λ u. ⊎_elim (λ w. omega (arith, room, top-last u.0))
      (λ w. omega (
        arith,
        room,
        top-last u.0,
        ap (outgoing_length k) (caller-top k s.frames s.depth u.0),
        let q = frames-read k s.frames s.depth u.0 sound.requests in top_in k law s.frames (s.depth - 1) q.2 q.1,
      ))
      u.1)
      (areas k s a m e (top k s) refl (caller k s) refl)

  pub address-yes : (a m : ℕ) → writable_address k s a m ≡ true → (s.base ≤ a) × ((a - s.base) + m ≤ n)
  unfolding writable_address
  address-yes a m e =
      let p = and_yes (leb s.base a) (writable_bytes k s (a - s.base) m) e in
      (leb-true s.base a p.0, bytes-in (a - s.base) m p.1)
