-- Small facts that the proofs of the functions cite: the records of a sound state, and where its top frame lies. Assumes nothing.
use Prim.Native.Nat.{ℕ, zero, suc, ◌+◌, ◌-◌, ◌≤◌, ◌<◌}
use mathlib.Core.Path.{◌≡◌, refl, sym, ◌∙◌, subst}
use mathlib.Core.Logic.{◌⊎◌, ⊎_elim}
use mathlib.Core.Bool.{Bool, true, false, not, ◌&&◌}
use mathlib.Core.List.{List}
use native.Mathlib.Omega.{arith}
use lib.ListN.{length}
use Rattle.base_words.proofs.Basics.{le-or-lt}
use Rattle.base_words.proofs.Tests.{and_yes, not_yes}
use Rattle.frame_rules.specs.declared.FrameRules.{FrameRules}
use Rattle.frame_rules.specs.declared.Frame.{Frame}
use Rattle.frame_rules.specs.Frames.{start_frame, max_outgoing, ok_request, outgoing_length, frame_size}
use Rattle.frame_rules.specs.Helpers.{LawfulFrames, SavesFit}
use Rattle.frame_rules.proofs.Conventions.{lawful}
use Rattle.frame_rules.proofs.Places.{ranges, below-reach}
use Rattle.frame_machine.specs.Machine.{State, offset, frame_at, top_frame, caller_frame, top, caller, ok_frames, sizes}
use Rattle.frame_machine.specs.Helpers.{Sound, CanEnter}
use Rattle.frame_machine.proofs.States.{memory-yes}

-- ---- the records, one turn of a loop

pub frames-down : (k : FrameRules) (fs : List Frame) (d : ℕ) → 0 < d → ok_frames k fs d ≡ (ok_request k (frame_at fs (d - 1)) && (not (top_frame k fs (d - 1)).leaf && ok_frames k fs (d - 1)))
unfolding ok_frames
frames-down k fs zero h = absurd (omega arith)
frames-down k fs (suc d) h = let e : suc d - 1 ≡ d = omega arith in rw e

-- the record read is in range, what is under it is no leaf, and the records below it are in range
pub frames-read : (k : FrameRules) (fs : List Frame) (d : ℕ) → 0 < d → ok_frames k fs d ≡ true
    → (ok_request k (frame_at fs (d - 1)) ≡ true) × ((top_frame k fs (d - 1)).leaf ≡ false) × (ok_frames k fs (d - 1) ≡ true)
frames-read k fs d h e =
    let p = and_yes (ok_request k (frame_at fs (d - 1))) _ (sym (frames-down k fs d h) ∙ e) in
    let q = and_yes (not (top_frame k fs (d - 1)).leaf) _ p.1 in
    (p.0, not_yes (top_frame k fs (d - 1)).leaf q.0, q.1)

-- each record in range is so, and what is under it is no leaf
pub frames-each : (k : FrameRules) (fs : List Frame) (n d : ℕ) → ok_frames k fs n ≡ true → d < n → (ok_request k (frame_at fs d) ≡ true) × ((top_frame k fs d).leaf ≡ false)
unfolding ok_frames
frames-each k fs zero d e h = absurd (omega arith)
frames-each k fs (suc n) d e h =
    let t = and_yes (ok_request k (frame_at fs n)) _ e in
    let u = and_yes (not (top_frame k fs n).leaf) _ t.1 in
    ⊎_elim (λ p. frames-each k fs n d u.1 p) (λ p. let x : d ≡ n = omega arith in rw x ((t.0, not_yes (top_frame k fs n).leaf u.0))) (le-or-lt (suc d) n)

-- a loop over the records: none yet, one more, and one that is refused
pub frames_begin : (k : FrameRules) (fs : List Frame) → ok_frames k fs 0 ≡ true
unfolding ok_frames
frames_begin k fs = refl

pub frames-more : (k : FrameRules) (fs : List Frame) (d : ℕ) → ok_frames k fs d ≡ true → ok_request k (frame_at fs d) ≡ true → (top_frame k fs d).leaf ≡ false
    → ok_frames k fs (d + 1) ≡ true
unfolding ok_frames
frames-more k fs d h e u =
    let n : d + 1 ≡ suc d = omega arith in
    rw n (again e u h)
  where
    again : ok_request k (frame_at fs d) ≡ true → (top_frame k fs d).leaf ≡ false → ok_frames k fs d ≡ true → ok_frames k fs (suc d) ≡ true
    again e u h = rw (e, u) h

pub frames-stop : (k : FrameRules) (fs : List Frame) (n d : ℕ) → d < n → (ok_request k (frame_at fs d) ≡ false) ⊎ ((top_frame k fs d).leaf ≡ true) → false ≡ ok_frames k fs n
frames-stop k fs n d h r = go (ok_frames k fs n) refl
  where
    go : (a : Bool) → ok_frames k fs n ≡ a → false ≡ a
    go false e = refl
    go true e =
        let y = frames-each k fs n d e h in
        ⊎_elim (λ p. sym p ∙ y.0) (λ p. sym (sym p ∙ y.1)) r

pub sizes-down : (k : FrameRules) (fs : List Frame) (d : ℕ) → 0 < d → sizes k fs d ≡ sizes k fs (d - 1) + frame_size k (frame_at fs (d - 1))
unfolding sizes
sizes-down k fs zero h = absurd (omega arith)
sizes-down k fs (suc d) h = let e : suc d - 1 ≡ d = omega arith in rw e

pub sizes_begin : (k : FrameRules) (fs : List Frame) → 0 ≡ sizes k fs 0
unfolding sizes
sizes_begin k fs = refl

pub sizes-more : (k : FrameRules) (fs : List Frame) (d : ℕ) → sizes k fs (d + 1) ≡ sizes k fs d + frame_size k (frame_at fs d)
unfolding sizes
sizes-more k fs d =
    let n : d + 1 ≡ suc d = omega arith in
    rw n (again k fs d)
  where
    again : (k : FrameRules) (fs : List Frame) (d : ℕ) → sizes k fs (suc d) ≡ sizes k fs d + frame_size k (frame_at fs d)
    again k fs d = refl

-- ---- the top frame and its caller

pub top-none : (k : FrameRules) (fs : List Frame) (d : ℕ) → d ≤ 0 → top_frame k fs d ≡ start_frame k
unfolding top_frame
top-none k fs zero h = refl
top-none k fs (suc d) h = absurd (omega arith)

pub top-some : (k : FrameRules) (fs : List Frame) (d : ℕ) → 0 < d → top_frame k fs d ≡ frame_at fs (d - 1)
unfolding top_frame
top-some k fs zero h = absurd (omega arith)
top-some k fs (suc d) h = let e : suc d - 1 ≡ d = omega arith in rw e

pub caller-none : (k : FrameRules) (fs : List Frame) (d : ℕ) → d ≤ 1 → caller_frame k fs d ≡ start_frame k
unfolding caller_frame top_frame
caller-none k fs zero h = refl
caller-none k fs (suc zero) h = refl
caller-none k fs (suc (suc d)) h = absurd (omega arith)

pub caller-some : (k : FrameRules) (fs : List Frame) (d : ℕ) → 1 < d → caller_frame k fs d ≡ frame_at fs (d - 2)
unfolding caller_frame top_frame
caller-some k fs zero h = absurd (omega arith)
caller-some k fs (suc zero) h = absurd (omega arith)
caller-some k fs (suc (suc d)) h = let e : suc (suc d) - 2 ≡ d = omega arith in rw e

-- each record of a sound state is in range
pub frame-request : (k : FrameRules) (fs : List Frame) (d i : ℕ) → ok_frames k fs d ≡ true → i < d → ok_request k (frame_at fs i) ≡ true
frame-request k fs d i e h = (frames-each k fs d i e h).0

outgoing-small : (k : FrameRules) → LawfulFrames k → (f : Frame) → ok_request k f ≡ true → outgoing_length k f ≤ max_outgoing + 256
outgoing-small k law f e = omega (arith, (ranges k f e).outgoing, law.least)

start_small : (k : FrameRules) → LawfulFrames k → outgoing_length k (start_frame k) ≤ max_outgoing + 256
start_small k law = omega (arith, law.least)

module _ (k : FrameRules) (law : LawfulFrames k) (s : State) (n : ℕ) (sound : Sound k s n) where
  -- the start's room lies above the stack pointer, in at most 65,536 bytes
  pub memory-small : n ≤ 65536
  memory-small = omega (arith, sound.length, memory-yes k s.base s.size sound.memory)

  pub pointer-room : offset k s + sizes k s.frames s.depth + k.room ≡ n
  pointer-room = omega (arith, sound.over, sound.sum, sound.length)

  pub pointer-limit : s.base + s.size ≤ k.limit
  pointer-limit = omega (arith, memory-yes k s.base s.size sound.memory)

  pub top-outgoing : outgoing_length k (top k s) ≤ max_outgoing + 256
  top-outgoing =
      ⊎_elim (λ p. subst (λ (f : Frame). outgoing_length k f ≤ max_outgoing + 256) (sym (top-none k s.frames s.depth p)) (start_small k law))
      (λ p. subst (λ (f : Frame). outgoing_length k f ≤ max_outgoing + 256) (sym (top-some k s.frames s.depth p))
      (outgoing-small k law (frame_at s.frames (s.depth - 1)) (frame-request k s.frames s.depth (s.depth - 1) sound.requests (omega arith))))
      (le-or-lt s.depth 0)

  pub caller-outgoing : outgoing_length k (caller k s) ≤ max_outgoing + 256
  caller-outgoing =
      ⊎_elim (λ p. subst (λ (f : Frame). outgoing_length k f ≤ max_outgoing + 256) (sym (caller-none k s.frames s.depth p)) (start_small k law))
      (λ p. subst (λ (f : Frame). outgoing_length k f ≤ max_outgoing + 256) (sym (caller-some k s.frames s.depth p))
      (outgoing-small k law (frame_at s.frames (s.depth - 2)) (frame-request k s.frames s.depth (s.depth - 2) sound.requests (omega arith))))
      (le-or-lt s.depth 1)

  -- where a frame is entered, it lies below its caller's pointer, whose header is in the memory
  module _ (deep : 0 < s.depth) where
    pub top-request : ok_request k (top k s) ≡ true
    top-request =
        rw (top-some k s.frames s.depth deep) (frame-request k s.frames s.depth (s.depth - 1) sound.requests (omega arith))

    pub top-room : offset k s + frame_size k (top k s) + k.room ≤ n
    top-room =
        let e : sizes k s.frames s.depth ≡ sizes k s.frames (s.depth - 1) + frame_size k (top k s)
        = sizes-down k s.frames s.depth deep ∙ rw (top-some k s.frames s.depth deep) in
        omega (arith, e, pointer-room)

    pub top_placed : SavesFit k (top k s) (offset k s + frame_size k (top k s)) n
    top_placed = record {
      lawful = law;
      request = top-request;
      fits = omega (arith, below-reach k law (top k s) top-request, sound.over);
      room = omega (arith, top-room, law.head);
    }

-- a request that may be entered lies below the present pointer, whose header is in the memory
pub enter-placed : (k : FrameRules) → LawfulFrames k → (s : State) (n : ℕ) → Sound k s n → (f : Frame) → CanEnter k s f → SavesFit k f (offset k s) n
enter-placed k law s n sound f can = record { lawful = law; request = can.request; fits = omega (arith, can.room, below-reach k law f can.request); room = omega (arith, pointer-room k law s n sound, law.head) }
