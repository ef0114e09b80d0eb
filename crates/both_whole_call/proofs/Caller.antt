-- A function that asked for a call's area can make the call (specs/Caller.antt states it), and any bytes can be cut in pieces that writes may have. Assumes nothing.
use mathlib.Core.Path.{◌≡◌, refl, ap, ◌∙◌}
use mathlib.Core.List.{List, [], ◌∷◌, ◌++◌}
use Prim.Native.Nat.{ℕ, zero, suc, ◌*◌, ◌≤◌}
use native.Mathlib.Omega.{arith}
use native.Mathlib.Nat.{mul-suc, mul-zero}
use lib.ListN.{length, take, drop, take-append-drop, length-drop}
use lib.Seq.{length-take-le}
use Rattle.base_words.specs.Basics.{All}
use Rattle.plan_plans.specs.declared.Plan.{Plan}
use Rattle.call_slots.specs.Arguments.{plan_for}
use Rattle.frame_rules.specs.declared.Frame.{Frame}
use Rattle.both_meeting.specs.Meeting.{asked_area, asking}
use Rattle.both_meeting.proofs.Theorem.{requested}
use Rattle.both_whole_call.specs.Put.{pieces_joined, WritablePiece, Cut}
use Rattle.both_whole_call.specs.Caller.{AskedCanCall}
use Rattle.both_whole_call.proofs.Named.{named-free}

pub can-call : AskedCanCall
can-call s n e f solid saved os m h running =
    let p : Plan = plan_for s in
    let r = requested s n e in
    record {
      reached = h;
      suits = record {
        solid = ap (λ (g : Frame). g.leaf) running ∙ solid;
        room = rw running (omega (arith, r.exact f, r.holds));
        free = rw running (named-free s (asking f (asked_area p)) saved);
      };
    }

-- ---- bytes in words

-- n words of w bytes
unfoldable pub in_words : ℕ → ℕ → List ℕ → List (List ℕ)
in_words w zero bs = []
in_words w (suc n) bs = take w bs ∷ in_words w n (drop w bs)

words-whole : (w n : ℕ) (bs : List ℕ) → length bs ≡ w * n → pieces_joined (in_words w n bs) ≡ bs
unfolding in_words pieces_joined
words-whole w zero [] h = refl
words-whole w zero (x ∷ bs) h = absurd (omega (arith, mul-zero w))
words-whole w (suc n) bs h =
    let rest : pieces_joined (in_words w n (drop w bs)) ≡ drop w bs = words-whole w n (drop w bs) (omega (arith, length-drop w bs, mul-suc w n)) in
    ap (λ (l : List ℕ). take w bs ++ l) rest ∙ take-append-drop w bs

words-short : (w n : ℕ) (bs : List ℕ) → 1 ≤ w → w ≤ 256 → length bs ≡ w * n → All WritablePiece (in_words w n bs)
unfolding in_words All
words-short w zero bs some small h = tt
words-short w (suc n) bs some small h =
    let size : length (take w bs) ≡ w = length-take-le w bs (omega (arith, mul-suc w n)) in
    ((omega arith, omega arith), words-short w n (drop w bs) some small (omega (arith, length-drop w bs, mul-suc w n)))

-- words are one way to cut bytes
pub words-cut : (w n : ℕ) (bs : List ℕ) → 1 ≤ w → w ≤ 256 → length bs ≡ w * n → Cut (in_words w n bs) bs
words-cut w n bs some small h = record { whole = words-whole w n bs h; short = words-short w n bs some small h }
