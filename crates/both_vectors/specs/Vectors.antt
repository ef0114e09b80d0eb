-- The cases that document 01 wants proved ("Sums to check against", the lines marked P), figure 3-18 by document 02's No. 12 with its refusal 29, calls with
-- an ellipsis by its No. 5, and, for AIX, the call that document 004 lays out whole, in one table, which is the one place of them.
-- Assumes nothing.
use Rattle.std.specs.Prelude.{ℕ, ◌≡◌, false, List, [], ◌∷◌, ◌++◌}
use Rattle.base_words.specs.Basics.{All}
use Rattle.base_ieee.specs.Widening.{widen}
use Rattle.base_conventions.specs.declared.Convention.{Convention}
use Rattle.sig_types.specs.declared.Equivalent.{Equivalent}
use Rattle.plan_places.specs.Step.{rules_of}
use Rattle.call_slots.specs.Refusals.{call_answer_number, float_answer}
use Rattle.plan_listing.specs.Text.{listing_of}
use Rattle.frame_rules.specs.declared.FrameRules.{FrameRules}
use Rattle.frame_rules.specs.declared.Frame.{Frame}
use Rattle.frame_rules.specs.Rules.{ppc64_frames, z_frames}
use Rattle.frame_rules.specs.Frames.{frame_size}

pub data Vector : Type 0 where
  -- a signature's bytes, and its printed plan
  printed : List ℕ → List ℕ → Vector
  -- a single's bits, and those of the double that it widens to
  widened : ℕ → ℕ → Vector
  -- the bits of a single's PPC64 FPR, and the refusal that they give
  refused : ℕ → ℕ → Vector
  -- a convention's rules, a frame request's g, m, L and P, and the frame's size
  sized : FrameRules → ℕ → ℕ → ℕ → ℕ → ℕ → Vector

abbrev request : ℕ → ℕ → ℕ → ℕ → Frame
request g m l p = record { first_gpr = g; first_fpr = m; saves_cr = false; locals = l; outgoing = p; leaf = false }

abbrev pub VectorHolds : Vector → Type 0
VectorHolds (printed s t) = listing_of s ≡ t
VectorHolds (widened x d) = widen x ≡ d
VectorHolds (refused d n) = call_answer_number (float_answer (rules_of Convention.Ppc64) Equivalent.Single d) ≡ n
VectorHolds (sized k g m l p n) = frame_size k (request g m l p) ≡ n

abbrev pub AllHold : List Vector → Type 0
AllHold vs = All VectorHolds vs

-- 02, No. 5: "an optional tag 0x04, empty body, between result and arguments, meaning an ellipsis"
unfoldable pub ellipsis-item : List ℕ
ellipsis-item = 0x04 ∷ 0 ∷ 0 ∷ []

-- 000's figure 3-18, func(c, ff, d, ld, s, gg, t, e, hh), by the convention of a code, and with an ellipsis's item or with none
unfoldable pub figure_by : ℕ → List ℕ → List ℕ
figure_by code mark =
    -- the convention
    0x01 ∷ 0 ∷ 1 ∷ code
    -- the result, an int
    ∷ 0x02 ∷ 0 ∷ 4 ∷ 0x10 ∷ 0 ∷ 1 ∷ 4
    ∷ (mark
    -- the arguments, 50 bytes
    ++ 0x03 ∷ 0 ∷ 50
    -- int c
    ∷ 0x10 ∷ 0 ∷ 1 ∷ 4
    -- double ff
    ∷ 0x11 ∷ 0 ∷ 1 ∷ 1
    -- int d
    ∷ 0x10 ∷ 0 ∷ 1 ∷ 4
    -- long double ld
    ∷ 0x11 ∷ 0 ∷ 1 ∷ 2
    -- sparm s, a struct of int and double
    ∷ 0x12 ∷ 0 ∷ 8 ∷ 0x10 ∷ 0 ∷ 1 ∷ 4 ∷ 0x11 ∷ 0 ∷ 1 ∷ 1
    -- double gg
    ∷ 0x11 ∷ 0 ∷ 1 ∷ 1
    -- sparm t
    ∷ 0x12 ∷ 0 ∷ 8 ∷ 0x10 ∷ 0 ∷ 1 ∷ 4 ∷ 0x11 ∷ 0 ∷ 1 ∷ 1
    -- int e
    ∷ 0x10 ∷ 0 ∷ 1 ∷ 4
    -- double hh
    ∷ 0x11 ∷ 0 ∷ 1 ∷ 1
    ∷ [])

unfoldable pub figure-3-18 : List ℕ
figure-3-18 = figure_by 1 []

-- "Printed whole, result int, newline after each line"
unfoldable pub figure-3-18-text : List ℕ
figure-3-18-text =
    -- PPC64 args 9 area 96
    80 ∷ 80 ∷ 67 ∷ 54 ∷ 52 ∷ 32 ∷ 97 ∷ 114 ∷ 103 ∷ 115 ∷ 32 ∷ 57 ∷ 32 ∷ 97 ∷ 114 ∷ 101 ∷ 97 ∷ 32 ∷ 57 ∷ 54 ∷ 10
    -- 0 r3 @0
    ∷ 48 ∷ 32 ∷ 114 ∷ 51 ∷ 32 ∷ 64 ∷ 48 ∷ 10
    -- 1 f1 @8
    ∷ 49 ∷ 32 ∷ 102 ∷ 49 ∷ 32 ∷ 64 ∷ 56 ∷ 10
    -- 2 r5 @16
    ∷ 50 ∷ 32 ∷ 114 ∷ 53 ∷ 32 ∷ 64 ∷ 49 ∷ 54 ∷ 10
    -- 3 r6 r7 @24
    ∷ 51 ∷ 32 ∷ 114 ∷ 54 ∷ 32 ∷ 114 ∷ 55 ∷ 32 ∷ 64 ∷ 50 ∷ 52 ∷ 10
    -- 4 r8 r9 @40
    ∷ 52 ∷ 32 ∷ 114 ∷ 56 ∷ 32 ∷ 114 ∷ 57 ∷ 32 ∷ 64 ∷ 52 ∷ 48 ∷ 10
    -- 5 f2 @56
    ∷ 53 ∷ 32 ∷ 102 ∷ 50 ∷ 32 ∷ 64 ∷ 53 ∷ 54 ∷ 10
    -- 6 mem @64
    ∷ 54 ∷ 32 ∷ 109 ∷ 101 ∷ 109 ∷ 32 ∷ 64 ∷ 54 ∷ 52 ∷ 10
    -- 7 mem @80
    ∷ 55 ∷ 32 ∷ 109 ∷ 101 ∷ 109 ∷ 32 ∷ 64 ∷ 56 ∷ 48 ∷ 10
    -- 8 f3 @88
    ∷ 56 ∷ 32 ∷ 102 ∷ 51 ∷ 32 ∷ 64 ∷ 56 ∷ 56 ∷ 10
    -- result r3
    ∷ 114 ∷ 101 ∷ 115 ∷ 117 ∷ 108 ∷ 116 ∷ 32 ∷ 114 ∷ 51 ∷ 10
    ∷ []

-- 02, No. 12: "In figure 3-18, ld is then in f2 and f3, gg in f4, hh in f5. Its listing is named `PPC64B`"
unfoldable pub figure-3-18b : List ℕ
figure-3-18b = figure_by 4 []

unfoldable pub figure-3-18b-text : List ℕ
figure-3-18b-text =
    -- PPC64B args 9 area 96
    80 ∷ 80 ∷ 67 ∷ 54 ∷ 52 ∷ 66 ∷ 32 ∷ 97 ∷ 114 ∷ 103 ∷ 115 ∷ 32 ∷ 57 ∷ 32 ∷ 97 ∷ 114 ∷ 101 ∷ 97 ∷ 32 ∷ 57 ∷ 54 ∷ 10
    -- 0 r3 @0
    ∷ 48 ∷ 32 ∷ 114 ∷ 51 ∷ 32 ∷ 64 ∷ 48 ∷ 10
    -- 1 f1 @8
    ∷ 49 ∷ 32 ∷ 102 ∷ 49 ∷ 32 ∷ 64 ∷ 56 ∷ 10
    -- 2 r5 @16
    ∷ 50 ∷ 32 ∷ 114 ∷ 53 ∷ 32 ∷ 64 ∷ 49 ∷ 54 ∷ 10
    -- 3 f2 f3 @24
    ∷ 51 ∷ 32 ∷ 102 ∷ 50 ∷ 32 ∷ 102 ∷ 51 ∷ 32 ∷ 64 ∷ 50 ∷ 52 ∷ 10
    -- 4 r8 r9 @40
    ∷ 52 ∷ 32 ∷ 114 ∷ 56 ∷ 32 ∷ 114 ∷ 57 ∷ 32 ∷ 64 ∷ 52 ∷ 48 ∷ 10
    -- 5 f4 @56
    ∷ 53 ∷ 32 ∷ 102 ∷ 52 ∷ 32 ∷ 64 ∷ 53 ∷ 54 ∷ 10
    -- 6 mem @64
    ∷ 54 ∷ 32 ∷ 109 ∷ 101 ∷ 109 ∷ 32 ∷ 64 ∷ 54 ∷ 52 ∷ 10
    -- 7 mem @80
    ∷ 55 ∷ 32 ∷ 109 ∷ 101 ∷ 109 ∷ 32 ∷ 64 ∷ 56 ∷ 48 ∷ 10
    -- 8 f5 @88
    ∷ 56 ∷ 32 ∷ 102 ∷ 53 ∷ 32 ∷ 64 ∷ 56 ∷ 56 ∷ 10
    -- result r3
    ∷ 114 ∷ 101 ∷ 115 ∷ 117 ∷ 108 ∷ 116 ∷ 32 ∷ 114 ∷ 51 ∷ 10
    ∷ []

-- No. 12: "When only f13 is left .. new refusal 29 at that argument's header": seven long doubles, of which six take f1 to f12
unfoldable pub seven-long-doubles : List ℕ
seven-long-doubles =
    0x01 ∷ 0 ∷ 1 ∷ 4
    ∷ 0x02 ∷ 0 ∷ 0
    -- the arguments, 28 bytes
    ∷ 0x03 ∷ 0 ∷ 28
    ∷ 0x11 ∷ 0 ∷ 1 ∷ 2
    ∷ 0x11 ∷ 0 ∷ 1 ∷ 2
    ∷ 0x11 ∷ 0 ∷ 1 ∷ 2
    ∷ 0x11 ∷ 0 ∷ 1 ∷ 2
    ∷ 0x11 ∷ 0 ∷ 1 ∷ 2
    ∷ 0x11 ∷ 0 ∷ 1 ∷ 2
    ∷ 0x11 ∷ 0 ∷ 1 ∷ 2
    ∷ []

unfoldable pub seven-long-doubles-text : List ℕ
seven-long-doubles-text =
    -- refused 29 at 34 after 0
    114 ∷ 101 ∷ 102 ∷ 117 ∷ 115 ∷ 101 ∷ 100 ∷ 32 ∷ 50 ∷ 57 ∷ 32 ∷ 97 ∷ 116 ∷ 32 ∷ 51 ∷ 52 ∷ 32 ∷ 97 ∷ 102 ∷ 116 ∷ 101 ∷ 114 ∷ 32 ∷ 48 ∷ 10
    ∷ []

-- 02, No. 5: "On PPC64 every single or double then goes in its FPR, and as well in its GPR while w < 8 and in memory from w 8 on", "The printed listing
-- adds ` var` at the end of its first line, and names FPRs before GPRs before `mem`"
unfoldable pub figure-3-18-var : List ℕ
figure-3-18-var = figure_by 1 ellipsis-item

unfoldable pub figure-3-18-var-text : List ℕ
figure-3-18-var-text =
    -- PPC64 args 9 area 96 var
    80 ∷ 80 ∷ 67 ∷ 54 ∷ 52 ∷ 32 ∷ 97 ∷ 114 ∷ 103 ∷ 115 ∷ 32 ∷ 57 ∷ 32 ∷ 97 ∷ 114 ∷ 101 ∷ 97 ∷ 32 ∷ 57 ∷ 54 ∷ 32 ∷ 118 ∷ 97 ∷ 114 ∷ 10
    -- 0 r3 @0
    ∷ 48 ∷ 32 ∷ 114 ∷ 51 ∷ 32 ∷ 64 ∷ 48 ∷ 10
    -- 1 f1 r4 @8
    ∷ 49 ∷ 32 ∷ 102 ∷ 49 ∷ 32 ∷ 114 ∷ 52 ∷ 32 ∷ 64 ∷ 56 ∷ 10
    -- 2 r5 @16
    ∷ 50 ∷ 32 ∷ 114 ∷ 53 ∷ 32 ∷ 64 ∷ 49 ∷ 54 ∷ 10
    -- 3 r6 r7 @24
    ∷ 51 ∷ 32 ∷ 114 ∷ 54 ∷ 32 ∷ 114 ∷ 55 ∷ 32 ∷ 64 ∷ 50 ∷ 52 ∷ 10
    -- 4 r8 r9 @40
    ∷ 52 ∷ 32 ∷ 114 ∷ 56 ∷ 32 ∷ 114 ∷ 57 ∷ 32 ∷ 64 ∷ 52 ∷ 48 ∷ 10
    -- 5 f2 r10 @56
    ∷ 53 ∷ 32 ∷ 102 ∷ 50 ∷ 32 ∷ 114 ∷ 49 ∷ 48 ∷ 32 ∷ 64 ∷ 53 ∷ 54 ∷ 10
    -- 6 mem @64
    ∷ 54 ∷ 32 ∷ 109 ∷ 101 ∷ 109 ∷ 32 ∷ 64 ∷ 54 ∷ 52 ∷ 10
    -- 7 mem @80
    ∷ 55 ∷ 32 ∷ 109 ∷ 101 ∷ 109 ∷ 32 ∷ 64 ∷ 56 ∷ 48 ∷ 10
    -- 8 f3 mem @88
    ∷ 56 ∷ 32 ∷ 102 ∷ 51 ∷ 32 ∷ 109 ∷ 101 ∷ 109 ∷ 32 ∷ 64 ∷ 56 ∷ 56 ∷ 10
    -- result r3
    ∷ 114 ∷ 101 ∷ 115 ∷ 117 ∷ 108 ∷ 116 ∷ 32 ∷ 114 ∷ 51 ∷ 10
    ∷ []

-- No. 12: "With an ellipsis each doubleword also goes in its GPR while its own w is below 8, then in memory"
unfoldable pub figure-3-18b-var : List ℕ
figure-3-18b-var = figure_by 4 ellipsis-item

unfoldable pub figure-3-18b-var-text : List ℕ
figure-3-18b-var-text =
    -- PPC64B args 9 area 96 var
    80 ∷ 80 ∷ 67 ∷ 54 ∷ 52 ∷ 66 ∷ 32 ∷ 97 ∷ 114 ∷ 103 ∷ 115 ∷ 32 ∷ 57 ∷ 32 ∷ 97 ∷ 114 ∷ 101 ∷ 97 ∷ 32 ∷ 57 ∷ 54 ∷ 32 ∷ 118 ∷ 97 ∷ 114 ∷ 10
    -- 0 r3 @0
    ∷ 48 ∷ 32 ∷ 114 ∷ 51 ∷ 32 ∷ 64 ∷ 48 ∷ 10
    -- 1 f1 r4 @8
    ∷ 49 ∷ 32 ∷ 102 ∷ 49 ∷ 32 ∷ 114 ∷ 52 ∷ 32 ∷ 64 ∷ 56 ∷ 10
    -- 2 r5 @16
    ∷ 50 ∷ 32 ∷ 114 ∷ 53 ∷ 32 ∷ 64 ∷ 49 ∷ 54 ∷ 10
    -- 3 f2 f3 r6 r7 @24
    ∷ 51 ∷ 32 ∷ 102 ∷ 50 ∷ 32 ∷ 102 ∷ 51 ∷ 32 ∷ 114 ∷ 54 ∷ 32 ∷ 114 ∷ 55 ∷ 32 ∷ 64 ∷ 50 ∷ 52 ∷ 10
    -- 4 r8 r9 @40
    ∷ 52 ∷ 32 ∷ 114 ∷ 56 ∷ 32 ∷ 114 ∷ 57 ∷ 32 ∷ 64 ∷ 52 ∷ 48 ∷ 10
    -- 5 f4 r10 @56
    ∷ 53 ∷ 32 ∷ 102 ∷ 52 ∷ 32 ∷ 114 ∷ 49 ∷ 48 ∷ 32 ∷ 64 ∷ 53 ∷ 54 ∷ 10
    -- 6 mem @64
    ∷ 54 ∷ 32 ∷ 109 ∷ 101 ∷ 109 ∷ 32 ∷ 64 ∷ 54 ∷ 52 ∷ 10
    -- 7 mem @80
    ∷ 55 ∷ 32 ∷ 109 ∷ 101 ∷ 109 ∷ 32 ∷ 64 ∷ 56 ∷ 48 ∷ 10
    -- 8 f5 mem @88
    ∷ 56 ∷ 32 ∷ 102 ∷ 53 ∷ 32 ∷ 109 ∷ 101 ∷ 109 ∷ 32 ∷ 64 ∷ 56 ∷ 56 ∷ 10
    -- result r3
    ∷ 114 ∷ 101 ∷ 115 ∷ 117 ∷ 108 ∷ 116 ∷ 32 ∷ 114 ∷ 51 ∷ 10
    ∷ []

-- No. 5: "AIX does the same by words": three long longs, a float and a double, whose second word is past r10
unfoldable pub aix-var : List ℕ
aix-var =
    0x01 ∷ 0 ∷ 1 ∷ 3
    ∷ 0x02 ∷ 0 ∷ 0
    ∷ 0x04 ∷ 0 ∷ 0
    -- the arguments, 20 bytes
    ∷ 0x03 ∷ 0 ∷ 20
    ∷ 0x10 ∷ 0 ∷ 1 ∷ 6
    ∷ 0x10 ∷ 0 ∷ 1 ∷ 6
    ∷ 0x10 ∷ 0 ∷ 1 ∷ 6
    ∷ 0x11 ∷ 0 ∷ 1 ∷ 0
    ∷ 0x11 ∷ 0 ∷ 1 ∷ 1
    ∷ []

unfoldable pub aix-var-text : List ℕ
aix-var-text =
    -- AIX args 5 area 36 var
    65 ∷ 73 ∷ 88 ∷ 32 ∷ 97 ∷ 114 ∷ 103 ∷ 115 ∷ 32 ∷ 53 ∷ 32 ∷ 97 ∷ 114 ∷ 101 ∷ 97 ∷ 32 ∷ 51 ∷ 54 ∷ 32 ∷ 118 ∷ 97 ∷ 114 ∷ 10
    -- 0 r3 r4 @0
    ∷ 48 ∷ 32 ∷ 114 ∷ 51 ∷ 32 ∷ 114 ∷ 52 ∷ 32 ∷ 64 ∷ 48 ∷ 10
    -- 1 r5 r6 @8
    ∷ 49 ∷ 32 ∷ 114 ∷ 53 ∷ 32 ∷ 114 ∷ 54 ∷ 32 ∷ 64 ∷ 56 ∷ 10
    -- 2 r7 r8 @16
    ∷ 50 ∷ 32 ∷ 114 ∷ 55 ∷ 32 ∷ 114 ∷ 56 ∷ 32 ∷ 64 ∷ 49 ∷ 54 ∷ 10
    -- 3 f1 r9 @24
    ∷ 51 ∷ 32 ∷ 102 ∷ 49 ∷ 32 ∷ 114 ∷ 57 ∷ 32 ∷ 64 ∷ 50 ∷ 52 ∷ 10
    -- 4 f2 r10 mem @28
    ∷ 52 ∷ 32 ∷ 102 ∷ 50 ∷ 32 ∷ 114 ∷ 49 ∷ 48 ∷ 32 ∷ 109 ∷ 101 ∷ 109 ∷ 32 ∷ 64 ∷ 50 ∷ 56 ∷ 10
    -- result none
    ∷ 114 ∷ 101 ∷ 115 ∷ 117 ∷ 108 ∷ 116 ∷ 32 ∷ 110 ∷ 111 ∷ 110 ∷ 101 ∷ 10
    ∷ []

-- No. 5: an ellipsis's item has an "empty body": one of a byte gives 4 at its header
unfoldable pub ellipsis-with-a-body : List ℕ
ellipsis-with-a-body = 0x01 ∷ 0 ∷ 1 ∷ 1 ∷ 0x02 ∷ 0 ∷ 0 ∷ 0x04 ∷ 0 ∷ 1 ∷ 0 ∷ 0x03 ∷ 0 ∷ 0 ∷ []

unfoldable pub ellipsis-with-a-body-text : List ℕ
ellipsis-with-a-body-text =
    -- refused 4 at 7 after 2
    114 ∷ 101 ∷ 102 ∷ 117 ∷ 115 ∷ 101 ∷ 100 ∷ 32 ∷ 52 ∷ 32 ∷ 97 ∷ 116 ∷ 32 ∷ 55 ∷ 32 ∷ 97 ∷ 102 ∷ 116 ∷ 101 ∷ 114 ∷ 32 ∷ 50 ∷ 10
    ∷ []

-- "Tag 0x04 no longer gives 3 at that spot": a second one does
unfoldable pub two-ellipses : List ℕ
two-ellipses = 0x01 ∷ 0 ∷ 1 ∷ 1 ∷ 0x02 ∷ 0 ∷ 0 ∷ 0x04 ∷ 0 ∷ 0 ∷ 0x04 ∷ 0 ∷ 0 ∷ 0x03 ∷ 0 ∷ 0 ∷ []

unfoldable pub two-ellipses-text : List ℕ
two-ellipses-text =
    -- refused 3 at 10 after 3
    114 ∷ 101 ∷ 102 ∷ 117 ∷ 115 ∷ 101 ∷ 100 ∷ 32 ∷ 51 ∷ 32 ∷ 97 ∷ 116 ∷ 32 ∷ 49 ∷ 48 ∷ 32 ∷ 97 ∷ 102 ∷ 116 ∷ 101 ∷ 114 ∷ 32 ∷ 51 ∷ 10
    ∷ []

-- 001's table 10, func(i, j, g, k, l, ll, f, h, m)
unfoldable pub table-10 : List ℕ
table-10 =
    -- the convention
    0x01 ∷ 0 ∷ 1 ∷ 2
    -- the result, an int
    ∷ 0x02 ∷ 0 ∷ 4 ∷ 0x10 ∷ 0 ∷ 1 ∷ 4
    -- the arguments, 36 bytes
    ∷ 0x03 ∷ 0 ∷ 36
    -- int i
    ∷ 0x10 ∷ 0 ∷ 1 ∷ 4
    -- int j
    ∷ 0x10 ∷ 0 ∷ 1 ∷ 4
    -- double g
    ∷ 0x11 ∷ 0 ∷ 1 ∷ 1
    -- int k
    ∷ 0x10 ∷ 0 ∷ 1 ∷ 4
    -- int l
    ∷ 0x10 ∷ 0 ∷ 1 ∷ 4
    -- long long ll
    ∷ 0x10 ∷ 0 ∷ 1 ∷ 6
    -- double f
    ∷ 0x11 ∷ 0 ∷ 1 ∷ 1
    -- double h
    ∷ 0x11 ∷ 0 ∷ 1 ∷ 1
    -- int m
    ∷ 0x10 ∷ 0 ∷ 1 ∷ 4
    ∷ []

unfoldable pub table-10-text : List ℕ
table-10-text =
    -- Z args 9 area 8
    90 ∷ 32 ∷ 97 ∷ 114 ∷ 103 ∷ 115 ∷ 32 ∷ 57 ∷ 32 ∷ 97 ∷ 114 ∷ 101 ∷ 97 ∷ 32 ∷ 56 ∷ 10
    -- 0 r2
    ∷ 48 ∷ 32 ∷ 114 ∷ 50 ∷ 10
    -- 1 r3
    ∷ 49 ∷ 32 ∷ 114 ∷ 51 ∷ 10
    -- 2 f0
    ∷ 50 ∷ 32 ∷ 102 ∷ 48 ∷ 10
    -- 3 r4
    ∷ 51 ∷ 32 ∷ 114 ∷ 52 ∷ 10
    -- 4 r5
    ∷ 52 ∷ 32 ∷ 114 ∷ 53 ∷ 10
    -- 5 r6
    ∷ 53 ∷ 32 ∷ 114 ∷ 54 ∷ 10
    -- 6 f2
    ∷ 54 ∷ 32 ∷ 102 ∷ 50 ∷ 10
    -- 7 f4
    ∷ 55 ∷ 32 ∷ 102 ∷ 52 ∷ 10
    -- 8 mem @160
    ∷ 56 ∷ 32 ∷ 109 ∷ 101 ∷ 109 ∷ 32 ∷ 64 ∷ 49 ∷ 54 ∷ 48 ∷ 10
    -- result r2
    ∷ 114 ∷ 101 ∷ 115 ∷ 117 ∷ 108 ∷ 116 ∷ 32 ∷ 114 ∷ 50 ∷ 10
    ∷ []

-- 004's mooFunc(i1, f1, d1, s1, d2, c1, s2, f2, i2), on AIX
unfoldable pub moo-func : List ℕ
moo-func =
    -- the convention
    0x01 ∷ 0 ∷ 1 ∷ 3
    -- no result
    ∷ 0x02 ∷ 0 ∷ 0
    -- the arguments, 36 bytes
    ∷ 0x03 ∷ 0 ∷ 36
    -- SInt32 i1
    ∷ 0x10 ∷ 0 ∷ 1 ∷ 4
    -- float f1
    ∷ 0x11 ∷ 0 ∷ 1 ∷ 0
    -- double d1
    ∷ 0x11 ∷ 0 ∷ 1 ∷ 1
    -- SInt16 s1
    ∷ 0x10 ∷ 0 ∷ 1 ∷ 2
    -- double d2
    ∷ 0x11 ∷ 0 ∷ 1 ∷ 1
    -- UInt8 c1
    ∷ 0x10 ∷ 0 ∷ 1 ∷ 1
    -- UInt16 s2
    ∷ 0x10 ∷ 0 ∷ 1 ∷ 3
    -- float f2
    ∷ 0x11 ∷ 0 ∷ 1 ∷ 0
    -- SInt32 i2
    ∷ 0x10 ∷ 0 ∷ 1 ∷ 4
    ∷ []

-- 004, figures 4 and 5: "GPR4 to be skipped", "GPR5 and GPR6 are unused", "GPR8 and GPR9 masked out"
unfoldable pub moo-func-text : List ℕ
moo-func-text =
    -- AIX args 9 area 44
    65 ∷ 73 ∷ 88 ∷ 32 ∷ 97 ∷ 114 ∷ 103 ∷ 115 ∷ 32 ∷ 57 ∷ 32 ∷ 97 ∷ 114 ∷ 101 ∷ 97 ∷ 32 ∷ 52 ∷ 52 ∷ 10
    -- 0 r3 @0
    ∷ 48 ∷ 32 ∷ 114 ∷ 51 ∷ 32 ∷ 64 ∷ 48 ∷ 10
    -- 1 f1 @4
    ∷ 49 ∷ 32 ∷ 102 ∷ 49 ∷ 32 ∷ 64 ∷ 52 ∷ 10
    -- 2 f2 @8
    ∷ 50 ∷ 32 ∷ 102 ∷ 50 ∷ 32 ∷ 64 ∷ 56 ∷ 10
    -- 3 r7 @16
    ∷ 51 ∷ 32 ∷ 114 ∷ 55 ∷ 32 ∷ 64 ∷ 49 ∷ 54 ∷ 10
    -- 4 f3 @20
    ∷ 52 ∷ 32 ∷ 102 ∷ 51 ∷ 32 ∷ 64 ∷ 50 ∷ 48 ∷ 10
    -- 5 r10 @28
    ∷ 53 ∷ 32 ∷ 114 ∷ 49 ∷ 48 ∷ 32 ∷ 64 ∷ 50 ∷ 56 ∷ 10
    -- 6 mem @32
    ∷ 54 ∷ 32 ∷ 109 ∷ 101 ∷ 109 ∷ 32 ∷ 64 ∷ 51 ∷ 50 ∷ 10
    -- 7 f4 @36
    ∷ 55 ∷ 32 ∷ 102 ∷ 52 ∷ 32 ∷ 64 ∷ 51 ∷ 54 ∷ 10
    -- 8 mem @40
    ∷ 56 ∷ 32 ∷ 109 ∷ 101 ∷ 109 ∷ 32 ∷ 64 ∷ 52 ∷ 48 ∷ 10
    -- result none
    ∷ 114 ∷ 101 ∷ 115 ∷ 117 ∷ 108 ∷ 116 ∷ 32 ∷ 110 ∷ 111 ∷ 110 ∷ 101 ∷ 10
    ∷ []

-- "A refusal prints `refused 2 at 0 after 0`", as for empty input
unfoldable pub empty-text : List ℕ
empty-text =
    -- refused 2 at 0 after 0
    114 ∷ 101 ∷ 102 ∷ 117 ∷ 115 ∷ 101 ∷ 100 ∷ 32 ∷ 50 ∷ 32 ∷ 97 ∷ 116 ∷ 32 ∷ 48 ∷ 32 ∷ 97 ∷ 102 ∷ 116 ∷ 101 ∷ 114 ∷ 32 ∷ 48 ∷ 10
    ∷ []

unfoldable pub vectors : List Vector
vectors =
    printed figure-3-18 figure-3-18-text
    ∷ printed figure-3-18b figure-3-18b-text
    ∷ printed seven-long-doubles seven-long-doubles-text
    ∷ printed figure-3-18-var figure-3-18-var-text
    ∷ printed figure-3-18b-var figure-3-18b-var-text
    ∷ printed aix-var aix-var-text
    ∷ printed ellipsis-with-a-body ellipsis-with-a-body-text
    ∷ printed two-ellipses two-ellipses-text
    ∷ printed table-10 table-10-text
    ∷ printed moo-func moo-func-text
    ∷ printed [] empty-text
    -- "singles 3F800000, 00000001, 007FFFFF, 7F800001 widen to .."
    ∷ widened 0x3f80_0000 0x3ff0_0000_0000_0000
    ∷ widened 0x0000_0001 0x36a0_0000_0000_0000
    ∷ widened 0x007f_ffff 0x380f_ffff_c000_0000
    ∷ widened 0x7f80_0001 0x7ff0_0000_2000_0000
    -- "3FF0000010000000 and 3690000000000000 give 14"
    ∷ refused 0x3ff0_0000_1000_0000 14
    ∷ refused 0x3690_0000_0000_0000 14
    -- "g 29, m 30, L 20, P 64: 176. g 14, m 14, L 0, P 0: 400. Z, g 6, m 8, L 1, P 8: 240"
    ∷ sized ppc64_frames 29 30 20 64 176
    ∷ sized ppc64_frames 14 14 0 0 400
    ∷ sized z_frames 6 8 1 8 240
    ∷ []
