-- The turns of the loop that puts registers in their homes, and the answer of a whole home from those of its parts.
-- Assumes nothing.
use mathlib.Core.Path.{◌≡◌, refl, sym, ap, ap₂, ◌∙◌}
use mathlib.Core.Bool.{true, false}
use mathlib.Core.List.{List, [], ◌∷◌}
use Prim.Native.Nat.{ℕ, suc, ◌+◌, ◌≤◌}
use native.Mathlib.Omega.{arith}
use native.Mathlib.Numerals.{add-one}
use borrow.Author.Tests.{ltb-false}
use lib.ListN.{length, drop}
use Rattle.base_words.specs.Basics.{All}
use Rattle.base_words.specs.Splice.{splice}
use Rattle.base_words.proofs.Splices.{length-splice}
use Rattle.base_words.proofs.Each.{each-with}
use Rattle.sig_signatures.specs.declared.SignatureRead.{SignatureRead}
use Rattle.sig_signatures.specs.Read.{signature_of}
use Rattle.sig_signatures.specs.Answer.{signature_answer}
use Rattle.plan_places.specs.declared.CallRules.{CallRules}
use Rattle.plan_plans.specs.declared.Plan.{Plan}
use Rattle.sig_items.specs.declared.Fault.{Fault}
use Rattle.call_slots.specs.Placements.{Placement}
use Rattle.call_slots.specs.Helpers.{Held, Fits}
use Rattle.call_slots.specs.Refusals.{first_of, or_else, after_reading}
use Rattle.plan_plans.specs.Call.{outcome_for}
use Rattle.call_slots.specs.Arguments.{placements_in, arguments_of, plan_for, rules_in, rules_for}
use Rattle.call_slots.proofs.Planned.{in_image_lem}
use Rattle.call_slots.proofs.Refusals.{first_done, differ-false, or-refused, not-refused}
use Rattle.call_slots.proofs.Answered.{Carried, carried_same}
use Rattle.call_home.specs.Home.{home_tests, home_answer, registers_answer, home_area, homed}
use Rattle.call_home.specs.Helpers.{AllRegistered}
use Rattle.plan_places.specs.Step.{rules_of}
use Rattle.call_home_slot.proofs.Homed.{homed_all}
use Rattle.call_home_slot.proofs.Marked.{homeless-marked}
use Rattle.call_home_slot.specs.Homes.{homeless, homed_bytes}
use Rattle.call_home_slot.specs.Helpers.{Homed, Registered}
use Rattle.std.proofs.Common.{Ok, Err, is_err, Result}
use Rattle.call_slots.specs.Answer.{CallAnswer, call_done, call_unread}

-- ---- the loop

-- n arguments of ps are put, and the area is l
pub record Homing (a i : ℕ) (r : CallRules) (ps : List Placement) (image l₀ l : List ℕ) (n : ℕ) : Type 0 where
  pub same : length l ≡ length l₀
  pub each : All (Registered r a i) (drop n ps)
  pub rest : homed r (drop n ps) image l ≡ homed r ps image l₀

pub homing-start : (a i : ℕ) (r : CallRules) (ps : List Placement) (image l : List ℕ) → All (Registered r a i) ps → Homing a i r ps image l l 0
homing-start a i r ps image l each = record { same = refl; each = each; rest = refl }

module _ (a i : ℕ) (r : CallRules) (ps : List Placement) (image l₀ l : List ℕ) (n : ℕ) (p : Placement) (e : drop n ps ≡ p ∷ drop (suc n) ps)
    (h : Homing a i r ps image l₀ l n) where
  pub homing-ready : Registered r a i p
  unfolding All
  homing-ready = let each : Registered r a i p × All (Registered r a i) (drop (suc n) ps) = rw e at h.each in each.0

  pub homing-more : Homing a i r ps image l₀ (splice l p.span.home.start (homed_bytes r p image)) (n + 1)
  unfolding All homed
  homing-more =
      let each : Registered r a i p × All (Registered r a i) (drop (suc n) ps) = rw e at h.each in
      let l' : List ℕ = splice l p.span.home.start (homed_bytes r p image) in
      let rest : homed r (drop (suc n) ps) image l' ≡ homed r ps image l₀ = rw e at h.rest in
      record { same = length-splice l p.span.home.start (homed_bytes r p image) ∙ h.same; each = rw add-one each.1; rest = rw add-one rest }

pub homing-end : (a i : ℕ) (r : CallRules) (ps : List Placement) (image l₀ l : List ℕ) (n : ℕ) → drop n ps ≡ [] → Homing a i r ps image l₀ l n → l ≡ homed r ps image l₀
unfolding homed
homing-end a i r ps image l₀ l n e h = rw e at h.rest

-- ---- what no test refuses

pub record HomeLent (r : CallRules) (i have area : ℕ) : Type 0 where
  pub homes : homeless r ≡ false
  pub image : i ≡ 512
  pub room : area ≤ have

pub home-passed : (r : CallRules) (i have area : ℕ) → first_of (home_tests r i have area) ≡ call_done → HomeLent r i have area
unfolding home_tests
home-passed (CallRules.Power f) i have area e =
    let a = first_done _ _ e in
    let b = first_done _ _ a.1 in
    let c = first_done _ _ b.1 in
    record { homes = refl; image = differ-false i 512 b.0; room = ltb-false have area c.0 }
home-passed CallRules.Z i have area e = let a = first_done _ _ e in let q : true ≡ false = a.0 in let z : ◌≡◌ {A = ℕ} 0 1 = cc in absurd (omega arith)

-- an ellipsis asks for nothing more
pub tests-marked : (g : SignatureRead) (i have area : ℕ) (a : CallAnswer) → a ≡ first_of (home_tests (rules_of g.convention) i have area) → a ≡ first_of (home_tests (rules_in g) i have area)
unfolding home_tests
tests-marked g i have area a e = rw (homeless-marked g.ellipsis (rules_of g.convention)) e

-- every argument on PowerPC has its registers and its home
pub all-registered : (s : List ℕ) (g : SignatureRead) (p : Plan) (i : ℕ) → g ≡ signature_answer (signature_of s) → p ≡ plan_for s
    → homeless (rules_in g) ≡ false → i ≡ 512 → AllRegistered g p i
unfolding arguments_of
all-registered s g p i read plan power image =
    let c : Carried g p = carried_same s g p read plan in
    let homes : All (Homed (rules_in g) p.area) (placements_in g p) =
    rw (read, plan) (homed_all s (ap (λ (x : SignatureRead). homeless (rules_in x)) (sym read) ∙ power)) in
    record {
      tables = c.tables;
      each = each-with Lies (Homed r p.area) (Registered r p.area i) registered (placements_in g p)
          (each-with (Held r) (Fits p.area p.copies) Lies (λ q x y. (x, y)) (placements_in g p) c.held c.fit) homes;
    }
  where
    r : CallRules
    r = rules_in g

    Lies : Placement → Type 0
    Lies q = Held r q × Fits p.area p.copies q

    registered : (q : Placement) → Lies q → Homed r p.area q → Registered r p.area i q
    registered q x y = record { registers = in_image_lem r i p.area p.copies q x.0 x.1 image; homed = y }

-- ---- the answer and the area

module _ (s image : List ℕ) (have : ℕ) where
  pub home-refused : (f : Fault) → outcome_for s ≡ Err f
      → call_unread f ≡ home_answer s image have
  unfolding home_answer
  home-refused f e = rw e

  module _ (g : SignatureRead) (p : Plan) (n : ℕ) (read : g ≡ signature_answer (signature_of s)) (plan : p ≡ plan_for s) (e : outcome_for s ≡ Ok n) where
    -- of the lengths l and the registers a
    whole : (l a : CallAnswer) → l ≡ first_of (home_tests (rules_in g) (length image) have p.area)
        → a ≡ registers_answer (rules_in g) (placements_in g p) image → or_else l a ≡ home_answer s image have
    unfolding home_answer arguments_of
    whole l a x y =
        ap₂ or_else x y
        ∙ ap₂ (λ (g : SignatureRead) (p : Plan). or_else (first_of (home_tests (rules_in g) (length image) have p.area)) (registers_answer (rules_in g) (placements_in g p) image)) read plan
        ∙ sym (ap (λ (o : Result ℕ Fault). after_reading o (or_else (first_of (home_tests (rules_for s) (length image) have (plan_for s).area)) (registers_answer (rules_for s) (arguments_of s) image))) e)

    pub home-lengths : (l : CallAnswer) → l ≡ first_of (home_tests (rules_in g) (length image) have p.area) → is_err l ≡ true → l ≡ home_answer s image have
    home-lengths l x t = sym (or-refused l _ t) ∙ whole l (registers_answer (rules_in g) (placements_in g p) image) x refl

    pub home-registers : (l a : CallAnswer) → l ≡ first_of (home_tests (rules_in g) (length image) have p.area) → is_err l ≡ false
        → a ≡ registers_answer (rules_in g) (placements_in g p) image → a ≡ home_answer s image have
    home-registers l a x t y = ap (λ (z : CallAnswer). or_else z a) (sym (not-refused l t)) ∙ whole l a x y

pub area-kept : (s : List ℕ) (a : CallAnswer) (image area : List ℕ) → is_err a ≡ true → area ≡ home_area s a image area
unfolding home_area
area-kept s (Ok tt) image area e = let z : ◌≡◌ {A = ℕ} 0 1 = cc in absurd (omega arith)
area-kept s (Err x) image area e = refl

pub area-homed : (s image area last : List ℕ) (g : SignatureRead) (p : Plan) → g ≡ signature_answer (signature_of s) → p ≡ plan_for s
    → last ≡ homed (rules_in g) (placements_in g p) image area → last ≡ home_area s call_done image area
unfolding home_area arguments_of
area-homed s image area last g p read plan e = rw (← read, ← plan) e
