-- An argument that no test of a view refuses lies in its home, and the part that a view shows. Assumes nothing.
use Rattle.sig_items.specs.declared.Fault.{Fault}
use mathlib.Core.Path.{◌≡◌, refl, sym, ap, ap₂, ◌∙◌}
use mathlib.Core.Bool.{true, false}
use mathlib.Core.List.{List, []}
use Prim.Native.Nat.{ℕ, ◌+◌, ◌-◌, ◌≤◌, ◌<◌}
use native.Mathlib.Omega.{arith}
use borrow.Author.Tests.{ltb-false, leb-false}
use native.Mathlib.Nat.{add-sub_cancel_left}
use lib.ListN.{length, get_or, take, drop}
use Rattle.base_words.specs.Basics.{pick, All}
use Rattle.sig_signatures.specs.Limits.{max_arguments}
use Rattle.sig_signatures.specs.declared.SignatureRead.{SignatureRead}
use Rattle.sig_signatures.specs.Read.{signature_of}
use Rattle.sig_signatures.specs.Answer.{signature_answer}
use Rattle.plan_places.specs.declared.CallRules.{CallRules}
use Rattle.plan_places.specs.Step.{rules_of}
use Rattle.plan_plans.specs.declared.Plan.{Plan}
use Rattle.call_slots.specs.Forms.{own_start}
use Rattle.call_slots.specs.Placements.{Placement}
use Rattle.call_slots.specs.Helpers.{Held}
use Rattle.call_slots.specs.Refusals.{Test, first_of, after_reading}
use Rattle.plan_plans.specs.Call.{outcome_for}
use Rattle.call_slots.specs.Arguments.{placements_in, arguments_of, plan_for, rules_in, rules_for}
use Rattle.call_slots.proofs.Answered.{Carried, carried_same}
use Rattle.call_slots.proofs.Marked.{own-marked, held-marked}
use Rattle.call_slots.proofs.Turns.{argument_at, next-argument}
use Rattle.call_slots.proofs.Refusals.{first_done}
use Rattle.call_home_slot.proofs.Homed.{homed_all, all-at, get_or-at, own-homed}
use Rattle.call_home_slot.proofs.Marked.{homeless-marked, homed-marked}
use Rattle.call_views.specs.declared.ViewPart.{ViewPart}
use Rattle.call_home_slot.specs.Homes.{homeless}
use Rattle.call_home_slot.specs.Helpers.{Homed}
use Rattle.call_views.specs.View.{view_tests, view_answer, no_argument, own_bytes, own_part, view_part, view_of}
use Rattle.std.proofs.Common.{Ok, Err, is_ok, is_err, Result}
use Rattle.call_slots.specs.Answer.{CallAnswer, call_done}

-- ---- what no test refuses

pub reading-done : (o : Result ℕ Fault) (x : CallAnswer) → after_reading o x ≡ call_done → x ≡ call_done
reading-done (Ok n) x e = e
reading-done (Err f) x e = let z : ◌≡◌ {A = ℕ} 0 1 = cc in absurd (omega arith)

pub record Viewed (r : CallRules) (count index have area : ℕ) : Type 0 where
  pub homes : homeless r ≡ false
  pub there : index < count
  pub room : area ≤ have

pub view-passed : (r : CallRules) (count index have area : ℕ) → first_of (view_tests r count index have area) ≡ call_done → Viewed r count index have area
unfolding view_tests
view-passed (CallRules.Power f) count index have area e =
    let a = first_done _ _ e in
    let b = first_done _ _ a.1 in
    record { homes = refl; there = leb-false count index a.0; room = ltb-false have area b.0 }
view-passed CallRules.Z count index have area e = let a = first_done _ _ e in let q : true ≡ false = a.0 in let z : ◌≡◌ {A = ℕ} 0 1 = cc in absurd (omega arith)

-- ---- the argument that is viewed

pub record Hand (s : List ℕ) (have index : ℕ) (g : SignatureRead) (p : Plan) : Type 0 where
  pub done : view_answer s have index ≡ call_done
  pub small : index < max_arguments
  pub room : p.area ≤ have
  pub held : Held (rules_of g.convention) (argument_at g p index)
  pub homed : Homed (rules_of g.convention) p.area (argument_at g p index)
  pub at : get_or (arguments_of s) index no_argument ≡ argument_at g p index

-- an ellipsis asks for nothing more
tests-marked : (g : SignatureRead) (count index have area : ℕ) → view_tests (rules_of g.convention) count index have area ≡ view_tests (rules_in g) count index have area
unfolding view_tests
tests-marked g count index have area = rw (homeless-marked g.ellipsis (rules_of g.convention))

pub answer-same : (s : List ℕ) (have index : ℕ) (g : SignatureRead) (p : Plan) (a : CallAnswer) → g ≡ signature_answer (signature_of s) → p ≡ plan_for s
    → a ≡ after_reading (outcome_for s) (first_of (view_tests (rules_of g.convention) g.count index have p.area)) → a ≡ view_answer s have index
unfolding view_answer
answer-same s have index g p a read plan e =
    e
    ∙ ap (λ (ts : List Test). after_reading (outcome_for s) (first_of ts)) (tests-marked g g.count index have p.area)
    ∙ ap₂ (λ (g : SignatureRead) (p : Plan). after_reading (outcome_for s) (first_of (view_tests (rules_in g) g.count index have p.area))) read plan

pub hand : (s : List ℕ) (have index : ℕ) (g : SignatureRead) (p : Plan) (a : CallAnswer) → g ≡ signature_answer (signature_of s) → p ≡ plan_for s
    → a ≡ after_reading (outcome_for s) (first_of (view_tests (rules_of g.convention) g.count index have p.area)) → a ≡ call_done → Hand s have index g p
unfolding arguments_of
hand s have index g p a read plan e d =
    let v = view-passed (rules_of g.convention) g.count index have p.area (reading-done (outcome_for s) _ (sym e ∙ d)) in
    let c : Carried g p = carried_same s g p read plan in
    let next = next-argument g p index v.there c.tables.types c.tables.spans in
    let r : CallRules = rules_of g.convention in
    let homes : All (Homed (rules_in g) p.area) (placements_in g p) =
    rw (read, plan) (homed_all s (ap (λ (x : SignatureRead). homeless (rules_in x)) (sym read) ∙ homeless-marked g.ellipsis r ∙ v.homes)) in
    record {
      done = sym (answer-same s have index g p a read plan e) ∙ d;
      small = omega (arith, v.there, c.tables.few);
      room = v.room;
      held = held-marked g.ellipsis r _ (all-at (Held (rules_in g)) (placements_in g p) index (argument_at g p index) _ next c.held);
      homed = homed-marked g.ellipsis r _ _ (all-at (Homed (rules_in g) p.area) (placements_in g p) index (argument_at g p index) _ next homes);
      at = ap₂ (λ (g : SignatureRead) (p : Plan). get_or (placements_in g p) index no_argument) (sym read) (sym plan) ∙ get_or-at (placements_in g p) index (argument_at g p index) no_argument _ next;
    }

-- ---- the part that is viewed

refused-part : (a : CallAnswer) (r : CallRules) (p : Placement) → is_err a ≡ true → ◌≡◌ {A = ViewPart} (record { answer = a; start = 0; length = 0 }) (own_part a r p)
refused-part (Ok tt) r p q = let z : ◌≡◌ {A = ℕ} 0 1 = cc in absurd (omega arith)
refused-part (Err x) r p q = refl

pub part-refused : (s : List ℕ) (have index : ℕ) (a : CallAnswer) → a ≡ view_answer s have index → is_err a ≡ true
    → ◌≡◌ {A = ViewPart} (record { answer = a; start = 0; length = 0 }) (view_part s have index)
unfolding view_part
part-refused s have index a e q = rw (← e) (refused-part a (rules_for s) (get_or (arguments_of s) index no_argument) q)

pub part-shown : (s : List ℕ) (have index : ℕ) (g : SignatureRead) (p : Plan) (a : CallAnswer) (own n : ℕ) → Hand s have index g p → g ≡ signature_answer (signature_of s)
    → a ≡ view_answer s have index
    → own ≡ own_start (rules_of g.convention) (argument_at g p index).ty (argument_at g p index).size → n ≡ (argument_at g p index).size
    → ◌≡◌ {A = ViewPart} (record { answer = a; start = (argument_at g p index).span.home.start + own; length = n }) (view_part s have index)
unfolding view_part
part-shown s have index g p a own n h read e o z =
    let done : a ≡ call_done = e ∙ h.done in
    let same = own-marked g.ellipsis (rules_of g.convention) (argument_at g p index).ty (argument_at g p index).size in
    rw (← e, done, o, z, h.at, ← same) (ap (λ (x : SignatureRead). own_part call_done (rules_in x) (argument_at g p index)) read)

pub part-answer : (s : List ℕ) (have index : ℕ) → (view_part s have index).answer ≡ view_answer s have index
unfolding view_part
part-answer s have index = refl

view_answer-is : (s : List ℕ) (have index : ℕ)
    → view_answer s have index
    ≡ after_reading (outcome_for s) (first_of (view_tests (rules_of (signature_answer (signature_of s)).convention) (signature_answer (signature_of s)).count index have (plan_for s).area))
unfolding view_answer
view_answer-is s have index = ap (λ (ts : List Test). after_reading (outcome_for s) (first_of ts)) (sym (tests-marked (signature_answer (signature_of s)) _ index have _))

-- it lies in the area
pub part-within : (s : List ℕ) (have index : ℕ) → (view_part s have index).start + (view_part s have index).length ≤ have
unfolding view_part
part-within s have index = go (view_answer s have index) refl
  where
    go : (a : CallAnswer) → a ≡ view_answer s have index
        → (own_part a (rules_for s) (get_or (arguments_of s) index no_argument)).start + (own_part a (rules_for s) (get_or (arguments_of s) index no_argument)).length ≤ have
    go (Ok tt) e =
        let g : SignatureRead = signature_answer (signature_of s) in
        let h = hand s have index g (plan_for s) call_done refl refl (e ∙ view_answer-is s have index) refl in
        let same = own-marked g.ellipsis (rules_of g.convention) (argument_at g (plan_for s) index).ty (argument_at g (plan_for s) index).size in
        rw h.at (omega (arith, own-homed (rules_of g.convention) _ _ h.held h.homed, same, h.room))
    go (Err x) e = omega arith

-- and is the view
pub part-view : (s area : List ℕ) (index : ℕ) (v : ViewPart) → v ≡ view_part s (length area) index
    → take (v.start + v.length - v.start) (drop v.start area) ≡ view_of s area index
unfolding view_part view_of
part-view s area index v e =
    ap (λ (m : ℕ). take m (drop v.start area)) (add-sub_cancel_left v.start v.length)
    ∙ ap (λ (v : ViewPart). take v.length (drop v.start area)) e
    ∙ go (view_answer s (length area) index)
  where
    go : (a : CallAnswer) → take (own_part a (rules_for s) (get_or (arguments_of s) index no_argument)).length (drop (own_part a (rules_for s) (get_or (arguments_of s) index no_argument)).start area)
        ≡ pick (is_ok a) (own_bytes (rules_for s) (get_or (arguments_of s) index no_argument) area) []
    go (Ok tt) = refl
    go (Err x) = refl
