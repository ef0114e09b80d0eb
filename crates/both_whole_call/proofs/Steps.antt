-- Lists of the machine's own calls: what they leave, answer and open, and that demand 3's invariant holds through them. Assumes nothing.
use mathlib.Core.Path.{◌≡◌, refl, sym, subst}
use mathlib.Core.List.{List, [], ◌∷◌, ◌++◌}
use Rattle.base_words.specs.Basics.{All}
use Rattle.base_words.proofs.Each.{each_both}
use Rattle.base_conventions.specs.declared.Convention.{Convention}
use Rattle.frame_rules.specs.declared.FrameRules.{FrameRules}
use Rattle.frame_rules.specs.Rules.{rules}
use Rattle.frame_rules.proofs.Conventions.{lawful}
use Rattle.std.specs.Prelude.{Ok}
use Rattle.frame_machine.specs.Machine.{leave_answer, leave_outcome}
use Rattle.frame_history.specs.Calls.{Call, leave, Machine, answer, after}
use Rattle.frame_history.specs.Preserved.{OpenEnter, open_after, Preserved, CallFits, CallsFit}
use Rattle.frame_history.proofs.Invariant.{Invariant}
use Rattle.frame_history.proofs.Leaving.{leave-accepted}
use Rattle.frame_history.proofs.Theorem.{step}

-- as the specification has them of the exported calls
unfoldable pub run : List Call → Machine → Machine
run [] m = m
run (c ∷ cs) m = run cs (after c m)

unfoldable pub AllAccepted : List Call → Machine → Type 0
AllAccepted [] m = Unit {0}
AllAccepted (c ∷ cs) m = (answer c m ≡ Ok tt) × AllAccepted cs (after c m)

unfoldable pub opened_by : List Call → Machine → List OpenEnter → List OpenEnter
opened_by [] m os = os
opened_by (c ∷ cs) m os = opened_by cs (after c m) (open_after c (answer c m) m os)

-- ---- one call, and a list of them

pub call-keeps : (c : Convention) (x : Call) → CallFits x → (os : List OpenEnter) (m : Machine) → Invariant (rules c) os m
    → Invariant (rules c) (open_after x (answer x m) m os) (after x m)
call-keeps c x w os m i = (step (rules c) (lawful c) x w os m i (answer x m) refl).1

pub calls-keep : (c : Convention) (xs : List Call) → CallsFit xs → (os : List OpenEnter) (m : Machine) → Invariant (rules c) os m
    → Invariant (rules c) (opened_by xs m os) (run xs m)
unfolding opened_by run All
calls-keep c [] w os m i = i
calls-keep c (x ∷ xs) w os m i = calls-keep c xs w.1 (open_after x (answer x m) m os) (after x m) (call-keeps c x w.0 os m i)

-- a leave with an enter open is accepted, and preserves
pub leave-holds : (c : Convention) (o : OpenEnter) (os : List OpenEnter) (m : Machine) → Invariant (rules c) (o ∷ os) m
    → (answer leave m ≡ Ok tt) × Preserved (rules c) o os (after leave m)
unfolding leave_outcome
leave-holds c o os m i =
    let k : FrameRules = rules c in
    let e : answer leave m ≡ Ok tt
    = subst (λ (r : FrameRules). leave_answer r m.state m.memory ≡ Ok tt) (sym i.0.rules) (leave-accepted k (lawful c) o os m i) in
    (e, (step k (lawful c) leave tt (o ∷ os) m i (Ok tt) e).0)

-- ---- two lists of calls one after the other

pub run-both : (xs ys : List Call) (m : Machine) → run (xs ++ ys) m ≡ run ys (run xs m)
unfolding run
run-both [] ys m = refl
run-both (x ∷ xs) ys m = run-both xs ys (after x m)

pub opened_both : (xs ys : List Call) (m : Machine) (os : List OpenEnter) → opened_by (xs ++ ys) m os ≡ opened_by ys (run xs m) (opened_by xs m os)
unfolding opened_by run
opened_both [] ys m os = refl
opened_both (x ∷ xs) ys m os = opened_both xs ys (after x m) (open_after x (answer x m) m os)

pub accepted-both : (xs ys : List Call) (m : Machine) → AllAccepted xs m → AllAccepted ys (run xs m) → AllAccepted (xs ++ ys) m
unfolding AllAccepted run
accepted-both [] ys m h k = k
accepted-both (x ∷ xs) ys m h k = (h.0, accepted-both xs ys (after x m) h.1 k)

pub fit-both : (xs ys : List Call) → CallsFit xs → CallsFit ys → CallsFit (xs ++ ys)
fit-both xs ys h k = each_both CallFits xs ys h k
