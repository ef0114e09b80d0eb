-- What a reader finds, and how one reading follows another: the first refusal is the answer. Assumes nothing.
use Rattle.std.specs.Prelude.{ℕ, ◌+◌, Bool, true, false, Ok, Err, Result}
use Rattle.sig_items.specs.declared.Refusal.{Refusal}
use Rattle.sig_items.specs.declared.Fault.{Fault}

-- "A refusal is a number and a place", and "how many headers had passed header room, tag and length room when it stopped"
abbrev pub fault : Refusal → ℕ → ℕ → Fault
fault r place passed = record { reason = r; place = place; passed = passed }

-- `got x next n`: x was read, the next item starts at `next`, and it took n items, "headers of nested ones included";
-- `no f`: refused. Both counts are of the headers from the reading's own first item on.
pub data Reading (A : Type 0) : Type 0 where
  got : A → ℕ → ℕ → Reading A
  no : Fault → Reading A

-- a fault after n headers more
abbrev pub later : ℕ → Fault → Fault
later n f = record { reason = f.reason; place = f.place; passed = n + f.passed }

-- a reading after n headers: both counts have them too, "enclosing and nested ones alike"
abbrev pub later_reading : {A : Type 0} → ℕ → Reading A → Reading A
later_reading n (got x next m) = got x next (n + m)
later_reading n (no f) = no (later n f)

-- a choice by a test where a case must wait for the test
abbrev pub choose : {A : Type 0} → Bool → (Unit {0} → A) → (Unit {0} → A) → A
choose true a b = a tt
choose false a b = b tt

-- one reading after another; a refusal is handed on whole
abbrev pub and_then : {A B : Type 0} → Reading A → (A → ℕ → ℕ → Reading B) → Reading B
and_then (got x next n) g = g x next n
and_then (no f) g = no f

-- the body of an item at `at`; a header that is refused has not passed
abbrev pub in_body : {A : Type 0} → Result ℕ Refusal → ℕ → (ℕ → Reading A) → Reading A
in_body (Ok b) at f = f b
in_body (Err r) at f = no (fault r at 0)
