-- The second plan of the reader's answer is that of what it reads. Assumes nothing.
use Rattle.std.proofs.Common.{Ok, Err, Result}
use mathlib.Core.Path.{◌≡◌, refl, sym, ap, ◌∙◌}
use mathlib.Core.List.{List}
use Prim.Native.Nat.{ℕ, suc}
use Rattle.sig_types.specs.declared.ValueType.{ValueType}
use Rattle.sig_items.specs.declared.Fault.{Fault}
use Rattle.sig_items.specs.Reading.{Reading, got, no}
use Rattle.sig_signatures.specs.declared.SignatureRead.{SignatureRead}
use Rattle.sig_signatures.specs.Signature.{Signature}
use Rattle.sig_signatures.specs.Answer.{result_type, signature_answer}
use Rattle.sig_signatures.specs.Types.{types_in}
use Rattle.sig_signatures.proofs.Types.{table-types}
use Rattle.sig_reader.specs.Argument.{unclear_fault}
use Rattle.second_planner.specs.declared.SecondPlan.{SecondPlan}
use Rattle.second_planner.specs.Answer.{second_in, no_plan, straddling_in, unless_straddling, second_answer}

-- the second plan by the reader's answer g on x
abbrev second_as : Result ℕ Fault → SignatureRead → Reading Signature → SecondPlan
second_as (Ok n) g x =
    unless_straddling (straddling_in g.convention (types_in g)) x (second_in n g.convention g.ellipsis g.result (types_in g))
second_as (Err f) g x = no_plan f

pub second-answer : (x : Reading Signature) → second_as (signature_answer x).outcome (signature_answer x) x ≡ second_answer x
unfolding second_answer
second-answer (got g next n) =
    ap (λ (ts : List ValueType). unless_straddling (straddling_in g.convention ts) (got g next n) (second_in n g.convention g.ellipsis (result_type g.convention g.result) ts))
    (table-types g.convention g.arguments)
second-answer (no f) = refl

-- by what was read

by_answer : (x : Reading Signature) (g : SignatureRead) (o : Result ℕ Fault) → g ≡ signature_answer x → g.outcome ≡ o → second_as o g x ≡ second_answer x
by_answer x g o e q = ap (λ (u : Result ℕ Fault). second_as u g x) (sym q) ∙ ap (λ (h : SignatureRead). second_as h.outcome h x) e ∙ second-answer x

pub answer-refused : (x : Reading Signature) (g : SignatureRead) (f : Fault) → g ≡ signature_answer x → g.outcome ≡ Err f → no_plan f ≡ second_answer x
answer-refused x g f e q = by_answer x g (Err f) e q

pub answer-clear : (x : Reading Signature) (g : SignatureRead) (n : ℕ) → g ≡ signature_answer x → g.outcome ≡ Ok n
    → straddling_in g.convention (types_in g) ≡ 0 → second_in n g.convention g.ellipsis g.result (types_in g) ≡ second_answer x
unfolding unless_straddling
answer-clear x g n e q z =
    let p : SecondPlan = second_in n g.convention g.ellipsis g.result (types_in g) in
    sym (ap (λ (u : ℕ). unless_straddling u x p) z) ∙ by_answer x g (Ok n) e q

pub answer-straddling : (x : Reading Signature) (g : SignatureRead) (n i : ℕ) → g ≡ signature_answer x → g.outcome ≡ Ok n
    → straddling_in g.convention (types_in g) ≡ suc i → no_plan (unclear_fault i x) ≡ second_answer x
unfolding unless_straddling
answer-straddling x g n i e q z =
    let p : SecondPlan = second_in n g.convention g.ellipsis g.result (types_in g) in
    sym (ap (λ (u : ℕ). unless_straddling u x p) z) ∙ by_answer x g (Ok n) e q
