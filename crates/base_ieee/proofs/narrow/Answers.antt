-- `narrow` meets its contract: it makes the definition's one comparison. Assumes nothing.
use Rattle.std.proofs.Common.{◌≡◌, refl, ◌∙◌, ℕ, Bool, true, false, Some, None}
use Rattle.std.specs.Bool.{then_some}
use lib.Dec.{eqb}
use Rattle.base_words.specs.Basics.{pick}
use Rattle.base_ieee.specs.Widening.{widen}
use Rattle.base_ieee.specs.Narrowing.{candidate, narrow}
use Rattle.base_ieee.proofs.narrow.Goals as goal

some-where : (b : Bool) (x : ℕ) → then_some b x ≡ pick b (Some x) None
some-where true x = refl
some-where false x = refl

narrowed : (d x w : ℕ) → x ≡ candidate d → w ≡ widen x → then_some (eqb w d) x ≡ narrow d
unfolding narrow
narrowed d x w p q = some-where (eqb w d) x ∙ rw (q, p)

pub returns : goal.returns
returns c = c.then_some.ensures ∙ narrowed c.args.d c.candidate-x.result c.widen.result c.candidate-x.ensures c.widen.ensures
