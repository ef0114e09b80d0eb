-- By cases on the convention; on Z, only where something is in memory.
use mathlib.Core.Path.{◌≡◌}
use mathlib.Core.Logic.{◌⊎◌, inl, inr}
use mathlib.Core.List.{◌++◌}
use Rattle.base_conventions.specs.declared.Convention.{Convention}
use Rattle.plan_places.specs.declared.Span.{Span}
use Rattle.plan_text.specs.Decimals.{decimal}
use Rattle.plan_text.proofs.Writing.{wrote_nothing}
use Rattle.plan_line.specs.Words.{offset_mark}
use Rattle.plan_line.specs.Line.{offset_text}
use borrow.Author.Tests.{lt-ltb, le-ltb}
use native.Mathlib.Omega.{arith}
use Rattle.plan_line.proofs.put_offset.Goals as goal

-- all conventions but Z print the home's offset
power-offset : (c : Convention) (s : Span) → (c ≡ Convention.Ppc64) ⊎ ((c ≡ Convention.Aix) ⊎ (c ≡ Convention.Ppc64b))
    → offset_text c s ≡ offset_mark ++ decimal s.home.start
power-offset c s (inl e) = rw e
power-offset c s (inr (inl e)) = rw e
power-offset c s (inr (inr e)) = rw e

pub returns-then-memory-gt0 : goal.returns-then-memory-gt0
returns-then-memory-gt0 c = (rw (c.in-Z.is, lt-ltb 0 c.args.s.memory.length (omega arith)) c.put_at-then-memory-gt0.ensures.0, omega (arith, c.put_at-then-memory-gt0.ensures.1))

pub returns-in-Ppc64 : goal.returns-in-Ppc64
returns-in-Ppc64 c = (rw (power-offset _ c.args.s c.in-Ppc64.is) c.put_at.ensures.0, omega (arith, c.put_at.ensures.1))

pub returns-else-memory-gt0 : goal.returns-else-memory-gt0
returns-else-memory-gt0 c = (rw (c.in-Z.is, le-ltb 0 c.args.s.memory.length (omega arith)) (wrote_nothing _ _), omega arith)
