-- By the convention; the constants are the numbers of the definition. Assumes nothing.
use Rattle.both_abi.proofs.least_area_of.Goals as goal

pub returns-in-Ppc64 : goal.returns-in-Ppc64
returns-in-Ppc64 c = rw c.in-Ppc64.is

pub returns-in-Z : goal.returns-in-Z
returns-in-Z c = rw c.in-Z.is

pub returns-in-Aix : goal.returns-in-Aix
returns-in-Aix c = rw c.in-Aix.is

pub returns-in-Ppc64b : goal.returns-in-Ppc64b
returns-in-Ppc64b c = rw c.in-Ppc64b.is
