-- By the convention. Assumes nothing.
use Rattle.both_abi.proofs.frame_rules_of.Goals as goal

pub returns-in-Ppc64 : goal.returns-in-Ppc64
returns-in-Ppc64 c = rw c.in-Ppc64.is c.frame_rules.ensures

pub returns-in-Z : goal.returns-in-Z
returns-in-Z c = rw c.in-Z.is c.frame_rules-in-Z.ensures

pub returns-in-Aix : goal.returns-in-Aix
returns-in-Aix c = rw c.in-Aix.is c.frame_rules-in-Aix.ensures

pub returns-in-Ppc64b : goal.returns-in-Ppc64b
returns-in-Ppc64b c = rw c.in-Ppc64b.is c.frame_rules-in-Ppc64b.ensures
