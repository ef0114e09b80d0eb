-- By cases on the result.
use Rattle.plan_text.proofs.Writing.{wrote_then}
use Rattle.plan_places.specs.Helpers.{ResultNumbered}
use native.Mathlib.Omega.{arith}
use mathlib.Core.Path.{subst}
use Rattle.plan_listing.proofs.put_result_places.Goals as goal

pub put_registers-requires : goal.put_registers-requires
put_registers-requires c = (omega arith, subst ResultNumbered c.in-Registers.is c.requires.1)

pub put_registers-requires-in-Hidden : goal.put_registers-requires-in-Hidden
put_registers-requires-in-Hidden c = (omega (arith, c.put_bytes-next.ensures.end), subst ResultNumbered c.in-Hidden.is c.requires.1)

pub returns-in-Nothing : goal.returns-in-Nothing
returns-in-Nothing c = (rw c.in-Nothing.is c.put_bytes.ensures, omega (arith, c.put_bytes.ensures.end))

pub returns-in-Registers : goal.returns-in-Registers
returns-in-Registers c = (rw c.in-Registers.is c.put_registers.ensures.0, omega (arith, c.put_registers.ensures.1))

pub returns-in-Hidden : goal.returns-in-Hidden
returns-in-Hidden c =
    (rw c.in-Hidden.is (wrote_then c.put_bytes-next.ensures c.put_registers-in-Hidden.ensures.0), omega (arith, c.put_bytes-next.ensures.end, c.put_registers-in-Hidden.ensures.1))
