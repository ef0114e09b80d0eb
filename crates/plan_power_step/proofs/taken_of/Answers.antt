-- Each part is what a callee gives, put together as the definition does.
use Rattle.plan_places.proofs.Shares.{share-shared}
use Rattle.plan_places.specs.Power.{power_share}
use Prim.Native.Nat.{◌-◌}
use native.Mathlib.Omega.{arith}
use Rattle.plan_power_step.proofs.taken_of.Goals as goal

pub returns : goal.returns
unfolding power_share
returns c =
    let s = share-shared c.args.f.ellipsis c.fprs_of.result (14 - c.args.c.floating) c.words_of-n.result c.min-k.result (omega arith) in (
      c.words_of-n.ensures.0,
      simp (c.fprs_of.ensures.0, c.min-k.ensures, c.words_of-n.ensures.0) at c.share_of-s.ensures,
      record { whole = omega arith; held = c.min-k.ensures; shared = rw c.share_of-s.ensures s },
    )
