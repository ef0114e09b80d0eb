-- Each turn is that of the definition, and after the last nothing is left. Assumes nothing.
use mathlib.Core.Path.{◌≡◌, refl, ◌∙◌}
use native.Mathlib.Omega.{arith}
use Prim.Native.Nat.{◌+◌, ◌-◌}
use Rattle.base_words.proofs.Basics.{words-turn}
use Rattle.frame_saves.specs.Saves.{load}
use Rattle.frame_saves.proofs.Runs.{load-turn, load-none}
use Rattle.frame_saves.proofs.load_run.Goals as goal

pub loop-i-init : goal.loop-i-init
loop-i-init c =
    let e : c.args.n + c.args.c - c.args.n ≡ c.args.c = omega arith in
    rw e (refl, omega arith)

pub load-requires : goal.load-requires
load-requires c = omega (arith, words-turn c.args.w (c.args.n + c.args.c - c.loop-i.i) (omega arith))

pub overflow_add-a : goal.overflow_add-a
overflow_add-a c = omega (arith, words-turn c.args.w (c.args.n + c.args.c - c.loop-i.i) (omega arith))

pub loop-i-preserved : goal.loop-i-preserved
unfolding load
loop-i-preserved c =
    let k = c.args.n + c.args.c - c.loop-i.i in
    let e : c.args.n + c.args.c - (c.loop-i.i + 1) ≡ k - 1 = omega arith in
    rw (e, c.load.ensures) (
      load-turn k c.loop-i.ys c.args.memory.now c.loop-i.a c.args.w c.loop-i.i (omega arith) ∙ c.loop-i.invariant.0,
      omega (arith, words-turn c.args.w k (omega arith)),
    )

pub returns : goal.returns
returns c =
    load-none (c.args.n + c.args.c - c.loop-i.i) c.loop-i.ys c.args.memory.now c.loop-i.a c.args.w c.loop-i.i (omega arith) ∙ c.loop-i.invariant.0
