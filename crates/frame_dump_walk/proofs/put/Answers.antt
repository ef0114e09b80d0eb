use Rattle.frame_saves.specs.Saves.{load}
use Rattle.base_words.proofs.Splices.{splice-nothing}
use Rattle.frame_dump.specs.Walk.{walk_from, max_frames, found_in}
use Rattle.frame_dump.proofs.Laws.{follow, follow-in, follow-next, follow-put, counted-length}
use lib.ListN.{length, length-set, drop_of_length-le}
use Prim.Native.Nat.{◌-◌}
use native.Mathlib.Omega.{arith}
use mathlib.Core.Path.{◌≡◌, refl, sym, ◌∙◌}
use Rattle.frame_dump_walk.proofs.put.Goals as goal

pub loop-i-init : goal.loop-i-init
loop-i-init c = (refl, follow max_frames c.args.k c.args.base c.args.memory.now 0 c.args.pointer)

pub overflow_sub-a : goal.overflow_sub-a
overflow_sub-a c =
    let xs = found_in (walk_from max_frames c.args.k c.args.base c.args.memory.now 0 c.args.pointer) in
    let all : length xs ≡ c.args.n = counted-length (walk_from max_frames c.args.k c.args.base c.args.memory.now 0 c.args.pointer) c.args.n c.requires.pointer_value in
    omega (arith, follow-in c.args.k c.args.base c.args.memory.now c.loop-i.a xs c.loop-i.i (omega (arith, all)) c.loop-i.invariant.1)

pub load-a-requires : goal.load-a-requires
load-a-requires c =
    let xs = found_in (walk_from max_frames c.args.k c.args.base c.args.memory.now 0 c.args.pointer) in
    let all : length xs ≡ c.args.n = counted-length (walk_from max_frames c.args.k c.args.base c.args.memory.now 0 c.args.pointer) c.args.n c.requires.pointer_value in
    (c.requires.lawful_frames.0.word, omega (arith, follow-in c.args.k c.args.base c.args.memory.now c.loop-i.a xs c.loop-i.i (omega (arith, all)) c.loop-i.invariant.1, c.requires.lawful_frames.0.chain))

pub loop-i-preserved : goal.loop-i-preserved
unfolding load
loop-i-preserved c =
    let xs = found_in (walk_from max_frames c.args.k c.args.base c.args.memory.now 0 c.args.pointer) in
    let all : length xs ≡ c.args.n = counted-length (walk_from max_frames c.args.k c.args.base c.args.memory.now 0 c.args.pointer) c.args.n c.requires.pointer_value in (
      follow-put c.args.k c.args.base c.args.memory.now c.loop-i.a xs c.loop-i.i (omega (arith, all)) c.loop-i.invariant.1 c.loop-i.list ∙ c.loop-i.invariant.0,
      rw c.load-a.ensures (follow-next c.args.k c.args.base c.args.memory.now c.loop-i.a xs c.loop-i.i (omega (arith, all)) c.loop-i.invariant.1),
    )

pub returns : goal.returns
returns c =
    let xs = found_in (walk_from max_frames c.args.k c.args.base c.args.memory.now 0 c.args.pointer) in
    let all : length xs ≡ c.args.n = counted-length (walk_from max_frames c.args.k c.args.base c.args.memory.now 0 c.args.pointer) c.args.n c.requires.pointer_value in
    sym (rw (drop_of_length-le xs {i = c.loop-i.i} (omega (arith, all))) (splice-nothing c.loop-i.list c.loop-i.i)) ∙ c.loop-i.invariant.0
