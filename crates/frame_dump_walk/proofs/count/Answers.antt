use Rattle.frame_saves.specs.Saves.{load}
use Rattle.frame_dump.specs.Walk.{walk_from, ok_address, counted}
use Rattle.frame_dump.proofs.Laws.{word_some, address-yes, walk-bad, walk-last, walk_more, walk-out, counted-prepend}
use lib.ListN.{length}
use mathlib.Core.Bool.{true, false}
use borrow.Author.Tests.{not-true, not-false}
use Prim.Native.Nat.{◌+◌, ◌-◌}
use native.Mathlib.Omega.{arith}
use mathlib.Core.Path.{◌≡◌, refl, sym, ap, ◌∙◌}
use Rattle.frame_dump_walk.proofs.count.Goals as goal

pub loop-left-init : goal.loop-left-init
loop-left-init c = (refl, omega arith)

pub overflow_sub-left : goal.overflow_sub-left
overflow_sub-left c = omega arith

pub address_ok-requires : goal.address_ok-requires
address_ok-requires c = (c.requires.0, c.requires.1)

pub returns-then-not-address_ok : goal.returns-then-not-address_ok
returns-then-not-address_ok c =
    let no : ok_address c.args.k c.args.base (length c.args.memory.now) c.loop-left.least c.loop-left.a ≡ false = sym c.address_ok.ensures ∙ not-true c.address_ok.result c.if-not-address_ok.true-raw in
    sym (sym c.loop-left.invariant.0 ∙ ap (counted c.loop-left.found) (walk-bad c.args.k c.args.base c.args.memory.now c.loop-left.least c.loop-left.a c.loop-left.left (omega arith) no))

pub overflow_add-found : goal.overflow_add-found
overflow_add-found c = omega arith

pub overflow_sub-a : goal.overflow_sub-a
overflow_sub-a c =
    let yes : ok_address c.args.k c.args.base (length c.args.memory.now) c.loop-left.least c.loop-left.a ≡ true = sym c.address_ok.ensures ∙ not-false c.address_ok.result c.if-not-address_ok.false-raw in
    omega (arith, address-yes c.args.k c.args.base (length c.args.memory.now) c.loop-left.least c.loop-left.a yes)

pub load-next-requires : goal.load-next-requires
load-next-requires c =
    let yes : ok_address c.args.k c.args.base (length c.args.memory.now) c.loop-left.least c.loop-left.a ≡ true = sym c.address_ok.ensures ∙ not-false c.address_ok.result c.if-not-address_ok.false-raw in
    (c.requires.0.word, omega (arith, address-yes c.args.k c.args.base (length c.args.memory.now) c.loop-left.least c.loop-left.a yes, c.requires.0.chain))

pub returns-then-next-eq0 : goal.returns-then-next-eq0
unfolding load
returns-then-next-eq0 c =
    let yes : ok_address c.args.k c.args.base (length c.args.memory.now) c.loop-left.least c.loop-left.a ≡ true = sym c.address_ok.ensures ∙ not-false c.address_ok.result c.if-not-address_ok.false-raw in
    let last = walk-last c.args.k c.args.base c.args.memory.now c.loop-left.least c.loop-left.a c.loop-left.left (omega arith) yes (sym c.load-next.ensures ∙ c.if-next-eq0.true) in
    sym (sym c.loop-left.invariant.0 ∙ ap (counted c.loop-left.found) last)

pub overflow_add-least : goal.overflow_add-least
overflow_add-least c =
    let yes : ok_address c.args.k c.args.base (length c.args.memory.now) c.loop-left.least c.loop-left.a ≡ true = sym c.address_ok.ensures ∙ not-false c.address_ok.result c.if-not-address_ok.false-raw in
    omega (arith, address-yes c.args.k c.args.base (length c.args.memory.now) c.loop-left.least c.loop-left.a yes, c.requires.1, c.requires.0.chain, word_some c.args.k c.requires.0)

pub loop-left-smaller : goal.loop-left-smaller
loop-left-smaller c = omega arith

pub loop-left-preserved : goal.loop-left-preserved
unfolding load
loop-left-preserved c =
    let yes : ok_address c.args.k c.args.base (length c.args.memory.now) c.loop-left.least c.loop-left.a ≡ true = sym c.address_ok.ensures ∙ not-false c.address_ok.result c.if-not-address_ok.false-raw in
    let more = walk_more c.args.k c.args.base c.args.memory.now c.loop-left.least c.loop-left.a c.loop-left.left (omega arith) yes (λ e. c.if-next-eq0.false (c.load-next.ensures ∙ e)) in
    (rw c.load-next.ensures (sym (counted-prepend c.loop-left.found c.loop-left.a (walk_from (c.loop-left.left - 1) c.args.k c.args.base c.args.memory.now (c.loop-left.a + 1) (load c.args.memory.now (c.loop-left.a - c.args.base) c.args.k.word))) ∙ sym (ap (counted c.loop-left.found) more) ∙ c.loop-left.invariant.0), omega arith)

pub returns : goal.returns
returns c =
    sym (sym c.loop-left.invariant.0 ∙ ap (counted c.loop-left.found) (walk-out c.args.k c.args.base c.args.memory.now c.loop-left.left c.loop-left.least c.loop-left.a (omega arith)))
