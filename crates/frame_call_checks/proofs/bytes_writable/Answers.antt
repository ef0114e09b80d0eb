-- The three areas in the definition's order; each lies in the memory, so no sum wraps. Assumes nothing.
use Rattle.frame_rules.proofs.Places.{below-reach}
use Rattle.frame_machine.proofs.Coding.{pointer-room, memory-small, top-outgoing, caller-outgoing, top-request, top-room}
use Rattle.frame_rules.specs.Frames.{outgoing_length, below, frame_size}
use Rattle.frame_machine.specs.Machine.{offset, top, caller, inside, outgoing_from, locals_from, writable_bytes}
use mathlib.Core.Bool.{true, false}
use borrow.Author.Tests.{lt-leb, le-leb, lt-ltb, le-ltb}
use Prim.Native.Nat.{◌+◌, ◌-◌, ◌<◌}
use native.Mathlib.Omega.{arith}
use mathlib.Core.Path.{◌≡◌, sym, ap, ◌∙◌}
use Rattle.frame_call_checks.proofs.bytes_writable.Goals as goal

pub returns-then-n-lt1 : goal.returns-then-n-lt1
unfolding writable_bytes
returns-then-n-lt1 c =
    rw (lt-leb 1 c.args.n (omega arith))

pub returns-then-n-gt-MAX_WRITE : goal.returns-then-n-gt-MAX_WRITE
unfolding writable_bytes
returns-then-n-gt-MAX_WRITE c =
    rw (le-leb 1 c.args.n (omega arith), lt-leb c.args.n 256 (omega arith))

pub outgoing_from-own-requires : goal.outgoing_from-own-requires
outgoing_from-own-requires c =
    (c.requires.0, omega (arith, c.stack_pointer.ensures, c.requires.1.over), omega (arith, c.stack_pointer.ensures, pointer-room c.args.k c.requires.0 c.args.s c.args.len c.requires.1, memory-small c.args.k c.requires.0 c.args.s c.args.len c.requires.1))

pub locals_from-locals-requires : goal.locals_from-locals-requires
locals_from-locals-requires c =
    (c.requires.0, omega (arith, c.stack_pointer.ensures, c.requires.1.over), omega (arith, c.stack_pointer.ensures, pointer-room c.args.k c.requires.0 c.args.s c.args.len c.requires.1, memory-small c.args.k c.requires.0 c.args.s c.args.len c.requires.1), omega (arith, top-outgoing c.args.k c.requires.0 c.args.s c.args.len c.requires.1, ap (outgoing_length c.args.k) c.top_frame-f.ensures))

pub returns-then-lies_inside : goal.returns-then-lies_inside
unfolding writable_bytes
returns-then-lies_inside c =
    let own : inside c.args.a c.args.n (outgoing_from c.args.k (top c.args.k c.args.s) (offset c.args.k c.args.s)) (locals_from c.args.k (top c.args.k c.args.s) (offset c.args.k c.args.s)) ≡ true
    = sym (rw (c.locals_from-locals.ensures, c.outgoing_from-own.ensures, c.stack_pointer.ensures, c.top_frame-f.ensures) at c.lies_inside.ensures) ∙ c.if-lies_inside.true in
    rw (le-leb 1 c.args.n (omega (arith, c.if-n-lt1.false)), le-leb c.args.n 256 (omega (arith, c.if-n-gt-MAX_WRITE.false)), own)

pub returns-then-d-eq0 : goal.returns-then-d-eq0
unfolding writable_bytes
returns-then-d-eq0 c =
    let own : inside c.args.a c.args.n (outgoing_from c.args.k (top c.args.k c.args.s) (offset c.args.k c.args.s)) (locals_from c.args.k (top c.args.k c.args.s) (offset c.args.k c.args.s)) ≡ false
    = sym (rw (c.locals_from-locals.ensures, c.outgoing_from-own.ensures, c.stack_pointer.ensures, c.top_frame-f.ensures) at c.lies_inside.ensures) ∙ c.if-lies_inside.false in
    rw (
      le-leb 1 c.args.n (omega (arith, c.if-n-lt1.false)),
      le-leb c.args.n 256 (omega (arith, c.if-n-gt-MAX_WRITE.false)),
      own,
      le-ltb 0 c.args.s.depth (omega (arith, c.if-d-eq0.true)),
    )

pub frame_size-requires : goal.frame_size-requires
frame_size-requires c =
    let deep : 0 < c.args.s.depth = omega (arith, c.if-d-eq0.false) in
    record {
      lawful_frames = c.requires.0;
      f_value = rw c.top_frame-f.ensures (top-request c.args.k c.requires.0 c.args.s c.args.len c.requires.1 deep);
    }

pub overflow_add-c : goal.overflow_add-c
overflow_add-c c =
    let deep : 0 < c.args.s.depth = omega (arith, c.if-d-eq0.false) in
    let size : c.frame_size.result ≡ frame_size c.args.k (top c.args.k c.args.s) = c.frame_size.ensures ∙ ap (frame_size c.args.k) c.top_frame-f.ensures in
    omega (
      arith,
      size,
      c.stack_pointer.ensures,
      top-room c.args.k c.requires.0 c.args.s c.args.len c.requires.1 deep,
      memory-small c.args.k c.requires.0 c.args.s c.args.len c.requires.1,
    )

pub below_size-requires : goal.below_size-requires
below_size-requires c =
    let deep : 0 < c.args.s.depth = omega (arith, c.if-d-eq0.false) in
    record {
      lawful_frames = c.requires.0;
      f_value = rw c.top_frame-f.ensures (top-request c.args.k c.requires.0 c.args.s c.args.len c.requires.1 deep);
    }

pub overflow_sub-saves : goal.overflow_sub-saves
overflow_sub-saves c =
    let deep : 0 < c.args.s.depth = omega (arith, c.if-d-eq0.false) in
    let size : c.frame_size.result ≡ frame_size c.args.k (top c.args.k c.args.s) = c.frame_size.ensures ∙ ap (frame_size c.args.k) c.top_frame-f.ensures in
    let under : c.below_size.result ≡ below c.args.k.linkage c.args.k (top c.args.k c.args.s) = c.below_size.ensures ∙ ap (below c.args.k.linkage c.args.k) c.top_frame-f.ensures in
    omega (arith, size, under, c.stack_pointer.ensures, c.requires.1.over, below-reach c.args.k c.requires.0 (top c.args.k c.args.s) (top-request c.args.k c.requires.0 c.args.s c.args.len c.requires.1 deep))

pub returns-then-lies_inside-2 : goal.returns-then-lies_inside-2
unfolding writable_bytes
returns-then-lies_inside-2 c =
    let deep : 0 < c.args.s.depth = omega (arith, c.if-d-eq0.false) in
    let own : inside c.args.a c.args.n (outgoing_from c.args.k (top c.args.k c.args.s) (offset c.args.k c.args.s)) (locals_from c.args.k (top c.args.k c.args.s) (offset c.args.k c.args.s)) ≡ false
    = sym (rw (c.locals_from-locals.ensures, c.outgoing_from-own.ensures, c.stack_pointer.ensures, c.top_frame-f.ensures) at c.lies_inside.ensures) ∙ c.if-lies_inside.false in
    let locals : inside c.args.a c.args.n (locals_from c.args.k (top c.args.k c.args.s) (offset c.args.k c.args.s)) ((offset c.args.k c.args.s + frame_size c.args.k (top c.args.k c.args.s)) - below c.args.k.linkage c.args.k (top c.args.k c.args.s)) ≡ true
    = sym (rw (
      c.locals_from-locals.ensures,
      c.stack_pointer.ensures,
      c.frame_size.ensures,
      c.below_size.ensures,
      c.top_frame-f.ensures,
    ) at c.lies_inside-2.ensures) ∙ c.if-lies_inside-2.true in
    rw (le-leb 1 c.args.n (omega (arith, c.if-n-lt1.false)), le-leb c.args.n 256 (omega (arith, c.if-n-gt-MAX_WRITE.false)), own, lt-ltb 0 c.args.s.depth deep, locals)

pub overflow_add-callers : goal.overflow_add-callers
overflow_add-callers c =
    let deep : 0 < c.args.s.depth = omega (arith, c.if-d-eq0.false) in
    let size : c.frame_size.result ≡ frame_size c.args.k (top c.args.k c.args.s) = c.frame_size.ensures ∙ ap (frame_size c.args.k) c.top_frame-f.ensures in
    omega (
      arith,
      size,
      c.stack_pointer.ensures,
      top-room c.args.k c.requires.0 c.args.s c.args.len c.requires.1 deep,
      memory-small c.args.k c.requires.0 c.args.s c.args.len c.requires.1,
      c.requires.0.head,
      c.requires.0.room,
    )

pub overflow_add-callers-2 : goal.overflow_add-callers-2
overflow_add-callers-2 c =
    let deep : 0 < c.args.s.depth = omega (arith, c.if-d-eq0.false) in
    let size : c.frame_size.result ≡ frame_size c.args.k (top c.args.k c.args.s) = c.frame_size.ensures ∙ ap (frame_size c.args.k) c.top_frame-f.ensures in
    let out : c.outgoing_length.result ≡ outgoing_length c.args.k (caller c.args.k c.args.s)
    = c.outgoing_length.ensures ∙ ap (outgoing_length c.args.k) c.caller_frame-g.ensures in
    omega (
      arith,
      size,
      out,
      c.stack_pointer.ensures,
      top-room c.args.k c.requires.0 c.args.s c.args.len c.requires.1 deep,
      caller-outgoing c.args.k c.requires.0 c.args.s c.args.len c.requires.1,
      memory-small c.args.k c.requires.0 c.args.s c.args.len c.requires.1,
      c.requires.0.head,
      c.requires.0.room,
    )

pub returns : goal.returns
unfolding writable_bytes
returns c =
    let deep : 0 < c.args.s.depth = omega (arith, c.if-d-eq0.false) in
    let own : inside c.args.a c.args.n (outgoing_from c.args.k (top c.args.k c.args.s) (offset c.args.k c.args.s)) (locals_from c.args.k (top c.args.k c.args.s) (offset c.args.k c.args.s)) ≡ false
    = sym (rw (c.locals_from-locals.ensures, c.outgoing_from-own.ensures, c.stack_pointer.ensures, c.top_frame-f.ensures) at c.lies_inside.ensures) ∙ c.if-lies_inside.false in
    let locals : inside c.args.a c.args.n (locals_from c.args.k (top c.args.k c.args.s) (offset c.args.k c.args.s)) ((offset c.args.k c.args.s + frame_size c.args.k (top c.args.k c.args.s)) - below c.args.k.linkage c.args.k (top c.args.k c.args.s)) ≡ false
    = sym (rw (
      c.locals_from-locals.ensures,
      c.stack_pointer.ensures,
      c.frame_size.ensures,
      c.below_size.ensures,
      c.top_frame-f.ensures,
    ) at c.lies_inside-2.ensures) ∙ c.if-lies_inside-2.false in
    let callers : c.lies_inside-3.result ≡ inside c.args.a c.args.n ((offset c.args.k c.args.s + frame_size c.args.k (top c.args.k c.args.s)) + c.args.k.header) ((offset c.args.k c.args.s + frame_size c.args.k (top c.args.k c.args.s)) + c.args.k.header + outgoing_length c.args.k (caller c.args.k c.args.s))
    = rw (
      c.stack_pointer.ensures,
      c.frame_size.ensures,
      c.outgoing_length.ensures,
      c.top_frame-f.ensures,
      c.caller_frame-g.ensures,
    ) at c.lies_inside-3.ensures in
    rw (
      callers,
      le-leb 1 c.args.n (omega (arith, c.if-n-lt1.false)),
      le-leb c.args.n 256 (omega (arith, c.if-n-gt-MAX_WRITE.false)),
      own,
      lt-ltb 0 c.args.s.depth deep,
      locals,
    )
