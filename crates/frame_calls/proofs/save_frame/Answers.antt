-- The back chain, then the saves, in the definition's order. Assumes nothing.
use Rattle.frame_saves.specs.Saves.{store}
use Rattle.frame_rules.specs.Frames.{frame_size}
use Rattle.frame_rules.proofs.Places.{chain-in}
use Rattle.frame_machine.specs.Machine.{offset, entered_memory}
use Rattle.frame_machine.proofs.Coding.{pointer-room, enter-placed}
use lib.ListN.{length}
use Prim.Native.Nat.{◌≤◌}
use native.Mathlib.Omega.{arith}
use Rattle.frame_calls.proofs.save_frame.Goals as goal

pub store-requires : goal.store-requires
store-requires c =
    let n = length c.args.memory.now in
    let fits : frame_size c.args.k c.args.f ≤ offset c.args.k c.args.s = omega (arith, c.requires.2.room) in
    omega (
      arith,
      c.chain_width.ensures,
      c.frame_size-z.ensures,
      c.stack_pointer-p.ensures,
      fits,
      chain-in c.args.k c.requires.0 c.args.f c.requires.2.request (offset c.args.k c.args.s) fits,
      pointer-room c.args.k c.requires.0 c.args.s n c.requires.1,
    )

pub save_registers-requires : goal.save_registers-requires
save_registers-requires c =
    let placed = enter-placed c.args.k c.requires.0 c.args.s (length c.args.memory.now) c.requires.1 c.args.f c.requires.2 in
    record {
      lawful = placed.lawful;
      request = placed.request;
      fits = omega (arith, c.stack_pointer-p.ensures, placed.fits);
      room = omega (arith, c.stack_pointer-p.ensures, c.store.auto.s, placed.room);
    }

pub returns : goal.returns
unfolding entered_memory store
returns c =
    rw (c.save_registers.ensures, c.store.ensures, c.chain_width.ensures, c.stack_pointer-p.ensures, c.frame_size-z.ensures)
