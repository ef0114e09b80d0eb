-- The number's words in general registers, and its lowest bytes in memory, each through the part that starts there.
use mathlib.Core.Path.{sym, ap, ◌∙◌}
use Prim.Native.Nat.{ℕ, ◌+◌, ◌-◌, ◌*◌}
use lib.ListN.{length}
use borrow.Rule.Slice.PartMut.{put_mid}
use Rattle.base_words.specs.Splice.{splice}
use Rattle.base_words.specs.Numbers.{bytes_of}
use Rattle.base_words.proofs.Splices.{lent-tail}
use Rattle.base_words.proofs.Numbers.{bytes_of-last}
use Rattle.call_registers.specs.Registers.{spread}
use Rattle.call_marshal.proofs.put_each_word.Goals as goal

pub returns : goal.returns
returns c =
    let at : ℕ = 8 * c.args.s.general.first in (
      ap (put_mid at (length c.args.image.now - at) c.args.image.now) c.put_number_registers.ensures ∙ lent-tail c.args.image.now at (spread c.args.word c.args.s.general.count (bytes_of (c.args.word * c.args.s.general.count + c.args.s.memory.length) c.args.x)),
      ap (put_mid c.args.s.memory.start (length c.args.area.now - c.args.s.memory.start) c.args.area.now) c.put_number.ensures ∙ lent-tail c.args.area.now c.args.s.memory.start (bytes_of c.args.s.memory.length c.args.x)
          ∙ ap (splice c.args.area.now c.args.s.memory.start) (sym (bytes_of-last (c.args.word * c.args.s.general.count) c.args.s.memory.length c.args.x)),
    )
