-- By the parts of the definition. Assumes nothing.
use Rattle.std.proofs.Common.{◌≡◌, Result, Ok, Err, refl}
use Rattle.std.specs.Result.{result_unwrap_or}
use Rattle.base_conventions.specs.declared.Convention.{Convention}
use Rattle.base_conventions.specs.declared.UnknownConvention.{UnknownConvention}
use Rattle.frame_word_layout.specs.Words.{convention_of, state_in}
use Rattle.frame_state_words.proofs.state_in.Goals as goal

named : (x : Result Convention UnknownConvention) → result_unwrap_or x Convention.Z ≡ convention_of x
named (Ok c) = refl
named (Err e) = refl

pub returns : goal.returns
unfolding state_in
returns c =
    rw (c.unwrap_or-convention.ensures, c.try_from.ensures, named, c.depth_in-depth.ensures, c.registers_in-registers.ensures, c.frames_in-frames.ensures)
