-- By cases on where the result is.
use mathlib.Core.Path.{◌∙◌}
use Rattle.c_second.proofs.returned_words.Goals as goal

pub returns-in-Nothing : goal.returns-in-Nothing
returns-in-Nothing c = c.run_words.ensures ∙ rw c.in-Nothing.is

pub returns-in-General : goal.returns-in-General
returns-in-General c = c.run_words-in-General.ensures ∙ rw c.in-General.is

pub returns-in-Floating : goal.returns-in-Floating
returns-in-Floating c = c.run_words-in-Floating.ensures ∙ rw c.in-Floating.is

pub returns-in-Hidden : goal.returns-in-Hidden
returns-in-Hidden c = c.run_words-in-Hidden.ensures ∙ rw c.in-Hidden.is
