-- The words of the answer of a walk. Document 02, No. 13: the list's "count is returned"; a refused walk has the count 0, and 30 the bad address or the base as its place.
-- Assumes nothing.
use Rattle.c_answers.specs.Answers.{answer_of, yes}
use Rattle.std.specs.Prelude.{ℕ, Result, Ok, Err}
use Rattle.frame_dump.specs.declared.WalkRefusal.{WalkRefusal}
use Rattle.frame_dump.specs.Walk.{walk_refusal_number, refusal_place}
use Rattle.c_dump.specs.declared.WalkedDump.{WalkedDump}

unfoldable pub walked_answer : Result ℕ WalkRefusal → WalkedDump
walked_answer (Ok n) = record { answer = yes; count = n }
walked_answer (Err r) = record { answer = answer_of (walk_refusal_number r) (refusal_place r); count = 0 }
