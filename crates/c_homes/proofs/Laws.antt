-- A view in the surface's words. Assumes nothing.
use mathlib.Core.Path.{◌≡◌, ap}
use Rattle.c_answers.specs.declared.Answer.{Answer}
use Rattle.c_call_answers.specs.Calls.{call_answer}
use Rattle.c_homes.specs.declared.Part.{Part}
use Rattle.c_homes.specs.Views.{part_answer}
use Rattle.call_views.specs.declared.ViewPart.{ViewPart}

pub part-answer : (p v : ViewPart) (a : Answer) → p ≡ v → a ≡ call_answer p.answer
    → ◌≡◌ {A = Part} (record { answer = a; start = p.start; length = p.length }) (part_answer v)
unfolding part_answer
part-answer p v a e is = rw is (ap part_answer e)
