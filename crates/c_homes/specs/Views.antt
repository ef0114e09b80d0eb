-- The words of a view's answer, with where it lies in the area. Assumes nothing.
use Rattle.c_call_answers.specs.Calls.{call_answer}
use Rattle.c_homes.specs.declared.Part.{Part}
use Rattle.call_views.specs.declared.ViewPart.{ViewPart}

unfoldable pub part_answer : ViewPart → Part
part_answer p = record { answer = call_answer p.answer; start = p.start; length = p.length }
