-- The answer of a call: done; or its signature is refused, by the reading's fault; or the call is, at place 0. Assumes nothing.
use Rattle.std.specs.Prelude.{Result, Ok, Err}
use Rattle.sig_items.specs.declared.Fault.{Fault}
use Rattle.call_slots.specs.declared.CallRefusal.{CallRefusal}
use Rattle.call_slots.specs.declared.CallError.{CallError}

abbrev pub CallAnswer : Type 0
CallAnswer = Result (Unit {0}) CallError

abbrev pub call_done : CallAnswer
call_done = Ok tt

abbrev pub call_unread : Fault → CallAnswer
call_unread f = Err (CallError.Unread f)

abbrev pub call_refused : CallRefusal → CallAnswer
call_refused reason = Err (CallError.Refused reason)
