-- The rule for programs is kept by the list with two entries, so it is not empty.
use Rattle.osdp_msg.specs.declared.command.Command.{Command}
use Rattle.osdp_reader.specs.declared.handler.Answer.{Answer}
use Rattle.osdp_calls.specs.Programs.{AllKeepRule, first_notes}
use Rattle.osdp_calls_instance.specs.TwoEntries.{two_calls, two_set_up}

module _ {H : Type 0} (answer_of : H → Command → Answer) (after : H → Command → H) where
  -- A COMSET is accepted, lost, and told unsettled. `retarget` asks at the address that it set, and goes back; then a session opens.
  abbrev pub TwoCallsKeepRule : H → Type 0
  TwoCallsKeepRule handler = AllKeepRule answer_of after two_calls (two_set_up handler) (first_notes (two_set_up handler))
