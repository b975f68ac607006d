use Rattle.osdp_line_calls.proofs.Common.{◌≡◌, ◌++◌, length, string_bytes, AgesState, after_saying, Received, status_after, status_answer, after_items, after_all, items_of, said_to_all, is_any, all_lines}
use Rattle.osdp_line_calls.proofs.reader_session.say_all.Given as goal

-- what is said to the items left, after what was written, is what is said to all of them
abbrev pub invariant-responses : goal.invariant-responses
invariant-responses l = record {
  text : string_bytes l.text ++ all_lines (said_to_all status_answer status_after (items_of l.device.line.held) l.device.reader)
      ≡ string_bytes l.initial.text
      ++ all_lines (said_to_all status_answer status_after (items_of l.initial.device.line.held) l.initial.device.reader);
  reader : after_items status_answer status_after (items_of l.device.line.held) l.device.reader
      ≡ after_items status_answer status_after (items_of l.initial.device.line.held) l.initial.device.reader;
  left : after_all l.device.line.held (items_of l.device.line.held)
      ≡ after_all l.initial.device.line.held (items_of l.initial.device.line.held);
  line : ◌≡◌ {A = Received} l.device.line (record l.initial.device.line { held = l.device.line.held });
  ages : ◌≡◌ {A = AgesState}
      (after_saying (is_any (said_to_all status_answer status_after (items_of l.device.line.held) l.device.reader)) l.initial.device.line.greatest l.device.ages)
      (after_saying (is_any (said_to_all status_answer status_after (items_of l.initial.device.line.held) l.initial.device.reader))
      l.initial.device.line.greatest l.initial.device.ages);
}

abbrev pub decreases-responses : goal.decreases-responses
decreases-responses l = length (said_to_all status_answer status_after (items_of l.device.line.held) l.device.reader)
