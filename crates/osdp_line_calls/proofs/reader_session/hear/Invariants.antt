use Rattle.osdp_line_calls.proofs.Common.{◌≤◌, length, drop, string_bytes, hears_bytes, turns_left, status_after, status_answer}
use Rattle.osdp_line_calls.proofs.ReaderTurns.{IsOnTheWay}
use Rattle.osdp_line_calls.proofs.reader_session.hear.Given as goal

-- the bytes that are left bring the device and the text to where all of them do
abbrev pub invariant-turns : goal.invariant-turns
invariant-turns l = record {
  within : l.at ≤ length l.bytes;
  way : IsOnTheWay (string_bytes l.initial.text)
      (hears_bytes status_answer status_after l.bytes l.now l.initial.device.reader l.initial.device.line) l.initial.device.ages l.now
      (string_bytes l.text) (drop l.at l.bytes) l.device.reader l.device.line l.device.ages;
}

abbrev pub decreases-turns : goal.decreases-turns
decreases-turns l = turns_left (drop l.at l.bytes) l.now l.device.line
