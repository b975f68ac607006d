use Rattle.osdp_line_calls.proofs.Common.{◌≡◌, ◌++◌, length, string_bytes, AgesState, DeviceStatus, Received, ReaderState, lets_go, expired_lines}
use Rattle.osdp_line_calls.proofs.reader_absence.let_go.Given as goal

-- those that go of the events that are left, after what was written, are all that go
abbrev pub invariant-events : goal.invariant-events
invariant-events l = record {
  text : string_bytes l.text ++ expired_lines (lets_go l.now l.limit l.device.reader l.device.ages).expired
      ≡ string_bytes l.initial.text ++ expired_lines (lets_go l.now l.limit l.initial.device.reader l.initial.device.ages).expired;
  reader : ◌≡◌ {A = ReaderState DeviceStatus} (lets_go l.now l.limit l.device.reader l.device.ages).reader
      (lets_go l.now l.limit l.initial.device.reader l.initial.device.ages).reader;
  ages : ◌≡◌ {A = AgesState} (lets_go l.now l.limit l.device.reader l.device.ages).ages
      (lets_go l.now l.limit l.initial.device.reader l.initial.device.ages).ages;
  line : ◌≡◌ {A = Received} l.device.line l.initial.device.line;
}

abbrev pub decreases-events : goal.decreases-events
decreases-events l = length l.device.reader.queue.events
