use Rattle.osdp_line_calls.proofs.ReaderCalls.{comes_then}
use Rattle.osdp_line_calls.specs.ReaderSessions.{lets_events_go, tells_presence}
use Rattle.osdp_line_calls.proofs.reader_session.LineDevice.look.Goals as goal

pub returns : goal.returns
returns c =
    comes_then _ _ _ _ _ _ (tells_presence c.args.self.now) lets_events_go c.in_ok-tell_presence.ensures c.let_go.ensures
