use Rattle.osdp_line_calls.proofs.ReaderCalls.{comes_then}
use Rattle.osdp_line_calls.specs.ReaderSessions.{does, tells_waiting}
use Rattle.osdp_line_calls.proofs.reader_session.LineDevice.answer.Goals as goal

pub returns : goal.returns
returns c =
    comes_then _ _ _ _ _ _ (does c.args.call c.args.self.now) tells_waiting c.in_ok-call.ensures c.end.ensures
