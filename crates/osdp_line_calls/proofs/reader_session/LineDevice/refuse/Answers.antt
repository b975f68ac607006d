use Rattle.osdp_line_calls.proofs.Common.{refl, tells_waiting, no_line}
use Rattle.osdp_line_calls.proofs.ReaderCalls.{comes_then}
use Rattle.osdp_line_calls.proofs.reader_session.LineDevice.refuse.Goals as goal

pub returns : goal.returns
returns c =
    comes_then _ _ _ _ _ _ (record { text = no_line; session = c.args.self.now }) tells_waiting (record { text = c.in_ok-push_str.ensures.bytes; session = refl; read = c.requires }) c.end.ensures
