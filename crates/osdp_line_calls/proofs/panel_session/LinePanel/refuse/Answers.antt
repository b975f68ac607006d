use Rattle.std.proofs.Common.{string_bytes, refl}
use Rattle.osdp_line_calls.specs.PanelLines.{refuses}
use Rattle.osdp_line_calls.proofs.PanelCalls.{on_this}
use Rattle.osdp_line_calls.proofs.panel_session.LinePanel.refuse.Goals as goal

pub returns : goal.returns
returns c =
    on_this _ _ _ (c.end.ensures (string_bytes c.args.text.now) (refuses c.args.self.now))
    (record { text = c.in_ok-push_str.ensures.bytes; session = refl })
