use Rattle.osdp_line_calls.specs.PanelSessions.{new_session}
use Rattle.osdp_line_laws.proofs.OfPanels.{of_lines}
use Rattle.osdp_line_laws.proofs.a_panel_comes_of_calls.Goals as goal

pub returns : goal.returns
returns c = λ config lines text last spoken. of_lines (new_session config) lines text last spoken
