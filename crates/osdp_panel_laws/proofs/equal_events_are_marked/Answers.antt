use Rattle.osdp_panel_laws.proofs.Equal.{equal_events_are_marked}
use Rattle.osdp_panel_laws.proofs.equal_events_are_marked.Goals as goal

pub returns : goal.returns
returns c = equal_events_are_marked c.repeats_are_marked.ensures
