use Rattle.osdp_panel_laws.proofs.InTime.{gives_in_time}
use Rattle.osdp_panel_laws.proofs.packets_are_given_in_time.Goals as goal

pub returns : goal.returns
returns c = gives_in_time c.moments_are_seen.ensures.greatest
