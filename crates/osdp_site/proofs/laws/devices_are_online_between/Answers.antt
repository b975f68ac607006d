use Rattle.osdp_site.proofs.Online.{online_between}
use Rattle.osdp_site.proofs.laws.devices_are_online_between.Goals as goal

pub returns : goal.returns
returns c = online_between
