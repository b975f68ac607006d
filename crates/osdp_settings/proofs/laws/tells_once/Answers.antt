use Rattle.osdp_settings.proofs.Once.{tells_once}
use Rattle.osdp_settings.proofs.laws.tells_once.Goals as goal

pub returns : goal.returns
returns g c = tells_once g.C.Configured.entry g.C.Configured.put g.C.Configured.defaults
