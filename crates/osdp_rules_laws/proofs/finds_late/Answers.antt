use Rattle.osdp_rules_laws.proofs.Delaying.{tells_delays}
use Rattle.osdp_rules_laws.proofs.finds_late.Goals as goal

pub returns : goal.returns
returns c = tells_delays
