use Rattle.osdp_test_script.proofs.Names.{awaits_by_name}
use Rattle.osdp_test_script.proofs.laws.awaits_by_name.Goals as goal

pub returns : goal.returns
returns c = awaits_by_name
