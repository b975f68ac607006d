use Rattle.osdp_rules_laws.proofs.Instances.{each_can_be_broken}
use Rattle.osdp_rules_laws.proofs.each_can_be_broken.Goals as goal

pub returns : goal.returns
returns c = each_can_be_broken
