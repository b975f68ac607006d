use Rattle.osdp_frame.proofs.Decided.{one_item}
use Rattle.osdp_frame_laws.proofs.Readings.{some_item}
use Rattle.osdp_frame_laws.proofs.one_item.Goals as goal

pub returns-clause-one : goal.returns-clause-one
returns-clause-one c = λ rest a b s t. one_item rest a b s t

pub returns-clause-some : goal.returns-clause-some
returns-clause-some c = λ b rest fits. some_item b rest fits
