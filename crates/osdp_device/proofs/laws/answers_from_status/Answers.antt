use Rattle.osdp_device.proofs.Statuses.{answers_from}
use Rattle.osdp_device.proofs.laws.answers_from_status.Goals as goal

pub returns : goal.returns
returns c = λ s. answers_from s
