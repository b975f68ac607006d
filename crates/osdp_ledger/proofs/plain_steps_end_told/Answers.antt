use Rattle.osdp_ledger.proofs.Plain.{plain_steps_end_told}
use Rattle.osdp_ledger.proofs.plain_steps_end_told.Goals as goal

pub returns : goal.returns
returns c = plain_steps_end_told
