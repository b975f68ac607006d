use Rattle.osdp_ledger_laws.proofs.Runs.{more_happen}
use Rattle.osdp_ledger_laws.proofs.more_steps_happen.Goals as goal

pub returns : goal.returns
returns c = more_happen
