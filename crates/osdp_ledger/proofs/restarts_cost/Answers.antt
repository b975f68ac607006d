use Rattle.osdp_ledger.proofs.Restarts.{reports_no_more, restarts_cost}
use Rattle.osdp_ledger.proofs.restarts_cost.Goals as goal

pub returns : goal.returns
returns c = record { at_once = restarts_cost; since = reports_no_more }
