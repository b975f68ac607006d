use Rattle.osdp_ledger.proofs.Events.{keeps_events}
use Rattle.osdp_ledger.proofs.keeps_events.Goals as goal

pub returns : goal.returns
returns c = keeps_events
