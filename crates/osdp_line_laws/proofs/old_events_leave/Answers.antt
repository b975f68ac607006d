use Rattle.osdp_line_laws.proofs.OldEvents as old
use Rattle.osdp_line_laws.proofs.Moments as moments
use Rattle.osdp_line_laws.proofs.old_events_leave.Goals as goal

pub returns-clause-leave : goal.returns-clause-leave
returns-clause-leave c = old.old_events_leave

pub returns-clause-on : goal.returns-clause-on
returns-clause-on c = moments.always_go_on
