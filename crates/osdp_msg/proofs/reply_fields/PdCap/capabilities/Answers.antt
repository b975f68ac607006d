use Rattle.osdp_msg.proofs.Common.{lit<, capability_at}
use Rattle.osdp_msg.proofs.RecordLists.{lent_few}
use Rattle.osdp_msg.proofs.reply_fields.PdCap.capabilities.Goals as goal

pub returns-clause-room : goal.returns-clause-room
returns-clause-room c = rw (← c.self.view_is) (lent_few capability_at 3 477 c.self.inside.capabilities (lit< tt) c.self.invariant)
