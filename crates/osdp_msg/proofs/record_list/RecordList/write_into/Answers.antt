use Rattle.osdp_msg.proofs.RecordLists.{lent_few}
use Rattle.osdp_msg.proofs.record_list.RecordList.write_into.Goals as goal

pub returns-clause-room : goal.returns-clause-room
returns-clause-room g c = rw (← c.self.view_is) (lent_few g.R.Record.read_at g.R.Record.SIZE g.row.MOST c.self.inside.records g.met.R.Record.some c.self.invariant.1)
