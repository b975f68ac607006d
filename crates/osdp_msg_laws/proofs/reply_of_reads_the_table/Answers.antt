use Rattle.osdp_msg_laws.proofs.ReplyLaws.{reply_laws}
use Rattle.osdp_msg_laws.proofs.reply_of_reads_the_table.Goals as goal

pub returns-clause-values : goal.returns-clause-values
returns-clause-values c = reply_laws.reads

pub returns-clause-faults : goal.returns-clause-faults
returns-clause-faults c = reply_laws.faults
