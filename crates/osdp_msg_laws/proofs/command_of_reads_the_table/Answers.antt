use Rattle.osdp_msg_laws.proofs.CommandLaws.{command_laws}
use Rattle.osdp_msg_laws.proofs.command_of_reads_the_table.Goals as goal

pub returns-clause-values : goal.returns-clause-values
returns-clause-values c = command_laws.reads

pub returns-clause-faults : goal.returns-clause-faults
returns-clause-faults c = command_laws.faults
