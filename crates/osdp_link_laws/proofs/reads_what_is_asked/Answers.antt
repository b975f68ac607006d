use Rattle.osdp_controller.specs.Exchanges.{exchange_command}
use Rattle.osdp_link_laws.proofs.Tables.{command_read}
use Rattle.osdp_link_laws.proofs.reads_what_is_asked.Goals as goal

pub returns : goal.returns
returns c x s fits =
    command_read c.command_of_reads_the_table.ensures.values c.commands_fit_a_packet.ensures (exchange_command x) fits
