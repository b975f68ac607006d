-- What is told of a packet that was heard.
use Rattle.std.specs.Prelude.{Option, None, Some, nat_le, if◌then◌else◌}
use Rattle.osdp_msg.specs.declared.command.Command.{Command}
use Rattle.osdp_msg.specs.declared.command.Command.TheVariants.{Comset}
use Rattle.osdp_msg.specs.declared.command_fields.Communication.{Communication}

-- a COMSET to a device's address, which is accepted: the address and the rate that it sets
abbrev pub accepted_comset : Option Command → Option Communication
accepted_comset (Some (Comset c)) = if nat_le c.address 126 then Some c else None
accepted_comset _ = None
