-- COMSETs, which ask a reader to go to another address.
use Rattle.std.specs.Prelude.{Bool, List, is_some}
use Rattle.std.specs.List.{list_any}
use Rattle.osdp_msg.specs.declared.command.Command.{Command}
use Rattle.osdp_controller.specs.Hearing.{comset_of}

abbrev pub is_comset : Command → Bool
is_comset command = is_some (comset_of command)

abbrev pub has_comset : List Command → Bool
has_comset commands = list_any is_comset commands
