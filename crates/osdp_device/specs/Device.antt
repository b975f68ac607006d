-- What a device keeps.
use Rattle.std.specs.Prelude.{Option, Some, None}
use Rattle.std.specs.Result.{result_ok}
use Rattle.osdp_frame.specs.Held.{after_advance}
use Rattle.osdp_frame.specs.Reading.{RunItem, PacketItem, SkippedItem, RefusedItem}
use Rattle.osdp_frame.specs.Receiving.{Received}
use Rattle.osdp_msg.specs.declared.command.Command.{Command}
use Rattle.osdp_reader.specs.State.{ReaderState}
use Rattle.osdp_reader.specs.Table.{command_in}
use Rattle.osdp_device.specs.Ages.{AgesState}
use Rattle.osdp_device.specs.Deciding.{acted_on}
use Rattle.osdp_device.specs.declared.first.First.{First}
use Rattle.osdp_device.specs.declared.first.First.TheVariants.{Unread, Pending, Answered}

pub record DeviceState (H : Type 0) : Type 0 where
  -- its end of the link, what has come on its line, and how long its events have waited
  pub reader : ReaderState H
  pub line : Received
  pub ages : AgesState
  -- the command before which the last call stopped, or that the packet had acted on which it answered
  pub command : Option Command

-- A packet that was answered is off the line, though its bytes lie there until the next call.
abbrev pub line_after : First → Received → Received
line_after Unread l = l
line_after Pending l = l
line_after (Answered kind) l = record l { held = after_advance l.held }

-- the command that an item has
abbrev pub command_at : Option RunItem → Option Command
command_at (Some (PacketItem p)) = result_ok (command_in p)
command_at (Some (SkippedItem byte)) = None
command_at (Some (RefusedItem fault)) = None
command_at None = None

-- the one of the item that stands first
abbrev pub first_command : First → Option RunItem → Option Command
first_command Unread part = None
first_command Pending part = command_at part
first_command (Answered kind) part = acted_on kind (command_at part)
