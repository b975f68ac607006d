-- What a call of a device tells, whose command and bytes stand elsewhere.
use Rattle.std.specs.Prelude.{ℕ, Bool, true, false, List, Option, Some, None}
use Rattle.osdp_msg.specs.declared.command.Command.{Command}
use Rattle.osdp_reader.specs.declared.heard.Heard.{Heard}
use Rattle.osdp_reader.specs.declared.kind.Kind.{Kind}
use Rattle.osdp_device.specs.Saying.{Said}
use Rattle.osdp_device.specs.declared.settled.Settled.{Settled}
use Rattle.osdp_device.specs.declared.settled.Settled.TheVariants.{Nothing, Pending, Said as said}

-- what was heard and the bytes that are sent back
abbrev pub said_by : Heard → List ℕ → Said
said_by h bytes = record { kind = h.kind; command = h.command; bytes = bytes }

-- .. where a packet of this kind was answered
abbrev pub said_if : Option Kind → Option Command → List ℕ → Option Said
said_if (Some kind) command bytes = Some (record { kind = kind; command = command; bytes = bytes })
said_if None command bytes = None

-- the command, where one is pending
abbrev pub pending_if : Bool → Option Command → Option Command
pending_if true command = command
pending_if false command = None

-- what a turn comes to: the command before which it stops
abbrev pub settled_pending : Settled → Option Command → Option Command
settled_pending Pending command = command
settled_pending Nothing command = None
settled_pending (said kind) command = None

-- .. or else the kind of the packet that is answered
abbrev pub settled_kind : Settled → Option Kind
settled_kind (said kind) = Some kind
settled_kind Nothing = None
settled_kind Pending = None
