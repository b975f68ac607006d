-- What a turn of a device tells.
use Rattle.std.proofs.Common.{◌≡◌, ℕ, List, Option, Some, None, refl}
use Rattle.std.specs.Prelude.{is_some}
use Rattle.osdp_device.specs.Lent.{said_if}
use Rattle.osdp_msg.specs.declared.command.Command.{Command}
use Rattle.osdp_reader.specs.declared.kind.Kind.{Kind}

-- something is said where a packet of some kind was answered
pub is_said : (kind : Option Kind) (command : Option Command) (bytes : List ℕ) → is_some (said_if kind command bytes) ≡ is_some kind
is_said None command bytes = refl
is_said (Some kind) command bytes = refl
