-- The faults of the program's commands, and the statuses that they end with.
use Rattle.std.specs.Prelude.{◌≡◌, ℕ, ◌⊎◌, ◌↔◌}
use Rattle.osdp_tool_streams.specs.declared.fault.ToolFault.{ToolFault}
use Rattle.osdp_tool_streams.specs.declared.fault.ToolFault.TheVariants.{NotHex, TooLong, BadWords, BadStep}
use Rattle.osdp_tool_streams.specs.declared.fault.ToolFault.TheVariants.{HoldsPacket, NotQuiet, ReadFailed}
use Rattle.osdp_tool_streams.specs.declared.fault.ToolFault.TheVariants.{WriteFailed, NoMemory}

-- the status of the program at a fault: 2 at bad words or input, 3 at a failed read or write, 4 without memory
abbrev pub status_of : ToolFault → ℕ
status_of (NotHex line) = 2
status_of TooLong = 2
status_of BadWords = 2
status_of (BadStep line) = 2
status_of (HoldsPacket step) = 2
status_of (NotQuiet step) = 2
status_of ReadFailed = 3
status_of WriteFailed = 3
status_of NoMemory = 4

-- the fault is a stream's, and no fault of the words or the input
abbrev pub IsOfStream : ToolFault → Type 0
IsOfStream fault = (fault ≡ ReadFailed) ⊎ (fault ≡ WriteFailed)

-- a status is 2, 3 or 4; it is 3 exactly at a stream's fault, and 4 exactly where memory ran out
pub record StatusTellsCause (fault : ToolFault) : Type 0 where
  pub range : (status_of fault ≡ 2) ⊎ ((status_of fault ≡ 3) ⊎ (status_of fault ≡ 4))
  pub stream : (status_of fault ≡ 3) ↔ IsOfStream fault
  pub memory : (status_of fault ≡ 4) ↔ (fault ≡ NoMemory)
