-- What may be expected: its word, and the code of the reply.
use Rattle.std.specs.Prelude.{ℕ, List, codes, Option, Some, None}
use Rattle.osdp_test_script.specs.declared.awaited.Awaited.{Awaited}
use Rattle.osdp_test_script.specs.declared.awaited.Awaited.TheVariants.{Silence, Same, Ack, Nak, PdId, PdCap, LocalState, Inputs, Outputs, Readers, Raw, Formatted, Keypad, Com, Busy, Maker}

-- the names of replies are those that a reply is printed with
abbrev pub awaited_name : Awaited → List ℕ
awaited_name Silence = codes "silence"
awaited_name Same = codes "same"
awaited_name Ack = codes "ACK"
awaited_name Nak = codes "NAK"
awaited_name PdId = codes "PDID"
awaited_name PdCap = codes "PDCAP"
awaited_name LocalState = codes "LSTATR"
awaited_name Inputs = codes "ISTATR"
awaited_name Outputs = codes "OSTATR"
awaited_name Readers = codes "RSTATR"
awaited_name Raw = codes "RAW"
awaited_name Formatted = codes "FMT"
awaited_name Keypad = codes "KEYPAD"
awaited_name Com = codes "COM"
awaited_name Busy = codes "BUSY"
awaited_name Maker = codes "MFGREP"

abbrev pub awaited_code : Awaited → Option ℕ
awaited_code Silence = None
awaited_code Same = None
awaited_code Ack = Some 0x40
awaited_code Nak = Some 0x41
awaited_code PdId = Some 0x45
awaited_code PdCap = Some 0x46
awaited_code LocalState = Some 0x48
awaited_code Inputs = Some 0x49
awaited_code Outputs = Some 0x4A
awaited_code Readers = Some 0x4B
awaited_code Raw = Some 0x50
awaited_code Formatted = Some 0x51
awaited_code Keypad = Some 0x53
awaited_code Com = Some 0x54
awaited_code Busy = Some 0x79
awaited_code Maker = Some 0x90
