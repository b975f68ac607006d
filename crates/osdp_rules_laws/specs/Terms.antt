-- What packets say, in the standard's terms.
use Rattle.std.specs.Prelude.{◌≡◌, ◌⊎◌, ℕ, false, List, [], ◌∷◌, drop, slice_index, Ok}
use Rattle.osdp_frame.specs.Packet.{Packet}
use Rattle.osdp_msg.specs.declared.command.Command.TheVariants.{Poll, Id, Cap, Comset}
use Rattle.osdp_msg.specs.declared.command_fields.Communication.{Communication}
use Rattle.osdp_rules.specs.Packets.{asked}

-- the code is the first byte of the body, and the data follow it
abbrev pub code : Packet → ℕ
code p = slice_index p.body 0

abbrev pub data_of : Packet → List ℕ
data_of p = drop 1 p.body

abbrev pub IsBusy : Packet → Type 0
IsBusy a = code a ≡ 0x79

abbrev pub IsNak : Packet → Type 0
IsNak a = code a ≡ 0x41

-- a NAK whose first byte of data is this reason
abbrev pub IsNakOf : ℕ → Packet → Type 0
IsNakOf reason a = IsNak a × ((more : List ℕ) × (data_of a ≡ reason ∷ more))

-- BUSY, NAK 1 and NAK 4 say that the packet wasn't taken
abbrev pub TakesNothing : Packet → Type 0
TakesNothing a = IsBusy a ⊎ IsNakOf 1 a ⊎ IsNakOf 4 a

-- a packet for the device at an address: of a panel, to this address or to 127
abbrev pub IsTo : ℕ → Packet → Type 0
IsTo address p = (p.reply ≡ false) × ((p.address ≡ address) ⊎ (p.address ≡ 127))

-- .. without a security block
abbrev pub IsPlainTo : ℕ → Packet → Type 0
IsPlainTo address p = IsTo address p × (p.block ≡ false)

abbrev pub IsComset : Packet → Type 0
IsComset p = (c : Communication) × (asked p ≡ Ok (Comset c))

-- POLL, ID and CAP, which each device has
abbrev pub IsServed : Packet → Type 0
IsServed p = (asked p ≡ Ok Poll) ⊎ ((kept : ℕ) × (asked p ≡ Ok (Id kept))) ⊎ ((kept : ℕ) × (asked p ≡ Ok (Cap kept)))

abbrev pub IsOneOf : List ℕ → ℕ → Type 0
IsOneOf [] n = ⊥
IsOneOf (m ∷ ms) n = (n ≡ m) ⊎ IsOneOf ms n

-- ACK, PDID, PDCAP, the four states, RAW, FMT, KEYPAD and COM: codes that answer a command, or tell an event
abbrev pub answer_codes : List ℕ
answer_codes = 0x40 ∷ 0x45 ∷ 0x46 ∷ 0x48 ∷ 0x49 ∷ 0x4A ∷ 0x4B ∷ 0x50 ∷ 0x51 ∷ 0x53 ∷ 0x54 ∷ []
