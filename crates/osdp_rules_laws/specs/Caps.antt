-- What a device says by CAP that it has, by the bytes of its PDCAP, and what an answer shows of it.
use Rattle.std.specs.Prelude.{◌≡◌, ◌≢◌, ◌⊎◌, ◌<◌, ◌≤◌, ℕ, List, [], ◌∷◌, ◌++◌, length, Some, Result, Ok}
use Rattle.osdp_frame.specs.Packet.{Packet}
use Rattle.osdp_msg.specs.Values.{Held, NakValue, PdCapValue, TextValue}
use Rattle.osdp_msg.specs.declared.command.Command.{Command}
use Rattle.osdp_msg.specs.declared.command.Command.TheVariants.{Cap, InputStatus, OutputStatus, ReaderStatus, Output, Led, Text}
use Rattle.osdp_msg.specs.declared.fault.MsgFault.{MsgFault}
use Rattle.osdp_msg.specs.declared.leds.LedRecord.{LedRecord}
use Rattle.osdp_msg.specs.declared.outputs.OutputRecord.{OutputRecord}
use Rattle.osdp_msg.specs.declared.reply.Reply.{Reply}
use Rattle.osdp_msg.specs.declared.reply.Reply.TheVariants.{Ack, Nak, PdCap, Inputs, Outputs, Readers}
use Rattle.osdp_rules.specs.Packets.{asked, told}
use Rattle.osdp_rules.specs.Runs.{Sent, heard}
use Rattle.osdp_rules.specs.declared.finding.Finding.{Finding}
use Rattle.osdp_rules.specs.declared.finding.Finding.TheVariants.{Nothing, Kept, Either, Broken}
use Rattle.osdp_rules_laws.specs.Lists.{IsNew, NoComset, Nowhere}
use Rattle.osdp_rules_laws.specs.Terms.{IsPlainTo, data_of}

-- The data of PDCAP have three bytes for each capability: its function, its level and its count. Of two entries of a function the first counts.
abbrev pub Entry : ℕ → ℕ → ℕ → List ℕ → Type 0
Entry function level count (f ∷ l ∷ n ∷ more) =
    ((f ≡ function) × (l ≡ level) × (n ≡ count)) ⊎ ((f ≢ function) × Entry function level count more)
Entry function level count bytes = ⊥

-- ---- answers about what CAP tells

-- to have no such command is left open
abbrev pub RefusedStatus : Finding → Result Command MsgFault → Result Reply MsgFault → Type 0
RefusedStatus Either asked told =
    ((asked ≡ Ok InputStatus) ⊎ (asked ≡ Ok OutputStatus) ⊎ (asked ≡ Ok ReaderStatus)) × ((n : NakValue) × (told ≡ Ok (Nak n)))
RefusedStatus f asked told = ⊥

-- an order to an output or an LED from this number on, which changes something
abbrev pub OutputsBeyond : ℕ → List OutputRecord → Type 0
OutputsBeyond count [] = ⊥
OutputsBeyond count (r ∷ rs) = ((count ≤ r.output) × (r.control ≢ 0)) ⊎ OutputsBeyond count rs

abbrev pub LedsBeyond : ℕ → List LedRecord → Type 0
LedsBeyond count [] = ⊥
LedsBeyond count (r ∷ rs) =
    ((count ≤ r.led) × ((r.temporary_control ≢ 0) ⊎ (r.permanent_control ≢ 0))) ⊎ LedsBeyond count rs

-- characters of a display of this level
abbrev pub HasRoom : ℕ → ℕ → Type 0
HasRoom level room =
    ((level ≡ 1) × (room ≡ 16)) ⊎ ((level ≡ 2) × (room ≡ 32)) ⊎ ((level ≡ 3) × (room ≡ 64)) ⊎ ((3 < level) × (room ≡ 255))

-- it is refused; ACK and OSTATR say that it was done
abbrev pub RefusedShows : Finding → Result Reply MsgFault → Type 0
RefusedShows Kept told = (n : NakValue) × (told ≡ Ok (Nak n))
RefusedShows Broken told = (told ≡ Ok Ack) ⊎ ((states : Held) × (told ≡ Ok (Outputs states)))
RefusedShows Either told = ⊥
RefusedShows Nothing told = ⊥

-- what a display does with a text that is longer than itself is left open
abbrev pub LongerShows : Finding → Result Reply MsgFault → Type 0
LongerShows Kept told = (n : NakValue) × (told ≡ Ok (Nak n))
LongerShows Either told = told ≡ Ok Ack
LongerShows Broken told = ⊥
LongerShows Nothing told = ⊥

-- ---- what CAP told

module _ (address : ℕ) where
  -- a CAP with a new number, and an answer that reads as a PDCAP of these data
  pub record TellsCap (bytes : List ℕ) (past : List Sent) (x : Sent) : Type 0 where
    pub p : Packet
    pub a : Packet
    pub kept : ℕ
    pub caps : PdCapValue
    pub here : NoComset past
    pub packet : x.packet ≡ Some p
    pub to : IsPlainTo address p
    pub new : IsNew address past p
    pub asks : asked p ≡ Ok (Cap kept)
    pub heard : heard x ≡ Some a
    pub tells : told a ≡ Ok (PdCap caps)
    pub read : bytes ≡ data_of a

  abbrev pub IsCap : List Sent → Sent → Type 0
  IsCap past x = (bytes : List ℕ) × TellsCap bytes past x

  -- the last of these in a list
  abbrev pub LastCap : List ℕ → List Sent → List Sent → Type 0
  LastCap bytes past [] = ⊥
  LastCap bytes past (x ∷ xs) = (TellsCap bytes past x × Nowhere IsCap (past ++ x ∷ []) xs) ⊎ LastCap bytes (past ++ x ∷ []) xs

  -- the device says of a function this level and this count
  abbrev pub Tells : List Sent → ℕ → ℕ → ℕ → Type 0
  Tells past function level count = (bytes : List ℕ) × LastCap bytes [] past × Entry function level count bytes

  -- ---- lists of states

  -- a list has as many entries as CAP tells; where CAP doesn't speak of them any number is left open
  abbrev pub AgreesShows : Finding → List Sent → ℕ → ℕ → Type 0
  AgreesShows Kept past function entries = (level : ℕ) × (count : ℕ) × Tells past function level count × (entries ≡ count)
  AgreesShows Broken past function entries = (level : ℕ) × (count : ℕ) × Tells past function level count × (entries ≢ count)
  AgreesShows Either past function entries = (level : ℕ) (count : ℕ) → Tells past function level count → ⊥
  AgreesShows Nothing past function entries = ⊥

  -- whether a device counts itself among its readers is left open
  abbrev pub MayAgreeShows : Finding → List Sent → ℕ → ℕ → Type 0
  MayAgreeShows Kept past function entries = (level : ℕ) × (count : ℕ) × Tells past function level count × (entries ≡ count)
  MayAgreeShows Either past function entries = (level : ℕ) (count : ℕ) → Tells past function level count → entries ≢ count
  MayAgreeShows Broken past function entries = ⊥
  MayAgreeShows Nothing past function entries = ⊥

  -- ISTATR by function 1, OSTATR by function 2, and RSTATR by function 13
  abbrev pub ListedShows : Finding → List Sent → Result Command MsgFault → Result Reply MsgFault → Type 0
  ListedShows f past asked told =
      ((asked ≡ Ok InputStatus) × ((states : Held) × (told ≡ Ok (Inputs states)) × AgreesShows f past 1 (length states.items)))
      ⊎ ((asked ≡ Ok OutputStatus) × ((states : Held) × (told ≡ Ok (Outputs states)) × AgreesShows f past 2 (length states.items)))
      ⊎ ((asked ≡ Ok ReaderStatus) × ((states : Held) × (told ≡ Ok (Readers states)) × MayAgreeShows f past 13 (length states.items)))
      ⊎ RefusedStatus f asked told

  -- ---- what the device doesn't have

  -- outputs by the count of function 2, LEDs by the count of function 4, a display by the level of function 6, which is 0 where there is none
  abbrev pub OutputShows : Finding → List Sent → Result Command MsgFault → Result Reply MsgFault → Type 0
  OutputShows f past asked told =
      (records : List OutputRecord) × (level : ℕ) × (count : ℕ) × (asked ≡ Ok (Output records)) × Tells past 2 level count
      × OutputsBeyond count records × RefusedShows f told

  abbrev pub LedShows : Finding → List Sent → Result Command MsgFault → Result Reply MsgFault → Type 0
  LedShows f past asked told =
      (records : List LedRecord) × (level : ℕ) × (count : ℕ) × (asked ≡ Ok (Led records)) × Tells past 4 level count
      × LedsBeyond count records × RefusedShows f told

  abbrev pub TextShows : Finding → List Sent → Result Command MsgFault → Result Reply MsgFault → Type 0
  TextShows f past asked told =
      (text : TextValue) × (level : ℕ) × (count : ℕ) × (asked ≡ Ok (Text text)) × Tells past 6 level count
      × (((level ≡ 0) × RefusedShows f told)
      ⊎ ((room : ℕ) × HasRoom level room × (room < length text.characters.items) × LongerShows f told))

  abbrev pub BeyondShows : Finding → List Sent → Result Command MsgFault → Result Reply MsgFault → Type 0
  BeyondShows f past asked told = OutputShows f past asked told ⊎ LedShows f past asked told ⊎ TextShows f past asked told
