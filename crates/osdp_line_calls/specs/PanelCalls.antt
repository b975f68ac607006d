-- What a line may order, and its words.
use Rattle.std.specs.Prelude.{ℕ, ◌+◌, ◌<◌, ◌^◌, ◌==◌, if◌then◌else◌, List, [], ◌∷◌, codes}
use Rattle.osdp_msg.specs.CommandTable.{CommandFits}
use Rattle.osdp_msg.specs.CommandText.{command_words}
use Rattle.osdp_panel.specs.Orders.{never}
use Rattle.osdp_words.specs.Word.{Word, plain, bytes, number}
use Rattle.osdp_line_calls.specs.Calls.{FitsALine}
use Rattle.osdp_line_calls.specs.declared.panel_call.PanelCall.{PanelCall}
use Rattle.osdp_line_calls.specs.declared.panel_call.PanelCall.TheVariants.{At, Add, Begin, Submit, Withdraw, Retarget, Bytes, Silence, Tick, Write}

-- entries count from 1 in lines, and from 0 in a panel
abbrev pub entry_word : ℕ → Word
entry_word entry = number (entry + 1)

-- until when an order may be sent: a moment, or never too late
abbrev pub until_word : ℕ → Word
until_word until = if until == never then plain (codes "never") else number until

-- a call's name, and the words after it
abbrev pub call_name : PanelCall → List ℕ
call_name (At now) = codes "at"
call_name (Add address next) = codes "add"
call_name (Begin entry) = codes "begin"
call_name (Submit entry until command) = codes "submit"
call_name (Withdraw entry) = codes "withdraw"
call_name (Retarget entry address) = codes "retarget"
call_name (Bytes list) = codes "bytes"
call_name Silence = codes "silence"
call_name Tick = codes "tick"
call_name Write = codes "write"

abbrev pub call_fields : PanelCall → List Word
call_fields (At now) = number now ∷ []
call_fields (Add address next) = number address ∷ number next ∷ []
call_fields (Begin entry) = entry_word entry ∷ []
call_fields (Submit entry until command) = entry_word entry ∷ until_word until ∷ command_words command
call_fields (Withdraw entry) = entry_word entry ∷ []
call_fields (Retarget entry address) = entry_word entry ∷ number address ∷ []
call_fields (Bytes list) = bytes list.items ∷ []
call_fields Silence = []
call_fields Tick = []
call_fields Write = []

abbrev pub call_words : PanelCall → List Word
call_words call = plain (call_name call) ∷ call_fields call

-- an entry's number is one of 32 bits, an address one of a packet, and a moment and the number of an order are ones of 64 bits
abbrev pub IsEntry : ℕ → Type 0
IsEntry entry = entry + 1 < 2 ^ 32

abbrev pub IsAddress : ℕ → Type 0
IsAddress address = address < 128

abbrev pub IsMoment : ℕ → Type 0
IsMoment moment = moment < 2 ^ 64

abbrev pub CallFits : PanelCall → Type 0
CallFits (At now) = IsMoment now
CallFits (Add address next) = IsAddress address × (next < 2 ^ 64)
CallFits (Begin entry) = IsEntry entry
CallFits (Submit entry until command) = IsEntry entry × IsMoment until × CommandFits command
CallFits (Withdraw entry) = IsEntry entry
CallFits (Retarget entry address) = IsEntry entry × IsAddress address
CallFits (Bytes list) = FitsALine list.items
CallFits Silence = Unit {0}
CallFits Tick = Unit {0}
CallFits Write = Unit {0}
