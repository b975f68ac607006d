-- What a line may order, and its words.
use Rattle.std.specs.Prelude.{ℕ, ◌≤◌, ◌<◌, ◌^◌, Bool, true, false, List, [], ◌∷◌, codes, length}
use Rattle.hex.specs.Hex.{IsBytes}
use Rattle.osdp_msg.specs.Events.{EventFits, event_words}
use Rattle.osdp_msg.specs.Limits.{most_data}
use Rattle.osdp_settings.specs.Values.{switch_word}
use Rattle.osdp_words.specs.Word.{Word, plain, bytes, number}
use Rattle.osdp_line_calls.specs.Calls.{FitsALine}
use Rattle.osdp_line_calls.specs.declared.reader_call.ReaderCall.{ReaderCall}
use Rattle.osdp_line_calls.specs.declared.reader_call.ReaderCall.TheVariants.{At, Bytes, Silence, Tick, Event, Busy, Inputs, Outputs, Readers, Local}

-- a call's name, and the words after it
abbrev pub call_name : ReaderCall → List ℕ
call_name (At now) = codes "at"
call_name (Bytes list) = codes "bytes"
call_name Silence = codes "silence"
call_name Tick = codes "tick"
call_name (Event event) = codes "event"
call_name (Busy busy) = codes "busy"
call_name (Inputs list) = codes "inputs"
call_name (Outputs list) = codes "outputs"
call_name (Readers list) = codes "readers"
call_name (Local tamper power) = codes "local"

abbrev pub call_fields : ReaderCall → List Word
call_fields (At now) = number now ∷ []
call_fields (Bytes list) = bytes list.items ∷ []
call_fields Silence = []
call_fields Tick = []
call_fields (Event event) = event_words event
call_fields (Busy busy) = switch_word busy ∷ []
call_fields (Inputs list) = bytes list.items ∷ []
call_fields (Outputs list) = bytes list.items ∷ []
call_fields (Readers list) = bytes list.items ∷ []
call_fields (Local tamper power) = number tamper ∷ number power ∷ []

abbrev pub call_words : ReaderCall → List Word
call_words call = plain (call_name call) ∷ call_fields call

-- a byte for each input, output or reader
abbrev pub AreStates : List ℕ → Type 0
AreStates list = (length list ≤ most_data) × IsBytes list

abbrev pub CallFits : ReaderCall → Type 0
CallFits (At now) = now < 2 ^ 64
CallFits (Bytes list) = FitsALine list.items
CallFits Silence = Unit {0}
CallFits Tick = Unit {0}
CallFits (Event event) = EventFits event
CallFits (Busy busy) = Unit {0}
CallFits (Inputs list) = AreStates list.items
CallFits (Outputs list) = AreStates list.items
CallFits (Readers list) = AreStates list.items
CallFits (Local tamper power) = (tamper < 2 ^ 8) × (power < 2 ^ 8)
