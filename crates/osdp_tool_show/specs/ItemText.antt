-- What an item of a run prints as.
use Rattle.std.specs.Prelude.{ℕ, ◌==◌, ◌&&◌, not, Bool, true, false, if◌then◌else◌, List, [], ◌∷◌, ◌++◌, codes, drop, length, slice_index, Option, Some, None, Result, Ok, Err}
use Rattle.std.specs.Fmt.{decimal}
use Rattle.hex.specs.Hex.{encode_upper}
use Rattle.osdp_frame.specs.Check.{check_name}
use Rattle.osdp_frame.specs.declared.fault.FrameFault.{FrameFault}
use Rattle.osdp_frame.specs.declared.fault.FrameFault.TheVariants.{TooShort, TooLong, BadCheck, Ended}
use Rattle.osdp_frame.specs.Packet.{Packet}
use Rattle.osdp_frame.specs.Reading.{RunItem, PacketItem, SkippedItem, RefusedItem}
use Rattle.osdp_msg.specs.declared.fault.MsgFault.{MsgFault}
use Rattle.osdp_msg.specs.declared.fault.MsgFault.TheVariants.{UnknownCode, Length, Count}
use Rattle.osdp_msg.specs.CommandTable.{command_of}
use Rattle.osdp_msg.specs.CommandText.{command_text}
use Rattle.osdp_msg.specs.ReplyTable.{reply_of}
use Rattle.osdp_msg.specs.ReplyText.{reply_text}
use Rattle.osdp_tool_show.specs.declared.detail.Detail.{Detail}
use Rattle.osdp_tool_show.specs.declared.detail.Detail.TheVariants.{Full, Refusals, Filtered}
use Rattle.osdp_tool_show.specs.declared.detail.Filter.{Filter}

-- ---- messages

-- data as digits, after a space, where there are any
abbrev pub data_text : List ℕ → List ℕ
data_text [] = []
data_text (b ∷ bytes) = codes " " ++ encode_upper (b ∷ bytes)

-- which refusal it is; an unknown code is none
abbrev pub refusal_text : MsgFault → List ℕ
refusal_text UnknownCode = []
refusal_text Length = codes "refused M2 "
refusal_text Count = codes "refused M3 "

-- a code and data that are no message
abbrev pub unread_text : MsgFault → ℕ → List ℕ → List ℕ
unread_text fault code bytes = refusal_text fault ++ (codes "code " ++ (encode_upper (code ∷ []) ++ data_text bytes))

-- what is told of a code and data: the text of the message, or why there is none
abbrev pub told_text : {M : Type 0} → (M → List ℕ) → Result M MsgFault → ℕ → List ℕ → List ℕ
told_text text (Ok message) code bytes = text message
told_text text (Err fault) code bytes = unread_text fault code bytes

-- the same of a message that prints so, where it prints
abbrev pub printed_text : {M : Type 0} → (M → Option (List ℕ)) → Result M MsgFault → ℕ → List ℕ → Option (List ℕ)
printed_text output (Ok message) code bytes = output message
printed_text output (Err fault) code bytes = Some (unread_text fault code bytes)

-- a command is read by the table of commands, a reply by that of replies
abbrev pub message_text : Bool → ℕ → List ℕ → List ℕ
message_text true code bytes = told_text reply_text (reply_of code bytes) code bytes
message_text false code bytes = told_text command_text (command_of code bytes) code bytes

-- an unknown code is no refusal
abbrev pub is_refused : {M : Type 0} → Result M MsgFault → Bool
is_refused (Ok message) = false
is_refused (Err UnknownCode) = false
is_refused (Err Length) = true
is_refused (Err Count) = true

abbrev pub is_refused_message : Bool → ℕ → List ℕ → Bool
is_refused_message true code bytes = is_refused (reply_of code bytes)
is_refused_message false code bytes = is_refused (command_of code bytes)

-- ---- packets

abbrev pub direction_name : Bool → List ℕ
direction_name true = codes "reply"
direction_name false = codes "cmd"

-- the reserved bits, where they aren't zero
abbrev pub bits_text : ℕ → List ℕ
bits_text reserved = if reserved == 0 then [] else codes " bits " ++ decimal reserved

-- with a security block the whole body is left unread
abbrev pub body_text : Packet → List ℕ
body_text p =
    if p.block then codes "block " ++ encode_upper p.body
    else message_text p.reply (slice_index p.body 0) (drop 1 p.body)

abbrev pub head_text : Packet → List ℕ
head_text p =
    direction_name p.reply ++ (codes " " ++ (decimal p.address ++ (codes " seq " ++ (decimal p.sequence
    ++ (codes " " ++ (check_name p.check ++ bits_text p.reserved))))))

-- ---- items

abbrev pub fault_name : FrameFault → List ℕ
fault_name TooShort = codes "F1"
fault_name TooLong = codes "F2"
fault_name BadCheck = codes "F3"
fault_name Ended = codes "F4"

abbrev pub item_text : RunItem → List ℕ
item_text (PacketItem p) = head_text p ++ (codes " " ++ body_text p)
item_text (SkippedItem b) = codes "skip " ++ encode_upper (b ∷ [])
item_text (RefusedItem fault) = codes "refused " ++ fault_name fault

-- a refused byte, or a packet whose message is refused
abbrev pub is_refusal : RunItem → Bool
is_refusal (PacketItem p) =
    if p.block then false else is_refused_message p.reply (slice_index p.body 0) (drop 1 p.body)
is_refusal (SkippedItem b) = false
is_refusal (RefusedItem fault) = true

-- a POLL or an ACK, without data and without a security block
abbrev pub is_poll_or_ack : Packet → Bool
is_poll_or_ack p = not p.block && (slice_index p.body 0 == (if p.reply then 64 else 96) && length (drop 1 p.body) == 0)

-- the address is the one that is asked for, where one is
abbrev pub fits_address : Option ℕ → ℕ → Bool
fits_address None address = true
fits_address (Some wanted) address = wanted == address

-- a filter keeps a packet of its address, and no POLL or ACK where these are left out
abbrev pub keeps : Filter → Packet → Bool
keeps filter p = fits_address filter.address p.address && not (filter.no_polls && is_poll_or_ack p)

-- .. and each byte that is skipped or refused
abbrev pub keeps_item : Filter → RunItem → Bool
keeps_item filter (PacketItem p) = keeps filter p
keeps_item filter (SkippedItem b) = true
keeps_item filter (RefusedItem fault) = true

-- each skipped byte has a line
abbrev pub is_full : Detail → Bool
is_full Full = true
is_full Refusals = false
is_full (Filtered filter) = true

-- an item has a line: each, refusals alone, or what a filter keeps
abbrev pub has_line : Detail → RunItem → Bool
has_line Full part = true
has_line Refusals part = is_refusal part
has_line (Filtered filter) part = keeps_item filter part

-- the line of an item: the number of its run, from 1, its place in the run, its text
abbrev pub item_line : ℕ → ℕ → RunItem → List ℕ
item_line run place part =
    (decimal run ++ (codes ":" ++ (decimal place ++ codes " "))) ++ (item_text part ++ codes "\n")

-- how many runs with bytes, packets, skipped bytes and refusals there are, and what stands after that
abbrev pub counts_then : ℕ → ℕ → ℕ → ℕ → List ℕ → List ℕ
counts_then runs packets skipped refused rest =
    codes "runs " ++ (decimal runs ++ (codes " packets " ++ (decimal packets ++ (codes " skipped "
    ++ (decimal skipped ++ (codes " refused " ++ (decimal refused ++ rest)))))))

-- the line of counts
abbrev pub counts_line : ℕ → ℕ → ℕ → ℕ → List ℕ
counts_line runs packets skipped refused = counts_then runs packets skipped refused (codes "\n")
