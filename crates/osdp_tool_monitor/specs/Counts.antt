-- What is counted of each address, and the table of it.
use Rattle.std.specs.Prelude.{ℕ, ◌+◌, ◌-◌, ◌^◌, ◌==◌, ◌&&◌, ◌||◌, not, nat_lt, Bool, true, false, if◌then◌else◌, List, [], ◌∷◌, ◌++◌, codes, flat_map, length, replicate, slice_index_or, slice_set, is_some, Option, Some, None, Result, Ok}
use Rattle.std.specs.Fmt.{decimal}
use Rattle.osdp_frame.specs.Packet.{Packet}
use Rattle.osdp_monitor.specs.declared.found.Found.{Found}
use Rattle.osdp_monitor.specs.declared.found.Notice.{Notice}
use Rattle.osdp_monitor.specs.declared.accusation.Accusation.{Accusation}
use Rattle.osdp_monitor.specs.declared.accusation.Accusation.TheVariants.{SecondReply}
use Rattle.osdp_monitor.specs.declared.found.Notice.TheVariants.{Opened, Moved, Restarted}
use Rattle.osdp_monitor.specs.Saying.{asked, reply_told}
use Rattle.osdp_msg.specs.declared.command.Command.{Command}
use Rattle.osdp_msg.specs.declared.command.Command.TheVariants.{Poll}
use Rattle.osdp_msg.specs.declared.fault.MsgFault.{MsgFault}
use Rattle.osdp_msg.specs.declared.reply.Reply.{Reply}
use Rattle.osdp_msg.specs.declared.nak.NakReason.{NakReason}
use Rattle.osdp_msg.specs.declared.nak.NakReason.TheVariants.{SecurityConditions}
use Rattle.osdp_msg.specs.declared.reply.Reply.TheVariants as reply
use Rattle.osdp_tool_show.specs.declared.tally.Tally.{Tally}
use Rattle.osdp_tool_show.specs.ItemText.{counts_then}
use Rattle.osdp_tool_monitor.specs.declared.counts.Counts.{Counts}
use Rattle.osdp_tool_monitor.specs.declared.counts.ReplyKind.{ReplyKind}
use Rattle.osdp_tool_monitor.specs.declared.counts.ReplyKind.TheVariants.{Busy, Refused, Demands, Event, Sets, Other}

-- one more, where the test holds; a count stays at the greatest number of 64 bits
abbrev pub more_if : Bool → ℕ → ℕ
more_if test count = if test && nat_lt count (2 ^ 64 - 1) then count + 1 else count

-- a command that is a POLL
abbrev pub is_poll : Result Command MsgFault → Bool
is_poll (Ok Poll) = true
is_poll _ = false

-- a NAK, as it is counted: by its reason, it demands Secure Channel
abbrev pub kind_of_reason : NakReason → ReplyKind
kind_of_reason SecurityConditions = Demands
kind_of_reason _ = Refused

-- a reply, as it is counted: a card or keys are events, and a COM sets the rate
abbrev pub kind_of_reply : Result Reply MsgFault → ReplyKind
kind_of_reply (Ok reply.Busy) = Busy
kind_of_reply (Ok (reply.Nak n)) = kind_of_reason n.reason
kind_of_reply (Ok (reply.Com named)) = Sets named.baud_rate
kind_of_reply (Ok (reply.Raw r)) = Event
kind_of_reply (Ok (reply.Formatted f)) = Event
kind_of_reply (Ok (reply.Keypad k)) = Event
kind_of_reply _ = Other

abbrev pub is_busy : ReplyKind → Bool
is_busy Busy = true
is_busy _ = false

abbrev pub is_refused : ReplyKind → Bool
is_refused Refused = true
is_refused Demands = true
is_refused _ = false

abbrev pub is_demand : ReplyKind → Bool
is_demand Demands = true
is_demand _ = false

-- the rate that a reply sets, and else the one before
abbrev pub rate_after : ReplyKind → ℕ → ℕ
rate_after (Sets rate) before = rate
rate_after _ before = before

abbrev pub is_event : ReplyKind → Bool
is_event Event = true
is_event _ = false

abbrev pub is_opened : Option Notice → Bool
is_opened (Some Opened) = true
is_opened _ = false

abbrev pub is_moved : Option Notice → Bool
is_moved (Some (Moved address)) = true
is_moved _ = false

abbrev pub is_restarted : Option Notice → Bool
is_restarted (Some Restarted) = true
is_restarted _ = false

abbrev pub is_second : Option Accusation → Bool
is_second (Some SecondReply) = true
is_second _ = false

-- After a packet to a device; `copy` where it is the last one once more. It is judged by what is known, and but for the first one that was
-- forgotten where it isn't. A copy of a packet that was answered is needless.
abbrev pub after_sent : Packet → Bool → Found → Counts → Counts
after_sent p copy found c = record c {
  asked = more_if true c.asked;
  polls = more_if (is_poll (asked p)) c.polls;
  repeats = more_if copy c.repeats;
  needless = more_if (copy && c.heard) c.needless;
  heard = copy && c.heard;
  judged = more_if found.judged c.judged;
  forgot = more_if (not found.judged && not (c.asked == 0)) c.forgot;
  accused = more_if (is_some found.accusation) c.accused;
}

-- what is counted of what is found in a reply
abbrev pub after_found : Found → Counts → Counts
after_found found c = record c {
  opened = more_if (is_opened found.notice) c.opened;
  moved = more_if (is_moved found.notice) c.moved;
  restarted = more_if (is_restarted found.notice) c.restarted;
  seconds = more_if (is_second found.accusation) c.seconds;
  accused = more_if (is_some found.accusation) c.accused;
}

-- after a reply
abbrev pub after_any : ReplyKind → Found → Counts → Counts
after_any kind found c = after_found found (record c {
  answered = more_if (not (is_busy kind) && not (is_refused kind)) c.answered;
  heard = c.heard || not (is_busy kind || is_refused kind);
  busy = more_if (is_busy kind) c.busy;
  nak = more_if (is_refused kind) c.nak;
  demands = more_if (is_demand kind) c.demands;
  events = more_if (is_event kind) c.events;
  rate = rate_after kind c.rate;
})

abbrev pub after_reply : ReplyKind → Found → Counts → Counts
after_reply kind found c = after_any kind found (record c { judged = more_if found.judged c.judged })

-- after a packet; `clean` where it came without damage before it
abbrev pub after_any_packet : Packet → Bool → Counts → Counts
after_any_packet p clean c = record c { clean = more_if clean c.clean; secured = more_if p.block c.secured }

abbrev pub after_packet : Packet → Bool → Bool → Found → Counts → Counts
after_packet p clean copy found c =
    if p.reply then after_reply (kind_of_reply (reply_told p)) found (after_any_packet p clean c)
    else after_sent p copy found (after_any_packet p clean c)

abbrev pub no_counts : Counts
no_counts = record {
  asked = 0;
  polls = 0;
  repeats = 0;
  answered = 0;
  busy = 0;
  nak = 0;
  events = 0;
  opened = 0;
  moved = 0;
  judged = 0;
  forgot = 0;
  accused = 0;
  restarted = 0;
  seconds = 0;
  needless = 0;
  demands = 0;
  secured = 0;
  damaged = 0;
  clean = 0;
  rate = 0;
  heard = false;
}

-- those of each address, from 0 on
abbrev pub counts_after : Packet → Bool → Bool → Found → List Counts → List Counts
counts_after p clean copy found counts =
    slice_set counts p.address (after_packet p clean copy found (slice_index_or counts p.address no_counts))

-- damage came after a packet to a device, before any other packet
abbrev pub after_damage : Counts → Counts
after_damage c = record c { damaged = more_if true c.damaged }

abbrev pub counts_after_damage : Option ℕ → List Counts → List Counts
counts_after_damage None counts = counts
counts_after_damage (Some address) counts = slice_set counts address (after_damage (slice_index_or counts address no_counts))

-- ---- the table

-- a number to the right of a column: a space stands before it, however many digits it has
abbrev pub column : ℕ → ℕ → List ℕ
column room count = codes " " ++ (replicate (room - length (decimal count)) 32 ++ decimal count)

-- an address to the left of its column
abbrev pub address_column : ℕ → List ℕ
address_column address = decimal address ++ replicate (6 - length (decimal address)) 32

unfoldable pub heading : List ℕ
heading = codes "device  asked  polls repeats  answered  busy  nak  events  opened  moved  judged  forgot  accused\n"

-- numbers, each after the room of its column
unfoldable pub columns : List (ℕ × ℕ) → List ℕ
columns numbers = flat_map (λ (x : ℕ × ℕ). column x.0 x.1) numbers

-- what was asked, what was answered, and the rest
abbrev pub counted_columns : Counts → List (ℕ × ℕ)
counted_columns c =
    (6, c.asked) ∷ (6, c.polls) ∷ (7, c.repeats) ∷ (9, c.answered) ∷ (5, c.busy) ∷ (4, c.nak) ∷ (7, c.events) ∷ (7, c.opened) ∷ (6, c.moved)
    ∷ (7, c.judged) ∷ (7, c.forgot) ∷ (8, c.accused) ∷ []

-- a line for each address to which or from which something came
abbrev pub row : ℕ → Counts → List ℕ
row address c = address_column address ++ (columns (counted_columns c) ++ codes "\n")

abbrev pub is_silent : Counts → Bool
is_silent c = c.asked == 0 && c.answered == 0 && c.busy == 0 && c.nak == 0

-- fewer than three packets of each kind, which came after damage alone: damage made them
abbrev pub is_ghost : Counts → Bool
is_ghost c = c.clean == 0 && nat_lt c.asked 3 && nat_lt c.answered 3 && nat_lt c.busy 3 && nat_lt c.nak 3

abbrev pub row_if : ℕ → Counts → List ℕ
row_if address c = if is_silent c || is_ghost c then [] else row address c

unfoldable pub rows_from : ℕ → List Counts → List ℕ
rows_from address [] = []
rows_from address (c ∷ counts) = row_if address c ++ rows_from (address + 1) counts

-- the line of counts
abbrev pub counts_line : Tally → ℕ → ℕ → List ℕ
counts_line tally judged accused =
    counts_then tally.runs tally.packets tally.skipped tally.refused
    (codes " judged " ++ (decimal judged ++ (codes " accused " ++ (decimal accused ++ codes "\n"))))

-- packets came, and none of them could be judged
abbrev pub is_unjudged : Tally → ℕ → Bool
is_unjudged tally judged = judged == 0 && not (tally.packets == 0)

abbrev pub unjudged_line : Bool → List ℕ
unjudged_line true = codes "nothing was judged\n"
unjudged_line false = []

-- the table, with these lines after it
abbrev pub table_of : Tally → List Counts → ℕ → ℕ → List ℕ
table_of tally counts judged accused =
    heading ++ (rows_from 0 counts ++ (counts_line tally judged accused ++ unjudged_line (is_unjudged tally judged)))
