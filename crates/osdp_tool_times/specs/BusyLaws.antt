-- What BUSY tells, in the words of the line: it is an answer, whatever number it has.
use Rattle.std.specs.Prelude.{◌≡◌, ◌≢◌, ◌≤◌, ◌-◌, ℕ, Bool, true, false, List, Some}
use Rattle.osdp_frame.specs.Packet.{Packet}
use Rattle.osdp_tool_times.specs.Laws.{Exchange, after_exchanges, sent}
use Rattle.osdp_tool_times.specs.Presence.{after_answer, is_busy, is_offline, presence_after}
use Rattle.osdp_tool_times.specs.Times.{after_packet, packet_told}
use Rattle.osdp_tool_times.specs.Waits.{no_waits, told_reply}
use Rattle.osdp_tool_times.specs.declared.presence.Presence.{Presence}
use Rattle.osdp_tool_times.specs.declared.table.Times.{Times}
use Rattle.osdp_tool_times.specs.declared.waits.Told.TheVariants.{InTime, Nothing}

-- after such exchanges, the panel has sent the packet of one more
abbrev pub asked : List Exchange → Exchange → Times → Times
asked exchanges e t = record t { waits = sent e.number e.asked (after_exchanges no_waits exchanges) }

-- A device that answers BUSY before the panel sends its packet once more is told with its time, and so is its answer to that. The panel's next packet is none that it
-- sends without an answer.
pub record IsAnAnswer (busy next : Packet) (exchanges : List Exchange) (e : Exchange) (later last : ℕ) (t : Times) : Type 0 where
  pub time : packet_told busy (Some e.answered) (asked exchanges e t) ≡ InTime (e.answered - e.asked)
  pub again : told_reply (sent e.number later (after_packet busy (Some e.answered) (asked exchanges e t)).waits) e.number last ≡ InTime (last - later)
  pub missed : (after_packet next (Some later) (after_packet busy (Some e.answered) (asked exchanges e t))).missed ≡ t.missed

abbrev pub TellsBusy : Type 0
TellsBusy = (busy next : Packet) (exchanges : List Exchange) (e : Exchange) (later last : ℕ) (t : Times) → busy.reply ≡ true → is_busy busy ≡ true → next.reply ≡ false → later ≤ last
    → IsAnAnswer busy next exchanges e later last t

-- Where the panel has sent another packet after one that has no answer yet, a BUSY may be the answer to either: it tells no time.
abbrev pub TellsNoDoubt : Type 0
TellsNoDoubt = (busy : Packet) (exchanges : List Exchange) (number next asked_at later answered : ℕ) (t : Times) → busy.reply ≡ true → is_busy busy ≡ true → next ≢ number
    → packet_told busy (Some answered) (record t { waits = sent next later (sent number asked_at (after_exchanges no_waits exchanges)) }) ≡ Nothing

-- It is online, and BUSY is no restart. Nor is the second one of two NAK 4, where BUSY stands between them.
pub record IsNoRestart (busy : Packet) (moment between later : ℕ) (w : Presence) : Type 0 where
  pub online : is_offline (presence_after busy between w) ≡ false
  pub restarts : (presence_after busy between w).restarts ≡ w.restarts
  pub row : (after_answer true later (presence_after busy between (after_answer true moment w))).restarts ≡ (after_answer true moment w).restarts

abbrev pub CountsNoBusy : Type 0
CountsNoBusy = (busy : Packet) (moment between later : ℕ) (w : Presence) → busy.reply ≡ true → is_busy busy ≡ true → IsNoRestart busy moment between later w
