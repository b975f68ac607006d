-- Since when a device answers, or no longer does, and how often it restarted.
use Rattle.std.specs.Prelude.{ℕ, ◌+◌, ◌-◌, ◌/◌, ◌%◌, ◌==◌, ◌&&◌, ◌||◌, not, nat_le, Bool, false, if◌then◌else◌, get_or, is_some, length, Option, None, Some}
use Rattle.osdp_frame.specs.Packet.{Packet}
use Rattle.osdp_tool_times.specs.Numbers.{one_more}
use Rattle.osdp_tool_times.specs.declared.presence.Presence.{Presence}

abbrev pub not_heard : Presence
not_heard = record { unanswered = 0; last = None; since = None; refused = false; restarts = 0; first_restart = 0; last_restart = 0 }

-- three packets in a row have had no answer
abbrev pub is_offline : Presence → Bool
is_offline w = nat_le 3 w.unanswered

-- NAK 4: the device has lost its number
abbrev pub is_number_refused : Packet → Bool
is_number_refused p = not p.block && (get_or p.body 0 0 == 65 && get_or p.body 1 0 == 4)

-- BUSY, a code alone: an answer at once, which says nothing of the device's number
abbrev pub is_busy : Packet → Bool
is_busy p = not p.block && (length p.body == 1 && get_or p.body 0 0 == 121)

-- the device has lost its number: after BUSY that is as it was
abbrev pub has_lost : Packet → Presence → Bool
has_lost p w = if is_busy p then w.refused else is_number_refused p

abbrev pub after_asked : Presence → Presence
after_asked w = record w { unanswered = one_more w.unanswered }

abbrev pub after_restart : ℕ → Presence → Presence
after_restart moment w = record w {
  restarts = one_more w.restarts;
  first_restart = if w.restarts == 0 then moment else w.first_restart;
  last_restart = moment;
}

-- it is online since the first answer, and after it was offline since the first one then
abbrev pub online_since : ℕ → Presence → Option ℕ
online_since moment w = if is_offline w || not (is_some w.since) then Some moment else w.since

-- an answer comes; several NAK 4 in a row are one restart, also with BUSY between them
abbrev pub after_answer : Bool → ℕ → Presence → Presence
after_answer refused moment w = record (if refused && not w.refused then after_restart moment w else w) {
  unanswered = 0;
  last = Some moment;
  since = online_since moment w;
  refused = refused;
}

-- a packet to the device or from it, at this moment
abbrev pub presence_after : Packet → ℕ → Presence → Presence
presence_after p moment w = if p.reply then after_answer (has_lost p w) moment w else after_asked w

-- milliseconds as seconds
abbrev pub rounded : ℕ → ℕ
rounded time = time / 1000 + time % 1000 / 500

-- seconds from one restart to the next, on the whole
abbrev pub restart_seconds : Presence → ℕ
restart_seconds w = rounded ((w.last_restart - w.first_restart) / (w.restarts - 1))
