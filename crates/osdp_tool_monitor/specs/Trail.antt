-- What stands on the line since the last packet.
use Rattle.std.specs.Prelude.{ℕ, ◌+◌, Bool, false, ◌&&◌, not, nat_lt, if◌then◌else◌, Option, None, Some}
use Rattle.osdp_frame.specs.Packet.{Packet}
use Rattle.osdp_frame.specs.Reading.{RunItem, PacketItem, SkippedItem, RefusedItem}
use Rattle.osdp_monitor.specs.Saying.{asked}
use Rattle.osdp_tool_show.specs.declared.detail.Detail.{Detail}
use Rattle.osdp_tool_show.specs.declared.detail.Detail.TheVariants.{Filtered, Full, Refusals}
use Rattle.osdp_tool_monitor.specs.Counts.{is_poll}
use Rattle.osdp_tool_monitor.specs.declared.trail.Trail.{Trail}

abbrev pub no_trail : Trail
no_trail = record { asked = None; ordered = false; bad = 0 }

-- a packet to a device that is no POLL
abbrev pub is_order : Packet → Bool
is_order p = not p.reply && not (is_poll (asked p))

-- where it is to a device, it may be answered
abbrev pub trail_after_packet : Packet → Trail
trail_after_packet p = record { asked = if p.reply then None else Some p.address; ordered = is_order p; bad = 0 }

-- a byte that begins no packet; seven in a row are damage
abbrev pub after_bad : ℕ → ℕ
after_bad bad = if nat_lt bad 7 then bad + 1 else bad

abbrev pub trail_after : Trail → RunItem → Trail
trail_after trail (PacketItem p) = trail_after_packet p
trail_after trail (SkippedItem b) = record trail { bad = after_bad trail.bad }
trail_after trail (RefusedItem fault) = record trail { bad = 7 }

-- so many bad bytes aren't damage
abbrev pub is_clean : ℕ → Bool
is_clean bad = nat_lt bad 7

-- the device to which the packet before went, where damage begins now
abbrev pub hit_by : Trail → ℕ → Option ℕ
hit_by trail bad = if is_clean trail.bad && not (is_clean bad) then trail.asked else None

-- which items are printed: what follows an order is, also where POLL and ACK are left out
abbrev pub detail_after : Trail → Detail → Detail
detail_after trail Full = Full
detail_after trail Refusals = Refusals
detail_after trail (Filtered filter) = if trail.ordered then Full else Filtered filter
