-- What is counted of the answers of a device.
use Rattle.std.specs.Prelude.{ℕ, ◌+◌, ◌-◌, ◌*◌, ◌/◌, ◌==◌, ◌&&◌, nat_le, if◌then◌else◌, List, [], ◌∷◌, replicate, slice_index_or, slice_set, Option, None, Some}
use Rattle.osdp_frame.specs.Packet.{Packet}
use Rattle.osdp_tool_times.specs.Waits.{after_reply, after_sent, is_doubtful, no_waits, told_reply}
pub use Rattle.osdp_tool_times.specs.Numbers.{one_more, lesser, greater}
use Rattle.osdp_tool_times.specs.Presence.{is_busy, not_heard, presence_after}
use Rattle.osdp_tool_times.specs.declared.table.Times.{Times}
use Rattle.osdp_tool_times.specs.declared.waits.Sent.{Sent}
use Rattle.osdp_tool_times.specs.declared.waits.Told.{Told}
use Rattle.osdp_tool_times.specs.declared.waits.Told.TheVariants.{InTime, Late, Nothing}
use Rattle.osdp_tool_times.specs.declared.waits.Waits.{Waits}

-- answer times are counted by steps of 5 milliseconds, 64 of them; the last one has all that take longer
abbrev pub step_of : ℕ → ℕ
step_of time = lesser (time / 5) 63

abbrev pub no_times : Times
no_times = record { answers = 0; least = 0; most = 0; late = 0; took = 0; missed = 0; waited = 0; steps = replicate 64 0; waits = no_waits; presence = not_heard }

abbrev pub after_in_time : ℕ → Times → Times
after_in_time time t = record t {
  answers = one_more t.answers;
  least = if t.answers == 0 then time else lesser time t.least;
  most = greater time t.most;
  steps = slice_set t.steps (step_of time) (one_more (slice_index_or t.steps (step_of time) 0));
}

-- of late answers, the one that took longest is told
abbrev pub after_late : ℕ → Times → Times
after_late time t = record t { late = one_more t.late; took = greater time t.took }

abbrev pub after_told : Told → Times → Times
after_told Nothing t = t
after_told (InTime time) t = after_in_time time t
after_told (Late took waited) t = after_late took t

-- the panel goes on without an answer: of its waits the shortest is told
abbrev pub after_missed : Option ℕ → Option Sent → ℕ → Times → Times
after_missed (Some first) last moment t = t
after_missed None None moment t = t
after_missed None (Some last) moment t = record t {
  missed = one_more t.missed;
  waited = if t.missed == 0 then moment - last.moment else lesser (moment - last.moment) t.waited;
}

-- the number of the packet that a reply answers: BUSY has none of its own, and a device gives it at once, so it counts for the last packet
abbrev pub answered_number : Packet → Option Sent → ℕ
answered_number p None = p.sequence
answered_number p (Some last) = if is_busy p then last.number else p.sequence

-- what a reply tells; BUSY tells no time where it may be late
abbrev pub answer_told : Packet → ℕ → Waits → Told
answer_told p moment w = if is_busy p && is_doubtful w then Nothing else told_reply w (answered_number p w.last) moment

-- what a packet tells: a reply at a known moment
abbrev pub packet_told : Packet → Option ℕ → Times → Told
packet_told p None t = Nothing
packet_told p (Some moment) t = if p.reply then answer_told p moment t.waits else Nothing

-- a packet without a moment leaves nothing open, and tells nothing else
abbrev pub after_packet : Packet → Option ℕ → Times → Times
after_packet p None t = record t { waits = no_waits }
after_packet p (Some moment) t =
    if p.reply then record (after_told (answer_told p moment t.waits) t) {
      waits = after_reply (answered_number p t.waits.last) moment t.waits;
      presence = presence_after p moment t.presence;
    }
    else record (after_missed t.waits.first t.waits.last moment t) {
      waits = after_sent (record { moment = moment; number = p.sequence }) t.waits;
      presence = presence_after p moment t.presence;
    }

-- those of each address, from 0 on
abbrev pub all_after : Packet → Option ℕ → List Times → List Times
all_after p moment times = slice_set times p.address (after_packet p moment (slice_index_or times p.address no_times))

-- A further packet of a run has no moment of its own: it leaves nothing open, and tells no time. The presence of its device counts it at the run's moment.
abbrev pub after_further : Packet → Option ℕ → Times → Times
after_further p None t = record t { waits = no_waits }
after_further p (Some moment) t = record t { waits = no_waits; presence = presence_after p moment t.presence }

abbrev pub further_after : Packet → Option ℕ → List Times → List Times
further_after p moment times = slice_set times p.address (after_further p moment (slice_index_or times p.address no_times))

-- further packets of a run, in their order
unfoldable pub all_further : List Packet → Option ℕ → List Times → List Times
all_further [] moment times = times
all_further (p ∷ packets) moment times = all_further packets moment (further_after p moment times)

-- ---- how many answers took no longer

-- the step in which the answer of this rank stands, the fastest being of rank 1
unfoldable pub step_at : ℕ → List ℕ → ℕ
step_at rank [] = 0
step_at rank (count ∷ counts) = if nat_le rank count then 0 else step_at (rank - count) counts + 1

-- half of the answers, and 95 of 100, took less than so many milliseconds; what takes longer than the steps reach is told by the slowest
abbrev pub below : ℕ → Times → ℕ
below rank t = if nat_le 63 (step_at rank t.steps) then one_more t.most else 5 * (step_at rank t.steps + 1)

abbrev pub half_below : Times → ℕ
half_below t = below (t.answers - t.answers / 2) t

abbrev pub most_below : Times → ℕ
most_below t = below (t.answers - t.answers / 20) t
