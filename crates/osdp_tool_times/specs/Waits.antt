-- When the packets to a device were sent and answered, and which answer is late.
use Rattle.std.specs.Prelude.{ℕ, ◌-◌, ◌==◌, ◌&&◌, ◌||◌, not, nat_le, Bool, false, if◌then◌else◌, is_some, Option, None, Some}
use Rattle.osdp_tool_times.specs.declared.waits.Sent.{Sent}
use Rattle.osdp_tool_times.specs.declared.waits.Told.{Told}
use Rattle.osdp_tool_times.specs.declared.waits.Told.TheVariants.{InTime, Late, Nothing}
use Rattle.osdp_tool_times.specs.declared.waits.Waits.{Waits}

abbrev pub no_waits : Waits
no_waits = record { earlier = None; before = None; last = None; first = None }

-- the last packet is answered, and no answer to a packet before it is owed
abbrev pub is_settled : Waits → Bool
is_settled w = is_some w.first && not (is_some w.before)

-- A packet is sent to the device. An answer to the one before it is still owed where none has come, or one to two copies; and so it is to the one
-- before that, where none has come.
abbrev pub after_sent : Sent → Waits → Waits
after_sent sent w =
    if is_settled w then record { earlier = None; before = None; last = Some sent; first = None }
    else record { earlier = if is_some w.first then None else w.before; before = w.last; last = Some sent; first = None }

-- an answer time: from the packet to its answer
abbrev pub in_time : ℕ → ℕ → Told
in_time sent answer = if nat_le sent answer then InTime (answer - sent) else Nothing

-- An answer that comes after the panel has sent its next packet, and maybe a last one after that, is late: it took the time from its own packet on, and the panel
-- waited until its next packet.
abbrev pub late : ℕ → ℕ → ℕ → ℕ → Told
late sent next last answer = if nat_le sent last && nat_le last answer then Late (answer - sent) (next - sent) else Nothing

abbrev pub in_time_from : Option Sent → ℕ → Told
in_time_from None answer = Nothing
in_time_from (Some last) answer = in_time last.moment answer

abbrev pub late_from : Option Sent → Option Sent → Option Sent → ℕ → Told
late_from (Some before) (Some next) (Some last) answer = late before.moment next.moment last.moment answer
late_from _ _ _ answer = Nothing

-- it has the number of a packet before, and the last packet has another
abbrev pub is_of_older : Option Sent → Option Sent → ℕ → Bool
is_of_older (Some before) (Some last) number = number == before.number && not (before.number == last.number)
is_of_older _ _ number = false

-- the last packet is the one before once more
abbrev pub is_copied : Option Sent → Option Sent → Bool
is_copied (Some before) (Some last) = before.number == last.number
is_copied _ _ = false

-- an answer to a packet before the last one is owed, which is no copy of it: an answer without a number of its own may be to either
abbrev pub is_doubtful : Waits → Bool
is_doubtful w = is_some w.before && not (is_copied w.before w.last)

abbrev pub is_of_last : Option Sent → ℕ → Bool
is_of_last None number = false
is_of_last (Some last) number = number == last.number

-- What a reply to the last packet tells, by the first one. Two replies to two copies answer them in their order: the second one tells that the first
-- one was late.
abbrev pub told_first : Waits → Option ℕ → ℕ → Told
told_first w None moment = if is_copied w.before w.last then Nothing else in_time_from w.last moment
told_first w (Some first) moment = if is_copied w.before w.last then late_from w.before w.last w.last first else Nothing

-- what a reply with this number tells at this moment: it answers the oldest packet of its number
abbrev pub told_reply : Waits → ℕ → ℕ → Told
told_reply w number moment =
    if is_of_older w.earlier w.last number then late_from w.earlier w.before w.last moment
    else (if is_of_older w.before w.last number then late_from w.before w.last w.last moment
    else (if is_of_last w.last number then told_first w w.first moment else Nothing))

abbrev pub first_or : Option ℕ → ℕ → Option ℕ
first_or None moment = Some moment
first_or (Some first) moment = Some first

-- After a reply. It closes the packet that it answers and all before, but the first of two to two copies leaves one open.
abbrev pub after_reply : ℕ → ℕ → Waits → Waits
after_reply number moment w =
    if is_of_older w.earlier w.last number then record w { earlier = None }
    else (if is_of_older w.before w.last number then record w { earlier = None; before = None }
    else (if is_of_last w.last number
    then record {
      earlier = None;
      before = if is_some w.first || not (is_copied w.before w.last) then None else w.before;
      last = w.last;
      first = first_or w.first moment;
    }
    else w))
