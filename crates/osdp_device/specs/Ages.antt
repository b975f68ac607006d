-- How long the events of a device have waited, and whether its panel is there. Moments are in milliseconds.
use Rattle.std.specs.Prelude.{ℕ, ◌-◌, ◌++◌, ◌∷◌, ◌&&◌, Bool, true, false, nat_lt, nat_le, List, [], drop, length, take, slice_get, Option, Some, None, if◌then◌else◌}
use Rattle.std.specs.Option.{option_map}
use Rattle.osdp_msg.specs.declared.event.Event.{Event}
use Rattle.osdp_reader.specs.Queue.{Queue}
use Rattle.osdp_reader.specs.State.{ReaderState, after_lapse_event, after_withdraw_event}
use Rattle.osdp_device.specs.declared.events.Expired.{Expired}
use Rattle.osdp_device.specs.declared.events.Expired.TheVariants.{Withdrawn, InDoubt}

-- the moments of the events that came, how many may wait, and the moment of the last packet that the reader answered: a command to its own address
-- or to the configuration address, whatever its number, that came whole and undamaged
pub record AgesState : Type 0 where
  pub moments : List ℕ
  pub room : ℕ
  pub last_packet : Option ℕ

abbrev pub no_ages : ℕ → AgesState
no_ages room = record { moments = []; room = room; last_packet = None }

-- the last so many
abbrev pub last_of : ℕ → List ℕ → List ℕ
last_of n moments = drop (length moments - n) moments

-- only the oldest events leave by packets: so the moments of those that wait are the last ones
abbrev pub waiting_moments : ℕ → AgesState → List ℕ
waiting_moments waiting a = last_of waiting a.moments

-- after an event came, where so many waited
abbrev pub after_arrival : ℕ → ℕ → AgesState → AgesState
after_arrival now waiting a = record a { moments = last_of a.room (waiting_moments waiting a ++ (now ∷ [])) }

-- .. or didn't, since it has no room
abbrev pub after_arrival_if : Bool → ℕ → ℕ → AgesState → AgesState
after_arrival_if true now waiting a = after_arrival now waiting a
after_arrival_if false now waiting a = a

-- after the oldest event left that way, or the one after it
abbrev pub after_removal : Bool → ℕ → AgesState → AgesState
after_removal second waiting a =
    let moments = waiting_moments waiting a in
    record a { moments = if second then take 1 moments ++ drop 2 moments else drop 1 moments }

-- after something was said, or nothing, at a moment
abbrev pub after_saying : Bool → ℕ → AgesState → AgesState
after_saying said now a = if said then record a { last_packet = Some now } else a

-- how long the oldest of so many events has waited
abbrev pub oldest_age : ℕ → ℕ → AgesState → Option ℕ
oldest_age now waiting a = option_map (λ (moment : ℕ). now - moment) (slice_get (waiting_moments waiting a) 0)

-- no packet came for eight seconds, or none ever did
abbrev pub is_silent_since : ℕ → Option ℕ → Bool
is_silent_since now None = true
is_silent_since now (Some last) = nat_le 8000 (now - last)

abbrev pub is_offline : ℕ → AgesState → Bool
is_offline now a = is_silent_since now a.last_packet

-- older than a limit; a limit of 0 is none
abbrev pub is_past : ℕ → Option ℕ → Bool
is_past limit None = false
is_past limit (Some age) = nat_lt 0 limit && nat_lt limit age

-- whether the oldest event expires
abbrev pub expires : ℕ → ℕ → ℕ → AgesState → Bool
expires now limit waiting a = is_offline now a && is_past limit (oldest_age now waiting a)

-- an event that was ever offered is in doubt then, and any other is withdrawn
abbrev pub expired : Bool → Event → Expired
expired ever event = if ever then InDoubt event else Withdrawn event

abbrev pub expired_front : Queue → Option Expired
expired_front q = option_map (expired q.ever_offered) (slice_get q.events 0)

module _ {H : Type 0} where
  abbrev pub after_expiry : ReaderState H → ReaderState H
  after_expiry r = if r.queue.ever_offered then after_lapse_event r else after_withdraw_event r
