-- The calls of a device in their order. What a call makes of the device is the definition that the call's own contract cites; which packets it answers, and when, is said here
-- by what came on its line.
use Rattle.std.specs.Prelude.{ℕ, max, Bool, false, not, ◌==◌, ◌&&◌, ◌||◌, if◌then◌else◌, List, [], ◌∷◌, ◌++◌, is_some, length, None}
use Rattle.std.specs.List.{list_any}
use Rattle.osdp_device.specs.Ages.{AgesState, after_arrival_if, after_expiry, after_removal, after_saying, expired_front, expires, no_ages}
use Rattle.osdp_device.specs.Deciding.{passed}
use Rattle.osdp_device.specs.Device.{DeviceState}
use Rattle.osdp_device.specs.Telling.{items_of, next_told}
use Rattle.osdp_frame.specs.Reading.{RunItem, PacketItem, SkippedItem, RefusedItem}
use Rattle.osdp_frame.specs.Receiving.{Received, after_silence, after_take, after_tick, new_line}
use Rattle.osdp_msg.specs.declared.command.Command.{Command}
use Rattle.osdp_msg.specs.declared.event.Event.{Event}
use Rattle.osdp_msg.specs.declared.limits.Room.{Room}
use Rattle.osdp_reader.specs.Queue.{has_room}
use Rattle.osdp_reader.specs.State.{ReaderState, after_lapse_event, after_set_busy, after_set_handler, after_submit_if, after_withdraw_event, new_reader}
use Rattle.osdp_reader.specs.declared.config.ReaderConfig.{ReaderConfig}
use Rattle.osdp_reader.specs.declared.handler.Answer.{Answer}

-- bytes that have come up to a moment, a moment up to which none have, and a silence; the next answer, and whether the next packet has a command that the program decides;
-- an event with its moment, and the calls that take one off, the last one at a moment, by a limit; and what the program sets
pub data Call (H : Type 0) : Type 0 where
  Take : List ℕ → ℕ → Call H
  Tick : ℕ → Call H
  Silence : ℕ → Call H
  Next : Call H
  Pending : Call H
  SubmitEvent : Event → ℕ → Call H
  WithdrawEvent : Call H
  LapseEvent : Call H
  ExpireEvent : ℕ → ℕ → Call H
  SetBusy : Bool → Call H
  SetHandler : H → Call H

-- what a device keeps from one call to the next
pub record Kept (H : Type 0) : Type 0 where
  pub reader : ReaderState H
  pub line : Received
  pub ages : AgesState

-- an item is a packet to this address or to the configuration address, and none of a reader's
abbrev pub is_for : ℕ → RunItem → Bool
is_for address (PacketItem p) = not p.reply && (p.address == address || p.address == 127)
is_for address (SkippedItem byte) = false
is_for address (RefusedItem fault) = false

module _ {H : Type 0} where
  abbrev pub kept_of : DeviceState H → Kept H
  kept_of d = record { reader = d.reader; line = d.line; ages = d.ages }

  -- to which nothing has come
  abbrev pub new_device : ReaderConfig → H → Room → ℕ → Kept H
  new_device config handler room gap = record { reader = new_reader config handler room; line = new_line gap; ages = no_ages room.messages }

  -- whether a call answers a packet: it asks for the next answer, and a packet to the device has come whole
  abbrev pub answers : Call H → Kept H → Bool
  answers Next d = list_any (is_for d.reader.config.address) (items_of d.line.held)
  answers call d = false

  -- what `expire_event` answers: whether it takes the oldest event off
  abbrev pub takes_off : ℕ → ℕ → Kept H → Bool
  takes_off now limit d = is_some (if expires now limit (length d.reader.queue.events) d.ages then expired_front d.reader.queue else None)

  -- the greatest moment that bytes, ticks and silences had
  abbrev pub moment_after : Call H → ℕ → ℕ
  moment_after (Take bytes now) moment = max moment now
  moment_after (Tick now) moment = max moment now
  moment_after (Silence now) moment = max moment now
  moment_after call moment = moment

  module _ (answer_of : H → Command → Answer) (after : H → Command → H) where
    abbrev pub after_call : Call H → Kept H → Kept H
    after_call (Take bytes now) d = record d { line = after_take bytes now d.line }
    after_call (Tick now) d = record d { line = after_tick now d.line }
    after_call (Silence now) d = record d { line = after_silence now d.line }
    after_call Next d =
        let told = next_told answer_of after d.reader d.line.held in
        record { reader = told.reader; line = record d.line { held = told.held }; ages = after_saying (is_some told.said) d.line.greatest d.ages }
    after_call Pending d = record d { line = record d.line { held = passed d.reader d.line.held } }
    after_call (SubmitEvent event now) d =
        let fits = has_room event d.reader.queue in
        record d { reader = after_submit_if fits event d.reader; ages = after_arrival_if fits now (length d.reader.queue.events) d.ages }
    after_call WithdrawEvent d =
        record d { reader = after_withdraw_event d.reader; ages = after_removal d.reader.queue.ever_offered (length d.reader.queue.events) d.ages }
    after_call LapseEvent d = record d {
      reader = after_lapse_event d.reader;
      ages = if d.reader.queue.ever_offered then after_removal false (length d.reader.queue.events) d.ages else d.ages;
    }
    after_call (ExpireEvent now limit) d =
        if expires now limit (length d.reader.queue.events) d.ages
        then record d { reader = after_expiry d.reader; ages = after_removal false (length d.reader.queue.events) d.ages }
        else d
    after_call (SetBusy busy) d = record d { reader = after_set_busy busy d.reader }
    after_call (SetHandler handler) d = record d { reader = after_set_handler handler d.reader }

    abbrev pub after_calls : List (Call H) → Kept H → Kept H
    after_calls [] d = d
    after_calls (call ∷ calls) d = after_calls calls (after_call call d)

    -- the moment of each call that answers a packet, in their order, where this is the greatest moment before them
    abbrev pub answered_at : ℕ → List (Call H) → Kept H → List ℕ
    answered_at moment [] d = []
    answered_at moment (call ∷ calls) d =
        (if answers call d then moment ∷ [] else []) ++ answered_at (moment_after call moment) calls (after_call call d)
