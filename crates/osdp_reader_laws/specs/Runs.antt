-- Calls of one reader in their order, and which events are told in them: whatever the handler does.
use Rattle.std.specs.Prelude.{◌≡◌, ◌≢◌, ◌⊎◌, ◌∷◌, [], Bool, List, Some, if◌then◌else◌}
use Rattle.osdp_frame.specs.Packet.{Packet}
use Rattle.osdp_msg.specs.declared.command.Command.{Command}
use Rattle.osdp_msg.specs.declared.command.Command.TheVariants.{Poll}
use Rattle.osdp_msg.specs.declared.event.Event.{Event}
use Rattle.osdp_msg.specs.Events.{event_reply}
use Rattle.osdp_reader.specs.Queue.{has_room}
use Rattle.osdp_reader.specs.declared.handler.Answer.{Answer}
use Rattle.osdp_reader.specs.State.{ReaderState, after_lapse_event, after_set_busy, after_set_handler, after_submit, after_withdraw_event}
use Rattle.osdp_reader.specs.Table.{hears}

-- a call that changes a reader
pub data ReaderCall (H : Type 0) : Type 0 where
  Hear : Packet → ReaderCall H
  SubmitEvent : Event → ReaderCall H
  WithdrawEvent : ReaderCall H
  LapseEvent : ReaderCall H
  SetBusy : Bool → ReaderCall H
  SetHandler : H → ReaderCall H

-- no event of a list is this one
abbrev pub HasNone : Event → List Event → Type 0
HasNone event [] = Unit {0}
HasNone event (other ∷ others) = (other ≢ event) × HasNone event others

module _ {H : Type 0} where
  -- no call of a list submits it
  abbrev pub SubmitsNone : Event → List (ReaderCall H) → Type 0
  SubmitsNone event [] = Unit {0}
  SubmitsNone event (SubmitEvent other ∷ calls) = (other ≢ event) × SubmitsNone event calls
  SubmitsNone event (call ∷ calls) = SubmitsNone event calls

  module _ (answer_of : H → Command → Answer) (after : H → Command → H) where
    -- a full reader gives an event back, and nothing changes
    abbrev pub after_call : ReaderCall H → ReaderState H → ReaderState H
    after_call (Hear p) r = (hears answer_of after r p).reader
    after_call (SubmitEvent event) r = if has_room event r.queue then after_submit event r else r
    after_call WithdrawEvent r = after_withdraw_event r
    after_call LapseEvent r = after_lapse_event r
    after_call (SetBusy busy) r = after_set_busy busy r
    after_call (SetHandler handler) r = after_set_handler handler r

    abbrev pub after_calls : List (ReaderCall H) → ReaderState H → ReaderState H
    after_calls [] r = r
    after_calls (call ∷ calls) r = after_calls calls (after_call call r)

    -- a POLL is acted on, and this event is said to it; a repeat says nothing anew
    abbrev pub Tells : Event → ReaderCall H → ReaderState H → Type 0
    Tells event (Hear p) r =
        ((hears answer_of after r p).command ≡ Some Poll) × ((hears answer_of after r p).said ≡ Some (event_reply event))
    Tells event call r = ⊥

    -- .. at some call of a list
    abbrev pub IsTold : Event → List (ReaderCall H) → ReaderState H → Type 0
    IsTold event [] r = ⊥
    IsTold event (call ∷ calls) r = Tells event call r ⊎ IsTold event calls (after_call call r)
