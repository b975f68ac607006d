-- With room for each event however long, an event is refused for its place alone: where as many wait as may.
use Rattle.std.specs.Prelude.{◌≡◌, ◌≤◌, ◌+◌, ◌*◌, nat_lt, List, [], ◌∷◌, length}
use Rattle.osdp_msg.specs.declared.command.Command.{Command}
use Rattle.osdp_msg.specs.declared.event.Event.{Event}
use Rattle.osdp_msg.specs.declared.limits.Room.{Room}
use Rattle.osdp_msg.specs.Events.{EventFits}
use Rattle.osdp_msg.specs.Limits.{most_data}
use Rattle.osdp_reader.specs.declared.config.ReaderConfig.{ReaderConfig}
use Rattle.osdp_reader.specs.declared.handler.Answer.{Answer}
use Rattle.osdp_reader.specs.Queue.{has_room}
use Rattle.osdp_reader.specs.State.{new_reader}
use Rattle.osdp_reader_laws.specs.Runs.{ReaderCall, SubmitEvent, after_calls}

module _ {H : Type 0} where
  -- each event that calls submit has its fields in their ranges
  abbrev pub SubmitsFitting : List (ReaderCall H) → Type 0
  SubmitsFitting [] = Unit {0}
  SubmitsFitting (SubmitEvent event ∷ calls) = EventFits event × SubmitsFitting calls
  SubmitsFitting (call ∷ calls) = SubmitsFitting calls

  module _ (answer_of : H → Command → Answer) (after : H → Command → H) where
    -- whatever is called, an event has room exactly where fewer wait than may
    abbrev pub RefusesForItsPlace : Type 0
    RefusesForItsPlace =
        (config : ReaderConfig) (handler : H) (room : Room) (calls : List (ReaderCall H)) (event : Event)
        → room.messages * (1 + most_data) ≤ room.bytes → SubmitsFitting calls → EventFits event
        → let q = (after_calls answer_of after calls (new_reader config handler room)).queue in
        has_room event q ≡ nat_lt (length q.events) room.messages
