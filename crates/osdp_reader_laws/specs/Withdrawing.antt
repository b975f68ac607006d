-- Events that the device takes back or lets go. A reader compares no events, so what holds of an event that no other one equals holds of each.
use Rattle.std.specs.Prelude.{◌≡◌, ◌⊎◌, ◌++◌, ◌∷◌, ℕ, true, List, drop, length, slice_get, Some, None, if◌then◌else◌}
use Rattle.osdp_msg.specs.declared.command.Command.{Command}
use Rattle.osdp_msg.specs.declared.event.Event.{Event}
use Rattle.osdp_msg.specs.declared.limits.Room.{Room}
use Rattle.osdp_reader.specs.declared.config.ReaderConfig.{ReaderConfig}
use Rattle.osdp_reader.specs.declared.handler.Answer.{Answer}
use Rattle.osdp_reader.specs.Queue.{in_doubt, never_offered}
use Rattle.osdp_reader.specs.State.{ReaderState, after_withdraw_event, new_reader}
use Rattle.osdp_reader_laws.specs.Runs.{HasNone, IsTold, LapseEvent, ReaderCall, SubmitEvent, SubmitsNone, WithdrawEvent, after_calls}

-- an event that is taken back leaves alone, from the place of the front or from the one after it; where there is none nothing changes
abbrev pub WithdrawsOne : Type 0 → Type 0
WithdrawsOne H = (r : ReaderState H) →
    ((never_offered r.queue ≡ None) × (after_withdraw_event r ≡ r))
    ⊎ ((event : Event) × ((first : List Event) × ((rest : List Event)
    × (never_offered r.queue ≡ Some event) × (length first ≡ (if r.queue.ever_offered then 1 else 0))
    × (r.queue.events ≡ first ++ event ∷ rest) × (after_withdraw_event r ≡ record r { queue = record r.queue { events = first ++ rest } }))))

module _ {H : Type 0} where
  -- what was ever offered waits: it is the front
  abbrev pub KnowsItsOffer : ReaderState H → Type 0
  KnowsItsOffer r = r.queue.ever_offered ≡ true → (event : Event) × (slice_get r.queue.events 0 ≡ Some event)

  module _ (answer_of : H → Command → Answer) (after : H → Command → H) where
    -- an event that is put into a reader once, and taken back later, is told neither before nor afterwards
    abbrev pub NeverTellsWhatIsTakenBack : Type 0
    NeverTellsWhatIsTakenBack =
        (config : ReaderConfig) (handler : H) (room : Room) (event : Event) (first more later : List (ReaderCall H))
        → SubmitsNone event first → SubmitsNone event more → SubmitsNone event later
        → never_offered (after_calls answer_of after (first ++ SubmitEvent event ∷ more) (new_reader config handler room)).queue
        ≡ Some event
        → IsTold answer_of after event ((first ++ SubmitEvent event ∷ more) ++ WithdrawEvent ∷ later) (new_reader config handler room) → ⊥

    -- one that was told, and waits yet, is the one in doubt
    abbrev pub DoubtsWhatItTold : Type 0
    DoubtsWhatItTold =
        (config : ReaderConfig) (handler : H) (room : Room) (event : Event) (first more : List (ReaderCall H)) (k : ℕ)
        → SubmitsNone event first → SubmitsNone event more
        → IsTold answer_of after event (first ++ SubmitEvent event ∷ more) (new_reader config handler room)
        → let r = after_calls answer_of after (first ++ SubmitEvent event ∷ more) (new_reader config handler room) in
        slice_get r.queue.events k ≡ Some event → in_doubt r.queue ≡ Some event

    -- .. and what is in doubt was told
    abbrev pub ToldWhatIsInDoubt : Type 0
    ToldWhatIsInDoubt = (config : ReaderConfig) (handler : H) (room : Room) (event : Event) (calls : List (ReaderCall H))
        → in_doubt (after_calls answer_of after calls (new_reader config handler room)).queue ≡ Some event
        → IsTold answer_of after event calls (new_reader config handler room)

    -- once it has lapsed, no answer but a repeat tells it, unless an equal one waits or is put in
    abbrev pub TellsNoMoreWhatLapsed : Type 0
    TellsNoMoreWhatLapsed = (r : ReaderState H) (event : Event) (later : List (ReaderCall H))
        → in_doubt r.queue ≡ Some event → HasNone event (drop 1 r.queue.events) → SubmitsNone event later
        → IsTold answer_of after event (LapseEvent ∷ later) r → ⊥
