-- When a device is offline, and which of its events leave then, in words of its calls.
use Rattle.std.specs.Prelude.{◌≡◌, ◌+◌, ◌<◌, ◌≤◌, ◌⊎◌, ◌↔◌, ◌∷◌, ℕ, List, [], true, false, is_some, map}
use Rattle.std.specs.List.{All, list_any}
use Rattle.osdp_device.specs.Ages.{is_offline}
use Rattle.osdp_device.specs.AgesLaws.{Came}
use Rattle.osdp_device.specs.Telling.{items_of, next_told}
use Rattle.osdp_frame.specs.Held.{Held}
use Rattle.osdp_msg.specs.declared.command.Command.{Command}
use Rattle.osdp_msg.specs.declared.limits.Room.{Room}
use Rattle.osdp_reader.specs.State.{ReaderState}
use Rattle.osdp_reader.specs.declared.config.ReaderConfig.{ReaderConfig}
use Rattle.osdp_reader.specs.declared.handler.Answer.{Answer}
use Rattle.osdp_device_laws.specs.Calls.{Call, Kept, SubmitEvent, after_calls, answered_at, is_for, new_device, takes_off}

-- of the moments at which packets were answered: there is none, or the last one is 8,000 ms or more ago
abbrev pub IsSilent : List ℕ → ℕ → Type 0
IsSilent [] now = Unit {0}
IsSilent (moment ∷ []) now = moment + 8000 ≤ now
IsSilent (moment ∷ next ∷ later) now = IsSilent (next ∷ later) now

module _ {H : Type 0} (answer_of : H → Command → Answer) (after : H → Command → H) where
  -- the next answer is to a packet for the device that has come whole, whatever is said to it; there is none only where there is no such packet
  abbrev pub AnswersWhatIsForIt : Type 0
  AnswersWhatIsForIt = (r : ReaderState H) (held : Held) → is_some (next_told answer_of after r held).said ≡ list_any (is_for r.config.address) (items_of held)

  -- after any calls a device is offline exactly where it is silent
  abbrev pub TellsOffline : Type 0
  TellsOffline = (config : ReaderConfig) (handler : H) (room : Room) (gap : ℕ) (calls : List (Call H)) (now : ℕ)
      → (is_offline now (after_calls answer_of after calls (new_device config handler room gap)).ages ≡ true)
      ↔ IsSilent (answered_at answer_of after 0 calls (new_device config handler room gap)) now

module _ {H : Type 0} where
  -- one of these calls submits this event at this moment
  abbrev pub IsSubmitted : List (Call H) → Came → Type 0
  IsSubmitted [] came = ⊥
  IsSubmitted (SubmitEvent event now ∷ calls) came = (came ≡ (event, now)) ⊎ IsSubmitted calls came
  IsSubmitted (call ∷ calls) came = IsSubmitted calls came

  -- The events that wait after calls, from the oldest on, were submitted by these calls, each at its moment. The oldest is taken off at a moment exactly where the
  -- device is silent, there is a limit, and the event came longer ago than that.
  pub record OldOnesLeave (calls : List (Call H)) (answered : List ℕ) (d : Kept H) : Type 0 where
    pub came : List Came
    pub events : d.reader.queue.events ≡ map (λ (c : Came). c.0) came
    pub submitted : All (IsSubmitted calls) came
    pub none : came ≡ [] → (now limit : ℕ) → takes_off now limit d ≡ false
    pub oldest : (first : Came) (later : List Came) (now limit : ℕ) → came ≡ first ∷ later
        → (takes_off now limit d ≡ true) ↔ (IsSilent answered now × (0 < limit) × (first.1 + limit < now))

  abbrev pub OldCardsLeave : (H → Command → Answer) → (H → Command → H) → Type 0
  OldCardsLeave answer_of after = (config : ReaderConfig) (handler : H) (room : Room) (gap : ℕ) (calls : List (Call H))
      → OldOnesLeave calls (answered_at answer_of after 0 calls (new_device config handler room gap)) (after_calls answer_of after calls (new_device config handler room gap))
