-- What the calls of a device's program give up: by `withdraw_event` it takes an event back that was never offered, by `lapse_event` it lets one lapse that
-- was. No other call gives one up.
use Rattle.std.specs.Prelude.{◌≡◌, ◌⊎◌, ℕ, ◌==◌, if◌then◌else◌, List, [], ◌∷◌, ◌++◌, Option, Some, None}
use Rattle.osdp_msg.specs.declared.command.Command.{Command}
use Rattle.osdp_msg.specs.declared.event.Event.{Event}
use Rattle.osdp_reader.specs.Queue.{in_doubt, never_offered}
use Rattle.osdp_reader.specs.declared.handler.Answer.{Answer}
use Rattle.osdp_ledger.specs.History.{Exit, Lapsed, TakenBack}
use Rattle.osdp_ledger.specs.Ledger.{Card}
use Rattle.osdp_shared_line.specs.Line.{site_at}
use Rattle.osdp_calls.specs.Calls.{Call, LapseEvent, Step, WithdrawEvent, after_call}
use Rattle.osdp_calls.specs.Lines.{InUse, Station}

-- an event, with how it is given up
abbrev pub gives : Option Event → Exit → List (Event × Exit)
gives None why = []
gives (Some event) why = (event, why) ∷ []

-- of those that have left, the ones that were given up
abbrev pub given_up_as : Card → Exit → List (Card × Exit)
given_up_as card TakenBack = (card, TakenBack) ∷ []
given_up_as card Lapsed = (card, Lapsed) ∷ []
given_up_as card _ = []

-- it has left as its call says. One that lapses, and that was offered before the ledger began alone, is taken back: in the ledger it was never offered
-- (`GivesUpAsOffered` says so of all that is taken back).
abbrev pub LeavesBy : Event × Exit → Card × Exit → Type 0
LeavesBy call gone = (gone.0.event ≡ call.0) × ((gone.1 ≡ call.1) ⊎ (gone.1 ≡ TakenBack))

module _ {H : Type 0} where
  -- .. by a device, and by a call for that of this entry
  abbrev pub taken_back_at : Option (Station H) → List (Event × Exit)
  taken_back_at None = []
  taken_back_at (Some t) = gives (never_offered t.reader.queue) TakenBack

  -- .. the event that `lapse_event` lets lapse there
  abbrev pub lapsed_at : Option (Station H) → List (Event × Exit)
  lapsed_at None = []
  lapsed_at (Some t) = gives (in_doubt t.reader.queue) Lapsed

  -- .. by a call, where it is one of the device of this entry
  abbrev pub given_up_by : ℕ → Call H → InUse H → List (Event × Exit)
  given_up_by k (WithdrawEvent entry) l = if entry == k then taken_back_at (site_at k l.stations) else []
  given_up_by k (LapseEvent entry) l = if entry == k then lapsed_at (site_at k l.stations) else []
  given_up_by k _ l = []

  -- .. and by a list of calls, in their order
  abbrev pub all_given_up : (H → Command → Answer) → (H → Command → H) → ℕ → List (Step H) → InUse H → List (Event × Exit)
  all_given_up answer_of after k [] l = []
  all_given_up answer_of after k (step ∷ steps) l =
      given_up_by k step.call l ++ all_given_up answer_of after k steps (after_call answer_of after step.call step.places l)
