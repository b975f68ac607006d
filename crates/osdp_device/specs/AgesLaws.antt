-- Each event that waits keeps the moment at which it came.
use Rattle.std.specs.Prelude.{◌≡◌, ◌-◌, ◌≤◌, ◌⊎◌, ◌++◌, ◌∷◌, ℕ, List, [], true, false, drop, take, length, map, Some, None, if◌then◌else◌}
use Rattle.osdp_frame.specs.Packet.{Packet}
use Rattle.osdp_msg.specs.declared.command.Command.{Command}
use Rattle.osdp_msg.specs.declared.event.Event.{Event}
use Rattle.osdp_msg.specs.declared.limits.Room.{Room}
use Rattle.osdp_reader.specs.declared.config.ReaderConfig.{ReaderConfig}
use Rattle.osdp_reader.specs.declared.handler.Answer.{Answer}
use Rattle.osdp_reader.specs.Queue.{has_room}
use Rattle.osdp_reader.specs.State.{ReaderState, after_submit, after_withdraw_event, new_reader}
use Rattle.osdp_reader.specs.Table.{hears}
use Rattle.osdp_device.specs.Ages.{AgesState, after_arrival, after_expiry, after_removal, no_ages, oldest_age, waiting_moments}

abbrev pub Came : Type 0
Came = Event × ℕ

module _ {H : Type 0} where
  -- these events wait, from the oldest on, each with the moment at which it came
  pub record Waits (came : List Came) (r : ReaderState H) (a : AgesState) : Type 0 where
    pub events : r.queue.events ≡ map (λ (c : Came). c.0) came
    pub moments : waiting_moments (length r.queue.events) a ≡ map (λ (c : Came). c.1) came
    pub room : a.room ≡ r.queue.capacity
    pub within : length r.queue.events ≤ r.queue.capacity

  -- how long the oldest has waited is the time since it came
  pub record TellsAge (came : List Came) (r : ReaderState H) (a : AgesState) : Type 0 where
    pub none : came ≡ [] → (now : ℕ) → oldest_age now (length r.queue.events) a ≡ None
    pub oldest : (first : Came) (later : List Came) → came ≡ first ∷ later
        → (now : ℕ) → oldest_age now (length r.queue.events) a ≡ Some (now - first.1)

abbrev pub TellsAges : Type 0 → Type 0
TellsAges H = (came : List Came) (r : ReaderState H) (a : AgesState) → Waits came r a → TellsAge came r a

-- in a new device none waits
abbrev pub BeginsWithNone : Type 0 → Type 0
BeginsWithNone H = (config : ReaderConfig) (handler : H) (room : Room) → Waits [] (new_reader config handler room) (no_ages room.messages)

-- an event that comes waits after the others, with its moment
abbrev pub ArrivesWithItsMoment : Type 0 → Type 0
ArrivesWithItsMoment H = (came : List Came) (r : ReaderState H) (a : AgesState) (event : Event) (now : ℕ)
    → Waits came r a → has_room event r.queue ≡ true
    → Waits (came ++ (event, now) ∷ []) (after_submit event r) (after_arrival now (length r.queue.events) a)

-- an event that the device takes off goes with its moment: the one that was never offered, or the oldest
abbrev pub LeavesWithItsMoment : Type 0 → Type 0
LeavesWithItsMoment H = (came : List Came) (r : ReaderState H) (a : AgesState) → Waits came r a
    → Waits (if r.queue.ever_offered then take 1 came ++ drop 2 came else drop 1 came)
    (after_withdraw_event r) (after_removal r.queue.ever_offered (length r.queue.events) a)
    × Waits (drop 1 came) (after_expiry r) (after_removal false (length r.queue.events) a)

-- what a packet does: the oldest event goes with its moment, or each stays with its own
abbrev pub StaysWithItsMoment : {H : Type 0} → (H → Command → Answer) → (H → Command → H) → Type 0
StaysWithItsMoment {H} answer_of after = (came : List Came) (r : ReaderState H) (a : AgesState) (p : Packet) → Waits came r a
    → Waits (drop 1 came) (hears answer_of after r p).reader a ⊎ Waits came (hears answer_of after r p).reader a
