-- By when exchanges of a line begin and end, and how long the turns of its entries take.
use Rattle.std.specs.Prelude.{ℕ, zero, suc, ◌+◌, ◌-◌, ◌≤◌, List, [], ◌∷◌, length}
use Rattle.osdp_bus.specs.Buses.{BusState}
use Rattle.osdp_bus_laws.specs.Calls.{Call, after_call}
use Rattle.osdp_bus_laws.specs.Exchanges.{IsOutstandingAt}
use Rattle.osdp_bus_laws.specs.Fairness.{Begins}
use Rattle.osdp_bus_time_laws.specs.Clock.{KeepsTime}

abbrev pub NoneBegins : Call → BusState → Type 0
NoneBegins call b = (entry : ℕ) → Begins call entry b → ⊥

-- no call comes later than this moment before the exchange that is outstanding has ended
abbrev pub EndsBy : ℕ → List Call → BusState → Type 0
EndsBy limit [] b = Unit {0}
EndsBy limit (call ∷ calls) b = (entry : ℕ) → IsOutstandingAt entry b
    → ((after_call call b).greatest ≤ limit) × (NoneBegins call b → EndsBy limit calls (after_call call b))

-- each exchange that begins in the calls ends so long after its first frame at the most, by its entry
abbrev pub TurnsTake : (ℕ → ℕ) → List Call → BusState → Type 0
TurnsTake time [] b = Unit {0}
TurnsTake time (call ∷ calls) b =
    ((entry : ℕ) → Begins call entry b → EndsBy ((after_call call b).greatest + time entry) calls (after_call call b))
    × TurnsTake time calls (after_call call b)

-- and so does the one that is outstanding, from now on
abbrev pub OutstandingTakes : (ℕ → ℕ) → List Call → BusState → Type 0
OutstandingTakes time calls b = (entry : ℕ) → IsOutstandingAt entry b → EndsBy (b.greatest + time entry) calls b

-- no call comes later than this moment before an exchange of the entry has begun
abbrev pub BeginsBy : ℕ → ℕ → List Call → BusState → Type 0
BeginsBy limit entry [] b = Unit {0}
BeginsBy limit entry (call ∷ calls) b =
    ((after_call call b).greatest ≤ limit) × ((Begins call entry b → ⊥) → BeginsBy limit entry calls (after_call call b))

-- there are never more than so many entries
abbrev pub HasFew : ℕ → List Call → BusState → Type 0
HasFew n [] b = length b.devices.entries ≤ n
HasFew n (call ∷ calls) b = (length b.devices.entries ≤ n) × HasFew n calls (after_call call b)

-- a turn of each of the first so many entries: its exchange, and a late tick
abbrev pub turns_of : (ℕ → ℕ) → ℕ → ℕ → ℕ
turns_of time late zero = 0
turns_of time late (suc n) = turns_of time late n + (time n + late)

-- of each of them but one
abbrev pub others_of : (ℕ → ℕ) → ℕ → ℕ → ℕ → ℕ
others_of time late n entry = turns_of time late n - (time entry + late)

-- a program keeps time by so late, each exchange ends in its time, and there are so many entries at the most
pub record KeepsTurns (late : ℕ) (time : ℕ → ℕ) (n : ℕ) (calls : List Call) (b : BusState) : Type 0 where
  pub in_time : KeepsTime late calls b
  pub turns : TurnsTake time calls b
  pub outstanding : OutstandingTakes time calls b
  pub few : HasFew n calls b
