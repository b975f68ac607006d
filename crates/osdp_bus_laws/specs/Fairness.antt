-- Turns over lists of calls.
use Rattle.std.specs.Prelude.{◌≡◌, ◌≢◌, ◌⊎◌, ℕ, List, [], ◌∷◌, ◌++◌}
use Rattle.osdp_bus.specs.Buses.{BusState}
use Rattle.osdp_bus_laws.specs.Calls.{Call, Tick, after_call, after_calls}
use Rattle.osdp_bus_laws.specs.Turns.{IsDueEntry, IsFree, IsNext, asking}

-- an entry begins an exchange in a call: at a tick, where the line is free and it is the first in turn that is due
pub record Begins (call : Call) (entry : ℕ) (b : BusState) : Type 0 where
  pub now : ℕ
  pub tick : call ≡ Tick now
  pub free : IsFree now b
  pub next : IsNext entry (asking now b)

-- where some entry begins one in a call, this one is due then
abbrev pub IsDueWhereAsked : Call → ℕ → BusState → Type 0
IsDueWhereAsked call entry b = (other : ℕ) (begins : Begins call other b) → IsDueEntry entry (asking begins.now b)

abbrev pub DueAllAlong : List Call → ℕ → BusState → Type 0
DueAllAlong [] entry b = Unit {0}
DueAllAlong (call ∷ calls) entry b = IsDueWhereAsked call entry b × DueAllAlong calls entry (after_call call b)

-- an entry begins an exchange in one of the calls
abbrev pub HasBegun : List Call → ℕ → BusState → Type 0
HasBegun [] entry b = ⊥
HasBegun (call ∷ calls) entry b = Begins call entry b ⊎ HasBegun calls entry (after_call call b)

-- between two exchanges of one entry, every other entry that was due all along has begun one
abbrev pub TurnsAreFair : BusState → Type 0
TurnsAreFair b = (first last : Call) (between : List Call) (one other : ℕ) → other ≢ one → Begins first one b
    → DueAllAlong (between ++ last ∷ []) other (after_call first b) → Begins last one (after_calls between (after_call first b))
    → HasBegun between other (after_call first b)
