-- How late a program makes the ticks of a bus, and takes what it tells.
use Rattle.std.specs.Prelude.{◌≡◌, ℕ, ◌+◌, ◌≤◌, ◌||◌, Bool, true, false, not, List, [], ◌∷◌}
use Rattle.osdp_bus.specs.Buses.{BusState, has_report}
use Rattle.osdp_bus.specs.Deadlines.{acts}
use Rattle.osdp_bus_laws.specs.Calls.{Call, Begin, OnBytes, OnSilence, Tick, after_call}

-- a call comes no later than this moment; one that takes no moment comes at once
abbrev pub IsBy : ℕ → Call → Type 0
IsBy limit (Begin entry now) = now ≤ limit
IsBy limit (OnBytes bytes now) = now ≤ limit
IsBy limit (OnSilence now) = now ≤ limit
IsBy limit (Tick now) = now ≤ limit
IsBy limit _ = Unit {0}

-- a tick while a report waits does nothing, so it ends no duty
abbrev pub ends_duty : Call → BusState → Bool
ends_duty (Tick now) b = not (has_report b)
ends_duty _ b = false

-- no call comes later than this moment before what waits has been taken and a tick has come
abbrev pub DoneBy : ℕ → List Call → BusState → Type 0
DoneBy limit [] b = Unit {0}
DoneBy limit (call ∷ calls) b = IsBy limit call × (ends_duty call b ≡ false → DoneBy limit calls (after_call call b))

-- between the latest moment seen and the one seen after the next call, a report waits or a tick at this moment would do something
pub record IsOwed (at : ℕ) (call : Call) (b : BusState) : Type 0 where
  pub not_before : b.greatest ≤ at
  pub not_after : at ≤ (after_call call b).greatest
  pub due : (has_report b || acts at b) ≡ true

-- at each such moment a duty begins, and is done so late at the most. What ends it is a tick alone
abbrev pub KeepsTime : ℕ → List Call → BusState → Type 0
KeepsTime late [] b = Unit {0}
KeepsTime late (call ∷ calls) b =
    ((at : ℕ) → IsOwed at call b → DoneBy (at + late) (call ∷ calls) b) × KeepsTime late calls (after_call call b)
