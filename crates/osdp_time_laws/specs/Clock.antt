-- How late a program makes the ticks of a controller.
use Rattle.std.specs.Prelude.{◌≡◌, ℕ, ◌+◌, ◌≤◌, Bool, true, false, List, [], ◌∷◌}
use Rattle.osdp_controller.specs.declared.state.State.{State}
use Rattle.osdp_controller.specs.Machine.{Machine, is_due}
use Rattle.osdp_controller_laws.specs.Runs.{Call, Submit, Begin, Retarget, Withdraw, Tick, Hear, after_call}

-- a call comes no later than this moment; one that takes no moment comes at once
abbrev pub IsBy : ℕ → Call → Type 0
IsBy limit (Submit command) = Unit {0}
IsBy limit (Begin now) = now ≤ limit
IsBy limit (Retarget address) = Unit {0}
IsBy limit Withdraw = Unit {0}
IsBy limit (Tick now) = now ≤ limit
IsBy limit (Hear p now) = now ≤ limit

abbrev pub is_tick : Call → Bool
is_tick (Tick now) = true
is_tick _ = false

-- no call comes later than this moment before a tick has come
abbrev pub TicksBy : ℕ → List Call → Type 0
TicksBy limit [] = Unit {0}
TicksBy limit (call ∷ calls) = IsBy limit call × (is_tick call ≡ false → TicksBy limit calls)

-- between the latest moment that a controller has seen and the one that it has seen after the next call, a tick at this moment would do something
pub record IsOwed (at : ℕ) (call : Call) (m : Machine) : Type 0 where
  pub not_before : m.session.greatest ≤ at
  pub not_after : at ≤ (after_call call m).session.greatest
  pub due : is_due at m ≡ true

-- at each moment at which a tick would do something a tick comes, so late at the most. A deadline that moves on ends no such duty
abbrev pub KeepsTime : ℕ → List Call → Machine → Type 0
KeepsTime late [] m = Unit {0}
KeepsTime late (call ∷ calls) m =
    ((at : ℕ) → IsOwed at call m → TicksBy (at + late) (call ∷ calls)) × KeepsTime late calls (after_call call m)

-- the state is one of these before each of the calls; the last of them may leave it
abbrev pub Stays : (State → Bool) → List Call → Machine → Type 0
Stays test [] m = Unit {0}
Stays test (call ∷ calls) m = (test m.session.state ≡ true) × Stays test calls (after_call call m)
