-- Nobody restarts, no command or event of an entry is taken back, and none of its events lapses.
use Rattle.std.specs.Prelude.{◌≢◌, ℕ}
use Rattle.osdp_bus_laws.specs.Calls as bus
use Rattle.osdp_calls.specs.Calls.{Call, NewDevice, NewPanel, OfPanel, LapseEvent, WithdrawEvent}

-- a call of the panel takes back no command of this entry
abbrev pub LeavesCommandsOf : ℕ → bus.Call → Type 0
LeavesCommandsOf k (bus.Withdraw entry) = entry ≢ k
LeavesCommandsOf k _ = Unit {0}

module _ {H : Type 0} where
  -- neither the device of this entry nor the panel is made anew, no command or event of the entry is taken back, and no event of it lapses
  abbrev pub IsOrdinaryOf : ℕ → Call H → Type 0
  IsOrdinaryOf k (OfPanel call) = LeavesCommandsOf k call
  IsOrdinaryOf k (NewDevice i config handler room gap) = i ≢ k
  IsOrdinaryOf k (NewPanel config addresses) = ⊥
  IsOrdinaryOf k (WithdrawEvent i) = i ≢ k
  IsOrdinaryOf k (LapseEvent i) = i ≢ k
  IsOrdinaryOf k _ = Unit {0}
