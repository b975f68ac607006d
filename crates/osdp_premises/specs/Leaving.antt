-- Which calls leave an end of an entry as it is, and take nothing of it back, as tests.
use Rattle.std.specs.Prelude.{◌↔◌, ℕ, ◌==◌, not, Bool, true, false, List}
use Rattle.std.specs.Bool.{Decides}
use Rattle.osdp_bus.specs.Buses.{new_bus}
use Rattle.osdp_bus.specs.Settings.{IsBusConfig}
use Rattle.osdp_bus.specs.declared.config.BusConfig.{BusConfig}
use Rattle.osdp_bus_laws.specs.Calls as bus
use Rattle.osdp_calls.specs.Calls.{Call, NewDevice, NewPanel, OfPanel, SetHandler, LapseEvent, WithdrawEvent}
use Rattle.osdp_calls.specs.Ends.{CanStand, KeepsPanel}
use Rattle.osdp_calls.specs.OneDevice.{KeepsHandler}
use Rattle.osdp_calls.specs.Restarts.{KeepsDevice}
use Rattle.osdp_calls.specs.Sayings.{NoneRefused}
use Rattle.osdp_calls.specs.Undisturbed.{IsOrdinaryOf}

-- a call of the panel takes back no command of this entry
abbrev pub leaves_commands : ℕ → bus.Call → Bool
leaves_commands k (bus.Withdraw entry) = not (entry == k)
leaves_commands k _ = true

module _ {H : Type 0} where
  -- the panel is not made anew
  abbrev pub keeps_panel : Call H → Bool
  keeps_panel (NewPanel config addresses) = false
  keeps_panel _ = true

  -- the device of this entry is not made anew
  abbrev pub keeps_device : ℕ → Call H → Bool
  keeps_device k (NewDevice i config handler room gap) = not (i == k)
  keeps_device k _ = true

  -- .. nor does its program set another handler
  abbrev pub keeps_handler : ℕ → Call H → Bool
  keeps_handler k (SetHandler i handler) = not (i == k)
  keeps_handler k (NewDevice i config handler room gap) = not (i == k)
  keeps_handler k _ = true

  -- the call restarts neither end of this entry, takes back nothing of it, and lets no event of it lapse
  abbrev pub is_ordinary : ℕ → Call H → Bool
  is_ordinary k (OfPanel call) = leaves_commands k call
  is_ordinary k (NewDevice i config handler room gap) = not (i == k)
  is_ordinary k (NewPanel config addresses) = false
  is_ordinary k (WithdrawEvent i) = not (i == k)
  is_ordinary k (LapseEvent i) = not (i == k)
  is_ordinary k _ = true

-- each premise of the laws of one life, of one handler, and of what is undisturbed, holds exactly where its test does
pub record LeavingIsExact (H : Type 0) : Type 0 where
  pub panel : (call : Call H) → Decides (keeps_panel call) (KeepsPanel call)
  pub device : (k : ℕ) (call : Call H) → Decides (keeps_device k call) (KeepsDevice k call)
  pub handler : (k : ℕ) (call : Call H) → Decides (keeps_handler k call) (KeepsHandler k call)
  pub ordinary : (k : ℕ) (call : Call H) → Decides (is_ordinary k call) (IsOrdinaryOf k call)
  -- what is asked of a panel that is made anew for one exchange to be outstanding at most: its settings are in their ranges, and its entries can be
  -- added as they stand. Nothing is asked of other calls
  pub stands : (call : Call H) → KeepsPanel call → CanStand call
  pub anew : (config : BusConfig) (addresses : List ℕ)
      → (CanStand {H = H} (NewPanel config addresses)) ↔ (IsBusConfig config × NoneRefused addresses (new_bus config))
