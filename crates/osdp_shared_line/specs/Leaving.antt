-- Which moves leave the ends of a site as they are, and take nothing of it back.
use Rattle.std.specs.Prelude.{◌≢◌, ◌↔◌, ℕ}
use Rattle.osdp_msg.specs.declared.limits.Room.{Room}
use Rattle.osdp_controller.specs.declared.config.ControllerConfig.{ControllerConfig}
use Rattle.osdp_reader.specs.declared.config.ReaderConfig.{ReaderConfig}
use Rattle.osdp_shared_line.specs.Line.{NetMove, RestartPanel, RestartReader, SetHandler, Withdraw, LapseEvent, WithdrawEvent}
use Rattle.osdp_shared_line.specs.Restarts.{IsOrdinaryOf, KeepsDeviceOf, KeepsReaderOf}

module _ {H : Type 0} where
  -- the reader of the site at this place isn't made anew
  abbrev pub RestartsNoReader : ℕ → NetMove H → Type 0
  RestartsNoReader k move = (config : ReaderConfig) (handler : H) (room : Room) → move ≢ RestartReader k config handler room

  abbrev pub SetsNoHandler : ℕ → NetMove H → Type 0
  SetsNoHandler k move = (handler : H) → move ≢ SetHandler k handler

  abbrev pub RestartsNoPanel : NetMove H → Type 0
  RestartsNoPanel move = (settings : ℕ → ControllerConfig × Room) → move ≢ RestartPanel settings

  -- no command and no event of this site is taken back, and no event of it lapses
  abbrev pub TakesNothingBack : ℕ → NetMove H → Type 0
  TakesNothingBack k move = (move ≢ Withdraw k) × (move ≢ WithdrawEvent k) × (move ≢ LapseEvent k)

-- what is asked of moves where a reader never restarts, where a device never changes, and where nothing of a site is disturbed
pub record LeavingIsExact (H : Type 0) : Type 0 where
  pub reader : (k : ℕ) (move : NetMove H) → (KeepsReaderOf k move) ↔ (RestartsNoReader k move)
  pub device : (k : ℕ) (move : NetMove H) → (KeepsDeviceOf k move) ↔ (RestartsNoReader k move × SetsNoHandler k move)
  pub ordinary : (k : ℕ) (move : NetMove H)
      → (IsOrdinaryOf k move) ↔ (TakesNothingBack k move × RestartsNoReader k move × RestartsNoPanel move)
