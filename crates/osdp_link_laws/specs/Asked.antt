-- Which moves leave the ends of a link and their addresses as they are, and which take nothing back. Of a list of moves each is asked, on the link as it is then.
use Rattle.std.specs.Prelude.{◌≡◌, ◌≢◌, ◌↔◌, ℕ, List, ◌∷◌, ◌++◌}
use Rattle.osdp_msg.specs.declared.command.Command.{Command}
use Rattle.osdp_msg.specs.declared.limits.Room.{Room}
use Rattle.osdp_controller.specs.declared.config.ControllerConfig.{ControllerConfig}
use Rattle.osdp_reader.specs.declared.config.ReaderConfig.{ReaderConfig}
use Rattle.osdp_reader.specs.declared.handler.Answer.{Answer}
use Rattle.osdp_link_laws.specs.Addresses.{SetsNoOther}
use Rattle.osdp_link_laws.specs.Link.{LapseEvent, Link, LoseToController, LoseToReader, Move, RestartController, RestartReader, Retarget, SetHandler, Withdraw, WithdrawEvent, run}
use Rattle.osdp_link_laws.specs.OneHandler.{IsSameModel, KeepHandler, KeepsDevice, KeepsHandler}
use Rattle.osdp_link_laws.specs.Ordinary.{IsOrdinary, IsSteady}
use Rattle.osdp_link_laws.specs.Refusals.{KeepsReader}

module _ {H : Type 0} where
  abbrev pub RestartsNoReader : Move H → Type 0
  RestartsNoReader move = (config : ReaderConfig) (handler : H) (room : Room) → move ≢ RestartReader config handler room

  abbrev pub RestartsNoController : Move H → Type 0
  RestartsNoController move = (config : ControllerConfig) (room : Room) → move ≢ RestartController config room

  abbrev pub SetsNoHandler : Move H → Type 0
  SetsNoHandler move = (handler : H) → move ≢ SetHandler handler

  abbrev pub TakesNothingBack : Move H → Type 0
  TakesNothingBack move = (move ≢ Withdraw) × (move ≢ WithdrawEvent) × (move ≢ LapseEvent)

  -- nothing is lost at a place of the line: only what is in front
  abbrev pub LosesNoneWithin : Move H → Type 0
  LosesNoneWithin move = (place : ℕ) → (move ≢ LoseToReader place) × (move ≢ LoseToController place)

  -- a handler that is set, and one of a device that is made anew, is the device's, and such a device is the same model
  pub record HasItsHandler (move : Move H) (l : Link H) : Type 0 where
    pub set : (handler : H) → move ≡ SetHandler handler → handler ≡ l.reader.handler
    pub restarted : (config : ReaderConfig) (handler : H) (room : Room) → move ≡ RestartReader config handler room
        → (handler ≡ l.reader.handler) × IsSameModel config l.reader.config

  -- where the move sets the controller's address, or makes an end anew, the address is the one that is given here for this end
  pub record SetsOnly (there here : ℕ) (move : Move H) : Type 0 where
    pub set : (address : ℕ) → move ≡ Retarget address → address ≡ here
    pub reader : (config : ReaderConfig) (handler : H) (room : Room) → move ≡ RestartReader config handler room → config.address ≡ there
    pub controller : (config : ControllerConfig) (room : Room) → move ≡ RestartController config room → config.address ≡ here

-- what is asked of moves where a reader never restarts, where a device never changes or keeps its handler, where nothing is disturbed, and where both
-- ends stay at their addresses
pub record LeavingIsExact (H : Type 0) : Type 0 where
  pub reader : (move : Move H) → (KeepsReader move) ↔ (RestartsNoReader move)
  pub device : (move : Move H) → (KeepsDevice move) ↔ (RestartsNoReader move × SetsNoHandler move)
  pub handler : (move : Move H) (l : Link H) → (KeepsHandler move l) ↔ (HasItsHandler move l)
  pub ordinary : (move : Move H) → (IsOrdinary move) ↔ (TakesNothingBack move × RestartsNoReader move × RestartsNoController move)
  pub steady : (move : Move H)
      → (IsSteady move) ↔ (IsOrdinary move × SetsNoHandler move × ((address : ℕ) → move ≢ Retarget address) × LosesNoneWithin move)
  pub address : (there here : ℕ) (move : Move H) → (SetsNoOther there here move) ↔ (SetsOnly there here move)

module _ {H : Type 0} (answer_of : H → Command → Answer) (after : H → Command → H) where
  abbrev pub AtEach : (Move H → Link H → Type 0) → List (Move H) → Link H → Type 0
  AtEach Asked moves l =
      (front : List (Move H)) (move : Move H) (rest : List (Move H)) → moves ≡ front ++ move ∷ rest → Asked move (run answer_of after front l)

  -- .. of a list of moves
  abbrev pub EachIsAsked : Type 0
  EachIsAsked = (moves : List (Move H)) (l : Link H) → (KeepHandler answer_of after moves l) ↔ (AtEach KeepsHandler moves l)
