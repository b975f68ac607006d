-- A simulated line between a controller and a reader.
use Rattle.std.specs.Prelude.{ℕ, All, List, []}
use Rattle.osdp_controller.specs.Machine.{Machine, after_begin, new_machine}
pub use Rattle.osdp_msg.specs.Limits.{room_for}
use Rattle.osdp_reader.specs.State.{ReaderState, new_reader}
use Rattle.osdp_sim.specs.declared.config.SimConfig.{SimConfig}
use Rattle.osdp_sim.specs.Line.{IsSent}
use Rattle.osdp_sim.specs.Account.{Account, empty_account, with_session}

-- both ends, the bursts that are on the way between them, the moment, and what has come of it so far
pub record SimState (H : Type 0) : Type 0 where
  pub controller : Machine
  pub reader : ReaderState H
  pub to_reader : List (List ℕ)
  pub to_controller : List (List ℕ)
  pub clock : ℕ
  pub account : Account

-- the first session begins at moment 0
abbrev pub set_up : {H : Type 0} → SimConfig → H → SimState H
set_up config handler = record {
  controller = after_begin 0 (new_machine config.controller config.commands (room_for config.commands).bytes);
  reader = new_reader config.reader handler (room_for config.events);
  to_reader = [];
  to_controller = [];
  clock = 0;
  account = with_session empty_account;
}

-- each burst on the line is one packet
pub record AreSent {H : Type 0} (s : SimState H) : Type 0 where
  pub to_reader : All IsSent s.to_reader
  pub to_controller : All IsSent s.to_controller
