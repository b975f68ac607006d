-- What a simulation is, and the room that one step needs.
use Rattle.std.specs.Prelude.{◌≡◌, ◌<◌, true, vec_len, vec_capacity}
use Rattle.std.specs.VecDeque.{deque_len, deque_capacity}
use Rattle.osdp_sim.specs.declared.account.Account as declared
use Rattle.osdp_sim.specs.declared.simulation.Simulation.{Simulation}
use Rattle.osdp_sim.specs.Account.{lists_of}
use Rattle.osdp_sim.specs.Line.{bytes_of}
use Rattle.osdp_sim.specs.State.{SimState}

-- a place in each list of an account
pub record HasPlaces (a : declared.Account) : Type 0 where
  pub issued : a.issued.has_place ≡ true
  pub taken : a.taken.has_place ≡ true
  pub settled : a.settled.has_place ≡ true
  pub unsettled : a.unsettled.has_place ≡ true
  pub queued : a.queued.has_place ≡ true
  pub reported : a.reported.has_place ≡ true
  pub ends : vec_len a.ends < vec_capacity a.ends
  pub sessions : vec_len a.sessions < vec_capacity a.sessions

module _ {H : Type 0} where
  abbrev pub state_of : Simulation H → SimState H
  state_of s = record {
    controller = s.controller;
    reader = s.reader;
    to_reader = bytes_of s.to_reader.items;
    to_controller = bytes_of s.to_controller.items;
    clock = s.clock;
    account = lists_of s.account;
  }

  pub record HasRoom (s : Simulation H) : Type 0 where
    pub to_reader : deque_len s.to_reader < deque_capacity s.to_reader
    pub to_controller : deque_len s.to_controller < deque_capacity s.to_controller
    pub account : HasPlaces s.account
