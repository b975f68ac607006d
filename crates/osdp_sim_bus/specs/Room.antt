-- What a simulation is, and the room that one step needs.
use Rattle.std.specs.Prelude.{◌≡◌, ◌+◌, ◌<◌, ◌≤◌, All, length, List, [], map, vec_capacity}
use Rattle.std.specs.VecDeque.{deque_len, deque_capacity}
use Rattle.osdp_sim.specs.Account.{lists_of}
use Rattle.osdp_sim.specs.Line.{bytes_of}
use Rattle.osdp_sim.specs.Room.{HasPlaces}
use Rattle.osdp_sim_bus.specs.declared.run.Run.{Run}
use Rattle.osdp_sim_bus.specs.declared.simulation.Simulation.{Simulation}
use Rattle.osdp_sim_bus.specs.declared.site.ReaderSite as declared
use Rattle.osdp_sim_bus.specs.State.{AreSent, LineState, ReaderSite}

module _ {H : Type 0} where
  abbrev pub site_of : declared.ReaderSite H → ReaderSite H
  site_of site = record { reader = site.reader; account = lists_of site.account }

  abbrev pub sites_of : List (declared.ReaderSite H) → List (ReaderSite H)
  sites_of sites = map site_of sites

  abbrev pub state_of : Simulation H → LineState H
  state_of s = record {
    bus = s.bus;
    sites = sites_of s.sites.items;
    to_readers = bytes_of s.to_readers.items;
    to_bus = bytes_of s.to_bus.items;
    clock = s.clock;
  }

  -- a place in each list of a reader's account
  abbrev pub HasPlace : declared.ReaderSite H → Type 0
  HasPlace site = HasPlaces site.account

  -- a burst may go out, each reader may answer, and each account has its places
  pub record HasRoom (s : Simulation H) : Type 0 where
    pub to_readers : deque_len s.to_readers < deque_capacity s.to_readers
    pub to_bus : deque_len s.to_bus + length s.sites.items ≤ deque_capacity s.to_bus
    pub sites : All HasPlace s.sites.items

  -- what holds between two steps: each burst is a packet, and there is a place for the account of each reader
  pub record IsReady (r : Run H) : Type 0 where
    pub sent : AreSent (state_of r.simulation)
    pub empty : r.told.items ≡ []
    pub room : length r.simulation.sites.items ≤ vec_capacity r.told
