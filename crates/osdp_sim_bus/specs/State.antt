-- A simulated line between a bus and its readers.
use Rattle.std.specs.Prelude.{ℕ, All, List, [], map}
use Rattle.osdp_reader.specs.declared.config.ReaderConfig.{ReaderConfig}
use Rattle.osdp_reader.specs.State.{ReaderState, new_reader}
use Rattle.osdp_bus.specs.Buses.{BusState, new_bus}
use Rattle.osdp_bus.specs.Machine.{entry_begins, new_device}
use Rattle.osdp_bus.specs.declared.config.BusConfig.{BusConfig}
use Rattle.osdp_bus.specs.declared.entry.Entry.{Entry}
use Rattle.osdp_sim.specs.Account.{Account, empty_account, with_session}
use Rattle.osdp_sim.specs.Line.{IsSent}
use Rattle.osdp_sim.specs.State.{room_for}

-- a reader's side of a site: the reader, and what has come of its schedule so far
pub record ReaderSite (H : Type 0) : Type 0 where
  pub reader : ReaderState H
  pub account : Account

-- the panel's end, the readers in the order of their numbers, the bursts that are on the way between them, and the moment
pub record LineState (H : Type 0) : Type 0 where
  pub bus : BusState
  pub sites : List (ReaderSite H)
  pub to_readers : List (List ℕ)
  pub to_bus : List (List ℕ)
  pub clock : ℕ

-- a reader as it is handed in: what it is, how many of its events may wait, and its handler
abbrev pub Given : Type 0 → Type 0
Given H = ReaderConfig × ℕ × H

-- a bus to which nothing has come yet, with these devices
abbrev pub bus_with : BusConfig → List Entry → BusState
bus_with config devices =
    let new = new_bus config in
    record new { devices = record new.devices { entries = devices } }

module _ {H : Type 0} where
  abbrev pub address_of : Given H → ℕ
  address_of given = given.0.address

  -- the panel's device for a reader: its first session begins at moment 0
  abbrev pub begun_device : BusConfig → Given H → Entry
  begun_device config given = entry_begins 0 (new_device (address_of given) config)

  abbrev pub new_site : Given H → ReaderSite H
  new_site given = record { reader = new_reader given.0 given.2 (room_for given.1); account = with_session empty_account }

  -- entry 0 is that of the first reader
  abbrev pub begun_bus : BusConfig → List (Given H) → BusState
  begun_bus config readers = bus_with config (map (begun_device config) readers)

  abbrev pub set_up : BusConfig → List (Given H) → LineState H
  set_up config readers = record {
    bus = begun_bus config readers;
    sites = map new_site readers;
    to_readers = [];
    to_bus = [];
    clock = 0;
  }

  abbrev pub accounts : LineState H → List Account
  accounts s = map (λ (site : ReaderSite H). site.account) s.sites

  -- each burst on the line is one packet
  pub record AreSent (s : LineState H) : Type 0 where
    pub to_readers : All IsSent s.to_readers
    pub to_bus : All IsSent s.to_bus
