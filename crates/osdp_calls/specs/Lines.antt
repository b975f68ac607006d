-- A line in use: a bus with its entries, a device for each of them, and all that was said.
use Rattle.std.specs.Prelude.{ℕ, suc, ◌==◌, ◌&&◌, ◌||◌, not, nat_le, nat_lt, Bool, if◌then◌else◌, List, [], ◌∷◌, map, Option, None}
use Rattle.std.specs.List.{list_any}
use Rattle.osdp_frame.specs.Packet.{Packet}
use Rattle.osdp_bus.specs.Buses.{BusState, new_bus}
use Rattle.osdp_bus.specs.Machine.{new_device}
use Rattle.osdp_bus.specs.declared.config.BusConfig.{BusConfig}
use Rattle.osdp_frame.specs.Receiving.{Received}
use Rattle.osdp_reader.specs.State.{ReaderState}

-- what was said: by the panel, for the entry whose controller sent it, or by the device of an entry
pub record Burst : Type 0 where
  pub by_panel : Bool
  pub entry : ℕ
  pub packet : Packet

-- the device of an entry: its reader, what has come on its line, and the place in what was said of what it read last, 0 at first. With it, of its
-- entry: the moment of a `begin` whose opening ID has not gone out yet
pub record Station (H : Type 0) : Type 0 where
  pub reader : ReaderState H
  pub line : Received
  pub place : ℕ
  pub begun : Option ℕ

-- that a session of an entry began: the address of its opening ID, and how much had been said before that went out
pub record Opening : Type 0 where
  pub entry : ℕ
  pub address : ℕ
  pub place : ℕ

-- a bus and the devices of its first entries, those that are ours, in their order; the devices of all further entries are of others. What was said by or for
-- ours, the oldest first; the place of what the panel read last; and the sessions of ours that have begun, the last of them first
pub record InUse (H : Type 0) : Type 0 where
  pub bus : BusState
  pub stations : List (Station H)
  pub said : List Burst
  pub place : ℕ
  pub openings : List Opening

-- a new bus with a device at each of these addresses
abbrev pub bus_with : BusConfig → List ℕ → BusState
bus_with config addresses = record (new_bus config) {
  devices = record { entries = map (λ address. new_device address config) addresses; report = None };
}

-- ---- what an end may still read

-- a burst is for the entry of an opening, or of its device, or to or from its address
abbrev pub concerns : Opening → Burst → Bool
concerns o b = (b.entry == o.entry) || (b.packet.address == o.address)

-- .. and was said before it
abbrev pub is_before : Opening → ℕ → Burst → Bool
is_before o place b = nat_lt place o.place && concerns o b

-- what was said before an opening, and concerns it, is read no more by the panel, nor by the device of its entry
abbrev pub is_past_for_panel : List Opening → ℕ → Burst → Bool
is_past_for_panel openings place b = list_any (λ o. is_before o place b) openings

-- .. by the device of this entry, where the opening is of its own
abbrev pub is_past_for_device : ℕ → List Opening → ℕ → Burst → Bool
is_past_for_device k openings place b = list_any (λ o. (o.entry == k) && is_before o place b) openings

-- of what was said, the first of it at this place, what passes a test: each with its entry
abbrev pub those : (ℕ → Burst → Bool) → ℕ → List Burst → List (ℕ × Packet)
those test place [] = []
those test place (b ∷ bs) = if test place b then (b.entry, b.packet) ∷ those test (suc place) bs else those test (suc place) bs

-- of what the panel said, what the device of an entry may still read, from this place on
abbrev pub is_ahead_of_device : ℕ → ℕ → List Opening → ℕ → Burst → Bool
is_ahead_of_device k from openings place b = b.by_panel && (nat_le from place && not (is_past_for_device k openings place b))

-- .. each packet with the entry that it was said for
abbrev pub ahead_of_device : ℕ → ℕ → List Opening → List Burst → List (ℕ × Packet)
ahead_of_device k from openings said = those (is_ahead_of_device k from openings) 0 said

-- of what the devices said, what the panel may still read
abbrev pub is_ahead_of_panel : ℕ → List Opening → ℕ → Burst → Bool
is_ahead_of_panel from openings place b = not b.by_panel && (nat_le from place && not (is_past_for_panel openings place b))

-- .. each packet with the entry whose device said it
abbrev pub ahead_of_panel : ℕ → List Opening → List Burst → List (ℕ × Packet)
ahead_of_panel from openings said = those (is_ahead_of_panel from openings) 0 said
