-- What is asked of the calls of a line in use: order, quiet openings, addresses and set-up, each of its own, and that values are in their ranges.
use Rattle.std.specs.Prelude.{◌≡◌, ◌≢◌, ◌≤◌, ◌<◌, ◌⊎◌, ℕ, false, Bool, All, List, [], ◌∷◌, ◌++◌, map, length, Option, Some, None, IfSome}
use Rattle.osdp_frame.specs.Packet.{Packet}
use Rattle.osdp_msg.specs.CommandTable.{CommandFits}
use Rattle.osdp_msg.specs.Limits.{AreRoom}
use Rattle.osdp_msg.specs.ReplyTable.{ReplyFits}
use Rattle.osdp_msg.specs.declared.command.Command.{Command}
use Rattle.osdp_msg.specs.declared.command_fields.Communication.{Communication}
use Rattle.osdp_controller.specs.Hearing.{comset_of}
use Rattle.osdp_bus.specs.Buses.{device_of}
use Rattle.osdp_bus.specs.Machine.{retarget_refusal_at, submit_refusal_at}
use Rattle.osdp_bus.specs.Settings.{IsBusConfig}
use Rattle.osdp_bus.specs.declared.config.BusConfig.{BusConfig}
use Rattle.osdp_bus.specs.declared.entry.Entry.{Entry}
use Rattle.osdp_bus_laws.specs.Calls as bus
use Rattle.osdp_device.specs.Telling.{items_of}
use Rattle.osdp_reader.specs.Table.{hears}
use Rattle.osdp_reader.specs.declared.handler.Answer.{Answer}
use Rattle.osdp_reader_laws.specs.Storing.{StoresItsOwn}
use Rattle.osdp_link_laws.specs.Ahead.{ahead}
use Rattle.osdp_shared_line.specs.Addresses.{Sets, SetsReader, Somewhere}
use Rattle.osdp_shared_line.specs.Line.{site_at}
use Rattle.osdp_calls.specs.Calls.{Call, Next, NewDevice, NewPanel, OfPanel, Step, after_call, read_by, read_up_to}
use Rattle.osdp_calls.specs.Lines.{Burst, InUse, Station, ahead_of_device, bus_with, is_past_for_device, is_past_for_panel}

-- ---- 1. In order

-- Each of these packets was said, at its place, and no place lies before the one before it. But a packet of others needs no place.
abbrev pub AreInOrder : (Packet → Type 0) → List Burst → List Packet → List ℕ → ℕ → Type 0
AreInOrder Others said [] [] before = Unit {0}
AreInOrder Others said [] (i ∷ places) before = ⊥
AreInOrder Others said (p ∷ ps) [] before = Others p × AreInOrder Others said ps [] before
AreInOrder Others said (p ∷ ps) (i ∷ places) before =
    ((b : Burst) × (site_at i said ≡ Some b) × (b.packet ≡ p) × (before ≤ i) × AreInOrder Others said ps places i)
    ⊎ (Others p × AreInOrder Others said ps (i ∷ places) before)

-- ---- 2. Quiet opening

-- nothing at these places was said before an opening that it concerns
abbrev pub AreNotPast : (ℕ → Burst → Bool) → List Burst → List ℕ → Type 0
AreNotPast is_past said places = All (λ i. (b : Burst) → site_at i said ≡ Some b → is_past i b ≡ false) places

-- the commands of an entry that have not ended: the one that is outstanding, and those that wait
abbrev pub unended_of : Entry → List Command
unended_of d = ahead d.controller

module _ {H : Type 0} where
  -- where the device of an entry is, or where a COMSET that it has not read may take it: one that was submitted and has not ended, or one
  -- that was said and that it may still read
  pub data MayBeAt (address k : ℕ) (l : InUse H) : Type 0 where
    IsThere : (t : Station H) → site_at k l.stations ≡ Some t → t.reader.config.address ≡ address → MayBeAt address k l
    IsAsked : (t : Station H) (d : Entry) → site_at k l.stations ≡ Some t → device_of k l.bus ≡ Some d → Somewhere (Sets address) (unended_of d) → MayBeAt address k l
    IsSaid : (t : Station H) → site_at k l.stations ≡ Some t
        → Somewhere (λ (q : ℕ × Packet). (q.0 ≡ k) × SetsReader address q.1) (ahead_of_device k t.place l.openings l.said) → MayBeAt address k l

  -- A packet of others: no entry is at the address that it is to or from, and no device of an entry is there, or may come there. What is to 127 is
  -- to all.
  pub record IsOfOthers (l : InUse H) (p : Packet) : Type 0 where
    pub to_one : p.address ≢ 127
    pub entries : (j : ℕ) (t : Station H) (d : Entry) → site_at j l.stations ≡ Some t → device_of j l.bus ≡ Some d
        → d.controller.session.config.address ≢ p.address
    pub devices : (j : ℕ) → MayBeAt p.address j l → ⊥

  -- What an end reads as packets was said by an end before, and no packet that it reads was said before one that it has read already. Nothing is
  -- asked of packets of others.
  abbrev pub NextInOrder : InUse H → List ℕ → Option (Station H) → Type 0
  NextInOrder l places None = Unit {0}
  NextInOrder l places (Some t) = AreInOrder (IsOfOthers l) l.said (read_up_to t.reader (items_of t.line.held)) places t.place

  -- .. so of each call. Only calls of the panel and `next` of a device read packets.
  abbrev pub InOrder : Call H → List ℕ → InUse H → Type 0
  InOrder (OfPanel call) places l = AreInOrder (IsOfOthers l) l.said (read_by call l.bus) places l.place
  InOrder (Next k) places l = NextInOrder l places (site_at k l.stations)
  InOrder _ places l = Unit {0}

  -- Once the opening ID of a session has gone out for the first time, nothing said before, for or by its reader or to or from its address,
  -- is read any more by its reader or by the panel.
  abbrev pub QuietOpening : Call H → List ℕ → InUse H → Type 0
  QuietOpening (OfPanel call) places l = AreNotPast (is_past_for_panel l.openings) l.said places
  QuietOpening (Next k) places l = AreNotPast (is_past_for_device k l.openings) l.said places
  QuietOpening _ places l = Unit {0}

  -- ---- 3. Addresses

  -- no other device is there, or may come there
  abbrev pub IsNoOthers : ℕ → ℕ → InUse H → Type 0
  IsNoOthers k address l = (j : ℕ) → j ≢ k → MayBeAt address j l → ⊥

  -- No entry is given, by a COMSET or by `retarget`, an address at which another's device is or to which an unread COMSET may take it.
  -- (Another entry's address, or one reserved for it, the bus refuses by itself.)
  abbrev pub PanelAddresses : bus.Call → InUse H → Type 0
  PanelAddresses (bus.Submit k command) l =
      (t : Station H) → site_at k l.stations ≡ Some t → submit_refusal_at k command l.bus ≡ None → (asked : Communication) → comset_of command ≡ Some asked → IsNoOthers k asked.address l
  PanelAddresses (bus.Retarget k address) l =
      (t : Station H) → site_at k l.stations ≡ Some t → retarget_refusal_at k address l.bus ≡ None → IsNoOthers k address l
  PanelAddresses _ l = Unit {0}

  -- an address that a device may have anew: no other entry's, no other device's, and nothing was said to it for another entry that this
  -- device may still read
  pub record IsFreeFor (k address : ℕ) (t : Station H) (l : InUse H) : Type 0 where
    pub entries : (j : ℕ) (u : Station H) (d : Entry) → j ≢ k → site_at j l.stations ≡ Some u → device_of j l.bus ≡ Some d
        → d.controller.session.config.address ≢ address
    pub devices : IsNoOthers k address l
    pub said : All (λ (q : ℕ × Packet). q.0 ≢ k → q.1.address ≢ address) (ahead_of_device k t.place l.openings l.said)

  -- each entry of a panel that is made anew has an address of its own, at which no other device is, and where no COMSET that was said and
  -- that it may still read takes another
  pub record PanelIsApart (addresses : List ℕ) (l : InUse H) : Type 0 where
    pub own : (j k a b : ℕ) (t u : Station H) → j ≢ k → site_at j addresses ≡ Some a → site_at k addresses ≡ Some b → site_at j l.stations ≡ Some t
        → site_at k l.stations ≡ Some u → a ≢ b
    pub there : (j k a : ℕ) (t u : Station H) → j ≢ k → site_at k addresses ≡ Some a → site_at j l.stations ≡ Some t → site_at k l.stations ≡ Some u
        → t.reader.config.address ≢ a
    pub said : (j k a : ℕ) (t u : Station H) → j ≢ k → site_at k addresses ≡ Some a → site_at j l.stations ≡ Some t → site_at k l.stations ≡ Some u
        → Somewhere (λ (q : ℕ × Packet). (q.0 ≡ j) × SetsReader a q.1) (ahead_of_device j t.place l.openings l.said) → ⊥

  -- A device is made anew where it is, or at an address that is free for it. The panel is made anew with addresses that are no others'.
  abbrev pub Addresses : Call H → InUse H → Type 0
  Addresses (OfPanel call) l = PanelAddresses call l
  Addresses (NewDevice k config handler room gap) l =
      (t : Station H) → site_at k l.stations ≡ Some t → (t.reader.config.address ≡ config.address) ⊎ IsFreeFor k config.address t l
  Addresses (NewPanel config addresses) l = PanelIsApart addresses l
  Addresses _ l = Unit {0}

  -- ---- 4. Set-up

  -- Entries are added at different addresses, each with its device there, before anything is said. A device may have had sessions before: what it
  -- stores is a reply from its own address or from 127, as every reader keeps it, and the events that wait in it count as the first ones.
  pub record IsSetUp (l : InUse H) : Type 0 where
    pub config : BusConfig
    pub settings : IsBusConfig config
    pub others : List ℕ
    pub bus : l.bus ≡ bus_with config (map (λ (t : Station H). t.reader.config.address) l.stations ++ others)
    pub devices : (k : ℕ) (t : Station H) → site_at k l.stations ≡ Some t → t.reader.config.address < 127
    pub apart : (j k : ℕ) (s t : Station H) → j ≢ k → site_at j l.stations ≡ Some s → site_at k l.stations ≡ Some t
        → s.reader.config.address ≢ t.reader.config.address
    pub stored : (k : ℕ) (t : Station H) → site_at k l.stations ≡ Some t → StoresItsOwn t.reader
    pub place : (k : ℕ) (t : Station H) → site_at k l.stations ≡ Some t → (t.place ≡ 0) × (t.begun ≡ None)
    pub said : l.said ≡ []
    pub read : l.place ≡ 0
    pub openings : l.openings ≡ []

  module _ (answer_of : H → Command → Answer) (after : H → Command → H) where
    -- Values are in their ranges, as types in Rattle and C keep them: commands that are submitted, replies that are said, and settings. No
    -- entry is added once the line is in use.
    abbrev pub NextInRange : Option (Station H) → Type 0
    NextInRange None = Unit {0}
    NextInRange (Some t) = All (λ p. IfSome (hears answer_of after t.reader p).said ReplyFits) (read_up_to t.reader (items_of t.line.held))

    -- .. of a call of the panel
    abbrev pub PanelInRange : bus.Call → Type 0
    PanelInRange (bus.Submit k command) = CommandFits command
    PanelInRange (bus.Add address) = ⊥
    PanelInRange _ = Unit {0}

    -- .. of any call. A panel that is made anew has as many entries as there are devices of ours, at least.
    abbrev pub InRange : Call H → InUse H → Type 0
    InRange (OfPanel call) l = PanelInRange call
    InRange (Next k) l = NextInRange (site_at k l.stations)
    InRange (NewDevice k config handler room gap) l = (config.address < 127) × AreRoom room.messages room.bytes
    InRange (NewPanel config addresses) l =
        IsBusConfig config × All (λ a. a < 127) addresses × (length l.stations ≤ length addresses)
    InRange _ l = Unit {0}

    -- each call of a list keeps the premises
    pub record Keeps (step : Step H) (l : InUse H) : Type 0 where
      pub in_order : InOrder step.call step.places l
      pub quiet_opening : QuietOpening step.call step.places l
      pub addresses : Addresses step.call l
      pub in_range : InRange step.call l

    -- .. each where the calls before it have brought the line
    abbrev pub AllKeep : List (Step H) → InUse H → Type 0
    AllKeep [] l = Unit {0}
    AllKeep (step ∷ steps) l = Keeps step l × AllKeep steps (after_call answer_of after step.call step.places l)
