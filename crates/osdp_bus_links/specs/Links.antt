-- A bus, seen as the controllers of several links on one line: what its calls are to them.
use Rattle.std.specs.Prelude.{◌≡◌, ◌+◌, ◌||◌, ℕ, suc, max, true, false, All, ◌==◌, if◌then◌else◌, List, [], ◌∷◌, ◌++◌, map, Option, Some, None, option_to_list}
use Rattle.osdp_frame.specs.Items.{packets_in}
use Rattle.osdp_frame.specs.Bytes.{AreBytes}
use Rattle.osdp_frame.specs.Packet.{Packet}
use Rattle.osdp_msg.specs.declared.command.Command.{Command}
use Rattle.osdp_controller.specs.Hearing.{hears}
use Rattle.osdp_controller.specs.States.{is_closed}
use Rattle.osdp_controller.specs.Ticking.{ticks}
use Rattle.osdp_controller.specs.declared.report.Report.{Report}
use Rattle.osdp_controller_laws.specs.Commands.{tells_end}
use Rattle.osdp_reader.specs.declared.handler.Answer.{Answer}
use Rattle.osdp_bus.specs.Buses.{BusState, holder, seen, waiting_after}
use Rattle.osdp_bus.specs.Hearing.{after_bytes, after_silence}
use Rattle.osdp_bus.specs.Machine.{after_begin_at, after_next_report, after_submit_at, begin_refusal_at, submit_refusal_at}
use Rattle.osdp_bus.specs.Ticking.{asks_free, asks_holder, bus_ticks, is_due_at}
use Rattle.osdp_bus.specs.declared.entry.Entry.{Entry}
use Rattle.osdp_bus.specs.declared.fault.BusFault.{BusFault}
use Rattle.osdp_link_laws.specs.Peers.{IsPlainlySaid}
use Rattle.osdp_link_laws.specs.Refusals.{IsNoRefusal}
use Rattle.osdp_shared_line.specs.Line.{Net, NetMove, Reopen, Site, Submit, Tick, address_of, after_net, changed, first_gets, is_command_accepted, run, site_at, submits}

-- the packets among these, whoever said them
abbrev pub packets_on : List (ℕ × Packet) → List Packet
packets_on ps = map (λ (p : ℕ × Packet). p.1) ps

-- what the site at this place is told, where this report waits
abbrev pub report_for : ℕ → Option (ℕ × Report) → Option Report
report_for k None = None
report_for k (Some (entry, report)) = if entry == k then Some report else None

-- no reader has refused a number, as far as this report tells
abbrev pub IsNoRefusalOf : Option (ℕ × Report) → Type 0
IsNoRefusalOf None = Unit {0}
IsNoRefusalOf (Some (entry, report)) = IsNoRefusal report

-- ---- who ticks

-- the one that holds the line, where it is due; where nobody holds it, the first in turn that is due; and none while a report waits
abbrev pub due_by : Option ℕ → BusState → Option ℕ
due_by None b = asks_free None (λ entry. entry) b
due_by (Some entry) b = if is_due_at entry b then asks_holder None (λ asked. asked) entry b else None

-- the entry whose controller ticks in a tick of a bus that holds no bytes
abbrev pub who_ticks : ℕ → BusState → Option ℕ
who_ticks now b = due_by (holder (seen now b)) (seen now b)

-- a run of bytes comes to the bus, and is over
abbrev pub heard : List ℕ → ℕ → BusState → BusState
heard bytes now b = after_silence now (after_bytes bytes now b)

module _ {H : Type 0} where
  -- one controller ticks, at the greatest moment seen, or none
  abbrev pub one_ticks : Option ℕ → ℕ → List (NetMove H)
  one_ticks None now = []
  one_ticks (Some entry) now = Tick entry now ∷ []

  -- the moves that a tick of the bus is
  abbrev pub tick_moves : ℕ → BusState → List (NetMove H)
  tick_moves now b = one_ticks (who_ticks now b) (max b.greatest now)

  -- the device of the bus whose controller is this site's
  abbrev pub device_of : Site H → Entry
  device_of s = record { controller = s.controller; reserved = s.reserved }

  -- the devices of the bus are the controllers of these sites; no bytes are held, and no report waits
  pub record IsBusOf (b : BusState) (ss : List (Site H)) : Type 0 where
    pub entries : b.devices.entries ≡ map device_of ss
    pub held : b.held ≡ []
    pub report : b.devices.report ≡ None

  -- what the controller that ticks tells, with its place
  abbrev pub told_by_one : ℕ → ℕ → Option (Site H) → Option (ℕ × Report)
  told_by_one k now None = None
  told_by_one k now (Some s) = waiting_after k (ticks now s.controller.session s.controller.waiting).step.report None

  -- what a tick tells, where the controller at this place ticks or none does
  abbrev pub told_by_tick : Option ℕ → ℕ → List (Site H) → Option (ℕ × Report)
  told_by_tick None now ss = None
  told_by_tick (Some entry) now ss = told_by_one entry now (site_at entry ss)

  -- what the first controller at the packet's address tells that hears it, the first of these at this place
  abbrev pub told_by_first : ℕ → Packet → ℕ → List (Site H) → Option (ℕ × Report)
  told_by_first k p now [] = None
  told_by_first k p now (s ∷ ss) =
      if address_of s == p.address then waiting_after k (hears p now s.controller.session).report None else told_by_first (k + 1) p now ss

  -- the reader stays as it is, and more is said to it; the session ends exactly where the report tells that
  pub record IsTold (report : Option Report) (said : List (ℕ × Packet)) (s t : Site H) : Type 0 where
    pub reader : t.reader ≡ s.reader
    pub coming : t.coming ≡ s.coming ++ said
    pub closes : is_closed t.controller.session.state ≡ (is_closed s.controller.session.state || tells_end report)
    pub once : is_closed s.controller.session.state ≡ true → tells_end report ≡ false

  -- to each of these sites, the first of them at this place, the same is said, and each is told what is its own
  abbrev pub TellsFrom : ℕ → Option (ℕ × Report) → List (ℕ × Packet) → List (Site H) → List (Site H) → Type 0
  TellsFrom k report said [] [] = Unit {0}
  TellsFrom k report said (s ∷ ss) (t ∷ ts) = IsTold (report_for k report) said s t × TellsFrom (suc k) report said ss ts
  TellsFrom k report said _ _ = ⊥

  -- the same of the sites of a whole line, whose first is at place 0
  abbrev pub TellsEach : Option (ℕ × Report) → List (ℕ × Packet) → List (Site H) → List (Site H) → Type 0
  TellsEach report said ss next = TellsFrom 0 report said ss next

  module _ (answer_of : H → Command → Answer) (after : H → Command → H) where
    -- a command that the bus refuses changes no site; one that it accepts its controller accepts too, and it is issued there
    abbrev pub IsSubmitted : Option BusFault → ℕ → Command → BusState → Net H → Type 0
    IsSubmitted (Some fault) k command b n = after_net answer_of after (Submit k command) n ≡ n
    IsSubmitted None k command b n =
        IsBusOf (after_submit_at k command b) (after_net answer_of after (Submit k command) n).sites
        × ((s : Site H) × (site_at k n.sites ≡ Some s) × (is_command_accepted k command s n.sites ≡ true)
        × (after_net answer_of after (Submit k command) n ≡ record n { sites = changed k (submits answer_of after command s) n.sites }))

    -- so it is of each command, by what the bus refuses
    abbrev pub SubmitsAsAMove : Type 0
    SubmitsAsAMove = (b : BusState) (n : Net H) (k : ℕ) (command : Command) → IsBusOf b n.sites
        → IsSubmitted (submit_refusal_at k command b) k command b n

    -- a session that the bus begins is one of its site
    abbrev pub BeginsAsAMove : Type 0
    BeginsAsAMove = (b : BusState) (n : Net H) (k now : ℕ) → IsBusOf b n.sites → begin_refusal_at k b ≡ None
        → IsBusOf (after_begin_at k now b) (after_net answer_of after (Reopen k (max b.greatest now)) n).sites

    -- a tick of the bus: what one of its controllers sends the bus sends, to every reader, and what it tells waits to be told then
    pub record IsTicked (b : BusState) (now : ℕ) (n next : Net H) : Type 0 where
      pub bus : IsBusOf (after_next_report (bus_ticks now b).bus) next.sites
      pub said : List (ℕ × Packet)
      pub sent : packets_on said ≡ option_to_list (bus_ticks now b).sent
      pub told : TellsEach (bus_ticks now b).bus.devices.report said n.sites next.sites
      pub report : (bus_ticks now b).bus.devices.report ≡ told_by_tick (who_ticks now b) (max b.greatest now) n.sites
      pub back : next.to_panel ≡ n.to_panel
      pub plain : IsNoRefusalOf (bus_ticks now b).bus.devices.report

    -- so it is of each tick, whatever the moment
    abbrev pub TicksAsAMove : Type 0
    TicksAsAMove = (b : BusState) (n : Net H) (now : ℕ) → IsBusOf b n.sites → IsTicked b now n (run answer_of after (tick_moves now b) n)

  -- a run that holds a packet is heard by the first controller at its address, and one that holds none by nobody; this waits to be told then, and
  -- nothing is said
  pub record IsHeard (b : BusState) (now : ℕ) (bytes : List ℕ) (report : Option (ℕ × Report)) (ss next : List (Site H)) : Type 0 where
    pub bus : IsBusOf (after_next_report (heard bytes now b)) next
    pub told : TellsEach (heard bytes now b).devices.report [] ss next
    pub report_is : (heard bytes now b).devices.report ≡ report
    pub plain : All IsPlainlySaid (packets_in bytes) → IsNoRefusalOf (heard bytes now b).devices.report

-- so it is of each run of bytes that holds no packet or one
abbrev pub HearsAsAMove : Type 0 → Type 0
HearsAsAMove H = (b : BusState) (ss : List (Site H)) (now : ℕ) (bytes : List ℕ) → IsBusOf b ss → AreBytes bytes
    → (packets_in bytes ≡ [] → IsHeard b now bytes None ss ss)
    × ((p : Packet) → packets_in bytes ≡ p ∷ []
    → let g = max b.greatest now in IsHeard b now bytes (told_by_first 0 p g ss) ss (first_gets p g ss))

-- each call of a bus is a move of its controllers
pub record CallsAreMoves {H : Type 0} (answer_of : H → Command → Answer) (after : H → Command → H) : Type 0 where
  pub submits : SubmitsAsAMove answer_of after
  pub begins : BeginsAsAMove answer_of after
  pub ticks : TicksAsAMove answer_of after
  pub hears : HearsAsAMove H
