-- What the calls of a bus and its devices do to a line in use. What a call makes of the bus, of a reader and of what has come on its line is the
-- definition that the call's own contract cites; what it reads, and who speaks, is said here.
use Rattle.std.specs.Prelude.{ℕ, ◌++◌, max, Bool, true, false, if◌then◌else◌, List, [], ◌∷◌, length, Option, Some, None, Result, Ok, Err, option_to_list}
use Rattle.osdp_frame.specs.Items.{items, whole_packets}
use Rattle.osdp_frame.specs.Packet.{Packet}
use Rattle.osdp_frame.specs.Reading.{RunItem, PacketItem, SkippedItem, RefusedItem}
use Rattle.osdp_msg.specs.declared.command.Command.{Command}
use Rattle.osdp_msg.specs.declared.event.Event.{Event}
use Rattle.osdp_msg.specs.declared.limits.Room.{Room}
use Rattle.osdp_bus.specs.Buses.{BusState, has_report, holder, is_silent, seen}
use Rattle.osdp_bus.specs.Hearing.{ends_run, ends_silent}
use Rattle.osdp_bus.specs.Machine.{begin_refusal_at, changed_unless}
use Rattle.osdp_bus.specs.Ticking.{asks_free, asks_holder, bus_ticks, is_due_at}
use Rattle.osdp_bus.specs.declared.config.BusConfig.{BusConfig}
use Rattle.osdp_bus.specs.declared.entry.Entry.{Entry}
use Rattle.osdp_bus.specs.declared.fault.BusFault.{BusFault}
use Rattle.osdp_bus_laws.specs.Calls as bus
use Rattle.osdp_bus_laws.specs.Turns.{judged}
use Rattle.osdp_device.specs.Deciding.{passed}
use Rattle.osdp_frame.specs.Receiving.{Received, after_silence, after_take, after_tick, new_line}
use Rattle.osdp_device.specs.Saying.{speaks}
use Rattle.osdp_device.specs.Telling.{items_of, next_told}
use Rattle.osdp_reader.specs.State.{ReaderState, after_lapse_event, after_set_busy, after_set_handler, after_submit, after_withdraw_event, new_reader}
use Rattle.osdp_reader.specs.Table.{hears, kind_of}
use Rattle.osdp_reader.specs.declared.config.ReaderConfig.{ReaderConfig}
use Rattle.osdp_reader.specs.declared.handler.Answer.{Answer}
use Rattle.osdp_reader.specs.Queue.{lacks_room}
use Rattle.osdp_shared_line.specs.Line.{changed, site_at}
use Rattle.osdp_calls.specs.Lines.{Burst, InUse, Station, bus_with}

-- the calls of a panel's program; those of a device's program, each with the entry of the device; and power: a device made anew, with its
-- settings, its handler, its room for events and its gap, which is another device where it is another model, and the panel made anew, with its
-- settings and the addresses of its entries
pub data Call (H : Type 0) : Type 0 where
  OfPanel : bus.Call → Call H
  SubmitEvent : ℕ → Event → Call H
  SetBusy : ℕ → Bool → Call H
  SetHandler : ℕ → H → Call H
  WithdrawEvent : ℕ → Call H
  LapseEvent : ℕ → Call H
  Take : ℕ → List ℕ → ℕ → Call H
  TickDevice : ℕ → ℕ → Call H
  Silence : ℕ → ℕ → Call H
  Next : ℕ → Call H
  Pending : ℕ → Call H
  NewDevice : ℕ → ReaderConfig → H → Room → ℕ → Call H
  NewPanel : BusConfig → List ℕ → Call H

-- a call, and for each packet that it reads the place in what was said of the burst that it is a copy of
pub record Step (H : Type 0) : Type 0 where
  pub call : Call H
  pub places : List ℕ

-- a device, as its program holds it: its reader, and what has come on its line
pub record Held (H : Type 0) : Type 0 where
  pub reader : ReaderState H
  pub line : Received

-- the last of these places, or else the one before
abbrev pub last_of : List ℕ → ℕ → ℕ
last_of [] place = place
last_of (i ∷ places) place = last_of places i

-- ---- what a call of the panel reads: what it hands to the controllers

-- all packets that are held, where the run has ended
abbrev pub read_at_end : BusState → List Packet
read_at_end b = whole_packets (items true b.held)

-- .. where it has ended by the moment that the bus has seen last, and else none
abbrev pub read_at_silence : BusState → List Packet
read_at_silence b = if is_silent b then read_at_end b else []

-- what bytes that come bring: the packets of a run that ended before, and those that are decided with these bytes
abbrev pub read_of_bytes : List ℕ → BusState → List Packet
read_of_bytes [] b = []
read_of_bytes (byte ∷ bytes) b = read_at_silence b ++ whole_packets (items false ((ends_silent b).held ++ (byte ∷ bytes)))

-- what a tick reads of the run that is held: all, where no entry holds the line, or where the one that does is due
abbrev pub read_by_holder : Option ℕ → BusState → List Packet
read_by_holder None b = read_at_end b
read_by_holder (Some entry) b = if is_due_at entry b then read_at_end b else []

-- what a tick reads: nothing while a report waits
abbrev pub read_at_tick : ℕ → BusState → List Packet
read_at_tick now b = if has_report b then [] else read_at_silence (seen now b) ++ read_by_holder (holder (judged now b)) (judged now b)

-- the packets that a call hands to the controllers, in their order
abbrev pub read_by : bus.Call → BusState → List Packet
read_by (bus.OnBytes bytes now) b = read_of_bytes bytes (seen now b)
read_by (bus.OnSilence now) b = read_at_end (seen now b)
read_by (bus.Tick now) b = read_at_tick now b
read_by _ b = []

-- the entry whose controller ticks then, if any
abbrev pub asked_by_holder : Option ℕ → BusState → Option ℕ
asked_by_holder None b = asks_free None (λ asked. asked) (ends_run b)
asked_by_holder (Some entry) b = if is_due_at entry b then asks_holder None (λ asked. asked) entry (ends_run b) else None

-- .. at a tick at this moment: none while a report waits
abbrev pub asked_at : ℕ → BusState → Option ℕ
asked_at now b = if has_report b then None else asked_by_holder (holder (judged now b)) (judged now b)

-- what `withdraw` takes back
abbrev pub withdrawn : Result (Option Command) BusFault → List Command
withdrawn (Ok command) = option_to_list command
withdrawn (Err fault) = []

-- bursts of the device of an entry
abbrev pub by_device : ℕ → List Packet → List Burst
by_device k [] = []
by_device k (p ∷ ps) = record { by_panel = false; entry = k; packet = p } ∷ by_device k ps

-- ---- what a device's `next` reads: all packets up to and including the first that its reader answers

module _ {H : Type 0} where
  -- the packets of these items, up to and including the first that the reader answers
  abbrev pub read_up_to : ReaderState H → List RunItem → List Packet
  read_up_to r [] = []
  read_up_to r (PacketItem p ∷ parts) = p ∷ (if speaks (kind_of r p) then [] else read_up_to r parts)
  read_up_to r (SkippedItem byte ∷ parts) = read_up_to r parts
  read_up_to r (RefusedItem fault ∷ parts) = read_up_to r parts

  -- that one
  abbrev pub first_answered : ReaderState H → List Packet → Option Packet
  first_answered r [] = None
  first_answered r (p ∷ ps) = if speaks (kind_of r p) then Some p else first_answered r ps

  -- ---- sessions

  -- the station at this place, which is given, changes
  abbrev pub changes_at : ℕ → (Station H → Station H) → Option (Station H) → List (Station H) → List (Station H)
  changes_at k change None ts = ts
  changes_at k change (Some t) ts = changed k (change t) ts

  -- .. the one that stands there, if any
  abbrev pub change_at : ℕ → (Station H → Station H) → List (Station H) → List (Station H)
  change_at k change ts = changes_at k change (site_at k ts) ts

  -- a session is to begin: it does so where its opening ID goes out
  abbrev pub is_to_begin : ℕ → Station H → Station H
  is_to_begin moment t = record t { begun = Some moment }

  -- the opening ID has gone out: no session is to begin any more
  abbrev pub begins_session : Station H → Station H
  begins_session t = record t { begun = None }

  -- what a call of the panel notes
  abbrev pub noted : bus.Call → BusState → List (Station H) → List (Station H)
  noted (bus.Begin entry now) b ts = changed_unless (begin_refusal_at entry b) ts (change_at entry (is_to_begin (max b.greatest now)) ts)
  noted call b ts = ts

  -- ---- what the panel says

  -- where a session was to begin, it begins with what goes out for its entry: a controller that waits to begin sends nothing but the opening ID
  abbrev pub begins_with : ℕ → Packet → Option ℕ → InUse H → InUse H
  begins_with entry p None l = l
  begins_with entry p (Some moment) l = record l {
    stations = change_at entry begins_session l.stations;
    openings = record { entry = entry; address = p.address; place = length l.said } ∷ l.openings;
  }

  -- the moment of the `begin` whose opening ID has not gone out yet
  abbrev pub begun_of : Option (Station H) → Option ℕ
  begun_of None = None
  begun_of (Some t) = t.begun

  -- what goes out for an entry whose device is of others is none of what was said
  abbrev pub said_for : ℕ → Packet → Option (Station H) → List Burst
  said_for entry p None = []
  said_for entry p (Some t) = record { by_panel = true; entry = entry; packet = p } ∷ []

  -- what goes out for an entry is said after all else, and may begin a session of it
  abbrev pub panel_says : Option ℕ → Option Packet → InUse H → InUse H
  panel_says (Some entry) (Some p) l =
      let begins = begins_with entry p (begun_of (site_at entry l.stations)) l in
      record begins { said = l.said ++ said_for entry p (site_at entry l.stations) }
  panel_says (Some entry) None l = l
  panel_says None p l = l

  -- what a call of the panel says: at a tick what the bus sends for the entry that is asked, and else nothing
  abbrev pub said_at : bus.Call → BusState → InUse H → InUse H
  said_at (bus.Tick now) b l = panel_says (asked_at now b) (bus_ticks now b).sent l
  said_at _ b l = l

  -- after a call of the panel the bus is what the call makes of it, and what was read last and what goes out are noted
  abbrev pub after_panel : bus.Call → List ℕ → InUse H → InUse H
  after_panel call places l = said_at call l.bus (record l {
    bus = bus.after_call call l.bus;
    stations = noted call l.bus l.stations;
    place = last_of places l.place;
  })

  -- ---- what a device does

  -- the station at this place changes, and nothing else of the line
  abbrev pub on_station : ℕ → (Station H → Station H) → InUse H → InUse H
  on_station k change l = record l { stations = change_at k change l.stations }

  -- the device of a station
  abbrev pub held_by : Station H → Held H
  held_by t = record { reader = t.reader; line = t.line }

  -- the entry whose device is called, or made anew, if one is
  abbrev pub device_called : Call H → Option ℕ
  device_called (SubmitEvent k event) = Some k
  device_called (SetBusy k busy) = Some k
  device_called (SetHandler k handler) = Some k
  device_called (WithdrawEvent k) = Some k
  device_called (LapseEvent k) = Some k
  device_called (Take k bytes now) = Some k
  device_called (TickDevice k now) = Some k
  device_called (Silence k now) = Some k
  device_called (Next k) = Some k
  device_called (Pending k) = Some k
  device_called (NewDevice k config handler room gap) = Some k
  device_called _ = None

  -- the station of that entry changes, and no other
  abbrev pub on_called : Option ℕ → (Station H → Station H) → InUse H → InUse H
  on_called None change l = l
  on_called (Some k) change l = on_station k change l

  -- an event is queued, unless the queue is full
  abbrev pub takes_event : Bool → Event → Held H → Held H
  takes_event true event d = d
  takes_event false event d = record d { reader = after_submit event d.reader }

  -- the panel is made anew: the session ends untold, and none is to begin
  abbrev pub forgets : Station H → Station H
  forgets t = record t { begun = None }

  -- .. at each place where the panel had an entry
  abbrev pub all_forget : List Entry → List (Station H) → List (Station H)
  all_forget (d ∷ ds) (t ∷ ts) = forgets t ∷ all_forget ds ts
  all_forget [] ts = ts
  all_forget (d ∷ ds) [] = []

  -- the bus is a new one with these addresses, and no session is to begin
  abbrev pub panel_made_anew : BusConfig → List ℕ → InUse H → InUse H
  panel_made_anew config addresses l = record l {
    bus = bus_with config addresses;
    stations = all_forget l.bus.devices.entries l.stations;
  }

  module _ (answer_of : H → Command → Answer) (after : H → Command → H) where
    -- What a call makes of the device that is called: what the call's contract cites. A device that is made anew has nothing taken, nothing stored and no
    -- event, and is the same or another.
    abbrev pub device_after : Call H → Held H → Held H
    device_after (SubmitEvent i event) d = takes_event (lacks_room event d.reader.queue) event d
    device_after (SetBusy i busy) d = record d { reader = after_set_busy busy d.reader }
    device_after (SetHandler i handler) d = record d { reader = after_set_handler handler d.reader }
    device_after (WithdrawEvent i) d = record d { reader = after_withdraw_event d.reader }
    device_after (LapseEvent i) d = record d { reader = after_lapse_event d.reader }
    device_after (Take i bytes now) d = record d { line = after_take bytes now d.line }
    device_after (TickDevice i now) d = record d { line = after_tick now d.line }
    device_after (Silence i now) d = record d { line = after_silence now d.line }
    device_after (Next i) d =
        let told = next_told answer_of after d.reader d.line.held in
        record { reader = told.reader; line = record d.line { held = told.held } }
    device_after (Pending i) d = record d { line = record d.line { held = passed d.reader d.line.held } }
    device_after (NewDevice i config handler room gap) d = record { reader = new_reader config handler room; line = new_line gap }
    device_after _ d = d

    -- the station of that device
    abbrev pub does : Call H → Station H → Station H
    does call t =
        let d = device_after call (held_by t) in
        record t { reader = d.reader; line = d.line }

    -- ---- what a device says

    -- what is said to the packet that is answered
    abbrev pub reply_to : Option Packet → ReaderState H → List Packet
    reply_to None r = []
    reply_to (Some p) r = option_to_list (hears answer_of after r p).reply

    -- after a `next` the place of what was read last is known, and the answer is said
    abbrev pub nexts : ℕ → List ℕ → Station H → Station H
    nexts k places t = record (does (Next k) t) { place = last_of places t.place }

    -- after a `next` of the device of an entry, which has this station or none
    abbrev pub after_next : ℕ → List ℕ → Option (Station H) → InUse H → InUse H
    after_next k places None l = l
    after_next k places (Some t) l = record l {
      stations = changed k (nexts k places t) l.stations;
      said = l.said ++ by_device k (reply_to (first_answered t.reader (read_up_to t.reader (items_of t.line.held))) t.reader);
    }

    -- ---- a call

    -- the line after a call, whose packets that are read have these places
    abbrev pub after_call : Call H → List ℕ → InUse H → InUse H
    after_call (OfPanel call) places l = after_panel call places l
    after_call (NewPanel config addresses) places l = panel_made_anew config addresses l
    after_call (Next k) places l = after_next k places (site_at k l.stations) l
    after_call call places l = on_called (device_called call) (does call) l

    -- the line after a list of them
    abbrev pub after_calls : List (Step H) → InUse H → InUse H
    after_calls [] l = l
    after_calls (step ∷ steps) l = after_calls steps (after_call step.call step.places l)
