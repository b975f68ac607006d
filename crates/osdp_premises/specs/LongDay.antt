-- A list of calls in which all of it happens that a line knows: two devices, of which the first had sessions with another panel, bytes in pieces,
-- damage, lost packets and repeated ones, a packet that is read twice, a busy device, an event that is told again, orders and events that are
-- taken back, an event that lapses, another handler, a COMSET that is settled and one that is in doubt, a device that restarts where it is, spares of
-- another model that come in a device's place and elsewhere, a panel that restarts, and a reader of another make, whose entry is the last.
use Rattle.std.specs.Prelude.{◌≡◌, ℕ, Bool, true, false, All, List, [], ◌∷◌, ◌++◌, map, length, take, drop, Option, Some, None}
use Rattle.osdp_frame.specs.Packed.{packed}
use Rattle.osdp_frame.specs.Receiving.{new_line}
use Rattle.osdp_frame.specs.Spelling.{spelling}
use Rattle.osdp_frame.specs.declared.check_kind.CheckKind.TheVariants.{Sum}
use Rattle.osdp_msg.specs.declared.command.Command.{Command}
use Rattle.osdp_msg.specs.declared.command.Command.TheVariants.{Cap, Comset}
use Rattle.osdp_msg.specs.declared.event.Event.{Event}
use Rattle.osdp_msg.specs.declared.event.Event.TheVariants.{Keypad}
use Rattle.osdp_msg.specs.declared.limits.Room.{Room}
use Rattle.osdp_msg.specs.declared.reply.Reply.TheVariants.{Com, PdCap}
use Rattle.osdp_bus.specs.Buses.{device_of, new_bus}
use Rattle.osdp_bus.specs.Settings.{default_config}
use Rattle.osdp_bus.specs.declared.config.BusConfig.{BusConfig}
use Rattle.osdp_bus.specs.declared.entry.Entry.{Entry}
use Rattle.osdp_bus_laws.specs.Calls as bus
use Rattle.osdp_link_laws.specs.Link.{outstanding_command}
use Rattle.osdp_link_laws.specs.Reports.{nothing_told, with_reports}
use Rattle.osdp_controller.specs.declared.report.Report.TheVariants.{Opened}
use Rattle.osdp_reader.specs.State.{new_reader}
use Rattle.std.specs.Option.{option_map}
use Rattle.osdp_reader.specs.declared.config.ReaderConfig.{ReaderConfig}
use Rattle.osdp_reader.specs.declared.handler.Answer.{Answer}
use Rattle.osdp_shared_line.specs.Line.{site_at}
use Rattle.osdp_calls.specs.Accepted.{all_accepted, all_queued}
use Rattle.osdp_calls.specs.Calls.{Call, NewDevice, NewPanel, Next, OfPanel, Pending, SetBusy, SetHandler, Silence, Step, SubmitEvent, Take, TickDevice, LapseEvent, WithdrawEvent, after_calls}
use Rattle.osdp_calls.specs.Ends.{CanStand}
use Rattle.osdp_calls.specs.Lines.{InUse, Opening, Station, bus_with}
use Rattle.osdp_calls.specs.Marks.{all_handed}
use Rattle.osdp_calls.specs.Premises.{AllKeep, IsSetUp}
use Rattle.osdp_calls.specs.Restarts.{IsBeforeAndAfter}
use Rattle.osdp_calls.specs.Sayings.{NoneRefused}
use Rattle.osdp_calls.specs.Told.{all_taken, all_told, reports_of}

-- room for four messages, however long each is
abbrev pub four : Room
four = record { messages = 4; bytes = 5732 }

-- a bus whose controllers send each packet twice, and let a POLL stand between any two orders, as in every panel
abbrev pub twice : BusConfig
twice = record (default_config Sum four) { sends = 2; poll_between_orders = true }

-- the settings of a device at this address
abbrev pub device_at : ℕ → ReaderConfig
device_at address = record {
  address = address;
  id = record { vendor = 1 ∷ 2 ∷ 3 ∷ []; model = 4; version = 5; serial = 6; firmware_major = 7; firmware_minor = 8; firmware_build = 9 };
  caps = record { items = [] };
}

-- a spare of another model
abbrev pub spare_at : ℕ → ReaderConfig
spare_at address = record {
  address = address;
  id = record { vendor = 1 ∷ 2 ∷ 3 ∷ []; model = 10; version = 1; serial = 11; firmware_major = 2; firmware_minor = 0; firmware_build = 1 };
  caps = record { items = record { function = 13; level = 0; count = 1 } ∷ [] };
}

-- the bytes of a packet to this address, and of one from it, with this number and this body
abbrev pub asks : ℕ → ℕ → List ℕ → List ℕ
asks address number body = spelling (packed false address number Sum false 0 body)

-- .. from this address
abbrev pub answers : ℕ → ℕ → List ℕ → List ℕ
answers address number body = spelling (packed true address number Sum false 0 body)

-- COMSET to an address, at 9600 bits a second
abbrev pub away : ℕ → Command
away address = Comset (record { address = address; baud_rate = 9600 })

-- the key 1 is pressed
abbrev pub key : Event
key = Keypad (record { reader = 0; digits = record { items = 49 ∷ [] } })

module _ {H : Type 0} where
  -- a call, with the places of what it reads
  abbrev pub calls : Call H → List ℕ → Step H
  calls call places = record { call = call; places = places }

  -- a new device at this address, with this handler
  abbrev pub station_at : ℕ → H → Station H
  station_at address handler = record {
    reader = new_reader (device_at address) handler four;
    line = new_line 20;
    place = 0;
    begun = None;
  }

  -- the same device, which had sessions with another panel: the last command that it took was a POLL to 127 with number 2, and it stores the answer
  abbrev pub had_sessions : Station H → Station H
  had_sessions t = record t { reader = record t.reader { last = Some 2; stored = Some (packed true 127 2 Sum false 0 (64 ∷ [])) } }

  -- two devices, at 3 and at 4; and an entry whose device is of another make, at 20
  abbrev pub first_line : H → InUse H
  first_line handler = record {
    bus = bus_with twice (3 ∷ 4 ∷ 20 ∷ []);
    stations = station_at 3 handler ∷ station_at 4 handler ∷ [];
    said = [];
    place = 0;
    openings = [];
  }

  -- .. of which the first had sessions before
  abbrev pub line_in_the_morning : H → InUse H
  line_in_the_morning handler = record (first_line handler) { stations = had_sessions (station_at 3 handler) ∷ station_at 4 handler ∷ [] }

  -- Sessions are begun. The first opening ID comes to its device in two pieces, and the other device passes it over. The PDID comes back in two
  -- pieces, at one moment.
  abbrev pub opening : H → H → List (Step H)
  opening handler other =
      calls (OfPanel (bus.Begin 0 0)) []
      ∷ calls (OfPanel (bus.Begin 1 0)) []
      ∷ calls (OfPanel (bus.Tick 400)) []
      ∷ calls (Take 0 (take 5 (asks 3 0 (97 ∷ 0 ∷ []))) 401) []
      ∷ calls (Next 0) []
      ∷ calls (Take 0 (drop 5 (asks 3 0 (97 ∷ 0 ∷ []))) 402) []
      ∷ calls (Next 0) (0 ∷ [])
      ∷ calls (Take 1 (asks 3 0 (97 ∷ 0 ∷ [])) 402) []
      ∷ calls (Next 1) (0 ∷ [])
      ∷ calls (OfPanel (bus.OnBytes (take 9 (answers 3 0 (69 ∷ 1 ∷ 2 ∷ 3 ∷ 4 ∷ 5 ∷ 6 ∷ 0 ∷ 0 ∷ 0 ∷ 7 ∷ 8 ∷ 9 ∷ []))) 405)) []
      ∷ calls (OfPanel (bus.OnBytes (drop 9 (answers 3 0 (69 ∷ 1 ∷ 2 ∷ 3 ∷ 4 ∷ 5 ∷ 6 ∷ 0 ∷ 0 ∷ 0 ∷ 7 ∷ 8 ∷ 9 ∷ []))) 405)) (1 ∷ [])
      ∷ calls (OfPanel bus.NextReport) []
      ∷ []

  -- The other session opens.
  abbrev pub other_opening : H → H → List (Step H)
  other_opening handler other =
      calls (OfPanel (bus.Submit 0 (Cap 0))) []
      ∷ calls (OfPanel (bus.Tick 406)) []
      ∷ calls (Take 1 (asks 4 0 (97 ∷ 0 ∷ [])) 407) []
      ∷ calls (Next 1) (2 ∷ [])
      ∷ calls (OfPanel (bus.OnBytes (answers 4 0 (69 ∷ 1 ∷ 2 ∷ 3 ∷ 4 ∷ 5 ∷ 6 ∷ 0 ∷ 0 ∷ 0 ∷ 7 ∷ 8 ∷ 9 ∷ [])) 410)) (3 ∷ [])
      ∷ calls (OfPanel bus.NextReport) []
      ∷ []

  -- An order comes damaged, and is sent again. Its answer is lost, and the line says the order once more: the device gives the kept answer, and
  -- the order is settled.
  abbrev pub order : H → H → List (Step H)
  order handler other =
      calls (OfPanel (bus.Tick 411)) []
      ∷ calls (Take 0 (83 ∷ 3 ∷ 8 ∷ 0 ∷ 1 ∷ 98 ∷ 1 ∷ 63 ∷ []) 412) []
      ∷ calls (Next 0) []
      ∷ calls (Silence 0 413) []
      ∷ calls (Next 0) []
      ∷ calls (OfPanel (bus.Tick 611)) []
      ∷ calls (Take 0 (asks 3 1 (98 ∷ 0 ∷ [])) 612) []
      ∷ calls (Next 0) (5 ∷ [])
      ∷ calls (Take 0 (asks 3 1 (98 ∷ 0 ∷ [])) 613) []
      ∷ calls (Next 0) (5 ∷ [])
      ∷ calls (OfPanel (bus.OnBytes (answers 3 1 (70 ∷ [])) 614)) (7 ∷ [])
      ∷ calls (OfPanel bus.NextReport) []
      ∷ []

  -- A key is pressed while the device is busy. It is told as soon as the device isn't.
  abbrev pub busy : H → H → List (Step H)
  busy handler other =
      calls (SubmitEvent 0 key) []
      ∷ calls (SetBusy 0 true) []
      ∷ calls (OfPanel (bus.Tick 615)) []
      ∷ calls (Take 1 (asks 4 1 (96 ∷ [])) 616) []
      ∷ calls (Next 1) (8 ∷ [])
      ∷ calls (OfPanel (bus.OnBytes (answers 4 1 (64 ∷ [])) 618)) (9 ∷ [])
      ∷ calls (OfPanel bus.NextReport) []
      ∷ calls (OfPanel (bus.Tick 664)) []
      ∷ calls (Take 0 (asks 3 2 (96 ∷ [])) 665) []
      ∷ calls (Next 0) (10 ∷ [])
      ∷ calls (OfPanel (bus.OnBytes (answers 3 0 (121 ∷ [])) 667)) (11 ∷ [])
      ∷ calls (SetBusy 0 false) []
      ∷ calls (OfPanel (bus.Tick 717)) []
      ∷ calls (Take 0 (asks 3 2 (96 ∷ [])) 718) []
      ∷ calls (Next 0) (12 ∷ [])
      ∷ calls (OfPanel (bus.OnBytes (answers 3 2 (83 ∷ 0 ∷ 1 ∷ 49 ∷ [])) 720)) (13 ∷ [])
      ∷ calls (OfPanel bus.NextReport) []
      ∷ []

  -- The next POLL is lost twice, and the session has ended. An order is taken back, and an event that was never offered. The device has another
  -- handler.
  abbrev pub lost : H → H → List (Step H)
  lost handler other =
      calls (OfPanel (bus.Tick 769)) []
      ∷ calls (Take 1 (asks 4 2 (96 ∷ [])) 769) []
      ∷ calls (Next 1) (14 ∷ [])
      ∷ calls (OfPanel (bus.OnBytes (answers 4 2 (64 ∷ [])) 769)) (15 ∷ [])
      ∷ calls (OfPanel bus.NextReport) []
      ∷ calls (OfPanel (bus.Tick 770)) []
      ∷ calls (OfPanel (bus.Tick 970)) []
      ∷ calls (OfPanel (bus.Tick 1170)) []
      ∷ calls (OfPanel bus.NextReport) []
      ∷ calls (OfPanel (bus.Submit 0 (Cap 0))) []
      ∷ calls (OfPanel (bus.Withdraw 0)) []
      ∷ calls (SubmitEvent 0 key) []
      ∷ calls (WithdrawEvent 0) []
      ∷ calls (SetHandler 0 other) []
      ∷ []

  -- The other device loses power, and comes back where it is. It refuses the number of the next POLL.
  abbrev pub restart : H → H → List (Step H)
  restart handler other =
      calls (OfPanel (bus.Begin 0 1171)) []
      ∷ calls (OfPanel (bus.Tick 1172)) []
      ∷ calls (NewDevice 1 (device_at 4) other four 20) []
      ∷ calls (Take 1 (asks 4 3 (96 ∷ [])) 1173) []
      ∷ calls (Next 1) (18 ∷ [])
      ∷ calls (OfPanel (bus.OnBytes (answers 4 3 (65 ∷ 4 ∷ [])) 1174)) (19 ∷ [])
      ∷ calls (OfPanel bus.NextReport) []
      ∷ []

  -- The next session begins, and the key is told again.
  abbrev pub again : H → H → List (Step H)
  again handler other =
      calls (OfPanel (bus.Tick 1571)) []
      ∷ calls (Take 0 (asks 3 0 (97 ∷ 0 ∷ [])) 1572) []
      ∷ calls (Next 0) (20 ∷ [])
      ∷ calls (OfPanel (bus.OnBytes (answers 3 0 (69 ∷ 1 ∷ 2 ∷ 3 ∷ 4 ∷ 5 ∷ 6 ∷ 0 ∷ 0 ∷ 0 ∷ 7 ∷ 8 ∷ 9 ∷ [])) 1574)) (21 ∷ [])
      ∷ calls (OfPanel bus.NextReport) []
      ∷ calls (OfPanel (bus.Tick 1624)) []
      ∷ calls (Take 0 (asks 3 1 (96 ∷ [])) 1625) []
      ∷ calls (Next 0) (22 ∷ [])
      ∷ calls (OfPanel (bus.OnBytes (answers 3 1 (83 ∷ 0 ∷ 1 ∷ 49 ∷ [])) 1627)) (23 ∷ [])
      ∷ calls (OfPanel bus.NextReport) []
      ∷ []

  -- A COMSET is settled: the device goes to 5, and the next session opens there.
  abbrev pub move : H → H → List (Step H)
  move handler other =
      calls (OfPanel (bus.Submit 0 (away 5))) []
      ∷ calls (OfPanel (bus.Tick 1628)) []
      ∷ calls (Take 0 (asks 3 2 (110 ∷ 5 ∷ 128 ∷ 37 ∷ 0 ∷ 0 ∷ [])) 1629) []
      ∷ calls (Next 0) (24 ∷ [])
      ∷ calls (OfPanel (bus.OnBytes (answers 3 2 (84 ∷ 5 ∷ 128 ∷ 37 ∷ 0 ∷ 0 ∷ [])) 1631)) (25 ∷ [])
      ∷ calls (OfPanel bus.NextReport) []
      ∷ calls (OfPanel (bus.Begin 0 1632)) []
      ∷ calls (OfPanel (bus.Tick 2032)) []
      ∷ calls (Take 0 (asks 5 0 (97 ∷ 0 ∷ [])) 2033) []
      ∷ calls (Next 0) (26 ∷ [])
      ∷ calls (OfPanel (bus.OnBytes (answers 5 0 (69 ∷ 1 ∷ 2 ∷ 3 ∷ 4 ∷ 5 ∷ 6 ∷ 0 ∷ 0 ∷ 0 ∷ 7 ∷ 8 ∷ 9 ∷ [])) 2035)) (27 ∷ [])
      ∷ calls (OfPanel bus.NextReport) []
      ∷ []

  -- Another COMSET is taken, and its answer is lost. It is told in doubt. The panel looks for the device where it may be.
  abbrev pub doubt : H → H → List (Step H)
  doubt handler other =
      calls (OfPanel (bus.Submit 0 (away 7))) []
      ∷ calls (OfPanel (bus.Tick 2036)) []
      ∷ calls (Take 0 (asks 5 1 (110 ∷ 7 ∷ 128 ∷ 37 ∷ 0 ∷ 0 ∷ [])) 2037) []
      ∷ calls (Next 0) (28 ∷ [])
      ∷ calls (OfPanel (bus.Tick 2236)) []
      ∷ calls (Take 0 (asks 5 1 (110 ∷ 7 ∷ 128 ∷ 37 ∷ 0 ∷ 0 ∷ [])) 2237) []
      ∷ calls (Next 0) (30 ∷ [])
      ∷ calls (OfPanel (bus.Tick 2436)) []
      ∷ calls (OfPanel bus.NextReport) []
      ∷ calls (OfPanel (bus.Retarget 0 7)) []
      ∷ calls (OfPanel (bus.Begin 0 2437)) []
      ∷ calls (OfPanel (bus.Tick 2837)) []
      ∷ calls (Take 0 (asks 7 0 (97 ∷ 0 ∷ [])) 2838) []
      ∷ calls (Next 0) (31 ∷ [])
      ∷ calls (OfPanel (bus.OnBytes (answers 7 0 (69 ∷ 1 ∷ 2 ∷ 3 ∷ 4 ∷ 5 ∷ 6 ∷ 0 ∷ 0 ∷ 0 ∷ 7 ∷ 8 ∷ 9 ∷ [])) 2840)) (32 ∷ [])
      ∷ calls (OfPanel bus.NextReport) []
      ∷ []

  -- The device is replaced by a spare of another model, at 9. Its session is lost, and the panel finds the spare there, which says who it is.
  abbrev pub elsewhere : H → H → List (Step H)
  elsewhere handler other =
      calls (NewDevice 0 (spare_at 9) handler four 20) []
      ∷ calls (OfPanel (bus.Tick 2890)) []
      ∷ calls (OfPanel (bus.Tick 3090)) []
      ∷ calls (OfPanel (bus.Tick 3290)) []
      ∷ calls (OfPanel bus.NextReport) []
      ∷ calls (OfPanel (bus.Retarget 0 9)) []
      ∷ calls (OfPanel (bus.Begin 0 3291)) []
      ∷ calls (OfPanel (bus.Tick 3691)) []
      ∷ calls (Take 0 (asks 9 0 (97 ∷ 0 ∷ [])) 3692) []
      ∷ calls (Next 0) (35 ∷ [])
      ∷ calls (OfPanel (bus.OnBytes (answers 9 0 (69 ∷ 1 ∷ 2 ∷ 3 ∷ 10 ∷ 1 ∷ 11 ∷ 0 ∷ 0 ∷ 0 ∷ 2 ∷ 0 ∷ 1 ∷ [])) 3694)) (36 ∷ [])
      ∷ calls (OfPanel bus.NextReport) []
      ∷ []

  -- An order is taken, and the panel loses power before its answer comes. The next session begins without it.
  abbrev pub panel_restart : H → H → List (Step H)
  panel_restart handler other =
      calls (OfPanel (bus.Submit 0 (Cap 0))) []
      ∷ calls (OfPanel (bus.Tick 3695)) []
      ∷ calls (Take 0 (asks 9 1 (98 ∷ 0 ∷ [])) 3696) []
      ∷ calls (Next 0) (37 ∷ [])
      ∷ calls (NewPanel twice (9 ∷ 4 ∷ 20 ∷ [])) []
      ∷ calls (OfPanel (bus.Begin 0 3700)) []
      ∷ calls (OfPanel (bus.Tick 4100)) []
      ∷ calls (Take 0 (asks 9 0 (97 ∷ 0 ∷ [])) 4101) []
      ∷ calls (Next 0) (39 ∷ [])
      ∷ calls (OfPanel (bus.OnBytes (answers 9 0 (69 ∷ 1 ∷ 2 ∷ 3 ∷ 10 ∷ 1 ∷ 11 ∷ 0 ∷ 0 ∷ 0 ∷ 2 ∷ 0 ∷ 1 ∷ [])) 4103)) (40 ∷ [])
      ∷ calls (OfPanel bus.NextReport) []
      ∷ calls (OfPanel (bus.OnSilence 4104)) []
      ∷ calls (TickDevice 0 4104) []
      ∷ calls (Pending 0) []
      ∷ []

  -- The panel opens a session with the reader of another make, and that reader answers an order. The devices hear it all, alone and in one burst with a packet of
  -- their own, and pass it over. In between an ordinary POLL of the panel is answered.
  abbrev pub strangers : H → H → List (Step H)
  strangers handler other =
      calls (OfPanel (bus.Begin 2 4110)) []
      ∷ calls (OfPanel (bus.Submit 2 (Cap 0))) []
      ∷ calls (OfPanel (bus.Tick 4510)) []
      ∷ calls (OfPanel bus.NextReport) []
      ∷ calls (Take 1 (asks 20 0 (97 ∷ 0 ∷ [])) 4511) []
      ∷ calls (Next 1) []
      ∷ calls (OfPanel (bus.OnBytes (answers 20 0 (69 ∷ 1 ∷ 2 ∷ 3 ∷ 4 ∷ 5 ∷ 6 ∷ 0 ∷ 0 ∷ 0 ∷ 7 ∷ 8 ∷ 9 ∷ [])) 4512)) []
      ∷ calls (OfPanel bus.NextReport) []
      ∷ calls (OfPanel (bus.Tick 4513)) []
      ∷ calls (Take 0 (asks 20 0 (97 ∷ 0 ∷ []) ++ answers 20 0 (64 ∷ []) ++ asks 9 1 (96 ∷ [])) 4514) []
      ∷ calls (Next 0) (41 ∷ [])
      ∷ calls (OfPanel (bus.OnBytes (asks 9 1 (96 ∷ []) ++ answers 9 1 (64 ∷ [])) 4516)) (41 ∷ 42 ∷ [])
      ∷ calls (OfPanel bus.NextReport) []
      ∷ calls (OfPanel (bus.Tick 4517)) []
      ∷ calls (OfPanel (bus.OnBytes (asks 20 1 (98 ∷ 0 ∷ []) ++ answers 20 1 (70 ∷ [])) 4520)) []
      ∷ calls (OfPanel bus.NextReport) []
      ∷ []

  -- A key is pressed at the spare, which tells it. Its answer is lost, so nobody reports the key. The device gives the key up, which may or may not have been
  -- heard: it lapses.
  abbrev pub lapse : H → H → List (Step H)
  lapse handler other =
      calls (SubmitEvent 0 key) []
      ∷ calls (OfPanel (bus.Tick 4566)) []
      ∷ calls (Take 0 (asks 9 2 (96 ∷ [])) 4567) []
      ∷ calls (Next 0) (43 ∷ [])
      ∷ calls (LapseEvent 0) []
      ∷ []

  -- At the end of the day the other device is replaced by a spare too, where it is.
  abbrev pub replaced : H → H → List (Step H)
  replaced handler other = calls (NewDevice 1 (spare_at 4) handler four 20) [] ∷ []

  -- all calls of the day
  abbrev pub long_day : H → H → List (Step H)
  long_day handler other =
      opening handler other
      ++ other_opening handler other
      ++ order handler other
      ++ busy handler other
      ++ lost handler other
      ++ restart handler other
      ++ again handler other
      ++ move handler other
      ++ doubt handler other
      ++ elsewhere handler other
      ++ panel_restart handler other
      ++ strangers handler other
      ++ lapse handler other
      ++ replaced handler other

  -- the events that wait at the first device, and whether the one in front was ever offered
  abbrev pub waits : InUse H → Option (List Event × Bool)
  waits l = option_map (λ (t : Station H). (t.reader.queue.events, t.reader.queue.ever_offered)) (site_at 0 l.stations)

  module _ (answer_of : H → Command → Answer) (after : H → Command → H) where
    -- the line after all of them
    abbrev pub line_at_night : H → H → InUse H
    line_at_night handler other = after_calls answer_of after (long_day handler other) (line_in_the_morning handler)

    -- .. and after so many of these calls
    abbrev pub line_after : ℕ → H → H → InUse H
    line_after count handler other = after_calls answer_of after (take count (long_day handler other)) (line_in_the_morning handler)

    -- All of these calls keep the premises, whatever the devices' handlers answer. What they come to: seven sessions have opened, six of the first entry.
    -- These commands were accepted for it and taken, and these settled and told in doubt. The key was told twice, and offered once more in the last
    -- session, where it lapsed.
    pub record LongDayKeeps (handler other : H) : Type 0 where
      pub up : IsSetUp (line_in_the_morning handler)
      pub keep : AllKeep answer_of after (long_day handler other) (line_in_the_morning handler)
      pub stand : All (λ (step : Step H). CanStand step.call) (long_day handler other)
      pub none_refused : NoneRefused (3 ∷ 4 ∷ 20 ∷ []) (new_bus twice)
      pub openings : map (λ (o : Opening). o.entry) (line_at_night handler other).openings ≡ 0 ∷ 0 ∷ 0 ∷ 0 ∷ 0 ∷ 1 ∷ 0 ∷ []
      pub addresses : map (λ (o : Opening). o.address) (line_at_night handler other).openings ≡ 9 ∷ 9 ∷ 7 ∷ 5 ∷ 3 ∷ 4 ∷ 3 ∷ []
      -- the spare is told by its own identity
      pub spare : (line_after 117 handler other).bus.devices.report ≡ Some (0, Opened (spare_at 9).id)
      -- the second CAP is taken back
      pub accepted : all_accepted answer_of after 0 (long_day handler other) (line_in_the_morning handler) ≡ Cap 0 ∷ Cap 0 ∷ away 5 ∷ away 7 ∷ Cap 0 ∷ []
      pub taken : all_taken answer_of after 0 (long_day handler other) (line_in_the_morning handler) ≡ Cap 0 ∷ away 5 ∷ away 7 ∷ Cap 0 ∷ []
      pub told : with_reports (reports_of 0 (all_told answer_of after (long_day handler other) (line_in_the_morning handler))) nothing_told ≡ record {
        settled =
            (Cap 0, PdCap (record { capabilities = record { items = [] } }))
            ∷ (away 5, Com (record { address = 5; baud_rate = 9600 }))
            ∷ [];
        in_doubt = away 7 ∷ [];
        reported = key ∷ key ∷ [];
      }
      -- the panel was made anew while a CAP was outstanding at the first entry
      pub cut_off : option_map (λ (d : Entry). outstanding_command d.controller.session.state) (device_of 0 (line_after 122 handler other).bus)
          ≡ Some (Some (Cap 0))
      -- the key was told in two sessions, and is marked the second time
      pub handed : all_handed answer_of after 0 (long_day handler other) (line_in_the_morning handler) ≡ (key, false) ∷ (key, true) ∷ []
      pub queued : all_queued answer_of after 0 (long_day handler other) (line_in_the_morning handler) ≡ key ∷ key ∷ key ∷ []
      -- two keys wait, of which the one that was never offered is taken back
      pub pressed : waits (line_after 59 handler other) ≡ Some (key ∷ key ∷ [], true)
      pub taken_back : waits (line_after 60 handler other) ≡ Some (key ∷ [], true)
      -- what has lapsed was offered, and waits no more
      pub offered : waits (line_after 152 handler other) ≡ Some (key ∷ [], true)
      pub lapsed : waits (line_at_night handler other) ≡ Some ([], false)
      -- what is said for the reader of another make, or by it, is not among this
      pub said : length (line_at_night handler other).said ≡ 45

    -- a call of that list that makes an end of an entry anew, after so many: what restarts cost speaks of the entry before it and after it
    pub record RestartHappens (count k : ℕ) (call : Call H) (handler other : H) : Type 0 where
      pub first : Station H
      pub before : Station H
      pub next : Station H
      pub entry : Entry
      pub next_entry : Entry
      pub at : site_at count (long_day handler other) ≡ Some (calls call [])
      pub happens : IsBeforeAndAfter answer_of after (line_in_the_morning handler) (take count (long_day handler other)) (calls call []) k first before next
          entry next_entry

    -- a device comes back where it is, and another model comes elsewhere, and in its place; and the panel
    pub record RestartsHappen (handler other : H) : Type 0 where
      pub in_place : RestartHappens 63 1 (NewDevice 1 (device_at 4) other four 20) handler other
      pub elsewhere : RestartHappens 106 0 (NewDevice 0 (spare_at 9) handler four 20) handler other
      pub replaced : RestartHappens 153 1 (NewDevice 1 (spare_at 4) handler four 20) handler other
      pub panel : RestartHappens 122 0 (NewPanel twice (9 ∷ 4 ∷ 20 ∷ [])) handler other
