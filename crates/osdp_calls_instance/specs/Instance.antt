-- A list of calls that keeps the premises: a packet that comes in two pieces, a COMSET that is lost, and a restart of each end.
use Rattle.std.specs.Prelude.{◌≡◌, ℕ, false, true, List, [], ◌∷◌, map, take, Some}
use Rattle.osdp_frame.specs.declared.check_kind.CheckKind.TheVariants.{Sum}
use Rattle.osdp_msg.specs.declared.command.Command.{Command}
use Rattle.osdp_bus.specs.Settings.{default_config}
use Rattle.osdp_bus.specs.declared.config.BusConfig.{BusConfig}
use Rattle.osdp_bus_laws.specs.Calls as bus
use Rattle.osdp_reader.specs.declared.handler.Answer.{Answer}
use Rattle.osdp_calls.specs.Calls.{NewDevice, NewPanel, Next, OfPanel, Step, Take, after_calls}
use Rattle.osdp_calls.specs.Lines.{Burst, InUse, bus_with}
use Rattle.osdp_controller.specs.declared.report.Report.TheVariants.{Opened}
use Rattle.osdp_calls.specs.Premises.{AllKeep, IsSetUp}
use Rattle.osdp_premises.specs.LongDay.{away, calls, device_at, four, station_at}

-- a bus with one entry, at address 0
abbrev pub settings : BusConfig
settings = default_config Sum four

module _ {H : Type 0} where
  -- the line at set-up: a bus with one entry, and its device
  abbrev pub set_up : H → InUse H
  set_up handler = record {
    bus = bus_with settings (0 ∷ []);
    stations = station_at 0 handler ∷ [];
    said = [];
    place = 0;
    openings = [];
  }

  -- a session is begun, its opening ID goes out and comes to the device in two pieces; the PDID comes back in two pieces; the report is taken;
  -- a COMSET goes out, and is lost; the device fails, and then the panel
  abbrev pub some_calls : H → List (Step H)
  some_calls handler =
      calls (OfPanel (bus.Begin 0 0)) []
      ∷ calls (OfPanel (bus.Tick 400)) []
      ∷ calls (Take 0 (83 ∷ 0 ∷ 8 ∷ 0 ∷ 0 ∷ []) 401) []
      ∷ calls (Next 0) []
      ∷ calls (Take 0 (97 ∷ 0 ∷ 68 ∷ []) 402) []
      ∷ calls (Next 0) (0 ∷ [])
      ∷ calls (OfPanel (bus.OnBytes (83 ∷ 128 ∷ 19 ∷ 0 ∷ 0 ∷ 69 ∷ 1 ∷ 2 ∷ 3 ∷ []) 405)) []
      ∷ calls (OfPanel (bus.OnBytes (4 ∷ 5 ∷ 6 ∷ 0 ∷ 0 ∷ 0 ∷ 7 ∷ 8 ∷ 9 ∷ 168 ∷ []) 406)) (1 ∷ [])
      ∷ calls (OfPanel bus.NextReport) []
      ∷ calls (OfPanel (bus.Submit 0 (away 5))) []
      ∷ calls (OfPanel (bus.Tick 407)) []
      ∷ calls (NewDevice 0 (device_at 0) handler four 20) []
      ∷ calls (NewPanel settings (0 ∷ [])) []
      ∷ []

  module _ (answer_of : H → Command → Answer) (after : H → Command → H) where
    -- the line after so many of them
    abbrev pub line_after : ℕ → H → InUse H
    line_after count handler = after_calls answer_of after (take count (some_calls handler)) (set_up handler)

    -- They keep the premises, whatever the device's handler answers. The ninth finds the report that the session has opened, and what was said
    -- by then and later is the opening ID, the PDID and the COMSET.
    pub record SomeCallsKeep (handler : H) : Type 0 where
      pub up : IsSetUp (set_up handler)
      pub keep : AllKeep answer_of after (some_calls handler) (set_up handler)
      pub opened : (line_after 8 handler).bus.devices.report ≡ Some (0, Opened (device_at 0).id)
      pub said : map (λ (b : Burst). b.by_panel) (line_after 13 handler).said ≡ true ∷ false ∷ true ∷ []
