-- A list of calls with two entries that keeps the premises: a packet that is for another device, an order that is settled, a COMSET that is lost and
-- told in doubt, two retargets, and a second opening while that COMSET is unread.
use Rattle.std.specs.Prelude.{◌≡◌, ℕ, List, [], ◌∷◌, map, take}
use Rattle.osdp_msg.specs.declared.command.Command.{Command}
use Rattle.osdp_msg.specs.declared.command.Command.TheVariants.{Cap}
use Rattle.osdp_msg.specs.declared.reply.Reply.TheVariants.{PdCap}
use Rattle.osdp_bus.specs.declared.config.BusConfig.{BusConfig}
use Rattle.osdp_bus_laws.specs.Calls as bus
use Rattle.osdp_link_laws.specs.Reports.{Told, nothing_told, with_reports}
use Rattle.osdp_reader.specs.declared.handler.Answer.{Answer}
use Rattle.osdp_calls.specs.Calls.{Next, OfPanel, Step, Take, after_calls}
use Rattle.osdp_calls.specs.Lines.{InUse, Opening, bus_with}
use Rattle.osdp_calls.specs.Premises.{AllKeep, IsSetUp}
use Rattle.osdp_calls.specs.Told.{all_told, reports_of}
use Rattle.osdp_premises.specs.LongDay.{away, calls, station_at}
use Rattle.osdp_calls_instance.specs.Instance.{settings}

-- a bus with two entries, at addresses 0 and 1, whose controllers send each packet once
abbrev pub once : BusConfig
once = record settings { sends = 1 }

module _ {H : Type 0} where
  -- the line at set-up: a bus with both entries, and their devices
  abbrev pub two_set_up : H → InUse H
  two_set_up handler = record {
    bus = bus_with once (0 ∷ 1 ∷ []);
    stations = station_at 0 handler ∷ station_at 1 handler ∷ [];
    said = [];
    place = 0;
    openings = [];
  }

  -- A session of entry 0 opens. Both devices read its opening ID, and the one at address 1 passes it over. CAP is settled. COMSET goes out, nobody
  -- reads it, and it is told in doubt. The panel asks at the new address and goes back, and a second session opens, and then one of entry 1.
  abbrev pub two_calls : List (Step H)
  two_calls =
      calls (OfPanel (bus.Begin 0 0)) []
      ∷ calls (OfPanel (bus.Tick 400)) []
      ∷ calls (Take 0 (83 ∷ 0 ∷ 8 ∷ 0 ∷ 0 ∷ 97 ∷ 0 ∷ 68 ∷ []) 401) []
      ∷ calls (Next 0) (0 ∷ [])
      ∷ calls (Take 1 (83 ∷ 0 ∷ 8 ∷ 0 ∷ 0 ∷ 97 ∷ 0 ∷ 68 ∷ []) 401) []
      ∷ calls (Next 1) (0 ∷ [])
      ∷ calls (OfPanel (bus.OnBytes (83 ∷ 128 ∷ 19 ∷ 0 ∷ 0 ∷ 69 ∷ 1 ∷ 2 ∷ 3 ∷ 4 ∷ 5 ∷ 6 ∷ 0 ∷ 0 ∷ 0 ∷ 7 ∷ 8 ∷ 9 ∷ 168 ∷ []) 405)) (1 ∷ [])
      ∷ calls (OfPanel bus.NextReport) []
      ∷ calls (OfPanel (bus.Submit 0 (Cap 0))) []
      ∷ calls (OfPanel (bus.Tick 406)) []
      ∷ calls (Take 0 (83 ∷ 0 ∷ 8 ∷ 0 ∷ 1 ∷ 98 ∷ 0 ∷ 66 ∷ []) 407) []
      ∷ calls (Next 0) (2 ∷ [])
      ∷ calls (OfPanel (bus.OnBytes (83 ∷ 128 ∷ 7 ∷ 0 ∷ 1 ∷ 70 ∷ 223 ∷ []) 410)) (3 ∷ [])
      ∷ calls (OfPanel bus.NextReport) []
      ∷ calls (OfPanel (bus.Submit 0 (away 5))) []
      ∷ calls (OfPanel (bus.Tick 411)) []
      ∷ calls (OfPanel (bus.Tick 700)) []
      ∷ calls (OfPanel bus.NextReport) []
      ∷ calls (OfPanel (bus.Retarget 0 5)) []
      ∷ calls (OfPanel (bus.Retarget 0 0)) []
      ∷ calls (OfPanel (bus.Begin 0 701)) []
      ∷ calls (OfPanel (bus.Tick 1200)) []
      ∷ calls (Take 0 (83 ∷ 0 ∷ 8 ∷ 0 ∷ 0 ∷ 97 ∷ 0 ∷ 68 ∷ []) 1201) []
      ∷ calls (Next 0) (5 ∷ [])
      ∷ calls (OfPanel (bus.OnBytes (83 ∷ 128 ∷ 19 ∷ 0 ∷ 0 ∷ 69 ∷ 1 ∷ 2 ∷ 3 ∷ 4 ∷ 5 ∷ 6 ∷ 0 ∷ 0 ∷ 0 ∷ 7 ∷ 8 ∷ 9 ∷ 168 ∷ []) 1205)) (6 ∷ [])
      ∷ calls (OfPanel bus.NextReport) []
      ∷ calls (OfPanel (bus.Begin 1 1206)) []
      ∷ calls (OfPanel (bus.Tick 1700)) []
      ∷ calls (Take 1 (83 ∷ 1 ∷ 8 ∷ 0 ∷ 0 ∷ 97 ∷ 0 ∷ 67 ∷ []) 1701) []
      ∷ calls (Next 1) (7 ∷ [])
      ∷ calls (OfPanel (bus.OnBytes (83 ∷ 129 ∷ 19 ∷ 0 ∷ 0 ∷ 69 ∷ 1 ∷ 2 ∷ 3 ∷ 4 ∷ 5 ∷ 6 ∷ 0 ∷ 0 ∷ 0 ∷ 7 ∷ 8 ∷ 9 ∷ 167 ∷ []) 1705)) (8 ∷ [])
      ∷ []

  module _ (answer_of : H → Command → Answer) (after : H → Command → H) where
    -- the line after so many of them
    abbrev pub two_after : ℕ → H → InUse H
    two_after count handler = after_calls answer_of after (take count two_calls) (two_set_up handler)

    -- what the panel was told of entry 0 in so many of them
    abbrev pub two_told : ℕ → H → Told
    two_told count handler = with_reports (reports_of 0 (all_told answer_of after (take count two_calls) (two_set_up handler))) nothing_told

    -- They keep the premises, whatever the devices' handlers answer. Three sessions have opened, the second while the COMSET could still come. CAP was
    -- settled, and the COMSET told in doubt, before that; and nothing later.
    pub record TwoCallsKeep (handler : H) : Type 0 where
      pub up : IsSetUp (two_set_up handler)
      pub keep : AllKeep answer_of after two_calls (two_set_up handler)
      pub openings : map (λ (o : Opening). o.place) (two_after 31 handler).openings ≡ 7 ∷ 5 ∷ 0 ∷ []
      pub told : two_told 20 handler ≡ record { settled = (Cap 0, PdCap (record { capabilities = record { items = [] } })) ∷ []; in_doubt = away 5 ∷ []; reported = [] }
      pub no_more : two_told 31 handler ≡ two_told 20 handler
