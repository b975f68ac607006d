-- The steps of a schedule for several readers.
use Rattle.std.specs.Prelude.{ℕ, ◌-◌, ◌==◌, nat_le, Bool, true, false, not, ◌&&◌, All, List, [], ◌∷◌, ◌++◌, length, map, Option, Some, None, IfSome, slice_get, slice_set, if◌then◌else◌}
use Rattle.std.specs.List.{flat_map}
use Rattle.std.specs.Option.{option_map_or}
use Rattle.osdp_frame.specs.Items.{packets_in}
use Rattle.osdp_frame.specs.Bytes.{AreBytes}
use Rattle.osdp_frame.specs.Packet.{IsPacket, Packet}
use Rattle.osdp_msg.specs.CommandTable.{CommandFits}
use Rattle.osdp_msg.specs.Events.{EventFits}
use Rattle.osdp_msg.specs.declared.command.Command.{Command}
use Rattle.osdp_msg.specs.declared.event.Event.{Event}
use Rattle.osdp_controller.specs.States.{is_closed}
use Rattle.osdp_controller.specs.declared.report.Report.{Report}
use Rattle.osdp_reader.specs.State as readers
use Rattle.osdp_reader.specs.Table as reader
use Rattle.osdp_reader.specs.declared.handler.Answer.{Answer}
use Rattle.osdp_reader.specs.Queue.{lacks_room}
use Rattle.osdp_bus.specs.Buses.{BusState, device_of}
use Rattle.osdp_bus.specs.Hearing.{after_bytes, after_silence}
use Rattle.osdp_bus.specs.Machine.{after_begin_at, after_next_report, after_submit_at, submit_refusal_at}
use Rattle.osdp_bus.specs.Ticking.{BusTicked, bus_ticks}
use Rattle.osdp_bus.specs.declared.fault.BusFault.{BusFault}
use Rattle.osdp_sim.specs.Account.{taken_by, with_issued, with_queued, with_report, with_session, with_taken}
use Rattle.osdp_sim.specs.Line.{handed, left, sent}
use Rattle.osdp_sim.specs.Steps.{SaysFit, fault_by, moment_after}
use Rattle.osdp_sim.specs.declared.fault.Cause.{Cause}
use Rattle.osdp_sim.specs.declared.step.Move.{Move}
use Rattle.osdp_sim.specs.declared.step.Move.TheVariants.{Damage}
use Rattle.osdp_sim.specs.declared.step.SimStep.{SimStep}
use Rattle.osdp_sim.specs.declared.step.SimStep.TheVariants.{Issue, Queue, Busy, Wait, ToReader, ToController, Reopen}
use Rattle.osdp_sim_bus.specs.State.{LineState, ReaderSite}

-- damage is bytes
abbrev pub DamageIsBytes : Move → Type 0
DamageIsBytes (Damage bytes) = AreBytes bytes.items
DamageIsBytes _ = Unit {0}

-- a run of bytes comes to the bus, which then sees the line silent; no bytes are no run
abbrev pub hears_run : List ℕ → ℕ → BusState → BusState
hears_run [] now b = b
hears_run (byte ∷ bytes) now b = after_silence now (after_bytes (byte ∷ bytes) now b)

-- the session of an entry is there, and has ended
abbrev pub is_ended : ℕ → BusState → Bool
is_ended entry b = option_map_or (λ d. is_closed d.controller.session.state) (device_of entry b) false

module _ {H : Type 0} where
  -- readers count from 1
  abbrev pub is_there : ℕ → LineState H → Bool
  is_there number s = nat_le 1 number && nat_le number (length s.sites)

  -- a step for a reader: by its place, which counts from 0
  abbrev pub where_there : ℕ → (ℕ → LineState H) → LineState H → LineState H
  where_there number change s = if is_there number s then change (number - 1) else s

  abbrev pub changed_site : ℕ → (ReaderSite H → ReaderSite H) → List (ReaderSite H) → List (ReaderSite H)
  changed_site place change sites = option_map_or (λ site. slice_set sites place (change site)) (slice_get sites place) sites

  abbrev pub changes_site : ℕ → (ReaderSite H → ReaderSite H) → LineState H → LineState H
  changes_site place change s = record s { sites = changed_site place change s.sites }

  -- ---- one reader

  abbrev pub site_issues : Command → ReaderSite H → ReaderSite H
  site_issues command site = record site { account = with_issued command site.account }

  abbrev pub site_queues_unless : Bool → Event → ReaderSite H → ReaderSite H
  site_queues_unless true event site = site
  site_queues_unless false event site =
      record { reader = readers.after_submit event site.reader; account = with_queued event site.account }

  abbrev pub site_queues : Event → ReaderSite H → ReaderSite H
  site_queues event site =
      site_queues_unless (lacks_room event site.reader.queue) event site

  abbrev pub site_is_busy : Bool → ReaderSite H → ReaderSite H
  site_is_busy busy site = record site { reader = readers.after_set_busy busy site.reader }

  abbrev pub site_is_told : Report → ReaderSite H → ReaderSite H
  site_is_told report site = record site { account = with_report (Some report) site.account }

  abbrev pub site_begins : ReaderSite H → ReaderSite H
  site_begins site = record site { account = with_session site.account }

  -- ---- the line

  -- a command that the bus refuses is in no account
  abbrev pub issued : Option BusFault → ℕ → Command → LineState H → LineState H
  issued (Some fault) place command s = s
  issued None place command s =
      changes_site place (site_issues command) (record s { bus = after_submit_at place command s.bus })

  -- the report that waits, if any, is told to the account of its entry's reader
  abbrev pub report_told : Option (ℕ × Report) → LineState H → LineState H
  report_told None s = s
  report_told (Some (entry, report)) s = changes_site entry (site_is_told report) s

  abbrev pub takes_report : LineState H → LineState H
  takes_report s = report_told s.bus.devices.report (record s { bus = after_next_report s.bus })

  -- a tick of the bus at this moment
  abbrev pub ticked : BusTicked → ℕ → LineState H → LineState H
  ticked t now s = record s { bus = t.bus; to_readers = s.to_readers ++ sent t.sent; clock = now }

  abbrev pub waited : ℕ → LineState H → LineState H
  waited now s = ticked (bus_ticks now s.bus) now s

  -- the session of an entry begins again
  abbrev pub reopened : ℕ → LineState H → LineState H
  reopened place s =
      changes_site place site_begins (record s { bus = after_begin_at place s.clock s.bus })

  -- nothing is on the line, and the session of this entry has ended
  abbrev pub is_quiet : ℕ → LineState H → Bool
  is_quiet place s = length s.to_readers == 0 && length s.to_bus == 0 && is_ended place s.bus

  -- there is a reader with this number, and its session may not begin again yet
  abbrev pub refuses_reopen : ℕ → LineState H → Bool
  refuses_reopen number s = is_there number s && not (is_quiet (number - 1) s)

  -- why a step is refused
  abbrev pub fault_of : SimStep → LineState H → Option Cause
  fault_of = fault_by refuses_reopen

  module _ (answer_of : H → Command → Answer) (after : H → Command → H) where
    -- a reader hears a packet ..
    abbrev pub site_hears : Packet → ReaderSite H → ReaderSite H
    site_hears p site =
        let outcome = reader.hears answer_of after site.reader p in
        record {
          reader = outcome.reader;
          account = with_taken (taken_by (reader.kind_of site.reader p) outcome.command) site.account;
        }

    -- .. and answers it, or doesn't
    abbrev pub site_says : Packet → ReaderSite H → List (List ℕ)
    site_says p site = sent (reader.hears answer_of after site.reader p).reply

    -- all readers hear a packet, in their order, and what each of them answers goes out
    abbrev pub all_hear : Packet → LineState H → LineState H
    all_hear p s = record s {
      sites = map (site_hears p) s.sites;
      to_bus = s.to_bus ++ flat_map (site_says p) s.sites;
    }

    -- .. these packets, one after the other
    abbrev pub all_hear_each : List Packet → LineState H → LineState H
    all_hear_each [] s = s
    all_hear_each (p ∷ packets) s = all_hear_each packets (all_hear p s)

    -- what a step does. Only time and what comes to the bus make it report, and that is told at once
    abbrev pub after_step : SimStep → LineState H → LineState H
    after_step (Issue number command) s =
        where_there number (λ place. issued (submit_refusal_at place command s.bus) place command s) s
    after_step (Queue number event) s = where_there number (λ place. changes_site place (site_queues event) s) s
    after_step (Busy number busy) s = where_there number (λ place. changes_site place (site_is_busy busy) s) s
    after_step (Wait wait) s = takes_report (waited (moment_after wait s.clock) s)
    after_step (ToReader move) s =
        all_hear_each (packets_in (handed move s.to_readers)) (record s { to_readers = left move s.to_readers })
    after_step (ToController move) s =
        takes_report (record s {
          bus = hears_run (handed move s.to_bus) s.clock s.bus;
          to_bus = left move s.to_bus;
        })
    after_step (Reopen number) s = where_there number (λ place. reopened place s) s

    -- what both ends make sure of: what goes over the line has its fields in their ranges
    abbrev pub StepFits : SimStep → LineState H → Type 0
    StepFits (Issue number command) s = CommandFits command
    StepFits (Queue number event) s = EventFits event
    StepFits (Busy number busy) s = Unit {0}
    StepFits (Wait wait) s = IfSome (bus_ticks (moment_after wait s.clock) s.bus).sent IsPacket
    StepFits (ToReader move) s =
        All (λ (site : ReaderSite H). SaysFit answer_of after (packets_in (handed move s.to_readers)) site.reader) s.sites
    StepFits (ToController move) s = DamageIsBytes move
    StepFits (Reopen number) s = Unit {0}
