-- What a call shows the programs of an entry and its device, as steps of their ledger: what the call answers and reports, the opening ID that
-- goes out, and what the device acts on. Commands, answers and events are the calls' own. Of the ledger places alone are read.
use Rattle.std.specs.Prelude.{ℕ, ◌==◌, if◌then◌else◌, is_some, List, [], ◌∷◌, ◌++◌, Option, Some, None, Result, Ok, Err}
use Rattle.osdp_frame.specs.Packet.{Packet}
use Rattle.osdp_msg.specs.declared.command.Command.{Command}
use Rattle.osdp_controller.specs.declared.report.Report.{Report}
use Rattle.osdp_bus.specs.Buses.{BusState, device_of}
use Rattle.osdp_bus.specs.Machine.{changed_unless, submit_refusal_at, withdrawal_at}
use Rattle.osdp_bus.specs.Ticking.{bus_ticks}
use Rattle.osdp_bus.specs.declared.entry.Entry.{Entry}
use Rattle.osdp_bus.specs.declared.fault.BusFault.{BusFault}
use Rattle.osdp_bus_laws.specs.Calls as bus
use Rattle.osdp_bus_laws.specs.Reports.{told_in}
use Rattle.osdp_device.specs.Telling.{items_of}
use Rattle.osdp_reader.specs.Queue.{in_doubt, lacks_room, never_offered}
use Rattle.osdp_reader.specs.State.{ReaderState}
use Rattle.osdp_reader.specs.declared.handler.Answer.{Answer}
use Rattle.osdp_ledger.specs.Ledger as ledger
use Rattle.osdp_ledger.specs.Ledger.{Ledger, RestartDevice, RestartPanel, new_ledger}
use Rattle.osdp_link_laws.specs.Link.{outstanding_command}
use Rattle.osdp_link_ledger.specs.Steps.{after_steps, gets, lapses_event, opens, queued_before, queues, submits, told, withdraws, withdraws_event}
use Rattle.osdp_shared_line.specs.Line.{site_at}
use Rattle.osdp_calls.specs.Calls.{Call, NewDevice, NewPanel, Next, OfPanel, Step, SubmitEvent, LapseEvent, WithdrawEvent, after_call, asked_at, first_answered, read_up_to}
use Rattle.osdp_calls.specs.Ends.{is_of_device}
use Rattle.osdp_calls.specs.Handing.{heard}
use Rattle.osdp_calls.specs.Lines.{InUse, Station}

-- ---- the panel's calls

-- what is told of this entry, report after report
abbrev pub reported : ℕ → List (ℕ × Report) → Ledger → List ledger.Step
reported k [] g = []
reported k (said ∷ more) g =
    let steps = if said.0 == k then told (Some said.1) g else [] in steps ++ reported k more (after_steps steps g)

-- the entry that is asked at a tick sends its opening ID
abbrev pub opening : ℕ → Option ℕ → Option Packet → Option Entry → List ledger.Step
opening k None sent o = []
opening k (Some entry) sent None = []
opening k (Some entry) sent (Some d) = if entry == k then opens d.controller.session.state sent else []

-- the command that `withdraw` gives back
abbrev pub given_back : Result (Option Command) BusFault → Option Command
given_back (Ok command) = command
given_back (Err fault) = None

-- what a call of the panel shows of this entry
abbrev pub panel_steps : ℕ → bus.Call → BusState → Ledger → List ledger.Step
panel_steps k (bus.Submit entry command) b g =
    if entry == k then changed_unless (submit_refusal_at entry command b) [] (submits None command g) else []
panel_steps k (bus.Withdraw entry) b g = if entry == k then withdraws (given_back (withdrawal_at entry b)) g else []
panel_steps k (bus.Tick now) b g =
    reported k (told_in (bus.Tick now) b) g ++ opening k (asked_at now b) (bus_ticks now b).sent (device_of k (heard (bus.Tick now) now b))
panel_steps k call b g = reported k (told_in call b) g

-- it loses power: the front was on the wire, or not
abbrev pub panel_restarts : Option Entry → List ledger.Step
panel_restarts None = []
panel_restarts (Some d) = RestartPanel (is_some (outstanding_command d.controller.session.state)) ∷ []

module _ {H : Type 0} (answer_of : H → Command → Answer) (after : H → Command → H) where
  -- ---- those of its device

  -- what it does with the packet that a `next` answers
  abbrev pub answered : Option Packet → ReaderState H → Ledger → List ledger.Step
  answered None r g = []
  answered (Some p) r g = gets answer_of after p r g

  -- what a call of this device shows
  abbrev pub device_steps : Call H → Station H → Ledger → List ledger.Step
  device_steps (SubmitEvent i event) t g = queues (lacks_room event t.reader.queue) event g
  device_steps (WithdrawEvent i) t g = withdraws_event (never_offered t.reader.queue) t.reader.queue.ever_offered g
  device_steps (LapseEvent i) t g = lapses_event (in_doubt t.reader.queue) g
  device_steps (Next i) t g = answered (first_answered t.reader (read_up_to t.reader (items_of t.line.held))) t.reader g
  device_steps (NewDevice i config handler room gap) t g = RestartDevice ∷ []
  device_steps _ t g = []

  -- .. of the device of a station, if there is one
  abbrev pub steps_at : Call H → Option (Station H) → Ledger → List ledger.Step
  steps_at call None g = []
  steps_at call (Some t) g = device_steps call t g

  -- ---- of any call, those of this entry

  -- a call shows of this entry what its end shows by it
  abbrev pub steps_of : ℕ → Call H → InUse H → Ledger → List ledger.Step
  steps_of k (OfPanel call) l g = panel_steps k call l.bus g
  steps_of k (NewPanel config addresses) l g = panel_restarts (device_of k l.bus)
  steps_of k call l g = if is_of_device k call then steps_at call (site_at k l.stations) g else []

  -- .. and a list of calls, in their order
  abbrev pub steps_along : ℕ → List (Step H) → InUse H → Ledger → List ledger.Step
  steps_along k [] l g = []
  steps_along k (step ∷ steps) l g =
      let now = steps_of k step.call l g in now ++ steps_along k steps (after_call answer_of after step.call step.places l) (after_steps now g)

  -- what waits in the device's queue at set-up was accepted before
  abbrev pub steps_from : ℕ → Station H → List (Step H) → InUse H → List ledger.Step
  steps_from k first steps l =
      let before = queued_before 0 first.reader.queue.events in before ++ steps_along k steps l (after_steps before new_ledger)
