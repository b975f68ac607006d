-- A line, and beside it the queue of one of its readers.
use Rattle.std.specs.Prelude.{◌≡◌, ℕ, ◌+◌, ◌==◌, true, if◌then◌else◌, is_none, List, [], ◌∷◌, length, Option, Some, None, slice_get}
use Rattle.std.specs.Option.{option_map_or}
use Rattle.osdp_msg.specs.declared.command.Command.{Command}
use Rattle.osdp_msg.specs.declared.command.Command.TheVariants.{Poll}
use Rattle.osdp_msg.specs.declared.event.Event.{Event}
use Rattle.osdp_controller.specs.declared.report.Report.TheVariants as reports
use Rattle.osdp_controller_laws.specs.Commands.{asked_in}
use Rattle.osdp_bus.specs.Buses.{BusState, device_of}
use Rattle.osdp_bus.specs.Machine.{submit_refusal_at}
use Rattle.osdp_bus_laws.specs.Calls.{Call, Submit, after_call}
use Rattle.osdp_bus_laws.specs.Exchanges.{IsOutstandingAt}
use Rattle.osdp_bus_laws.specs.Fairness.{Begins}
use Rattle.osdp_reader.specs.Queue.{Queue, event_for, offering, queued, released}

-- what happens: a call of the bus, or the reader queues an event
pub data Step : Type 0 where
  Calls : Call → Step
  Queues : Event → Step

abbrev pub calls_of : List Step → List Call
calls_of [] = []
calls_of (Calls call ∷ steps) = call ∷ calls_of steps
calls_of (Queues event ∷ steps) = calls_of steps

-- the command that was submitted for the exchange of an entry: none for a POLL
abbrev pub asked_at : ℕ → BusState → Option Command
asked_at entry b = option_map_or (λ d. asked_in d.controller.session.state) (device_of entry b) None

-- a packet with the next number is taken: an offered front leaves, and a POLL offers the front then
abbrev pub taken : Option Command → Queue → Queue
taken None q = offering (event_for Poll (released q).events) (released q)
taken (Some command) q = offering None (released q)

-- an exchange of a POLL that offers the front ends by its answer alone, which tells the front; and none begins before what is told is taken
abbrev pub TellsItsOffer : Call → ℕ → Queue → BusState → Type 0
TellsItsOffer call entry q b = (event : Event) → IsOutstandingAt entry b → q.offered ≡ true → slice_get q.events 0 ≡ Some event
    → (Begins call entry b → ⊥)
    × ((IsOutstandingAt entry (after_call call b) → ⊥) → (after_call call b).devices.report ≡ Some (entry, reports.Event event))

-- nothing is lost, and the reader is never busy, refuses nothing and doesn't restart: it takes the packet of each exchange that begins, and what it offers is
-- told
abbrev pub Serves : ℕ → Queue → List Step → BusState → Type 0
Serves entry q [] b = Unit {0}
Serves entry q (Queues event ∷ steps) b = Serves entry (queued event q) steps b
Serves entry q (Calls call ∷ steps) b =
    TellsItsOffer call entry q b
    × (Begins call entry b → Serves entry (taken (asked_at entry (after_call call b)) q) steps (after_call call b))
    × ((Begins call entry b → ⊥) → Serves entry q steps (after_call call b))

-- how many orders of an entry wait, without the outstanding one, and how many are accepted in the calls
abbrev pub waiting_at : ℕ → BusState → ℕ
waiting_at entry b = option_map_or (λ d. length d.controller.waiting) (device_of entry b) 0

abbrev pub accepts : Call → ℕ → BusState → ℕ
accepts (Submit at command) entry b = if entry == at then (if is_none (submit_refusal_at at command b) then 1 else 0) else 0
accepts _ entry b = 0

abbrev pub accepted_in : ℕ → List Call → BusState → ℕ
accepted_in entry [] b = 0
accepted_in entry (call ∷ calls) b = accepts call entry b + accepted_in entry calls (after_call call b)
