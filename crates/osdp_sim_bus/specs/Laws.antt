-- What a schedule is to one of several readers.
use Rattle.std.specs.Prelude.{◌≡◌, ◌≢◌, ℕ, suc, false, List, [], ◌∷◌, length, option_map, slice_get}
use Rattle.osdp_frame.specs.Items.{packets_in}
use Rattle.osdp_frame.specs.Packet.{Packet}
use Rattle.osdp_msg.specs.declared.command.Command.{Command}
use Rattle.osdp_reader.specs.declared.handler.Answer.{Answer}
use Rattle.osdp_bus.specs.Buses.{has_report}
use Rattle.osdp_bus.specs.declared.config.BusConfig.{BusConfig}
use Rattle.osdp_sim.specs.Line.{handed}
use Rattle.osdp_sim.specs.declared.step.Move.{Move}
use Rattle.osdp_sim.specs.declared.step.SimStep.{SimStep}
use Rattle.osdp_sim.specs.declared.step.SimStep.TheVariants.{Issue, Queue, Busy, Wait, ToReader, ToController, Reopen}
use Rattle.osdp_sim_bus.specs.Runs.{run}
use Rattle.osdp_sim_bus.specs.State.{Given, LineState, ReaderSite, accounts, set_up}
use Rattle.osdp_sim_bus.specs.Steps.{after_step, site_hears}

-- the step names a reader, and not the one at this place
abbrev pub IsForAnother : ℕ → SimStep → Type 0
IsForAnother place (Issue number command) = number ≢ suc place
IsForAnother place (Queue number event) = number ≢ suc place
IsForAnother place (Busy number busy) = number ≢ suc place
IsForAnother place (Wait wait) = ⊥
IsForAnother place (ToReader move) = ⊥
IsForAnother place (ToController move) = ⊥
IsForAnother place (Reopen number) = number ≢ suc place

module _ {H : Type 0} (answer_of : H → Command → Answer) (after : H → Command → H) where
  -- a reader by itself hears these packets, one after the other
  abbrev pub site_hears_each : List Packet → ReaderSite H → ReaderSite H
  site_hears_each [] site = site
  site_hears_each (p ∷ packets) site = site_hears_each packets (site_hears answer_of after p site)

  -- whatever else is on the line, each reader hears what is handed over to the readers
  abbrev pub ReachesEach : Type 0
  ReachesEach = (s : LineState H) (move : Move) (place : ℕ)
      → slice_get (after_step answer_of after (ToReader move) s).sites place
      ≡ option_map (site_hears_each (packets_in (handed move s.to_readers))) (slice_get s.sites place)

  -- a step for one reader leaves the others, and their accounts, as they are
  abbrev pub LeavesTheOthers : Type 0
  LeavesTheOthers = (s : LineState H) (step : SimStep) (place : ℕ) → IsForAnother place step
      → slice_get (after_step answer_of after step s).sites place ≡ slice_get s.sites place

  -- no report waits between two steps
  abbrev pub TellsAtOnce : Type 0
  TellsAtOnce = (config : BusConfig) (readers : List (Given H)) (steps : List SimStep)
      → has_report (run answer_of after steps (set_up config readers)).bus ≡ false

  abbrev pub HasAnAccountEach : Type 0
  HasAnAccountEach = (config : BusConfig) (readers : List (Given H)) (steps : List SimStep)
      → length (accounts (run answer_of after steps (set_up config readers))) ≡ length readers
