-- Programs whose panel has its entries in an order of its own, with entries of others between ours, and some of ours left out: what they are promised of each of our
-- devices.
use Rattle.std.specs.Prelude.{◌≡◌, ℕ, All, List, ◌++◌, map, Some}
use Rattle.osdp_msg.specs.declared.command.Command.{Command}
use Rattle.osdp_bus.specs.Buses.{new_bus}
use Rattle.osdp_bus.specs.Settings.{IsBusConfig}
use Rattle.osdp_bus.specs.declared.config.BusConfig.{BusConfig}
use Rattle.osdp_bus.specs.declared.entry.Entry.{Entry}
use Rattle.osdp_reader.specs.declared.handler.Answer.{Answer}
use Rattle.osdp_ledger.specs.History.{AreAllowed, new_history, runs}
use Rattle.osdp_shared_line.specs.Line.{site_at}
use Rattle.osdp_calls.specs.Calls.{Step, held_by}
use Rattle.osdp_calls.specs.Ends.{CanStand}
use Rattle.osdp_calls.specs.Lines.{InUse, Station, bus_with}
use Rattle.osdp_calls.specs.Premises.{AllKeep}
use Rattle.osdp_calls.specs.Sayings.{NoneRefused}
use Rattle.osdp_calls_instance.specs.OwnCalls.{AllFit, DeviceKind, IsLineOf, OwnCall, PanelKind, Programs, after_each, all_calls}
use Rattle.osdp_calls_ledger.specs.Promises.{EntryHoldsOnce}
use Rattle.osdp_entry_numbers.specs.Including.{same_line, same_step}
use Rattle.osdp_entry_numbers.specs.OwnOrder.{AllOwnKeep, IsOwnSetUp, OwnLine, OwnStep, after_all_own, own_view}
use Rattle.osdp_entry_numbers.specs.Promises.{IsOfPanel, all_own_accepted, all_own_given_up, all_own_queued, own_steps_from}
use Rattle.osdp_programs_ledger.specs.Programs.{AreTheirCalls}

module _ {H : Type 0} (P : PanelKind H) (D : DeviceKind H) (answer_of : H → Command → Answer) (after : H → Command → H) where
  -- one of our devices, as its program has it at the end, and the entry of it that the panel's program has, by its own number: an idle one where it has none
  pub record OwnHoldsOnceAt (k : ℕ) (first : Station H) (w : Programs P D) (d : D.Program) (steps : List (OwnStep H)) (a : OwnLine H) : Type 0 where
    pub entry : Entry
    pub has : IsOfPanel k entry (record (after_all_own answer_of after steps a) { bus = P.bus w.panel })
    pub station : Station H
    pub held : held_by station ≡ D.held d
    pub allowed : AreAllowed (own_steps_from answer_of after k first steps a) new_history
    pub holds : EntryHoldsOnce (all_own_accepted answer_of after k steps a) (first.reader.queue.events ++ all_own_queued answer_of after k steps a)
        (all_own_given_up answer_of after k steps a) entry station (runs (own_steps_from answer_of after k first steps a) new_history)

  -- these steps are what such programs call, whichever places and numbers they have, from a line that is set up
  pub record AreOwnCalls (own : List (OwnCall P D)) (w : Programs P D) (a : OwnLine H) (steps : List (OwnStep H)) : Type 0 where
    pub fit : AllFit P D own w
    pub line : IsLineOf P D w (own_view a)
    pub calls : map (λ (step : OwnStep H). step.call) steps ≡ all_calls P D own w
    pub up : IsOwnSetUp a

  -- whatever they call, where these steps keep the premises that are asked as if our entries came first
  abbrev pub OwnProgramsHoldOnce : Type 0
  OwnProgramsHoldOnce = (own : List (OwnCall P D)) (w : Programs P D) (a : OwnLine H) (steps : List (OwnStep H)) → AreOwnCalls own w a steps
      → AllOwnKeep answer_of after steps a
      → (k : ℕ) (first : Station H) (d : D.Program) → site_at k a.line.stations ≡ Some first → site_at k (after_each P D own w).devices ≡ Some d
      → OwnHoldsOnceAt k first (after_each P D own w) d steps a

  -- What programs call that keeps the premises of any calls keeps these, where the panel's entries could be added as they stand.
  abbrev pub AnyProgramsKeep : Type 0
  AnyProgramsKeep = (own : List (OwnCall P D)) (w : Programs P D) (l : InUse H) (steps : List (Step H)) (config : BusConfig) (addresses : List ℕ)
      → AreTheirCalls P D answer_of after own w l steps → IsBusConfig config → l.bus ≡ bus_with config addresses → NoneRefused addresses (new_bus config)
      → All (λ (step : Step H). CanStand step.call) steps → AllKeep answer_of after steps l
      → AreOwnCalls own w (same_line l) (map same_step steps) × AllOwnKeep answer_of after (map same_step steps) (same_line l)
