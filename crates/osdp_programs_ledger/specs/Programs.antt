-- Programs that call the machines by calls of their own, as those for C, or lines of text: what they are promised is what the ledger of each entry says.
use Rattle.std.specs.Prelude.{◌≡◌, ℕ, List, ◌++◌, map, Some}
use Rattle.osdp_msg.specs.declared.command.Command.{Command}
use Rattle.osdp_bus.specs.Buses.{device_of}
use Rattle.osdp_bus.specs.declared.entry.Entry.{Entry}
use Rattle.osdp_reader.specs.declared.handler.Answer.{Answer}
use Rattle.osdp_ledger.specs.History.{AreAllowed, new_history, runs}
use Rattle.osdp_shared_line.specs.Line.{site_at}
use Rattle.osdp_calls.specs.Accepted.{all_accepted, all_queued}
use Rattle.osdp_calls.specs.Calls.{Step, held_by}
use Rattle.osdp_calls.specs.Lines.{InUse, Station}
use Rattle.osdp_calls.specs.Premises.{AllKeep, IsSetUp}
use Rattle.osdp_calls.specs.Programs.{AllKeepRule, first_notes}
use Rattle.osdp_calls_instance.specs.OwnCalls.{AllFit, DeviceKind, IsLineOf, OwnCall, PanelKind, Programs, after_each, all_calls}
use Rattle.osdp_calls_ledger.specs.GivenUp.{all_given_up}
use Rattle.osdp_calls_ledger.specs.Promises.{EntryHoldsOnce}
use Rattle.osdp_calls_ledger.specs.Steps.{steps_from}

module _ {H : Type 0} (P : PanelKind H) (D : DeviceKind H) (answer_of : H → Command → Answer) (after : H → Command → H) where
  -- an entry of the panel's program, with the device that its program has at the end: each step of its ledger, read off these calls, may happen where it
  -- does, and so the promises hold
  pub record HoldsOnceAt (k : ℕ) (first : Station H) (w : Programs P D) (d : D.Program) (steps : List (Step H)) (l : InUse H) : Type 0 where
    pub entry : Entry
    pub has : device_of k (P.bus w.panel) ≡ Some entry
    pub station : Station H
    pub held : held_by station ≡ D.held d
    pub allowed : AreAllowed (steps_from answer_of after k first steps l) new_history
    pub holds : EntryHoldsOnce (all_accepted answer_of after k steps l) (first.reader.queue.events ++ all_queued answer_of after k steps l)
        (all_given_up answer_of after k steps l) entry station (runs (steps_from answer_of after k first steps l) new_history)

  -- so it is of each entry that has a device at the end
  abbrev pub EachProgramHoldsOnce : List (OwnCall P D) → Programs P D → InUse H → List (Step H) → Type 0
  EachProgramHoldsOnce own w l steps = (k : ℕ) (first : Station H) (d : D.Program) → site_at k l.stations ≡ Some first
      → site_at k (after_each P D own w).devices ≡ Some d → HoldsOnceAt k first (after_each P D own w) d steps l

  -- these steps are what such programs call, whichever places they have, from a line that is set up
  pub record AreTheirCalls (own : List (OwnCall P D)) (w : Programs P D) (l : InUse H) (steps : List (Step H)) : Type 0 where
    pub fit : AllFit P D own w
    pub line : IsLineOf P D w l
    pub calls : map (λ (step : Step H). step.call) steps ≡ all_calls P D own w
    pub up : IsSetUp l

  -- whatever they call, where these steps keep the premises
  abbrev pub ProgramsHoldOnce : Type 0
  ProgramsHoldOnce = (own : List (OwnCall P D)) (w : Programs P D) (l : InUse H) (steps : List (Step H)) → AreTheirCalls own w l steps
      → AllKeep answer_of after steps l → EachProgramHoldsOnce own w l steps

  -- .. or the programs keep to the rule in place of that on addresses
  abbrev pub RuledProgramsHoldOnce : Type 0
  RuledProgramsHoldOnce = (own : List (OwnCall P D)) (w : Programs P D) (l : InUse H) (steps : List (Step H)) → AreTheirCalls own w l steps
      → AllKeepRule answer_of after steps l (first_notes l) → EachProgramHoldsOnce own w l steps
