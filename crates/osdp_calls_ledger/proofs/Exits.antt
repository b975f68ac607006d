-- Where nobody restarts, nothing is taken back and no event lapses, all that ends is told; and a device that loses no power throws nothing away.
use Rattle.osdp_calls_ledger.proofs.Common.{◌≢◌, ℕ, List, Command, Answer, Left, ThrownAway, new_history, runs, IsPlain, KeepsPower, PlainStepsEndTold, ThrowsNoneAway, each_all, each_map, each_of, Each, Call, NewDevice, NewPanel, OfPanel, Step, LapseEvent, WithdrawEvent, InUse, Station, KeepsHandler, steps_from}
use Rattle.std.specs.Prelude.{All}
use Rattle.osdp_bus_laws.specs.Calls as bus
use Rattle.osdp_ledger.specs.Ledger as ledger
use Rattle.osdp_calls.specs.Undisturbed.{IsOrdinaryOf, LeavesCommandsOf}
use Rattle.osdp_calls_ledger.specs.Undisturbed.{OrdinaryCallsEndTold}
use Rattle.osdp_calls_ledger.proofs.Allowing.{Allows, AllowsPanel, all_hold}

module _ {H : Type 0} (answer_of : H → Command → Answer) (after : H → Command → H) (k : ℕ) where
  -- ---- nobody restarts, nothing is taken back, and no event lapses

  abbrev AllowsPlain : Call H → Type 0
  AllowsPlain call = Allows IsPlain (λ step plain. plain) k answer_of after call

  ordinary_panel : (call : bus.Call) → LeavesCommandsOf k call → AllowsPanel IsPlain (λ step plain. plain) k call
  ordinary_panel (bus.Withdraw i) leaves = λ same order. leaves same
  ordinary_panel _ leaves = tt

  ordinary_allows : (call : Call H) → IsOrdinaryOf k call → AllowsPlain call
  ordinary_allows (OfPanel call) ordinary = ordinary_panel call ordinary
  ordinary_allows (WithdrawEvent i) ordinary = λ same card. ordinary same
  ordinary_allows (LapseEvent i) ordinary = λ same. absurd (ordinary same)
  ordinary_allows (NewDevice i config handler room gap) ordinary = λ same. ordinary same
  ordinary_allows (NewPanel config addresses) ordinary = absurd ordinary
  ordinary_allows _ ordinary = tt

  -- ---- the device loses no power

  power_so : (step : ledger.Step) → IsPlain step → KeepsPower step
  power_so ledger.RestartDevice plain = absurd plain
  power_so _ plain = tt

  power_panel : (call : bus.Call) → AllowsPanel KeepsPower power_so k call
  power_panel (bus.Withdraw i) = λ same order. tt
  power_panel _ = tt

  power_allows : (call : Call H) → KeepsHandler k call → Allows KeepsPower power_so k answer_of after call
  power_allows (OfPanel call) keeps = power_panel call
  power_allows (WithdrawEvent i) keeps = λ same card. tt
  power_allows (LapseEvent i) keeps = λ same card. (tt, tt)
  power_allows (NewDevice i config handler room gap) keeps = λ same. keeps same
  power_allows (NewPanel config addresses) keeps = λ on_wire. tt
  power_allows _ keeps = tt

  pub none_thrown : ThrowsNoneAway → (first : Station H) (steps : List (Step H)) (l : InUse H) → Each (λ (step : Step H). KeepsHandler k step.call) steps
      → All (λ (w : Left). w.why ≢ ThrownAway) (runs (steps_from answer_of after k first steps l) new_history).left
  none_thrown throws first steps l keep =
      let shown = steps_from answer_of after k first steps l in
      throws shown (each_all KeepsPower shown (all_hold KeepsPower power_so k answer_of after first steps l
      (each_map (λ (step : Step H). KeepsHandler k step.call) (λ (step : Step H). Allows KeepsPower power_so k answer_of after step.call)
      (λ step keeps. power_allows step.call keeps) steps keep)))

module _ {H : Type 0} (answer_of : H → Command → Answer) (after : H → Command → H) where
  pub ordinary_calls_end_told : PlainStepsEndTold → OrdinaryCallsEndTold answer_of after
  ordinary_calls_end_told told l steps k first ordinary =
      let shown = steps_from answer_of after k first steps l in
      told shown (each_all IsPlain shown (all_hold IsPlain (λ step plain. plain) k answer_of after first steps l
      (each_map (λ (step : Step H). IsOrdinaryOf k step.call) (λ (step : Step H). AllowsPlain answer_of after k step.call)
      (λ step is. ordinary_allows answer_of after k step.call is) steps (each_of (λ (step : Step H). IsOrdinaryOf k step.call) steps ordinary))))
