-- What the laws of runs come to for their sessions.
use Rattle.std.proofs.Common.{◌≡◌, ◌++◌, ℕ, suc, List, ◌∷◌, Some, sym, subst, ◌∙◌}
use Rattle.std.specs.Prelude.{slice_get}
use Rattle.osdp_msg.specs.declared.command.Command.{Command}
use Rattle.osdp_reader.specs.declared.handler.Answer.{Answer}
use Rattle.osdp_bus.specs.declared.config.BusConfig.{BusConfig}
use Rattle.osdp_sim.specs.Account.{Account}
use Rattle.osdp_sim.specs.declared.config.SimConfig.{SimConfig}
use Rattle.osdp_sim.specs.declared.step.SimStep.{SimStep}
use Rattle.osdp_sim.specs.declared.step.SimStep.TheVariants.{Reopen}
use Rattle.osdp_sim_bus.specs.Runs as simulation
use Rattle.osdp_sim_bus.specs.State.{Given, accounts, set_up}
use Rattle.osdp_sim_bus_laws.specs.Accounts.{OfEach}
use Rattle.osdp_sim_bus_laws.specs.Begun as each_begun
use Rattle.osdp_sim_laws.specs.Accounts.{SessionsEndOnce}
use Rattle.osdp_sim_laws.specs.Begun as begun
use Rattle.osdp_sim_laws.specs.Begun.{AreBegun}
use Rattle.osdp_sim_ledger.specs.OneReader.{RunTellsLedger, steps_of_run}
use Rattle.osdp_sim_ledger.specs.SeveralReaders.{EachReaderKeepsLedger, steps_of_reader}
use Rattle.osdp_sim_ledger.specs.Telling.{TellsByLedger}
use Rattle.osdp_session.specs.Runs.{CameTo, TellsSessions}
use Rattle.osdp_session.specs.SeveralReaders as several

-- where sessions began, after what else is known of the steps before
began : (number : ℕ) (Was Is : List SimStep → Account → Type 0) (steps : List SimStep) (a : Account)
    → ((before later : List SimStep) → steps ≡ before ++ Reopen number ∷ later → (was : Account) → Was before was → Is before was)
    → AreBegun number Was steps a → AreBegun number Is steps a
began number Was Is steps a more is = record {
  count = is.count;
  first = is.first;
  each = λ before later same. let one = is.each before later same in (one.0, more before later same one.0 one.1, one.2);
}

one_account : {a b : Account} → Some a ≡ Some b → a ≡ b
one_account is = cc

module _ {H : Type 0} (answer_of : H → Command → Answer) (after : H → Command → H) where
  -- ---- one reader

  pub tells_sessions : (config : SimConfig) (handler : H) (steps : List SimStep) (a : Account)
      → TellsByLedger answer_of after config.reader handler a (steps_of_run answer_of after config handler steps)
      → ((before later : List SimStep) → steps ≡ before ++ later → RunTellsLedger answer_of after config handler before)
      → AreBegun 1 (begun.CameTo answer_of after config handler) steps a → SessionsEndOnce a
      → TellsSessions answer_of after config handler steps a
  tells_sessions config handler steps a ledger until sessions ends = record {
    ledger = ledger;
    begun = began 1 (begun.CameTo answer_of after config handler) (CameTo answer_of after config handler) steps a
        (λ before later same was came. record {
          came = came;
          ledger = subst (λ b. TellsByLedger answer_of after config.reader handler b (steps_of_run answer_of after config handler before)) (sym came.run)
              (until before (Reopen 1 ∷ later) same);
        })
        sessions;
    ends = ends;
  }

  -- ---- each of several readers

  module _ (config : BusConfig) (readers : List (Given H)) (steps : List SimStep) (told : List Account)
      (sessions : each_begun.EachIsBegun answer_of after config readers steps told) (rows : OfEach (λ k given a. SessionsEndOnce a) readers told) where
    -- its account is one, whichever law names it
    ends_of : (k : ℕ) (given : Given H) (a : Account) → slice_get readers k ≡ Some given → slice_get told k ≡ Some a → SessionsEndOnce a
    ends_of k given a at there = let mine = rows.each k given at in subst SessionsEndOnce (one_account (sym mine.1 ∙ there)) mine.2

    begun_of : (k : ℕ) (given : Given H) (a : Account) → slice_get readers k ≡ Some given → slice_get told k ≡ Some a
        → AreBegun (suc k) (each_begun.CameTo answer_of after config readers k given) steps a
    begun_of k given a at there =
        let mine = sessions k given at in
        subst (AreBegun (suc k) (each_begun.CameTo answer_of after config readers k given) steps) (one_account (sym mine.1 ∙ there)) mine.2

    pub each_tells : EachReaderKeepsLedger answer_of after config readers steps told
        → ((before later : List SimStep) → steps ≡ before ++ later
        → EachReaderKeepsLedger answer_of after config readers before (accounts (simulation.run answer_of after before (set_up config readers))))
        → OfEach (several.TellsSessions answer_of after config readers steps) readers told
    each_tells ledgers until = record {
      count = rows.count;
      each = λ k given at.
          let (a, there, ledger) = ledgers k given at in (
            a,
            there,
            record {
              ledger = ledger;
              begun = began (suc k) (each_begun.CameTo answer_of after config readers k given) (several.CameTo answer_of after config readers k given) steps a
                  (λ before later same was came. record {
                    came = came;
                    ledger = was_kept k given before was came.run (until before (Reopen (suc k) ∷ later) same k given at);
                  })
                  (begun_of k given a at there);
              ends = ends_of k given a at there;
            },
          );
    }
      where
        was_kept : (k : ℕ) (given : Given H) (before : List SimStep) (was : Account) → slice_get (accounts (simulation.run answer_of after before (set_up config readers))) k ≡ Some was
            → (b : Account) × (slice_get (accounts (simulation.run answer_of after before (set_up config readers))) k ≡ Some b)
            × TellsByLedger answer_of after given.0 given.2 b (steps_of_reader answer_of after k given config readers before)
            → TellsByLedger answer_of after given.0 given.2 was (steps_of_reader answer_of after k given config readers before)
        was_kept k given before was came (b, found, ledger) =
            subst (λ x. TellsByLedger answer_of after given.0 given.2 x (steps_of_reader answer_of after k given config readers before))
            (one_account (sym found ∙ came)) ledger
