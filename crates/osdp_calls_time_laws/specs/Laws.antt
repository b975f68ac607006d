-- Where each packet is read in time, sessions open on a quiet line.
use Rattle.std.specs.Prelude.{ℕ, List, map}
use Rattle.osdp_msg.specs.declared.command.Command.{Command}
use Rattle.osdp_reader.specs.declared.handler.Answer.{Answer}
use Rattle.osdp_calls.specs.Calls.{Step}
use Rattle.osdp_calls.specs.Lines.{InUse}
use Rattle.osdp_calls.specs.Premises.{AllKeep, IsSetUp}
use Rattle.osdp_calls.specs.Programs.{first_notes}
use Rattle.osdp_calls_ledger.specs.Promises.{EachHoldsOnce}
use Rattle.osdp_calls_time_laws.specs.Moments.{AllKeepElse, AllKeepRuleElse, AllTimely, Timed, WaitsTwice, clock_at}

module _ {H : Type 0} where
  -- the calls without their moments
  abbrev pub steps_of : List (Timed H) → List (Step H)
  steps_of ts = map (λ (t : Timed H). t.step) ts

  module _ (answer_of : H → Command → Answer) (after : H → Command → H) where
    -- each opening is quiet
    abbrev pub TimelyCallsOpenQuietly : Type 0
    TimelyCallsOpenQuietly = (w start : ℕ) (l : InUse H) (ts : List (Timed H)) → IsSetUp l → WaitsTwice w l.bus.config
        → AllTimely answer_of after w ts (clock_at start) l → AllKeepElse answer_of after ts l → AllKeep answer_of after (steps_of ts) l

    -- so what the programs of each entry are promised holds
    abbrev pub TimelyLedgerHoldsOnce : Type 0
    TimelyLedgerHoldsOnce = (w start : ℕ) (l : InUse H) (ts : List (Timed H)) → IsSetUp l → WaitsTwice w l.bus.config
        → AllTimely answer_of after w ts (clock_at start) l → AllKeepElse answer_of after ts l → EachHoldsOnce answer_of after l (steps_of ts)

    -- .. and where programs keep to the rule
    abbrev pub TimelyRuledHoldsOnce : Type 0
    TimelyRuledHoldsOnce = (w start : ℕ) (l : InUse H) (ts : List (Timed H)) → IsSetUp l → WaitsTwice w l.bus.config
        → AllTimely answer_of after w ts (clock_at start) l → AllKeepRuleElse answer_of after ts l (first_notes l) → EachHoldsOnce answer_of after l (steps_of ts)
