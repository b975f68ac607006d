-- A device that never changes is one whose site never does.
use Rattle.osdp_calls_ledger.proofs.Common.{subst, History, NobodyElseHears, EachMoveIsItsOwn, Command, Answer, ThrowsNoneAway, each_of, first_net, first_site, Step, KeepsHandler}
use Rattle.osdp_link_ledger.specs.Answers.{HasAnswersOf}
use Rattle.osdp_line_ledger.specs.Devices.{EachActsByOneHandler}
use Rattle.osdp_calls_ledger.specs.OneDevice.{OneDeviceHoldsOnce}
use Rattle.osdp_calls_ledger.proofs.Exits.{none_thrown}
use Rattle.osdp_calls_ledger.proofs.Keeping.{entry_moves, switches_on}

-- what it acted on is what the device of its site did
pub one_device : {H : Type 0} (answer_of : H → Command → Answer) (after : H → Command → H) → EachMoveIsItsOwn answer_of after → NobodyElseHears answer_of after
    → EachActsByOneHandler answer_of after → ThrowsNoneAway → OneDeviceHoldsOnce answer_of after
one_device {H} answer_of after own nobody acts throws l steps up keep k first is same =
    let x = entry_moves answer_of after own nobody l steps up keep k first is in (
      subst (λ (h : History). HasAnswersOf answer_of after first.reader.config first.reader.handler h) (switches_on answer_of after steps l k first x)
          (acts (first_net x.config l.stations) x.moves k (first_site x.config first) (x.keeps_device same)),
      none_thrown answer_of after k throws first steps l (each_of (λ (step : Step H). KeepsHandler k step.call) steps same),
    )
