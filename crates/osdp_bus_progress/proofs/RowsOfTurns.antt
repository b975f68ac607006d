-- Whose round each is, and what it brings: the laws of rounds over a bus, at these numbers.
use Rattle.osdp_bus_progress.proofs.Common.{ap, refl, suc, length, arith, EachHasItsRound, EachIsIdle, EachRoundBringsOneMore, handler_after, handler_answer, bus, readers}
use Rattle.osdp_bus_progress.specs.RowsOfTurns.{ItsSecondRoundSettles, OneOfTwoIsItsRound, both_issued}

pub one_of_two : EachHasItsRound handler_answer handler_after → OneOfTwoIsItsRound
one_of_two turns a are lasts = turns bus readers both_issued 2 400 0 a are lasts

pub second_round : EachIsIdle handler_answer handler_after → EachRoundBringsOneMore handler_answer handler_after → ItsSecondRoundSettles
second_round idle more r m old new are few had own at lasts issued queued =
    let brought = more bus readers both_issued r m 400 0 old new are refl few had own at lasts in (
      λ none. omega (arith, brought, none, ap length issued, ap length queued),
      idle bus readers both_issued r (suc m) 400 0 new are (omega (arith, few)) had lasts,
    )
