use Rattle.osdp_msg.proofs.TakenParts.{AreNumbers, itself, numbers_words, one_missing, one_whole}
use Rattle.osdp_msg.proofs.parsing.parse_numbers.Goals as goal

pub returns-in_err-numbers : goal.returns-in_err-numbers
returns-in_err-numbers g c =
    let numbers = AreNumbers g.row.N in
    one_missing numbers_words numbers numbers_words numbers (λ ns. ns) (λ ns. ns) (itself numbers_words numbers) _ _ _ c.in_err-numbers.ensures c.from_residual.ensures

pub returns : goal.returns
returns g c =
    let numbers = AreNumbers g.row.N in
    one_whole numbers_words numbers numbers_words numbers (λ ns. ns) (λ ns. ns) (itself numbers_words numbers) _ _ _ _ _ c.in_ok-numbers.ensures c.is_empty.ensures c.then_some.ensures
