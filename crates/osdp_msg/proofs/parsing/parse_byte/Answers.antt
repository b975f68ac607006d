use Rattle.std.proofs.Common.{◌^◌}
use Rattle.osdp_msg.proofs.TakenParts.{IsBelow, itself, number_words, one_missing, one_whole}
use Rattle.osdp_msg.proofs.parsing.parse_byte.Goals as goal

pub returns-in_err-number : goal.returns-in_err-number
returns-in_err-number c =
    one_missing number_words (IsBelow (2 ^ 8)) number_words (IsBelow (2 ^ 8)) (λ n. n) (λ n. n) (itself number_words (IsBelow (2 ^ 8))) _ _ _ c.in_err-number.ensures c.from_residual.ensures

pub returns : goal.returns
returns c =
    one_whole number_words (IsBelow (2 ^ 8)) number_words (IsBelow (2 ^ 8)) (λ n. n) (λ n. n) (itself number_words (IsBelow (2 ^ 8))) _ _ _ _ _ c.in_ok-number.ensures c.is_empty.ensures c.then_some.ensures
