use Rattle.osdp_words.proofs.Common.{sym, ◌∙◌, false≢true}
use Rattle.osdp_words.proofs.Decimal.{none_read, number_read}
use Rattle.osdp_words.proofs.numbers.number_u64.Goals as goal

pub returns-then-has_sign_or_leading_zero : goal.returns-then-has_sign_or_leading_zero
returns-then-has_sign_or_leading_zero c = none_read c.args.word.now (rw c.as_bytes.ensures.value at (c.has_sign_or_leading_zero.ensures.0 c.if-has_sign_or_leading_zero.true))

pub returns : goal.returns
returns c = rw c.ok.ensures.value (number_read c.args.word.now c.parse.result (λ more. false≢true (sym c.if-has_sign_or_leading_zero.false ∙ c.has_sign_or_leading_zero.ensures.1 (rw c.as_bytes.ensures.value more))) c.parse.ensures.value.0)
