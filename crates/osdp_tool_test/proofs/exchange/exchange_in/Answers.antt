use Rattle.osdp_tool_test.proofs.Common.{◌∷◌, [], IsWithin}
use Rattle.osdp_tool_test.proofs.Parts.{both_some, first_none, rest_none, exchange_parts}
use Rattle.osdp_tool_test.proofs.exchange.exchange_in.Goals as goal

pub returns-in_err-number : goal.returns-in_err-number
returns-in_err-number c = first_none _ _ _ _ _ _ _ _ _ (exchange_parts (IsWithin c.args.least c.args.most)) c.args.number.now (c.args.moment.now ∷ c.args.sent.now ∷ c.args.delay.now ∷ c.args.heard.now ∷ []) _ c.in_err-number.ensures c.from_residual.ensures

pub returns-in_err-moment : goal.returns-in_err-moment
returns-in_err-moment c = rest_none _ _ _ _ _ _ _ _ _ (exchange_parts (IsWithin c.args.least c.args.most)) c.args.number.now (c.args.moment.now ∷ c.args.sent.now ∷ c.args.delay.now ∷ c.args.heard.now ∷ []) _ c.in_err-moment.ensures c.from_residual-in_err-moment.ensures

pub returns : goal.returns
returns c = both_some _ _ _ _ _ _ _ _ _ (exchange_parts (IsWithin c.args.least c.args.most)) c.args.number.now (c.args.moment.now ∷ c.args.sent.now ∷ c.args.delay.now ∷ c.args.heard.now ∷ []) c.in_ok-number.number (c.in_ok-moment.moment, c.in_ok-moment.sent, c.in_ok-moment.delay, c.in_ok-moment.heard) c.in_ok-number.ensures c.in_ok-moment.ensures
