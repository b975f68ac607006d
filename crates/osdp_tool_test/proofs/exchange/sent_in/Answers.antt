use Rattle.std.proofs.Common.{◌∷◌, []}
use Rattle.osdp_tool_test.proofs.Parts.{both_some, first_none, rest_none, sent_parts}
use Rattle.osdp_tool_test.proofs.exchange.sent_in.Goals as goal

pub returns-in_err-moment : goal.returns-in_err-moment
returns-in_err-moment c = first_none _ _ _ _ _ _ _ _ _ sent_parts c.args.moment.now (c.args.sent.now ∷ c.args.delay.now ∷ c.args.heard.now ∷ []) _ c.in_err-moment.ensures c.from_residual.ensures

pub returns-in_err-sent : goal.returns-in_err-sent
returns-in_err-sent c = rest_none _ _ _ _ _ _ _ _ _ sent_parts c.args.moment.now (c.args.sent.now ∷ c.args.delay.now ∷ c.args.heard.now ∷ []) _ c.in_err-sent.ensures c.from_residual-in_err-sent.ensures

pub returns : goal.returns
returns c = both_some _ _ _ _ _ _ _ _ _ sent_parts c.args.moment.now (c.args.sent.now ∷ c.args.delay.now ∷ c.args.heard.now ∷ []) c.in_ok-moment.moment (c.in_ok-sent.sent, c.in_ok-sent.delay, c.in_ok-sent.heard) c.in_ok-moment.ensures c.in_ok-sent.ensures
