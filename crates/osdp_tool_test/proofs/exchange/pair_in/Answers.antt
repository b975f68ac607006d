use Rattle.std.proofs.Common.{◌∷◌, []}
use Rattle.osdp_tool_test.proofs.Parts.{both_some, first_none, rest_none, pair_parts}
use Rattle.osdp_tool_test.proofs.exchange.pair_in.Goals as goal

pub returns-in_err-sent : goal.returns-in_err-sent
returns-in_err-sent c = first_none _ _ _ _ _ _ _ _ _ pair_parts c.args.sent.now (c.args.delay.now ∷ c.args.heard.now ∷ []) _ c.in_err-sent.ensures c.from_residual.ensures

pub returns-in_err-delay : goal.returns-in_err-delay
returns-in_err-delay c = rest_none _ _ _ _ _ _ _ _ _ pair_parts c.args.sent.now (c.args.delay.now ∷ c.args.heard.now ∷ []) _ c.in_err-delay.ensures c.from_residual-in_err-delay.ensures

pub returns : goal.returns
returns c = both_some _ _ _ _ _ _ _ _ _ pair_parts c.args.sent.now (c.args.delay.now ∷ c.args.heard.now ∷ []) c.in_ok-sent.sent (c.in_ok-delay.delay, c.in_ok-delay.heard) c.in_ok-sent.ensures c.in_ok-delay.ensures
