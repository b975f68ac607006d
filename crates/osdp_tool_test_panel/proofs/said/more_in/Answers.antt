use Rattle.std.proofs.Common.{[], ◌∷◌, None, Some, refl}
use Rattle.osdp_tool_test_panel.proofs.Parts.{more_read}
use Rattle.osdp_tool_test_panel.proofs.said.more_in.Goals as goal

pub returns-in_err-delay : goal.returns-in_err-delay
returns-in_err-delay c = more_read (c.args.delay.now ∷ c.args.said.now ∷ []) None _ c.in_err-delay.ensures c.from_residual.ensures

pub returns : goal.returns
returns c = more_read (c.args.delay.now ∷ c.args.said.now ∷ []) (Some (c.in_ok-delay.delay, c.in_ok-delay.said)) _ c.in_ok-delay.ensures refl
