use Rattle.std.proofs.Common.{◌++◌, ap, ◌∙◌}
use Rattle.osdp_tool_inputs.specs.Echoes.{echoes_in, echoes_told, printed_by}
use Rattle.osdp_tool_inputs.proofs.heard.printed.Goals as goal

pub returns : goal.returns
unfolding printed_by
returns c =
    c.in_ok-push_echoes.ensures ∙ ap (λ n. c.in_ok-told.told.items ++ echoes_told c.args.json n) c.requires.echoes
    ∙ ap (λ t. t ++ echoes_told c.args.json (echoes_in c.args.text.now)) c.in_ok-told.ensures
