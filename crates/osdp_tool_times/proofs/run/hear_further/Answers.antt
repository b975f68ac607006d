use Rattle.osdp_frame.specs.Items.{packets_in}
use Rattle.osdp_tool_times.proofs.Common.{ap, sym, ◌∙◌, drop_all}
use Rattle.osdp_tool_times.specs.Times.{all_further}
use Rattle.osdp_tool_times.proofs.Further.{further_nothing}
use Rattle.osdp_tool_times.proofs.run.hear_further.Goals as goal

pub returns-clause-heard : goal.returns-clause-heard
returns-clause-heard c =
    sym (ap (λ l. all_further (packets_in l) c.args.moment c.items.times.items) (drop_all c.items.at c.args.bytes.now c.items-test.false)
    ∙ further_nothing c.args.moment c.items.times.items) ∙ c.items.invariant.heard
