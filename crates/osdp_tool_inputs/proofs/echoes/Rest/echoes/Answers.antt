use Rattle.osdp_tool_inputs.proofs.Echoing.{no_more_echoes}
use Rattle.osdp_tool_inputs.proofs.echoes.Rest.echoes.Goals as goal

pub returns : goal.returns
returns c = no_more_echoes c.args.self.now c.requires
