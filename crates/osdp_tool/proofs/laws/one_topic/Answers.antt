use Rattle.osdp_tool.proofs.OneTopic.{one_topic}
use Rattle.osdp_tool.proofs.laws.one_topic.Goals as goal

pub returns : goal.returns
returns c = one_topic
