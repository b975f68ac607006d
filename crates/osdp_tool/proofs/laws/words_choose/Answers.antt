use Rattle.osdp_tool.proofs.Choosing.{all_choose}
use Rattle.osdp_tool.proofs.laws.words_choose.Goals as goal

pub returns : goal.returns
returns c = all_choose
