use Rattle.osdp_tool.proofs.Ordered.{read_back}
use Rattle.osdp_tool.proofs.laws.reads_back.Goals as goal

pub returns : goal.returns
returns c = read_back c.one_spelling.ensures c.reading_of_spelling.ensures
