use Rattle.osdp_script.proofs.ReadBack.{read_back}
use Rattle.osdp_script.proofs.meaning.scripts_are_read_back.Goals as goal

pub returns : goal.returns
returns c = read_back
