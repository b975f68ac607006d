use Rattle.osdp_script.proofs.InTurn.{read_in_turn}
use Rattle.osdp_script.proofs.laws.reads_in_turn.Goals as goal

pub returns : goal.returns
returns c = read_in_turn
