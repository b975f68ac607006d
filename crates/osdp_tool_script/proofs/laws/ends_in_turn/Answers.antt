use Rattle.osdp_tool_script.proofs.InTurn.{ends_in_turn}
use Rattle.osdp_tool_script.proofs.Unread.{always_tells_unread}
use Rattle.osdp_tool_script.proofs.laws.ends_in_turn.Goals as goal

pub returns-clause-turn : goal.returns-clause-turn
returns-clause-turn c = ends_in_turn

pub returns-clause-unread : goal.returns-clause-unread
returns-clause-unread c = always_tells_unread
