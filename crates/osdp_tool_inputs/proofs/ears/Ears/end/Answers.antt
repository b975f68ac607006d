use Rattle.osdp_tool_inputs.proofs.OneByOne.{on_each, table_text}
use Rattle.osdp_tool_inputs.proofs.ears.Ears.end.Goals as goal

pub returns-clause-shown : goal.returns-clause-shown
returns-clause-shown c = on_each c.push_table.result (table_text c.args.self.now.line _ _) c.push_table.ensures.hears
