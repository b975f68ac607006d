use Rattle.osdp_line_calls.proofs.Until.{never_reads}
use Rattle.osdp_line_calls.proofs.panel_call.parse_until.Goals as goal

pub returns-in-never : goal.returns-in-never
returns-in-never c = never_reads c.args.word.now c.in-never.is
