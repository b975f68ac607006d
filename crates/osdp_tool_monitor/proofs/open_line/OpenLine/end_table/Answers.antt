use Rattle.osdp_tool_monitor.proofs.Common.{◌+◌, ◌*◌, ap, length, counted, Listening, on_ok}
use Rattle.osdp_tool_monitor.proofs.OpenRuns.{after_table_is, on_both}
use Rattle.osdp_tool_monitor.proofs.open_line.OpenLine.end_table.Goals as goal

pub returns-clause-hears : goal.returns-clause-hears
returns-clause-hears c =
    on_both c.end_table.result
    (λ tells heard text. after_table_is c.args.self.now c.end_table.new.self text (record { bytes = c.requires.bytes; goes_on = c.requires.goes_on; none = c.requires.none }) tells heard)
    c.end_table.ensures.tells c.end_table.ensures.heard

pub returns-clause-load : goal.returns-clause-load
returns-clause-load c =
    on_ok c.end_table.result (ap (λ (l : Listening). counted l.tally + 5 * length c.args.self.now.framer.bytes)) c.end_table.ensures.heard
