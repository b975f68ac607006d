use Rattle.osdp_tool_show.proofs.Common.{string_bytes, end_line, inner_of, Report, written_or_held}
use Rattle.osdp_tool_show.proofs.Reports.{grown}
use Rattle.osdp_tool_show.proofs.Beginnings.{on_err_map, stops_all, stops_at_once}
use Rattle.osdp_tool_show.proofs.report.Report.end.Goals as goal

pub returns-in-Err-clause-stops : goal.returns-in-Err-clause-stops
returns-in-Err-clause-stops g c =
    stops_at_once (g.W.Write.contents (inner_of c.args.output.now)) c.args.self.now (end_line c.args.self.now.detail c.args.self.now.tally)

pub returns-clause-stops : goal.returns-clause-stops
returns-clause-stops g c =
    let contents = g.W.Write.contents (inner_of c.args.output.now) in
    let mid : Report = record { detail = c.args.self.now.detail; tally = c.args.self.now.tally; text = c.push_end.new.text } in
    on_err_map c.write_out.result (stops_all (written_or_held contents c.args.self.now) (written_or_held contents mid) (g.W.Write.contents (inner_of c.write_out.new.output)) _
    (grown contents (string_bytes c.args.self.now.text) (string_bytes c.push_end.new.text) _ c.in-Ok.ensures))
    c.write_out.ensures.stops
