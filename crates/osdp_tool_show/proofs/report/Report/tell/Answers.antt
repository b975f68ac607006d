use Rattle.osdp_tool_show.proofs.Common.{refl, item_of, Report, inner_of, [], ◌∷◌, shown_lines, written_or_held}
use Rattle.osdp_tool_show.proofs.Reports.{tells_one, tells_kept, on_ok_both}
use Rattle.osdp_tool_show.proofs.Beginnings.{on_err_map, stops_all, stops_at_once}
use Rattle.osdp_tool_show.proofs.report.Report.tell.Goals as goal

pub returns-then-len-lt-GATHERED-clause-tells : goal.returns-then-len-lt-GATHERED-clause-tells
returns-then-len-lt-GATHERED-clause-tells g c =
    tells_one (g.W.Write.contents (inner_of c.args.output.now)) c.args.self.now
    (record { detail = c.args.self.now.detail; tally = c.tell.new.tally; text = c.tell.new.text }) (item_of c.args.item.now) refl
    c.in-Ok.ensures.tally c.in-Ok.ensures.line

pub returns-clause-tells : goal.returns-clause-tells
returns-clause-tells g c =
    let mid : Report = record { detail = c.args.self.now.detail; tally = c.tell.new.tally; text = c.tell.new.text } in
    on_ok_both c.write_out.result
    (λ kept same. tells_kept c.args.self.now mid c.write_out.new.self _ _ _ _
    (tells_one (g.W.Write.contents (inner_of c.args.output.now)) c.args.self.now mid (item_of c.args.item.now) refl c.in-Ok.ensures.tally c.in-Ok.ensures.line)
    kept same)
    c.write_out.ensures.same c.write_out.ensures.told

pub returns-in-Err-clause-stops : goal.returns-in-Err-clause-stops
returns-in-Err-clause-stops g c =
    stops_at_once (g.W.Write.contents (inner_of c.args.output.now)) c.args.self.now (shown_lines c.args.self.now.detail c.args.self.now.tally (item_of c.args.item.now ∷ []))

pub returns-clause-stops : goal.returns-clause-stops
returns-clause-stops g c =
    let contents = g.W.Write.contents (inner_of c.args.output.now) in
    let mid : Report = record { detail = c.args.self.now.detail; tally = c.tell.new.tally; text = c.tell.new.text } in
    let tells = tells_one contents c.args.self.now mid (item_of c.args.item.now) refl c.in-Ok.ensures.tally c.in-Ok.ensures.line in
    on_err_map c.write_out.result (stops_all (written_or_held contents c.args.self.now) (written_or_held contents mid) (g.W.Write.contents (inner_of c.write_out.new.output)) _ tells.lines)
    c.write_out.ensures.stops
