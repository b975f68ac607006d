use Rattle.osdp_tool_show.proofs.Common.{inl, inr, [], ◌∷◌, inner_of, line_feed, written_or_held, TookPiece, EndsLine}
use Rattle.osdp_tool_show.proofs.Reports.{if_ok_map}
use Rattle.osdp_tool_show.proofs.Works.{ends_line}
use Rattle.osdp_tool_show.proofs.Beginnings.{on_err_map}
use Rattle.osdp_tool_show.proofs.Stopping.{stops_last_line}
use Rattle.osdp_tool_show.proofs.capture.Capture.end_last_line.Goals as goal

pub returns-in-Joined-clause-ends : goal.returns-in-Joined-clause-ends
returns-in-Joined-clause-ends g c =
    let before = written_or_held (g.W.Write.contents (inner_of c.args.output.now)) c.args.self.now.report in
    let after = written_or_held (g.W.Write.contents (inner_of c.end_line.new.output)) c.end_line.new.self.report in
    if_ok_map (λ good. TookPiece (line_feed ∷ []) good c.args.self.now c.end_line.new.self before after)
    (λ good. EndsLine good c.args.self.now c.end_line.new.self before after) c.end_line.result
    (λ good t. ends_line good c.args.self.now c.end_line.new.self before after (inl c.in-Joined.is) t) c.end_line.ensures.took

pub returns-in-Apart-clause-ends : goal.returns-in-Apart-clause-ends
returns-in-Apart-clause-ends g c =
    let before = written_or_held (g.W.Write.contents (inner_of c.args.output.now)) c.args.self.now.report in
    let after = written_or_held (g.W.Write.contents (inner_of c.end_line-in-Apart.new.output)) c.end_line-in-Apart.new.self.report in
    if_ok_map (λ good. TookPiece (line_feed ∷ []) good c.args.self.now c.end_line-in-Apart.new.self before after)
    (λ good. EndsLine good c.args.self.now c.end_line-in-Apart.new.self before after) c.end_line-in-Apart.result
    (λ good t. ends_line good c.args.self.now c.end_line-in-Apart.new.self before after (inr c.in-Apart.is) t) c.end_line-in-Apart.ensures.took

pub returns-in-Joined-clause-stops : goal.returns-in-Joined-clause-stops
returns-in-Joined-clause-stops g c =
    on_err_map c.end_line.result (stops_last_line c.args.self.now (written_or_held (g.W.Write.contents (inner_of c.args.output.now)) c.args.self.now.report)
    (g.W.Write.contents (inner_of c.end_line.new.output)) (inl c.in-Joined.is)) c.end_line.ensures.stops

pub returns-in-Apart-clause-stops : goal.returns-in-Apart-clause-stops
returns-in-Apart-clause-stops g c =
    on_err_map c.end_line-in-Apart.result (stops_last_line c.args.self.now (written_or_held (g.W.Write.contents (inner_of c.args.output.now)) c.args.self.now.report)
    (g.W.Write.contents (inner_of c.end_line-in-Apart.new.output)) (inr c.in-Apart.is)) c.end_line-in-Apart.ensures.stops
