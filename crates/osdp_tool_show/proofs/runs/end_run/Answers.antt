use Rattle.osdp_tool_show.proofs.Common.{rules, ◌≡◌, length, refl, inner_of, after_gap, Report, written_or_held, Drained}
use Rattle.osdp_tool_show.proofs.Standing.{ended_run, run_end_stops}
use Rattle.osdp_tool_show.proofs.Beginnings.{on_err}
use Rattle.osdp_tool_show.proofs.WholeItems.{drained_none}
use Rattle.osdp_tool_show.proofs.runs.end_run.Goals as goal
use Rattle.osdp_tool_show.proofs.runs.end_run.Goals.{then-not-is_empty+in_ok-drain, else-not-is_empty}

pub returns-clause-ended : goal.returns-clause-ended
returns-clause-ended g c =
    let joined = c.if-not-is_empty in
    let before = written_or_held (g.W.Write.contents (inner_of c.args.output.now)) c.args.report.now in
    let last : Report = record { detail = joined.report.detail; tally = c.end_run.new.self; text = joined.report.text } in
    let drained : Drained (after_gap c.args.framer.now) joined.framer c.args.report.now joined.report before
    (written_or_held (g.W.Write.contents (inner_of joined.output)) joined.report) =
    elim joined.branch [
      | then-not-is_empty+in_ok-drain w ↦ search rules
      | else-not-is_empty w ↦
          let none : length c.args.framer.now.bytes ≡ 0 = search rules in
          let kept = drained_none c.args.framer.now c.args.report.now before c.requires.settled none in
          search rules
    ] in
    ended_run c.args.framer.now joined.framer c.args.report.now joined.report last before
    (written_or_held (g.W.Write.contents (inner_of joined.output)) last) c.requires.settled drained refl c.end_run.ensures

pub returns-in_err-drain-clause-stops : goal.returns-in_err-drain-clause-stops
returns-in_err-drain-clause-stops g c =
    on_err c.from_residual.result (run_end_stops c.args.framer.now c.args.report.now (written_or_held (g.W.Write.contents (inner_of c.args.output.now)) c.args.report.now)
    (g.W.Write.contents (inner_of c.drain.new.output)) (search rules))
