use Rattle.osdp_tool_show.proofs.Common.{refl, rules, inner_of, written_or_held, TookPart}
use Rattle.osdp_tool_show.proofs.Beginnings.{on_err}
use Rattle.osdp_tool_show.proofs.Pieces.{took_raw}
use Rattle.osdp_tool_show.proofs.AfterReads.{stops_written}
use Rattle.osdp_tool_show.proofs.Stopping.{stops_raw}
use Rattle.osdp_tool_show.proofs.capture.Capture.take_read.Goals as goal
use Rattle.osdp_tool_show.proofs.capture.Capture.take_read.Goals.{in-Raw+in_ok-take-in-Raw, in-Joined+in_ok-good-in-Joined}

pub returns-in_err-take-in-Raw-clause-stops : goal.returns-in_err-take-in-Raw-clause-stops
returns-in_err-take-in-Raw-clause-stops g c =
    on_err c.from_residual.result (stops_raw c.args.piece.now c.args.self.now (written_or_held (g.W.Write.contents (inner_of c.args.output.now)) c.args.self.now.report)
    (g.W.Write.contents (inner_of c.take.new.output)) c.in-Raw.is c.in_err-take-in-Raw.ensures.stops)

pub returns-in_err-write_out-clause-stops : goal.returns-in_err-write_out-clause-stops
returns-in_err-write_out-clause-stops g c =
    let joined = c.match-self in
    let before = written_or_held (g.W.Write.contents (inner_of c.args.output.now)) c.args.self.now.report in
    let middle = written_or_held (g.W.Write.contents (inner_of joined.output)) joined.self.report in
    let took : TookPart c.args.piece.now joined.good c.args.self.now joined.self before middle =
    elim joined.branch [
      | in-Raw+in_ok-take-in-Raw w ↦
          let raw = took_raw c.args.piece.now c.args.self.now (record c.args.self.now { framer = w.take.new.framer; report = w.take.new.report }) before
          (written_or_held (g.W.Write.contents (inner_of w.take.new.output)) w.take.new.report)
          w.in-Raw.is refl refl refl w.in_ok-take-in-Raw.ensures.took in
          search rules
      | in-Joined+in_ok-good-in-Joined w ↦ search rules
    ] in
    on_err c.from_residual-in_err-write_out.result
    (stops_written c.args.piece.now joined.good c.args.self.now joined.self before middle (g.W.Write.contents (inner_of c.write_out.new.output))
    took c.in_err-write_out.ensures.stops)
