use Rattle.osdp_tool_show.proofs.Common.{subst, append_known, inner_of, IsBeginning}
use Rattle.osdp_tool_show.proofs.Beginnings.{on_err, begun_write}
use Rattle.osdp_tool_show.proofs.report.Report.write_out.Goals as goal

pub returns-in_err-write_out-clause-stops : goal.returns-in_err-write_out-clause-stops
returns-in_err-write_out-clause-stops g c =
    let old = g.W.Write.contents (inner_of c.args.output.now) in
    let new = g.W.Write.contents (inner_of c.write_out.new.output) in
    on_err c.from_residual.result (subst (λ l. IsBeginning new (append_known old l)) c.as_bytes.ensures.value (begun_write old new c.as_bytes.result.now c.in_err-write_out.ensures.err))
