use Rattle.osdp_tool_show.proofs.Common.{arith, refl, new_run, Report, written_or_held}
use Rattle.osdp_tool_show.proofs.Passed.{took_passed}
use Rattle.osdp_tool_show.proofs.Standing.{took_start}
use Rattle.osdp_tool_show.proofs.WholeItems.{settled_new}
use Rattle.osdp_tool_show.proofs.runs.pass_skipped.Goals as goal

pub returns-in-Full-clause-took : goal.returns-in-Full-clause-took
returns-in-Full-clause-took c = λ contents. took_start new_run c.args.report.now (written_or_held contents c.args.report.now) settled_new

pub returns-in-Filtered-clause-took : goal.returns-in-Filtered-clause-took
returns-in-Filtered-clause-took c = λ contents. took_start new_run c.args.report.now (written_or_held contents c.args.report.now) settled_new

pub returns-in-Refusals-clause-took : goal.returns-in-Refusals-clause-took
returns-in-Refusals-clause-took c = λ contents.
    let passed : Report = record { detail = c.args.report.now.detail; tally = c.pass.new.self; text = c.args.report.now.text } in
    took_passed c.args.bytes.now c.skipped_count-count.result c.args.report.now passed (written_or_held contents c.args.report.now)
    (λ k. omega (arith, c.type_inv.bytes k)) c.skipped_count-count.ensures.skipped c.in-Refusals.is refl c.pass.ensures
