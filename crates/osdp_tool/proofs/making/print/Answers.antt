use Rattle.osdp_tool.proofs.Common.{◌∙◌, inner_of, has_failed, texts}
use Rattle.osdp_tool.proofs.Printing.{line_written}
use Rattle.osdp_tool.proofs.making.print.Goals as goal

pub returns-in-Ok : goal.returns-in-Ok
returns-in-Ok g c =
    line_written (texts c.args.words.now) c.in-Some.order (g.W.Write.contents (inner_of c.args.output.now)) (g.W.Write.contents (inner_of c.write_out.new.output))
    c.as_bytes.result.now (has_failed c.args.output.now) (has_failed c.write_out.new.output) c.write_out.result (c.in-Some.ensures.value.1, c.in-Some.ensures.value.0) (c.as_bytes.ensures.value ∙ c.in-Ok.ensures)
    c.write_out.ensures.fault c.write_out.ensures.failed c.requires c.write_out.ensures.ok c.write_out.ensures.err
