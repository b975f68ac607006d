use Rattle.osdp_tool_sim.proofs.Common.{◌∙◌, inner_of}
use Rattle.osdp_tool_sim.proofs.ReadWhole.{read_kept, read_past, read_some_more, read_to_end}
use Rattle.osdp_tool_sim.proofs.reading.read_all.Goals as goal

pub returns-in-Ok-AtEnd : goal.returns-in-Ok-AtEnd
returns-in-Ok-AtEnd g c = (
  read_to_end c.args.limit c.reads.left c.reads.bytes.items (g.R.Read.remaining (inner_of c.args.input.now)) (g.R.Read.remaining (inner_of c.reads.input))
      (g.R.Read.remaining (inner_of c.read_piece.new.input)) c.reads.invariant.has_read (rw c.in-Ok-AtEnd.field-0-is at c.in-Ok-AtEnd.ensures.read),
  c.in-Ok-AtEnd.ensures.failed ∙ c.reads.invariant.failed,
)

pub returns-in-Ok-PastLimit : goal.returns-in-Ok-PastLimit
returns-in-Ok-PastLimit g c = (
  read_past c.args.limit c.reads.left _ c.reads.bytes.items (g.R.Read.remaining (inner_of c.args.input.now)) (g.R.Read.remaining (inner_of c.reads.input))
      (g.R.Read.remaining (inner_of c.read_piece.new.input)) c.reads.invariant.has_read (rw c.in-Ok-PastLimit.field-0-is at c.in-Ok-PastLimit.ensures.read),
  c.in-Ok-PastLimit.ensures.failed ∙ c.reads.invariant.failed,
)

pub returns-in-Err : goal.returns-in-Err
returns-in-Err g c = (
  read_kept c.args.limit c.reads.left c.reads.bytes.items (g.R.Read.remaining (inner_of c.args.input.now)) (g.R.Read.remaining (inner_of c.reads.input))
      (g.R.Read.remaining (inner_of c.read_piece.new.input)) c.reads.invariant.has_read c.in-Err.ensures.kept,
  c.in-Err.ensures.failed,
)

pub returns-then-is_err : goal.returns-then-is_err
returns-then-is_err g c = (
  read_some_more c.args.limit c.reads.left c.in-Ok-Bytes.count c.read_piece.new.buffer c.reads.bytes.items
      (g.R.Read.remaining (inner_of c.args.input.now)) (g.R.Read.remaining (inner_of c.reads.input)) (g.R.Read.remaining (inner_of c.read_piece.new.input))
      c.reads.invariant.has_read (rw c.in-Ok-Bytes.field-0-is at c.in-Ok-Bytes.ensures.read),
  c.in-Ok-Bytes.ensures.failed ∙ c.reads.invariant.failed,
)
