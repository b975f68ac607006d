use Rattle.osdp_tool_show.proofs.Common.{rules, ◌∙◌, inner_of, has_failed}
use Rattle.osdp_tool_show.proofs.Works.{part_at_bad_line, part_in_piece, part_past_limit, read_bad, read_end, read_more, read_past, read_stops, stopped, works_at_bad_line, works_at_end, works_past_limit}
use Rattle.osdp_tool_show.proofs.capture.Capture.read.Goals as goal

pub returns-in-Ok-AtEnd : goal.returns-in-Ok-AtEnd
returns-in-Ok-AtEnd g c = λ detail form start f.
    let read = read_end c.args.limit c.reads.left c.args.self.now c.reads.self _ _ _ _ _ c.reads.invariant.has_read (rw c.in-Ok-AtEnd.field-0-is at c.in-Ok-AtEnd.ensures.read) in
    works_at_end detail form c.args.limit start _ _ _ _ _ _ (has_failed c.reads.output) _ c.args.self.now c.reads.self c.answer.result
    read (c.in-Ok-AtEnd.ensures.failed ∙ c.reads.invariant.input ∙ c.requires.input) (c.reads.invariant.unfailed ∙ c.requires.output) c.answer.ensures f

pub returns-in-Ok-PastLimit : goal.returns-in-Ok-PastLimit
returns-in-Ok-PastLimit g c = λ detail form start f.
    let read = read_past c.args.limit c.reads.left _ c.args.self.now c.reads.self _ _ _ _ _ c.reads.invariant.has_read (rw c.in-Ok-PastLimit.field-0-is at c.in-Ok-PastLimit.ensures.read) in
    works_past_limit detail form c.args.limit start _ _ _ _ _ _ _ c.args.self.now c.reads.self read
    (c.in-Ok-PastLimit.ensures.failed ∙ c.reads.invariant.input ∙ c.requires.input)
    (c.in_ok-write_out-in-Ok-PastLimit.ensures.step ∙ c.reads.invariant.unfailed ∙ c.requires.output)
    c.in_ok-write_out-in-Ok-PastLimit.ensures.written f

pub returns-in_err-write_out-in-Ok-PastLimit : goal.returns-in_err-write_out-in-Ok-PastLimit
returns-in_err-write_out-in-Ok-PastLimit g c = λ detail form start f.
    let read = read_past c.args.limit c.reads.left _ c.args.self.now c.reads.self _ _ _ _ _ c.reads.invariant.has_read (rw c.in-Ok-PastLimit.field-0-is at c.in-Ok-PastLimit.ensures.read) in
    stopped detail form c.args.limit start _ _ _ _ (has_failed c.reads.output) _ c.from_residual.result c.in_err-write_out-in-Ok-PastLimit.field-0.0
    c.from_residual.ensures.1 c.in_err-write_out-in-Ok-PastLimit.ensures.step (c.in-Ok-PastLimit.ensures.failed ∙ c.reads.invariant.input ∙ c.requires.input)
    (part_past_limit detail form c.args.limit start _ _ _ _ _ _ _ c.args.self.now c.reads.self read c.in_err-write_out-in-Ok-PastLimit.ensures.stops f)

pub returns-in_err-take_read : goal.returns-in_err-take_read
returns-in_err-take_read g c = λ detail form start f.
    let read = read_stops c.args.limit c.reads.left c.in-Ok-Bytes.count c.read_piece.new.buffer c.args.self.now c.reads.self _ _ _ _ _
    (g.W.Write.contents (inner_of c.take_read.new.output)) (rw c.in-Ok-Bytes.field-0-is at c.in-Ok-Bytes.ensures.read) c.reads.invariant.has_read
    c.in_err-take_read.ensures.stops in
    stopped detail form c.args.limit start _ _ _ _ (has_failed c.reads.output) _ c.from_residual-in_err-take_read.result c.in_err-take_read.field-0.0
    c.from_residual-in_err-take_read.ensures.1 c.in_err-take_read.ensures.step (c.in-Ok-Bytes.ensures.failed ∙ c.reads.invariant.input ∙ c.requires.input)
    (part_in_piece detail form c.args.limit start _ _ _ _ _ _ c.args.self.now read f)

pub returns-then-not-branch : goal.returns-then-not-branch
returns-then-not-branch g c = λ detail form start f.
    works_at_bad_line detail form c.args.limit start _ _ _ _ _ _ _ c.args.self.now c.take_read.new.self c.close.new.self
    (read_bad c.args.limit c.reads.left c.in-Ok-Bytes.count c.read_piece.new.buffer c.args.self.now c.reads.self c.take_read.new.self _ _ _ _ _ _ _
    c.if-not-branch.true (c.read_piece.auto.buffer ∙ search rules) (rw c.in-Ok-Bytes.field-0-is at c.in-Ok-Bytes.ensures.read) c.reads.invariant.has_read
    c.in_ok-take_read.ensures.took)
    (c.in-Ok-Bytes.ensures.failed ∙ c.reads.invariant.input ∙ c.requires.input)
    (c.in_ok-close.ensures.step ∙ c.in_ok-take_read.ensures.step ∙ c.reads.invariant.unfailed ∙ c.requires.output) c.in_ok-close.ensures.closed f

pub returns-in_err-close : goal.returns-in_err-close
returns-in_err-close g c = λ detail form start f.
    stopped detail form c.args.limit start _ _ _ _ (has_failed c.take_read.new.output) _ c.from_residual-in_err-close.result c.in_err-close.field-0.0
    c.from_residual-in_err-close.ensures.1 c.in_err-close.ensures.step (c.in-Ok-Bytes.ensures.failed ∙ c.reads.invariant.input ∙ c.requires.input)
    (part_at_bad_line detail form c.args.limit start _ _ _ _ _ _ _ c.args.self.now c.take_read.new.self
    (read_bad c.args.limit c.reads.left c.in-Ok-Bytes.count c.read_piece.new.buffer c.args.self.now c.reads.self c.take_read.new.self _ _ _ _ _ _ _
    c.if-not-branch.true (c.read_piece.auto.buffer ∙ search rules) (rw c.in-Ok-Bytes.field-0-is at c.in-Ok-Bytes.ensures.read)
    c.reads.invariant.has_read c.in_ok-take_read.ensures.took)
    c.in_err-close.ensures.stops f)

pub reads-preserved : goal.reads-preserved
reads-preserved g c = record {
  has_read = read_more c.args.limit c.reads.left c.in-Ok-Bytes.count c.read_piece.new.buffer c.args.self.now c.reads.self c.take_read.new.self _ _ _ _ _ _ _
      c.if-not-branch.false (rw c.in-Ok-Bytes.field-0-is at c.in-Ok-Bytes.ensures.read) c.reads.invariant.has_read c.in_ok-take_read.ensures.took;
  unfailed = c.in_ok-take_read.ensures.step ∙ c.reads.invariant.unfailed;
  input = c.in-Ok-Bytes.ensures.failed ∙ c.reads.invariant.input;
}
