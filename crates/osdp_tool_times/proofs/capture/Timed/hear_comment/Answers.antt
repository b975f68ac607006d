use Rattle.osdp_tool_times.specs.Captures.{heard_of}
use Rattle.osdp_tool_times.proofs.Comments.{after_comment, told_of_comment}
use Rattle.osdp_tool_times.proofs.capture.Timed.hear_comment.Goals as goal

pub returns-clause-told : goal.returns-clause-told
returns-clause-told c = told_of_comment (heard_of c.args.self.now) c.args.text.now

pub returns-clause-after : goal.returns-clause-after
returns-clause-after c =
    after_comment (heard_of c.args.self.now) c.args.text.now c.in_ok-comment_moment.field-0 c.moment_or-self.result c.moment_or-self.ensures c.in_ok-comment_moment.ensures
