use Rattle.std.proofs.Common.{sym, ◌∙◌}
use Rattle.osdp_tool_captures.proofs.Marks.{handed}
use Rattle.osdp_tool_captures.proofs.mark.Unmarked.hand_on.Goals as goal

pub returns-clause-bytes : goal.returns-clause-bytes
returns-clause-bytes g c =
    handed c.args.self.now.is_begun c.args.self.now.held.items c.remove.new.self.items c.args.buf.now c.remove.result (g.R.Read.remaining c.args.self.now.inner)
    c.requires.begun c.requires.held (sym c.if-is_empty.false ∙ c.is_empty.ensures) c.remove.ensures.value c.remove.ensures.items
