use Rattle.osdp_msg.proofs.Common.{ap, ◌∙◌, unwrap_or, Ack, reply_kept}
use Rattle.osdp_msg.proofs.Keeping.{reply_back}
use Rattle.osdp_msg.proofs.reply.Reply.write_into.Goals as goal

pub returns-clause-kept : goal.returns-clause-kept
returns-clause-kept c = ap reply_kept c.spell.ensures.spelled ∙ ap (λ read. unwrap_or read Ack) (reply_back c.args.self.now c.spell.ensures.fits)
