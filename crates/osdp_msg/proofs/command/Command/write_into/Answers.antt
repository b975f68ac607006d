use Rattle.osdp_msg.proofs.Common.{ap, ◌∙◌, unwrap_or, Poll, command_kept}
use Rattle.osdp_msg.proofs.Keeping.{command_back}
use Rattle.osdp_msg.proofs.command.Command.write_into.Goals as goal

pub returns-clause-kept : goal.returns-clause-kept
returns-clause-kept c = ap command_kept c.spell.ensures.spelled ∙ ap (λ read. unwrap_or read Poll) (command_back c.args.self.now c.spell.ensures.fits)
