use Rattle.osdp_msg.proofs.Common.{ap, subst, [], ◌∷◌, ◌∙◌, unwrap_or, ReplyFits, reply_code, reply_data, event_kept}
use Rattle.osdp_msg.specs.declared.event.Event.TheVariants.{Inputs}
use Rattle.osdp_msg.proofs.Keeping.{event_back}
use Rattle.osdp_msg.proofs.event.Event.write_into.Goals as goal

pub returns-clause-kept : goal.returns-clause-kept
returns-clause-kept c =
    let told = c.reply.ensures in
    let spelled = c.write_into.ensures.spelled ∙ ap (λ r. reply_code r ∷ reply_data r) told in
    let back = event_back c.args.self.now (subst ReplyFits told c.write_into.ensures.fits) in
    ap event_kept spelled ∙ ap (λ read. unwrap_or read (Inputs (record { items = [] }))) back
