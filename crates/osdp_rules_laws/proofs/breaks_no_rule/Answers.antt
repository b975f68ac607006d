use Rattle.osdp_rules_laws.proofs.Own.{breaks_no_rule}
use Rattle.osdp_rules_laws.proofs.Reading.{reads_replies}
use Rattle.osdp_rules_laws.proofs.breaks_no_rule.Goals as goal

pub returns : goal.returns
returns g c = breaks_no_rule g.H.Handler.answer_of g.H.Handler.after
    (reads_replies c.reply_of_reads_the_table.ensures.values c.replies_fit_a_packet.ensures)
