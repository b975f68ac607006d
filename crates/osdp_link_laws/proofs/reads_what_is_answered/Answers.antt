use Rattle.osdp_link_laws.proofs.Common.{ap, meaning_by_reading, reply_code}
use Rattle.osdp_link_laws.proofs.Tables.{reply_read}
use Rattle.osdp_link_laws.proofs.reads_what_is_answered.Goals as goal

pub returns : goal.returns
returns c p number r fits =
    ap (meaning_by_reading (reply_code r))
    (reply_read c.reply_of_reads_the_table.ensures.values c.replies_fit_a_packet.ensures r fits)
