use Rattle.osdp_monitor_laws.proofs.ReaderLines.{accuses_no_reader}
use Rattle.osdp_monitor_laws.proofs.Saying.{reads_replies}
use Rattle.osdp_monitor_laws.proofs.accuses_no_reader.Goals as goal

pub returns : goal.returns
returns g c = accuses_no_reader g.H.Handler.answer_of g.H.Handler.after
    (reads_replies c.reply_of_reads_the_table.ensures.values c.replies_fit_a_packet.ensures)
