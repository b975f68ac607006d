use Rattle.osdp_sim_laws.proofs.Common.{refl, spelling}
use Rattle.osdp_sim_laws.proofs.stands_on_one_link.Goals as goal

pub returns : goal.returns
returns g c = record {
  reads = record {
    one = λ p packet. c.reads_packets.ensures.one p (spelling p) ((c.one_spelling.ensures p (spelling p)).1 (packet, refl));
    none = c.reads_packets.ensures.none;
  };
  ledger = c.keeps_ledger.ensures;
  causes = c.refuses_no_number.ensures.never;
  told = c.endings_are_told.ensures;
}
