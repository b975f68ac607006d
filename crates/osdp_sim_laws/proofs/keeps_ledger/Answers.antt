use Rattle.osdp_sim_laws.proofs.keeps_ledger.Goals as goal

pub returns : goal.returns
returns g c = record {
  keeps = c.link_keeps_ledger.ensures;
  holds = c.holds_by_ledger.ensures;
  tells = c.ledger_tells_moves.ensures;
  acts = c.acts_have_answers_of_one_handler.ensures;
  session = c.one_session_holds.ensures;
}
