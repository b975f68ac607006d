use Rattle.osdp_sim_bus_laws.proofs.Common.{refl, arith, spelling, first_net}
use Rattle.osdp_sim_bus_laws.proofs.Beginning.{follows_first, is_set_up, nothing_is_kept}
use Rattle.osdp_sim_bus_laws.proofs.Telling.{schedules_are_moves}
use Rattle.osdp_sim_bus_laws.proofs.Stepping.{steps_are_moves}
use Rattle.osdp_sim_bus_laws.proofs.schedules_are_moves.Goals as goal

pub returns-clause-bus : goal.returns-clause-bus
returns-clause-bus g c = record {
  calls = c.calls_are_moves.ensures;
  suffices = c.bus_suffices.ensures;
  reads = record {
    one = λ p packet. c.reads_packets.ensures.one p (spelling p) ((c.one_spelling.ensures p (spelling p)).1 (packet, refl));
    none = c.reads_packets.ensures.none;
  };
  spells = λ p packet. c.spelling_of_bytes.ensures p (spelling p) ((c.one_spelling.ensures p (spelling p)).1 (packet, refl));
  no_bytes = λ place. omega arith;
}

pub returns-clause-steps : goal.returns-clause-steps
returns-clause-steps g c = steps_are_moves g.H.Handler.answer_of g.H.Handler.after (returns-clause-bus g c)

pub returns-clause-schedules : goal.returns-clause-schedules
returns-clause-schedules g c =
    schedules_are_moves g.H.Handler.answer_of g.H.Handler.after (returns-clause-bus g c) (returns-clause-steps g c)
    (record { peers = c.read_each_other.ensures; device = c.name_one_device.ensures.device; told = c.name_one_device.ensures.told })
    c.each_move_is_its_own.ensures c.nobody_else_hears.ensures.hears c.each_is_a_link.ensures c.refuses_no_number.ensures.packets

pub returns-clause-set_up : goal.returns-clause-set_up
returns-clause-set_up g c config readers settings =
    (first_net config readers, is_set_up config readers settings, nothing_is_kept config readers, follows_first config readers)
