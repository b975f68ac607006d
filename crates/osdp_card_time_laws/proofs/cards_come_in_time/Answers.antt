use Rattle.osdp_card_time_laws.proofs.Common.{new_bus, after_calls, always_well}
use Rattle.osdp_bus_order_laws.proofs.Flags.{always_flagged}
use Rattle.osdp_card_time_laws.proofs.Between.{come_as_answered, come_in_time}
use Rattle.osdp_card_time_laws.proofs.cards_come_in_time.Goals as goal

pub returns : goal.returns
returns c = record {
  turns = λ config calls is. come_in_time (after_calls calls (new_bus config)) (always_well config calls is) (always_flagged config calls is);
  answered = λ config calls is. come_as_answered (after_calls calls (new_bus config)) (always_well config calls is) (always_flagged config calls is);
}
