use Rattle.osdp_card_time_laws.proofs.Common.{new_bus, after_calls, always_well}
use Rattle.osdp_bus_order_laws.proofs.Flags.{always_flagged}
use Rattle.osdp_card_time_laws.proofs.Between.{polls_come_between}
use Rattle.osdp_card_time_laws.proofs.polls_come_between_orders.Goals as goal

pub returns : goal.returns
returns c = λ config calls is. polls_come_between (after_calls calls (new_bus config)) (always_well config calls is) (always_flagged config calls is)
