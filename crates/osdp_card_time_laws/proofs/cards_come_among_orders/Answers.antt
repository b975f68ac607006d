use Rattle.osdp_card_time_laws.proofs.Common.{new_bus, after_calls, always_well}
use Rattle.osdp_card_time_laws.proofs.Among.{cards_among_orders}
use Rattle.osdp_card_time_laws.proofs.cards_come_among_orders.Goals as goal

pub returns : goal.returns
returns c = λ config calls is. cards_among_orders (after_calls calls (new_bus config)) (always_well config calls is)
