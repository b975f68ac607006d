use Rattle.osdp_card_time_laws.proofs.SlowCard.{card_between_is_reached}
use Rattle.osdp_card_time_laws.proofs.the_bound_among_orders_is_reached.Goals as goal

pub returns : goal.returns
returns c = card_between_is_reached
