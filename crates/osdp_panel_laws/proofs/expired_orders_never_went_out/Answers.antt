use Rattle.osdp_panel_laws.proofs.Expired.{expired_never_went_out}
use Rattle.osdp_panel_laws.proofs.expired_orders_never_went_out.Goals as goal

pub returns : goal.returns
returns c = expired_never_went_out
