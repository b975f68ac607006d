use Rattle.osdp_controller_laws.proofs.OneCall.{keeps_settings}
use Rattle.osdp_controller_laws.proofs.settings_stay.Goals as goal

pub returns : goal.returns
returns c = keeps_settings
