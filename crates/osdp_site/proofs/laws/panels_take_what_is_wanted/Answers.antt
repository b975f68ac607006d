use Rattle.osdp_site.proofs.Submitting.{is_taken}
use Rattle.osdp_site.proofs.laws.panels_take_what_is_wanted.Goals as goal

pub returns : goal.returns
returns c = is_taken
