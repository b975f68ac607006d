use Rattle.osdp_site.proofs.Latest.{wants_the_latest}
use Rattle.osdp_site.proofs.laws.the_latest_is_wanted.Goals as goal

pub returns : goal.returns
returns c = wants_the_latest
