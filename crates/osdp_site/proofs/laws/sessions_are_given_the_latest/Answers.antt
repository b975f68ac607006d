use Rattle.osdp_site.proofs.Given.{sessions_are_given_the_latest}
use Rattle.osdp_site.proofs.laws.sessions_are_given_the_latest.Goals as goal

pub returns : goal.returns
returns c = sessions_are_given_the_latest
