use Rattle.osdp_site.proofs.Latest.{says_of_one}
use Rattle.osdp_site.proofs.laws.states_are_of_one_thing.Goals as goal

pub returns : goal.returns
returns c = says_of_one
