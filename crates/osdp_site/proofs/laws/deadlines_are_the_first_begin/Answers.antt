use Rattle.osdp_site.proofs.Begins.{first_begin}
use Rattle.osdp_site.proofs.laws.deadlines_are_the_first_begin.Goals as goal

pub returns : goal.returns
returns c = first_begin
