use Rattle.osdp_site.proofs.Acting.{all_begin_anew}
use Rattle.osdp_site.proofs.Beginning.{begins_so}
use Rattle.osdp_site.proofs.laws.sessions_take_back_what_waits.Goals as goal

pub returns : goal.returns
returns c = record { begins = begins_so; all = all_begin_anew }
