use Rattle.osdp_sim_bus.proofs.Common.{◌≡◌, All, take, HasPlace, sites_of}
use Rattle.osdp_sim_bus.proofs.line.grow_all.Given as goal

abbrev pub invariant-loop-site : goal.invariant-loop-site
invariant-loop-site g l = record {
  same : sites_of l.sites ≡ sites_of l.initial.sites;
  places : All HasPlace (take l.site-index l.sites);
}
