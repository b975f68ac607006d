use Rattle.osdp_sim_bus.proofs.Common.{◌≡◌, ◌++◌, length, map, into_iter_items, into_iter_len, sites_of, new_site}
use Rattle.osdp_sim_bus.proofs.Adding.{HaveBegun}
use Rattle.osdp_sim_bus.proofs.run.add_all.Given as goal

-- the readers so far, and those that are left
abbrev pub invariant-loop-config : goal.invariant-loop-config
invariant-loop-config g l = record {
  bus : HaveBegun l.fn.bus.config (into_iter_items l.initial.config-iterator) (into_iter_items l.config-iterator) l.bus;
  sites : sites_of l.sites.items ++ map new_site (into_iter_items l.config-iterator) ≡ map new_site (into_iter_items l.initial.config-iterator);
  count : into_iter_len l.config-iterator ≡ length (into_iter_items l.config-iterator);
}
