use Rattle.osdp_sim_bus.proofs.Common.{◌≡◌, ◌≤◌, ◌+◌, ◌++◌, length, vec_capacity, into_iter_items, into_iter_len, lists_of_all}
use Rattle.osdp_sim_bus.proofs.Rooms.{accounts_of}
use Rattle.osdp_sim_bus.proofs.run.accounts.Given as goal

-- the accounts of the readers so far, and of those that are left
abbrev pub invariant-loop-site : goal.invariant-loop-site
invariant-loop-site g l = record {
  told : lists_of_all l.told.items ++ accounts_of (into_iter_items l.site-iterator) ≡ accounts_of (into_iter_items l.initial.site-iterator);
  room : length l.told.items + length (into_iter_items l.site-iterator) ≤ vec_capacity l.told;
  count : into_iter_len l.site-iterator ≡ length (into_iter_items l.site-iterator);
}
