use Rattle.osdp_sim_bus.proofs.Common.{◌≡◌, drop, list_any, is_at}
use Rattle.osdp_sim_bus.proofs.settings.has_address.Given as goal

-- the readers that are left tell what all of them do
abbrev pub invariant-loop-reader : goal.invariant-loop-reader
invariant-loop-reader g l = list_any (is_at l.address) (drop l.reader-index l.readers) ≡ list_any (is_at l.address) l.readers
