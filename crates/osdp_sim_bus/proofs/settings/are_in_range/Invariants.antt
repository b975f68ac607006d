use Rattle.osdp_sim_bus.proofs.Common.{◌≡◌, drop, list_all, is_reader_in_range}
use Rattle.osdp_sim_bus.proofs.settings.are_in_range.Given as goal

-- the readers that are left tell what all of them do
abbrev pub invariant-loop-reader : goal.invariant-loop-reader
invariant-loop-reader g l = list_all is_reader_in_range (drop l.reader-index l.readers) ≡ list_all is_reader_in_range l.readers
