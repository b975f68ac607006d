use Rattle.osdp_tool_times.proofs.Common.{◌≡◌, drop, number_from}
use Rattle.osdp_tool_times.proofs.moment.number_from.Given as goal

-- the digits to come
abbrev pub invariant-digits : goal.invariant-digits
invariant-digits l = number_from l.number (drop l.byte-index l.digits) ≡ number_from l.start l.digits
