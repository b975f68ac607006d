use Rattle.osdp_c_values.proofs.Common.{◌≡◌, ◌++◌, drop, map, led_record}
use Rattle.osdp_c_values.proofs.making.put_leds.Given as goal

abbrev pub invariant-loop-one : goal.invariant-loop-one
invariant-loop-one l = l.records.items ++ map led_record (drop l.one-index l.given) ≡ map led_record l.given
