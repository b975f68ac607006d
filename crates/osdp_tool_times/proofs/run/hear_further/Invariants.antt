use Rattle.osdp_tool_times.proofs.Common.{◌≡◌, ◌-◌, length, drop}
use Rattle.osdp_frame.specs.Items.{packets_in}
use Rattle.osdp_tool_times.specs.Times.{all_further}
use Rattle.osdp_tool_times.proofs.run.hear_further.Given as goal

abbrev pub invariant-items : goal.invariant-items
invariant-items l = record {
  heard : all_further (packets_in (drop l.at l.bytes)) l.moment l.times.items ≡ all_further (packets_in l.bytes) l.moment l.initial.times.items;
  addresses : length l.times.items ≡ 128;
}

abbrev pub decreases-items : goal.decreases-items
decreases-items l = length l.bytes - l.at
