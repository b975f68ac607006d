use Rattle.osdp_tool_monitor.proofs.Common.{◌≡◌, ◌≤◌, ◌+◌, ◌-◌, ◌*◌, ◌++◌, length, drop, string_bytes, counted, reading, heard_items, items_report, listening_of, detail_of}
use Rattle.osdp_tool_monitor.proofs.listener.Listener.hear_run.Given as goal

abbrev pub invariant-items : goal.invariant-items
invariant-items l = record {
  within : l.at ≤ length l.run;
  count : counted l.self.tally + 5 * (length l.run - l.at) ≤ counted l.initial.self.tally + 5 * length l.run;
  tells : detail_of l.self ≡ detail_of l.initial.self;
  heard : heard_items (listening_of l.self) (reading (drop l.at l.run)) ≡ heard_items (listening_of l.initial.self) (reading l.run);
  text : string_bytes l.text ++ items_report (detail_of l.initial.self) (listening_of l.self) (reading (drop l.at l.run))
      ≡ string_bytes l.initial.text ++ items_report (detail_of l.initial.self) (listening_of l.initial.self) (reading l.run);
}

abbrev pub decreases-items : goal.decreases-items
decreases-items l = length l.run - l.at
