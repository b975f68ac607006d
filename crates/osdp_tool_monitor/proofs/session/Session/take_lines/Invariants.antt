use Rattle.osdp_tool_monitor.proofs.Common.{◌+◌, ◌-◌, ◌*◌, ◌≤◌, length, string_bytes, weight}
use Rattle.osdp_tool_monitor.proofs.Sessions.{LinesDone}
use Rattle.osdp_tool_monitor.proofs.session.Session.take_lines.Given as goal

abbrev pub invariant-lines : goal.invariant-lines
invariant-lines l = record {
  done : LinesDone l.piece l.at l.initial.self l.self (string_bytes l.initial.text) (string_bytes l.text);
  within : l.at ≤ length l.piece;
  weighs : weight l.self + 5 * (length l.piece - l.at) ≤ weight l.initial.self + 5 * length l.piece;
}

abbrev pub decreases-lines : goal.decreases-lines
decreases-lines l = length l.piece - l.at
