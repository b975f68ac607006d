use Rattle.osdp_tool_streams.proofs.BadLines.{none_bad, all_good, told_is, is_told}
use Rattle.osdp_tool_streams.proofs.laws.one_first_bad.Goals as goal

pub returns : goal.returns
returns c = record {
  some = λ lines number. (told_is lines number, is_told lines number);
  none = λ lines. (all_good 1 lines, none_bad 1 lines);
}
