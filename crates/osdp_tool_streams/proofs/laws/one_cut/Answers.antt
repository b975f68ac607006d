use Rattle.osdp_tool_streams.proofs.CutLemmas.{ended_lines-cut}
use Rattle.osdp_tool_streams.proofs.Bytes.{is_cut}
use Rattle.osdp_tool_streams.proofs.laws.one_cut.Goals as goal

pub returns : goal.returns
returns c = record {
  some = is_cut;
  one = λ bytes lines rest cut. ended_lines-cut bytes lines rest cut.each cut.last cut.whole;
}
