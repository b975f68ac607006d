use Rattle.std.proofs.Common.{rules}
use Rattle.osdp_tool_streams.proofs.TransferLemmas.{Appends-take-add}
use Rattle.osdp_tool_streams.proofs.transfer.write_out.Goals as goal

pub loop-done-preserved : goal.loop-done-preserved
loop-done-preserved g c = record {
  within = search rules;
  unfailed = search rules;
  appended = Appends-take-add _ _ _ c.args.bytes.now c.loop-done.done c.in-Ok.taken c.loop-done.invariant.appended c.in-Ok.ensures.bytes;
}
