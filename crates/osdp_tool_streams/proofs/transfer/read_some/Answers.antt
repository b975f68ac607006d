use Rattle.osdp_tool_streams.proofs.TransferLemmas.{reads_none_at_end}
use Rattle.osdp_tool_streams.proofs.transfer.read_some.Goals as goal

pub returns-in-Ok-clause-end : goal.returns-in-Ok-clause-end
returns-in-Ok-clause-end g c =
    reads_none_at_end _ _ _ c.read.new.buf c.in-Ok.count c.read.auto.buf c.in-Ok.ensures.bound.0 c.in-Ok.ensures.bytes.0 c.in-Ok.ensures.bytes.1
