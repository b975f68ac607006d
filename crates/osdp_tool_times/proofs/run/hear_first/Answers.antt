use Rattle.osdp_frame.specs.Shown.{item_of}
use Rattle.osdp_tool_times.proofs.Common.{arith, sym}
use Rattle.osdp_tool_times.proofs.Further.{size_within}
use Rattle.osdp_tool_times.proofs.run.hear_first.Goals as goal

pub returns-clause-within : goal.returns-clause-within
returns-clause-within c =
    let within = size_within c.args.bytes.now (item_of c.in-Some.item) c.are_bytes.ensures (sym c.in-Some.ensures.shown) in
    omega (arith, c.size-size.ensures)
