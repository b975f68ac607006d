use Rattle.osdp_frame.specs.Items.{packets_in}
use Rattle.osdp_frame.specs.Shown.{item_of}
use Rattle.osdp_tool_times.proofs.Common.{ap, sym, arith, ◌∙◌, drop}
use Rattle.osdp_tool_times.specs.Times.{all_further}
use Rattle.osdp_frame_laws.proofs.Readings.{item_size-positive}
use Rattle.osdp_tool_times.proofs.Further.{further_first, passed_packets, size_within}
use Rattle.osdp_tool_times.proofs.run.hear_next.Goals as goal

pub returns-in_default-clause-heard : goal.returns-in_default-clause-heard
returns-in_default-clause-heard c =
    ap (λ packets. all_further packets c.args.moment c.args.times.now.items) (passed_packets c.args.bytes.now c.requires.some c.in_default.ensures.shown)

pub returns-clause-heard : goal.returns-clause-heard
returns-clause-heard c =
    let bytes = c.args.bytes.now in
    let part = item_of c.in-Some.item in
    ap (λ n. all_further (packets_in (drop n bytes)) c.args.moment c.count_further.new.times.items) c.size.ensures
    ∙ ap (all_further (packets_in (drop _ bytes)) c.args.moment) c.count_further.ensures.times
    ∙ further_first bytes part c.args.moment c.args.times.now.items c.are_bytes.ensures (sym c.in-Some.ensures.shown)

pub returns-clause-some : goal.returns-clause-some
returns-clause-some c = let some = item_size-positive (item_of c.in-Some.item) in omega (arith, c.size.ensures)

pub returns-clause-within : goal.returns-clause-within
returns-clause-within c =
    let within = size_within c.args.bytes.now (item_of c.in-Some.item) c.are_bytes.ensures (sym c.in-Some.ensures.shown) in
    omega (arith, c.size.ensures)
