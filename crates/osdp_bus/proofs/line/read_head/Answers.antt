use Rattle.osdp_bus.proofs.Common.{arith, devices_of}
use Rattle.osdp_bus.proofs.Runs.{head_after, head_held, head_some}
use Rattle.osdp_bus.proofs.line.read_head.Goals as goal

pub returns-clause-some : goal.returns-clause-some
returns-clause-some c = head_some c.args.bytes.now c.push-count.result c.args.receiver.now c.requires.read c.requires.some c.push-count.ensures.count

pub returns-clause-heard : goal.returns-clause-heard
returns-clause-heard c =
    let ds = devices_of c.read_whole-whole.new.devices in
    let es = devices_of c.read_items.new.devices in
    head_after c.args.bytes.now c.read_whole-whole.result c.push-count.result c.args.receiver.now c.read_items.new.receiver c.args.now (devices_of c.args.devices.now) ds es
    (omega (arith, c.if-whole-gt0.false)) c.read_whole-whole.ensures.heard
    (head_held c.args.bytes.now c.push-count.result c.args.receiver.now c.push-count.new.self c.read_items.new.receiver c.args.now ds es
    (λ k. omega (arith, c.type_inv.bytes k)) c.push-count.ensures.received c.requires.read c.push-count.ensures.count
    c.push-count.ensures.line c.read_items.ensures.left c.read_items.ensures.devices)
