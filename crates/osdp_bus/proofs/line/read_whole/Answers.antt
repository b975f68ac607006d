use Rattle.osdp_bus.proofs.Common.{sym, subst, arith, item_of, ReadsHead, devices_of}
use Rattle.osdp_bus.proofs.Runs.{head_whole}
use Rattle.osdp_bus.proofs.line.read_whole.Goals as goal

pub returns-clause-heard : goal.returns-clause-heard
returns-clause-heard c =
    let part = item_of c.in-Some.item in
    let l = c.args.receiver.now in
    subst (λ n. ReadsHead c.args.bytes.now n l l c.args.now (devices_of c.args.devices.now) (devices_of c.hear_item.new.self)) (sym c.size.ensures)
    (head_whole c.args.bytes.now part l c.args.now (devices_of c.args.devices.now) (devices_of c.hear_item.new.self) (λ k. omega (arith, c.type_inv.bytes k))
    (sym c.if-not-is_empty.ensures.empty) (sym c.in-Some.ensures.shown) c.hear_item.ensures.devices)
