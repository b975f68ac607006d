use Rattle.std.proofs.Common.{◌≡◌, ◌<◌, ◌∙◌, length, arith}
use Rattle.osdp_monitor.proofs.Blocks.{kept_in_place, sent_in_place}
use Rattle.osdp_monitor.proofs.devices.Devices.send.Goals as goal

pub returns-in-Ok-clause-ok : goal.returns-in-Ok-clause-ok
returns-in-Ok-clause-ok c =
    let place : c.from.result ≡ c.args.packet.now.address = c.from.ensures ∙ c.get.ensures.value ∙ c.address.ensures in
    let within : c.from.result < length c.args.self.now.blocks.items = omega (arith, c.from.ensures, c.get.ensures.range, c.args.self.now.room) in
    sent_in_place c.args.packet.now c.args.self.now.blocks.items c.from.result _ _ place within c.index_mut-slot.ensures.value c.in-Ok.ensures.ok

pub returns-in-Err-clause-err : goal.returns-in-Err-clause-err
returns-in-Err-clause-err c =
    let within : c.from.result < length c.args.self.now.blocks.items = omega (arith, c.from.ensures, c.get.ensures.range, c.args.self.now.room) in
    kept_in_place c.args.self.now.blocks.items c.from.result _ _ within c.index_mut-slot.ensures.value c.in-Err.ensures.err
