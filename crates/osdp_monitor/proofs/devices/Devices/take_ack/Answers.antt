use Rattle.std.proofs.Common.{◌≡◌, ◌<◌, ◌∙◌, length, arith}
use Rattle.osdp_monitor.proofs.Blocks.{reply_in_place}
use Rattle.osdp_monitor.proofs.devices.Devices.take_ack.Goals as goal

pub returns : goal.returns
returns c =
    let place : c.from.result ≡ c.args.packet.now.address = c.from.ensures ∙ c.get.ensures.value ∙ c.address.ensures in
    let within : c.from.result < length c.args.self.now.blocks.items = omega (arith, c.from.ensures, c.get.ensures.range, c.args.self.now.room) in
    reply_in_place c.args.packet.now c.args.self.now.blocks.items c.from.result _ _ place within c.index_mut-slot.ensures.value c.take_ack.ensures.stays c.take_ack.ensures.taken
