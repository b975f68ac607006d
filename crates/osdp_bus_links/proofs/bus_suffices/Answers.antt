use Rattle.osdp_bus_links.proofs.Sufficing.{bus_suffices}
use Rattle.osdp_bus_links.proofs.bus_suffices.Goals as goal

pub returns : goal.returns
returns g c =
    bus_suffices g.H.Handler.answer_of g.H.Handler.after
    (record { peers = c.read_each_other.ensures; device = c.name_one_device.ensures.device; told = c.name_one_device.ensures.told })
    c.each_move_is_its_own.ensures c.nobody_else_hears.ensures.hears
