use Rattle.osdp_link_laws.proofs.OneDevice.{name_one}
use Rattle.osdp_link_laws.proofs.ToldMoved.{tell_as_asked}
use Rattle.osdp_link_laws.proofs.names.name_one_device.Goals as goal

pub returns : goal.returns
returns g c = record {
  device = name_one g.H.Handler.answer_of g.H.Handler.after c.read_each_other.ensures;
  told = tell_as_asked g.H.Handler.answer_of g.H.Handler.after c.read_each_other.ensures;
}
