use Rattle.osdp_sim_bus.proofs.Common.{◌<◌, arith, length, sym, subst, length-set, bytes_of, HasPlace}
use Rattle.osdp_sim_bus.proofs.Hearing.{one_more, same_there}
use Rattle.osdp_sim_bus.proofs.line.hear_all.Goals as goal

pub hear-requires-clause-places : goal.hear-requires-clause-places
hear-requires-clause-places g c =
    let at = c.loop-site in
    let old = c.args.sites.now in
    let within : at.site-index < length at.sites = omega (arith, c.loop-site-test.true, at.auto.sites) in
    subst HasPlace (sym (same_there at.sites old at.site-index c.site-item.result within c.loop-site-test.true at.invariant.heard.rest))
    (c.requires.places at.site-index c.site-item.result c.loop-site-test.true)

pub loop-site-preserved : goal.loop-site-preserved
loop-site-preserved g c =
    let at = c.loop-site in
    let within : at.site-index < length at.sites = omega (arith, c.loop-site-test.true, at.auto.sites) in
    record {
      heard = one_more g.H.Handler.answer_of g.H.Handler.after c.args.packet.now at.site-index c.args.sites.now at.sites c.site-item.result c.hear.new.self
          (bytes_of c.args.line.now.items) (bytes_of at.line.items) (bytes_of c.hear.new.line.items)
          within at.invariant.heard c.hear.ensures.site c.hear.ensures.line c.hear.ensures.fits;
      place = omega (arith, within, at.invariant.place, c.hear.ensures.one, c.hear.ensures.room, length-set at.sites at.site-index c.hear.new.self);
    }
