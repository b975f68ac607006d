use Rattle.osdp_sim_bus.proofs.Common.{◌<◌, ◌≤◌, ◌∙◌, All, arith, length, rules, slice_index_or, sym, subst, take, take_all, take_more_set, All-push, HasPlace, site_of}
use Rattle.std.proofs.Math.Seq.{map-set_same}
use Rattle.osdp_sim_bus.specs.declared.site.ReaderSite.{ReaderSite}
use Rattle.osdp_sim_bus.proofs.line.grow_all.Goals as goal

pub returns-in_err-grow-clause-same : goal.returns-in_err-grow-clause-same
returns-in_err-grow-clause-same g c =
    let at = c.loop-site in
    let next : ReaderSite _ = record { reader = (slice_index_or at.sites at.site-index c.site-item.result).reader; account = c.grow.new.self } in
    map-set_same site_of at.sites at.site-index next c.site-item.result (search (rules, c.grow.ensures.same)) ∙ at.invariant.same

pub loop-site-preserved : goal.loop-site-preserved
loop-site-preserved g c =
    let at = c.loop-site in
    let within : at.site-index < length at.sites = omega (arith, c.loop-site-test.true, at.auto.sites) in
    let next : ReaderSite _ = record { reader = (slice_index_or at.sites at.site-index c.site-item.result).reader; account = c.grow.new.self } in
    record {
      same = map-set_same site_of at.sites at.site-index next c.site-item.result (search (rules, c.grow.ensures.same)) ∙ at.invariant.same;
      places = subst (All HasPlace) (sym (take_more_set at.sites at.site-index next within))
          (All-push HasPlace (take at.site-index at.sites) next at.invariant.places c.in_ok-grow.ensures.places);
    }

pub returns-clause-places : goal.returns-clause-places
returns-clause-places g c =
    let at = c.loop-site in
    let over : length at.sites ≤ at.site-index = omega (arith, c.loop-site-test.false, at.auto.sites) in
    subst (All HasPlace) (take_all at.site-index at.sites over) at.invariant.places
