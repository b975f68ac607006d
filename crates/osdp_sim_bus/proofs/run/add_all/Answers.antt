use Rattle.osdp_sim_bus.proofs.Common.{◌≡◌, ◌∷◌, [], ◌++◌, ap, arith, length, map, rules, sym, ◌∙◌, append-nil, map-append, nil_from_length, into_iter_items, site_of, sites_of, Given, new_site}
use Rattle.osdp_sim_bus.proofs.Adding.{one_more_begun, one_more_put}
use Rattle.osdp_sim_bus.proofs.run.add_all.Goals as goal

pub loop-config-preserved : goal.loop-config-preserved
loop-config-preserved g c =
    let at = c.loop-config in
    let all = into_iter_items c.into_iter-config-iterator.result in
    let old = into_iter_items at.config-iterator in
    let left = into_iter_items c.next.new.self in
    let given : Given _ = (c.in-Some.config, c.in-Some.events, c.in-Some.handler) in
    let cut : old ≡ given ∷ left = c.in-Some.ensures.steps.0 in
    let made : sites_of c.push.new.self.items ≡ sites_of at.sites.items ++ new_site given ∷ [] = search (rules, map-append site_of at.sites.items) in
    record {
      bus = one_more_begun c.args.bus.config all old left given at.bus c.add.new.bus at.invariant.bus cut (search rules);
      sites = ap (λ l. l ++ map new_site left) made ∙ one_more_put new_site (sites_of at.sites.items) old left given (map new_site all) at.invariant.sites cut;
      count = omega (arith, at.invariant.count, c.in-Some.ensures.steps.1, ap length cut);
    }

pub returns-clause-sites : goal.returns-clause-sites
returns-clause-sites g c =
    let at = c.loop-config in
    let none : into_iter_items at.config-iterator ≡ [] = nil_from_length (into_iter_items at.config-iterator) (sym at.invariant.count ∙ c.in-None.ensures.steps.0) in
    let all : into_iter_items c.into_iter-config-iterator.result ≡ c.args.readers.items = c.into_iter-config-iterator.ensures.into_iter_gives.0 in
    sym (append-nil (sites_of at.sites.items)) ∙ ap (λ l. sites_of at.sites.items ++ map new_site l) (sym none) ∙ at.invariant.sites ∙ ap (map new_site) all
