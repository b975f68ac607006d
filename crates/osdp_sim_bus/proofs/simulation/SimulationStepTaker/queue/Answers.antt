use Rattle.std.proofs.Common.{◌≡◌, ◌<◌, ◌-◌, ◌∙◌, length, rules, slice_set, sym}
use Rattle.osdp_sim_bus.proofs.Common.{sites_of, changed_site, site_queues}
use Rattle.osdp_sim_bus.specs.declared.site.ReaderSite.{ReaderSite}
use Rattle.osdp_sim_bus.proofs.Places.{changed_there, there_within}
use Rattle.osdp_sim_bus.proofs.simulation.SimulationStepTaker.queue.Goals as goal

pub returns-then-is_there : goal.returns-then-is_there
returns-then-is_there g c =
    let sites = c.args.self.now.sites.items in
    let place = c.args.number - 1 in
    let change = site_queues c.args.event.now in
    let next : ReaderSite _ = c.queue.new.self in
    let within : place < length sites = there_within c.args.number sites (sym c.is_there.ensures ∙ c.if-is_there.true) in
    let here : sites_of (slice_set sites place next) ≡ changed_site place change (sites_of sites) =
    changed_there change sites place c.index_mut.result.now next within (search rules) in
    search (rules, here)
