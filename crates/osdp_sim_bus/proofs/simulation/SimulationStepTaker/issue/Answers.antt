use Rattle.std.proofs.Common.{◌≡◌, ◌<◌, ◌-◌, ◌∙◌, length, rules, slice_set, sym}
use Rattle.osdp_sim_bus.proofs.Common.{sites_of, changed_site, site_issues}
use Rattle.osdp_sim_bus.specs.declared.site.ReaderSite.{ReaderSite}
use Rattle.osdp_sim_bus.proofs.Places.{changed_there, there_within}
use Rattle.osdp_sim_bus.proofs.simulation.SimulationStepTaker.issue.Goals as goal

pub returns-then-is_ok-clause-state : goal.returns-then-is_ok-clause-state
returns-then-is_ok-clause-state g c =
    let sites = c.args.self.now.sites.items in
    let place = c.args.number - 1 in
    let change = site_issues c.args.command.now in
    let next : ReaderSite _ = record { reader = c.index_mut.result.now.reader; account = c.issue.new.self } in
    let within : place < length sites = there_within c.args.number sites (sym c.is_there.ensures ∙ c.if-not-is_there.false) in
    let here : sites_of (slice_set sites place next) ≡ changed_site place change (sites_of sites) =
    changed_there change sites place c.index_mut.result.now next within (search rules) in
    search (rules, here)
