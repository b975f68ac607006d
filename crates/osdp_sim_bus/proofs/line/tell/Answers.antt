use Rattle.std.proofs.Common.{◌≡◌, ◌<◌, length, rules, slice_set}
use Rattle.osdp_sim_bus.proofs.Common.{sites_of, changed_site, site_is_told}
use Rattle.osdp_sim_bus.specs.declared.site.ReaderSite.{ReaderSite}
use Rattle.osdp_sim_bus.proofs.Places.{changed_there}
use Rattle.osdp_sim_bus.proofs.line.tell.Goals as goal

pub returns-then-entry-sites : goal.returns-then-entry-sites
returns-then-entry-sites g c =
    let sites = c.args.sites.now in
    let place = c.args.entry in
    let change = site_is_told c.args.report.now in
    let next : ReaderSite _ = record { reader = c.index-sites-entry.result.reader; account = c.tell.new.self } in
    let within : place < length sites = search rules in
    let here : sites_of (slice_set sites place next) ≡ changed_site place change (sites_of sites) =
    changed_there change sites place c.index-sites-entry.result next within (search rules) in
    search (rules, here)
