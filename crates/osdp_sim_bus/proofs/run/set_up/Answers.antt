use Rattle.osdp_sim_bus.proofs.Common.{◌≡◌, arith, length, map, ap, length-map, site_of, new_site}
use Rattle.osdp_sim_bus.proofs.run.set_up.Goals as goal

-- as many sites as readers, for which there is room
pub returns-clause-room : goal.returns-clause-room
returns-clause-room g c =
    let room = c.in-Ok.ensures.capacity in
    let asked = c.len.ensures in
    let as_many : length (map site_of c.in_ok-bus-2.sites.items) ≡ length (map new_site c.args.readers.items) = ap length c.in_ok-bus-2.ensures.sites in
    (c.in-Ok.ensures.items, omega (arith, room, asked, as_many, c.args.readers.ok.0, length-map c.args.readers.items new_site, length-map c.in_ok-bus-2.sites.items site_of))
