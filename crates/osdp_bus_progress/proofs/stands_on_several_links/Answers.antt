use Rattle.osdp_bus_progress.proofs.stands_on_several_links.Goals as goal

pub returns : goal.returns
returns g c = record {
  reads = c.schedules_are_moves.ensures.bus.reads;
  schedules = c.schedules_are_moves.ensures.schedules;
  counts = c.has_an_account_each.ensures;
  links = c.each_is_a_link.ensures;
  laws = record {
    known = c.reads_what_is_asked.ensures;
    rests = c.comes_through.ensures.rest;
    in_time = c.comes_through.ensures.in_time;
    from_rest = c.comes_through.ensures.from_rest;
    forgets = c.comes_through.ensures.none_forgotten;
    stays = c.stay_where_they_are.ensures;
  };
  ledger = c.keeps_ledger.ensures;
  ranges = c.stays_in_range.ensures;
  comes = c.ticks_come_due.ensures;
}
