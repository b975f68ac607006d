use Rattle.osdp_msg.proofs.event_fields.Formatted.write_into.Goals as goal

pub returns-clause-fits : goal.returns-clause-fits
returns-clause-fits c = rw (← c.self.view_is) record {
  reader = c.put_bytes.ensures.fits 0;
  direction = c.put_bytes.ensures.fits 1;
  room = c.self.invariant;
  digits = c.append.ensures.fits;
}
