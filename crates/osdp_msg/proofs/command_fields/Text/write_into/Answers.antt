use Rattle.std.proofs.Common.{[], ◌∷◌}
use Rattle.osdp_msg.proofs.Bytes.{IsBytes-each}
use Rattle.osdp_msg.proofs.command_fields.Text.write_into.Goals as goal

pub returns-clause-fits : goal.returns-clause-fits
returns-clause-fits c = rw (← c.self.view_is) record {
  numbers =
      let t = c.self.inside in
      let fits = c.put_bytes.ensures.fits in
      IsBytes-each (t.reader ∷ t.command ∷ t.time ∷ t.row ∷ t.column ∷ []) (fits 0, (fits 1, (fits 2, (fits 3, (fits 4, tt)))));
  room = c.self.invariant;
  characters = c.append.ensures.fits;
}
