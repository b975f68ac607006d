use Rattle.osdp_msg.proofs.Common.{subst, RawFits}
use Rattle.osdp_msg.proofs.raw.Raw.write_into.Goals as goal

pub returns-clause-fits : goal.returns-clause-fits
returns-clause-fits c =
    subst RawFits c.self.view_is record {
      reader = c.put_bytes.ensures.fits 0;
      format = c.put_bytes.ensures.fits 1;
      bits = c.append_u16.ensures.fits;
      needed = c.self.invariant.0;
      room = c.self.invariant.1;
      bytes = c.append.ensures.fits;
    }
