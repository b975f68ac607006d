use Rattle.osdp_check.proofs.Places.{byte_moved}
use Rattle.osdp_check.proofs.powers.over_byte.Goals as goal

pub returns : goal.returns
returns c = rw c.entry.ensures (byte_moved c.args.state c.ranges.state.fits)
