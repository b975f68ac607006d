use Rattle.osdp_line_calls.proofs.Common.{refl, sym, subst, IsAllRead}
use Rattle.osdp_frame.specs.Held.{decided}
use Rattle.osdp_line_calls.proofs.reader_session.LineDevice.new.Goals as goal

pub returns-clause-read : goal.returns-clause-read
unfolding decided
returns-clause-read c = subst IsAllRead (sym c.in_ok-device.ensures.line) (record { goes_on = refl; undecided = refl })
