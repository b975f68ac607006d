use Rattle.osdp_device.proofs.Common.{sym, ap, fewer_held}
use Rattle.osdp_device.proofs.first.pass_over.Goals as goal

pub items-smaller : goal.items-smaller
items-smaller g c = fewer_held c.items.line.held c.advance.new.self.held _ (sym c.in-Some.ensures.shown) (ap (λ l. l.held) c.advance.ensures)
