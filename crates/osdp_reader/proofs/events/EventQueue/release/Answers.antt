use Rattle.std.proofs.lemmas.List.Elements.{All-drop}
use Rattle.osdp_reader.specs.Queue.{IsEvent}
use Rattle.osdp_reader.proofs.events.EventQueue.release.Goals as goal

pub invariant_of-self : goal.invariant_of-self
invariant_of-self c = rw c.pop.ensures (All-drop IsEvent 1 c.self.inside.events.items c.self.invariant)
