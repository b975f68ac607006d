use Rattle.std.proofs.lemmas.List.Elements.{All-drop}
use Rattle.osdp_reader.specs.Queue.{IsEvent}
use Rattle.osdp_reader.proofs.events.EventQueue.lapse.Goals as goal

pub invariant_of-self : goal.invariant_of-self
invariant_of-self c = rw c.pop.ensures (All-drop IsEvent 1 c.self-2.inside.events.items c.self-2.invariant)
