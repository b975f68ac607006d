use Rattle.std.proofs.lemmas.List.Elements.{All-drop}
use Rattle.osdp_reader.specs.Queue.{IsEvent}
use Rattle.osdp_reader.proofs.Waiting.{others_events}
use Rattle.osdp_reader.proofs.events.EventQueue.withdraw.Goals as goal

pub invariant_of-self : goal.invariant_of-self
invariant_of-self c = rw c.pop_second.ensures (others_events c.self.inside.events.items c.self.invariant)

pub invariant_of-self-2 : goal.invariant_of-self-2
invariant_of-self-2 c = rw c.pop.ensures (All-drop IsEvent 1 c.self.inside.events.items c.self.invariant)
