use Rattle.osdp_sim.proofs.Common.{refl, subst, sym, spelling, state_of, AreSent}
use Rattle.osdp_sim.proofs.Sent.{step_sent}
use Rattle.osdp_sim.proofs.simulation.SimulationSimulatedLine.take.Goals as goal

pub returns-clause-ready : goal.returns-clause-ready
returns-clause-ready g c =
    subst AreSent (sym c.change.ensures.state)
    (step_sent g.H.Handler.answer_of g.H.Handler.after (λ p packet. (c.one_spelling.ensures p (spelling p)).1 (packet, refl))
    c.args.step.now (state_of c.args.self.now) c.change.ensures.fits c.requires.ready)
