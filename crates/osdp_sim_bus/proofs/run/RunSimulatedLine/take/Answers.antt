use Rattle.osdp_sim_bus.proofs.Common.{ap, arith, length, refl, subst, sym, ◌∙◌, length-map, site_of, state_of, AreSent, LineState}
use Rattle.osdp_frame.specs.Spelling.{spelling}
use Rattle.osdp_sim_bus.proofs.Counts.{same_many}
use Rattle.osdp_sim_bus.proofs.Sent.{step_sent}
use Rattle.osdp_sim_bus.proofs.run.RunSimulatedLine.take.Goals as goal

pub returns-clause-ready : goal.returns-clause-ready
returns-clause-ready g c =
    let answer_of = g.H.Handler.answer_of in
    let after = g.H.Handler.after in
    let step = c.args.step.now in
    let old = c.args.self.now.simulation in
    let new = c.change.new.self in
    let many = ap (λ (s : LineState _). length s.sites) c.change.ensures.state ∙ same_many answer_of after step (state_of old) in
    record {
      sent = subst AreSent (sym c.change.ensures.state)
          (step_sent answer_of after (λ p packet. (c.one_spelling.ensures p (spelling p)).1 (packet, refl)) step (state_of old) c.change.ensures.fits c.requires.ready.sent);
      empty = c.requires.ready.empty;
      room = omega (arith, c.requires.ready.room, many, length-map new.sites.items site_of, length-map old.sites.items site_of);
    }
