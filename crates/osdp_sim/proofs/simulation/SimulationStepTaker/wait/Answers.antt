use Rattle.osdp_sim.proofs.Common.{◌≡◌, ℕ, ◌++◌, ◌∷◌, [], ap, rules, sym, ◌∙◌, append-nil, map-append, ArrayVec, ticks, bytes_of, sent, state_of, SimState, moment_after, waited}
use Rattle.osdp_sim.specs.Account.{lists_of, with_report}
use Rattle.osdp_sim.specs.declared.simulation.Simulation.{Simulation}
use Rattle.osdp_sim.proofs.Bursts.{none_sent, written_sent}
use Rattle.osdp_sim.proofs.simulation.SimulationStepTaker.wait.Goals as goal
use Rattle.osdp_sim.proofs.simulation.SimulationStepTaker.wait.Goals.{then-tick, else-tick}

pub returns-clause-state : goal.returns-clause-state
returns-clause-state g c =
    let old = c.args.self.now in
    let o = (ticks c.saturating_add-self.result old.controller.session old.controller.waiting).step.frame in
    let line = bytes_of old.to_reader.items in
    let out = c.tick.new.out in
    let told : Simulation _ → SimState _ = λ s. record (state_of s) { account = with_report s.report (lists_of s.account) } in
    let joined : told c.if-tick.self ≡ waited (moment_after c.args.wait old.clock) (state_of old) =
    elim c.if-tick.branch [
      | then-tick w ↦
          let goes : out.items ∷ [] ≡ sent o =
          written_sent o old.out.items out.items (sym c.tick.ensures.sent ∙ w.if-tick.true) c.tick.ensures.bytes
          (λ p spells. ((c.one_spelling.ensures p out.items).0 spells).1) in
          let bursts : bytes_of w.send.new.line.items ≡ line ++ sent o =
          ap bytes_of w.send.ensures.items ∙ map-append (λ (b : ArrayVec ℕ). b.items) old.to_reader.items (out ∷ []) ∙ ap (λ l. line ++ l) goes in
          ap told w.self-is ∙ search (rules, bursts)
      | else-tick w ↦
          let bursts : line ≡ line ++ sent o =
          sym (ap (λ l. line ++ l) (none_sent o (sym c.tick.ensures.sent ∙ w.if-tick.false)) ∙ append-nil line) in
          ap told w.self-is ∙ search (rules, bursts)
    ] in
    ap (λ lists. record (state_of c.if-tick.self) { account = lists }) c.tell_any.ensures ∙ joined
