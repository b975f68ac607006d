use Rattle.osdp_sim_bus.proofs.Common.{subst, sym, All-nil, IsSent, AreSent, LineState}
use Rattle.osdp_sim_bus.proofs.run.begin.Goals as goal

pub returns-in-Ok-clause-ready : goal.returns-in-Ok-clause-ready
returns-in-Ok-clause-ready g c =
    let made = c.in-Ok.ensures.made in
    let told = c.in-Ok.ensures.room in
    record {
      sent = subst (λ (s : LineState _). AreSent s) (sym made.1) (record { to_readers = All-nil IsSent; to_bus = All-nil IsSent });
      empty = told.0;
      room = told.1;
    }
