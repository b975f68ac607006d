use Rattle.osdp_device.proofs.Common.{refl, inl, inr, arith, hears}
use Rattle.osdp_device.proofs.Offline.{takes_off, tells_offline}
use Rattle.osdp_device.proofs.Waiting.{arrives, leaves, released, stayed, tells_ages}
use Rattle.osdp_device.proofs.laws.events_keep_their_moments.Goals as goal

pub returns-clause-none : goal.returns-clause-none
returns-clause-none g c config handler room = record { events = refl; moments = refl; room = refl; within = omega arith }

pub returns-clause-arrives : goal.returns-clause-arrives
returns-clause-arrives g c = arrives g.row.H.Denot

pub returns-clause-stays : goal.returns-clause-stays
returns-clause-stays g c came r a p w =
    let next = (hears g.H.Handler.answer_of g.H.Handler.after r p).reader in
    let room = (c.changes_by_acting.ensures.settings r p).1 in
    elim (c.loses_no_event.ensures.stays r p) [
      | inl gone ↦ inl (released came r next a w gone.2 room)
      | inr same ↦ inr (stayed came r next a w same room)
    ]

pub returns-clause-leaves : goal.returns-clause-leaves
returns-clause-leaves g c = leaves g.row.H.Denot

pub returns-clause-age : goal.returns-clause-age
returns-clause-age g c = tells_ages g.row.H.Denot

pub returns-clause-offline : goal.returns-clause-offline
returns-clause-offline g c = λ a. tells_offline a

pub returns-clause-old : goal.returns-clause-old
returns-clause-old g c = takes_off g.row.H.Denot
