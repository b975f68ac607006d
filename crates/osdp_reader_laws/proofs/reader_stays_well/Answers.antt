use Rattle.osdp_reader_laws.proofs.Common.{suc, None, refl, arith, kind_of, HasDeviceAddress, HasRoom, KeepsReply}
use Rattle.osdp_reader_laws.proofs.Addresses.{keeps_device}
use Rattle.osdp_reader_laws.proofs.Keeping.{keeps_reply, none_is_some}
use Rattle.osdp_reader_laws.proofs.Offering.{lapse_offer, none_offered, offer_stays, outcome_offer, submit_offer, withdraw_offer}
use Rattle.osdp_reader_laws.proofs.Outcomes.{outcome_keeps}
use Rattle.osdp_reader_laws.proofs.Room.{keeps_room, lapse_room, submit_room, withdraw_room}
use Rattle.osdp_reader_laws.proofs.Storing.{outcome_own}
use Rattle.osdp_reader_laws.proofs.Withdrawing.{lapse_knows, outcome_knows, submit_knows, withdraw_knows}
use Rattle.osdp_reader_laws.proofs.QueuedOnce.{never_true}
use Rattle.osdp_reader_laws.proofs.reader_stays_well.Goals as goal

pub returns-clause-reply : goal.returns-clause-reply
returns-clause-reply g c = (
  (λ config handler capacity n e. absurd (none_is_some None (suc n) refl e)),
  (
    (λ r p keeps. outcome_keeps g.H.Handler.answer_of g.H.Handler.after KeepsReply (kind_of r p) r p keeps_reply keeps),
    (λ r event free keeps. keeps),
    (λ r busy keeps. keeps),
    (λ r handler keeps. keeps),
    (λ r keeps. keeps),
    (λ r keeps. keeps),
  ),
)

pub returns-clause-own : goal.returns-clause-own
returns-clause-own g c = (
  (λ config handler capacity. tt),
  (
    (λ r p own. outcome_own g.H.Handler.answer_of g.H.Handler.after (kind_of r p) r p refl own),
    (λ r event free own. own),
    (λ r busy own. own),
    (λ r handler own. own),
    (λ r own. own),
    (λ r own. own),
  ),
)

pub returns-clause-offer : goal.returns-clause-offer
returns-clause-offer g c = (
  (λ config handler capacity. none_offered _ refl),
  (
    (λ r p tells. outcome_offer g.H.Handler.answer_of g.H.Handler.after (kind_of r p) r p tells),
    (λ r event free tells. submit_offer r event tells),
    (λ r busy tells. offer_stays r busy r.handler tells),
    (λ r handler tells. offer_stays r r.busy handler tells),
    (λ r tells. withdraw_offer r tells),
    (λ r tells. lapse_offer r tells),
  ),
)

pub returns-clause-ever : goal.returns-clause-ever
returns-clause-ever g c = (
  (λ config handler capacity ever. absurd (never_true ever)),
  (
    (λ r p knows. outcome_knows g.H.Handler.answer_of g.H.Handler.after (kind_of r p) r p knows),
    (λ r event free knows. submit_knows r event knows),
    (λ r busy knows. knows),
    (λ r handler knows. knows),
    (λ r knows. withdraw_knows r knows),
    (λ r knows. lapse_knows r knows),
  ),
)

pub returns-clause-room : goal.returns-clause-room
returns-clause-room g c = (
  (λ config handler capacity. (omega arith, omega arith)),
  (
    (λ r p room. outcome_keeps g.H.Handler.answer_of g.H.Handler.after HasRoom (kind_of r p) r p keeps_room room),
    (λ r event free room. submit_room r event free room),
    (λ r busy room. room),
    (λ r handler room. room),
    (λ r room. withdraw_room r room),
    (λ r room. lapse_room r room),
  ),
)

pub returns-clause-address : goal.returns-clause-address
returns-clause-address g c = (
  (λ config handler capacity device. device),
  (
    (λ r p device. outcome_keeps g.H.Handler.answer_of g.H.Handler.after HasDeviceAddress (kind_of r p) r p keeps_device device),
    (λ r event free device. device),
    (λ r busy device. device),
    (λ r handler device. device),
    (λ r device. device),
    (λ r device. device),
  ),
)
