use Rattle.osdp_device_laws.proofs.Cards.{old_cards_leave}
use Rattle.osdp_device_laws.proofs.old_cards_leave.Goals as goal

pub returns : goal.returns
returns g c =
    let kept = c.events_keep_their_moments.ensures in
    old_cards_leave g.H.Handler.answer_of g.H.Handler.after kept.none kept.arrives kept.leaves kept.stays kept.old
