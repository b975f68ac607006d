use Rattle.osdp_frame.proofs.Common.{◌≡◌, subst, take, false, item_if, FirstFits, decided}
use Rattle.osdp_frame.proofs.FirstItems.{item_if-more, FirstFits-more}
use Rattle.osdp_frame.proofs.framer.decided_again.Goals as goal

pub returns-in-Some-clause-part : goal.returns-in-Some-clause-part
returns-in-Some-clause-part c =
    let held = c.args.held.now.bytes in
    let count = c.args.count in
    item_if-more c.in-Some.first count held c.args.ended c.bytes.ensures.bytes
    (subst (λ f. FirstFits (take count held) f) c.in-Some.is c.requires.fits)
    (subst (λ f. item_if f (take count held) ≡ decided false (take count held)) c.in-Some.is c.requires.first)

pub returns-in-Some-clause-fits : goal.returns-in-Some-clause-fits
returns-in-Some-clause-fits c =
    FirstFits-more c.in-Some.first c.args.count c.args.held.now.bytes (subst (λ f. FirstFits (take c.args.count c.args.held.now.bytes) f) c.in-Some.is c.requires.fits)
