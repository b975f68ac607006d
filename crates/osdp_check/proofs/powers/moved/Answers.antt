use Rattle.osdp_check.proofs.Common.{ap, ◌∙◌, ◌*◌, product, remainder}
use Rattle.osdp_check.proofs.Places.{power_entry, product_moved}
use Rattle.osdp_check.proofs.powers.moved.Goals as goal

pub returns : goal.returns
returns c =
    c.divided.ensures
    ∙ ap (remainder 16) (c.multiplied.ensures ∙ ap (product 16 c.args.change) (c.power_over.ensures ∙ power_entry c.args.count c.requires))
    ∙ product_moved (8 * c.args.count) c.args.change c.ranges.change.fits
