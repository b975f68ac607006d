use Rattle.std.proofs.Common.{◌∷◌, List, ℕ, ap, ◌∙◌}
use Rattle.osdp_msg.proofs.RecordLists.{records_fit, records_take}
use Rattle.osdp_msg.proofs.records.put_lent.Goals as goal

pub returns-in-Bytes-clause-spelled : goal.returns-in-Bytes-clause-spelled
returns-in-Bytes-clause-spelled g c =
    let r = g.R.Record in
    let whole = (rw c.in-Bytes.is at c.requires.most).whole in
    rw c.in-Bytes.is (c.put_bytes.ensures.spelled ∙ ap (λ (bs : List ℕ). c.args.code ∷ bs) (records_take r.SIZE r.spelled r.fits r.read_at c.requires.kind c.in-Bytes.bytes.now whole c.put_bytes.ensures.fits))

pub returns-in-Bytes-clause-fits : goal.returns-in-Bytes-clause-fits
returns-in-Bytes-clause-fits g c =
    let r = g.R.Record in
    rw c.in-Bytes.is (records_fit r.SIZE r.spelled r.fits r.read_at c.requires.kind c.in-Bytes.bytes.now c.put_bytes.ensures.fits)
