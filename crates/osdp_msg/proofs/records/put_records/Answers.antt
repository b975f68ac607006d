use Rattle.osdp_msg.proofs.Common.{◌≡◌, ◌∷◌, ◌*◌, ℕ, suc, [], take, ap, ◌∙◌, length, subst, arith, flat_map_more, length-take, take_more, All-more}
use Rattle.osdp_msg.proofs.RecordLists.{length-flat_map_size, spelling_room}
use Rattle.osdp_msg.proofs.records.put_records.Goals as goal

pub append_to-requires : goal.append_to-requires
append_to-requires g c =
    let rs = c.args.records.now in
    let i = c.loop-record.record-index in
    let size = g.R.Record.SIZE in
    let spelled = length-flat_map_size g.R.Record.spelled size g.met.R.Record.length_spelled (take i rs) in
    let count : length (take i rs) ≡ i = omega (arith, length-take i rs) in
    let so_far : length c.loop-record.spelling.items ≡ suc (size * i) = ap length c.loop-record.invariant.spelled ∙ ap suc (spelled ∙ ap (λ (k : ℕ). size * k) count) in
    spelling_room size (length rs) i (length c.loop-record.spelling.items) c.loop-record-test.true c.requires so_far

pub loop-record-preserved : goal.loop-record-preserved
loop-record-preserved g c =
    let rs = c.args.records.now in
    let i = c.loop-record.record-index in
    let x = c.record-item.result in
    record {
      spelled = rw (c.append_to.ensures.appended, c.loop-record.invariant.spelled, take_more rs i x c.loop-record-test.true, ← c.record-item.is) (flat_map_more g.R.Record.spelled (c.args.code ∷ []) (take i rs) x);
      fits = All-more g.R.Record.fits rs i x c.loop-record-test.true c.loop-record.invariant.fits (subst g.R.Record.fits c.record-item.is c.append_to.ensures.fits);
    }
