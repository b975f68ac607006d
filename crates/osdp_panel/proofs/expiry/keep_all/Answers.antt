use Rattle.std.proofs.Common.{◌<◌, ◌∙◌, arith, length}
use Rattle.osdp_panel.proofs.Keeping.{one_kept_at}
use Rattle.osdp_panel.proofs.expiry.keep_all.Goals as goal

pub loop-entry-preserved : goal.loop-entry-preserved
loop-entry-preserved c =
    let within : c.loop-entry.entry < length c.loop-entry.orders = omega (arith, c.loop-entry-test.true, c.loop-entry.auto.orders) in
    one_kept_at c.loop-entry.entry c.args.bus.now c.loop-entry.orders c.index-orders-entry.result c.keep_one.new.own within c.keep_one.ensures
    ∙ c.loop-entry.invariant
