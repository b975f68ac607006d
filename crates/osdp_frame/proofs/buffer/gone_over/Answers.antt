use Rattle.osdp_frame.proofs.Common.{take, get_or, subst, sym, rules, take_more, GoesOver}
use Rattle.osdp_frame.proofs.Running.{goes_on}
use Rattle.osdp_frame.proofs.buffer.gone_over.Goals as goal

pub loop-byte-preserved : goal.loop-byte-preserved
loop-byte-preserved g c =
    let since = g.C.Check.TookSince in
    let bytes = c.args.bytes.now in
    let index = c.loop-byte.byte-index in
    subst (λ l. GoesOver since c.args.front l c.add.new.self) (sym (take_more bytes index 0 (search rules)))
    (goes_on since c.args.front c.loop-byte.state c.add.new.self (take index bytes) (get_or bytes index 0) c.loop-byte.invariant c.add.ensures.since)
