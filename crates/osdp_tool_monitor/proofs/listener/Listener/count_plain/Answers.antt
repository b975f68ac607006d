use Rattle.osdp_tool_monitor.proofs.Common.{◌≡◌, ◌<◌, ◌∙◌, length, ap, arith, is_fresh, copies_last, nothing_wrong, knowledge_of, after_packet}
use Rattle.osdp_tool_monitor.proofs.Plain.{counts_in_place}
use Rattle.osdp_tool_monitor.proofs.listener.Listener.count_plain.Goals as goal

pub returns-clause-counts : goal.returns-clause-counts
returns-clause-counts c =
    let p = c.args.packet.now in
    let k = knowledge_of c.args.self.now.monitor in
    let old = c.index_mut-counts.result.now in
    let place : c.from.result ≡ p.address = c.from.ensures ∙ c.get.ensures.value ∙ c.address.ensures in
    let within : c.from.result < length c.args.self.now.counts.items = omega (arith, c.from.ensures, c.get.ensures.range, c.args.self.now.addresses) in
    counts_in_place p _ (copies_last k p) c.args.self.now.counts.items c.from.result old _ place within c.index_mut-counts.ensures.value
    (c.count_plain.ensures (copies_last k p) (is_fresh k p c.requires) ∙ ap (λ clean. after_packet p clean (copies_last k p) nothing_wrong old) c.is_clean.ensures)
