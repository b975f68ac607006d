use Rattle.osdp_tool_sim.proofs.Common.{string_bytes, sym, ◌∙◌, length-map, command_kept, event_kept, lists_of}
use Rattle.osdp_tool_sim.proofs.Written.{counts_are, on_ok}
use Rattle.osdp_tool_sim.proofs.account.push_counts.Goals as goal

pub returns : goal.returns
returns c =
    let account = c.args.account.now in
    on_ok c.write-2.result (λ second.
    counts_are (lists_of c.args.account.now) c.args.number c.len-issued.result c.len-taken.result c.len-settled.result c.len-unsettled.result
    c.len-queued.result c.len-reported.result (string_bytes c.args.text.now) (string_bytes c.write.new.self) (string_bytes c.write-2.new.self)
    (c.len-issued.ensures ∙ sym (length-map account.issued.items command_kept)) (c.len-taken.ensures ∙ sym (length-map account.taken.items command_kept))
    c.len-settled.ensures (c.len-unsettled.ensures ∙ sym (length-map account.unsettled.items command_kept))
    (c.len-queued.ensures ∙ sym (length-map account.queued.items event_kept)) (c.len-reported.ensures ∙ sym (length-map account.reported.items event_kept))
    c.in_ok-write.ensures.bytes second) c.write-2.ensures.bytes
