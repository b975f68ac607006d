use Rattle.osdp_tool_sim.proofs.Common.{◌++◌, ap, ◌∙◌, codes, map, string_bytes, command_words, event_words, command_kept, event_kept, lists_of, command_line, counts_line, end_words, ended_line, line_text, reported_line, settled_line, settled_words}
use Rattle.osdp_tool_sim.proofs.Written.{five_lists, told_items, told_list}
use Rattle.osdp_tool_sim.proofs.account.account_text.Goals as goal

pub returns : goal.returns
returns c =
    let kept = c.args.account.now in
    let account = lists_of c.args.account.now in
    five_lists (counts_line c.args.number account) (map (command_line (codes "taken")) account.taken) (map settled_line account.settled)
    (map (command_line (codes "unsettled")) account.unsettled) (map reported_line account.reported) (map ended_line account.ends)
    (string_bytes c.push_counts.new.text) (string_bytes c.push_list.new.text) (string_bytes c.push_list-2.new.text)
    (string_bytes c.push_list-3.new.text) (string_bytes c.push_list-4.new.text) (string_bytes c.push_list-5.new.text)
    (c.in_ok-push_counts.ensures ∙ ap (λ l. l ++ line_text (counts_line c.args.number account)) c.new-text.ensures.bytes)
    (told_list (codes "taken") command_words command_kept kept.taken.items c.left.result (string_bytes c.push_counts.new.text)
    (string_bytes c.push_list.new.text) c.left.ensures c.in_ok-push_list.ensures)
    (told_items (codes "settled") settled_words kept.settled.items c.left-2.result (string_bytes c.push_list.new.text)
    (string_bytes c.push_list-2.new.text) c.left-2.ensures c.in_ok-push_list-2.ensures)
    (told_list (codes "unsettled") command_words command_kept kept.unsettled.items c.left-3.result (string_bytes c.push_list-2.new.text)
    (string_bytes c.push_list-3.new.text) c.left-3.ensures c.in_ok-push_list-3.ensures)
    (told_list (codes "reported") event_words event_kept kept.reported.items c.left-4.result (string_bytes c.push_list-3.new.text)
    (string_bytes c.push_list-4.new.text) c.left-4.ensures c.in_ok-push_list-4.ensures)
    (told_items (codes "ended") end_words kept.ends.items c.deref.result.now (string_bytes c.push_list-4.new.text)
    (string_bytes c.push_list-5.new.text) c.deref.ensures.value c.in_ok-push_list-5.ensures)
