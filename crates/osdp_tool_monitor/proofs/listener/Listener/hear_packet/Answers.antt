use Rattle.osdp_tool_monitor.proofs.Common.{◌≡◌, ◌∙◌, ◌++◌, is_some, sym, ap, string_bytes, append-nil, Found, copies_last, expected_in, knowledge_of, counts_after, more_if, is_clean, expected_bytes, found_text, told, listening_of, told_in}
use Rattle.osdp_tool_monitor.proofs.Spelling.{spelled_if}
use Rattle.osdp_tool_monitor.proofs.Plain.{plain_text, plain_told}
use Rattle.osdp_tool_monitor.proofs.listener.Listener.hear_packet.Goals as goal

pub returns-in-Ok-push_found-clause-text : goal.returns-in-Ok-push_found-clause-text
returns-in-Ok-push_found-clause-text c =
    let k = knowledge_of c.args.self.now.monitor in
    let l = listening_of c.args.self.now in
    let expected : c.as_slice-expected.result.now ≡ expected_bytes (expected_in k c.args.packet.now) =
    c.as_slice-expected.ensures.value ∙ spelled_if (expected_in k c.args.packet.now) _ c.in-Ok.ensures.expected in
    c.in-Ok-push_found.ensures
    ∙ ap (λ f. string_bytes c.args.text.now ++ found_text c.args.run c.args.place c.args.packet.now f c.as_slice-expected.result.now) (c.told-found.ensures ∙ ap (told c.args.self.now.standard) c.in-Ok.ensures.found)
    ∙ ap (λ b. string_bytes c.args.text.now ++ found_text c.args.run c.args.place c.args.packet.now (told_in l c.args.packet.now) b) expected

pub returns-then-is_plain-clause-counts : goal.returns-then-is_plain-clause-counts
returns-then-is_plain-clause-counts c =
    let l = listening_of c.args.self.now in
    let p = c.args.packet.now in
    c.count_plain.ensures.counts
    ∙ ap (λ f. counts_after p (is_clean l.trail.bad) (copies_last l.knowledge p) f l.counts) (sym (plain_told l p (c.is_plain.ensures.0 c.if-is_plain.true)))

pub returns-then-is_plain-clause-judged : goal.returns-then-is_plain-clause-judged
returns-then-is_plain-clause-judged c =
    let l = listening_of c.args.self.now in
    c.count_plain.ensures.judged ∙ ap (λ (f : Found). more_if f.judged l.judged) (sym (plain_told l c.args.packet.now (c.is_plain.ensures.0 c.if-is_plain.true)))

pub returns-then-is_plain-clause-accused : goal.returns-then-is_plain-clause-accused
returns-then-is_plain-clause-accused c =
    let l = listening_of c.args.self.now in
    c.count_plain.ensures.accused ∙ ap (λ (f : Found). more_if (is_some f.accusation) l.accused) (sym (plain_told l c.args.packet.now (c.is_plain.ensures.0 c.if-is_plain.true)))

pub returns-then-is_plain-clause-text : goal.returns-then-is_plain-clause-text
returns-then-is_plain-clause-text c =
    let l = listening_of c.args.self.now in
    let text = string_bytes c.args.text.now in
    sym (append-nil text) ∙ ap (λ t. text ++ t) (sym (plain_text l c.args.packet.now (c.is_plain.ensures.0 c.if-is_plain.true) c.args.run c.args.place))
