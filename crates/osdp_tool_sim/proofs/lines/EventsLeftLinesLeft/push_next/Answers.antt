use Rattle.osdp_tool_sim.proofs.Common.{ℕ, List, ◌∷◌, ◌++◌, ap, string_bytes, sym, ◌∙◌, Event, event_words, event_kept, plain, line_text}
use Rattle.osdp_tool_sim.proofs.Written.{event_is, one_next}
use Rattle.osdp_tool_sim.proofs.lines.EventsLeftLinesLeft.push_next.Goals as goal

pub returns : goal.returns
returns c =
    let text = string_bytes c.args.text.now in
    let name = c.args.name.now in
    one_next event_words event_kept c.args.self.now.0 c.next.new.self c.in-Some.bytes.now name text (string_bytes c.write.new.self)
    c.in-Some.ensures.first c.in-Some.ensures.others
    (c.in_ok-write.ensures.bytes ∙ ap (λ (l : List ℕ). text ++ l) (sym (event_is name c.kept-event.result))
    ∙ ap (λ (e : Event). text ++ line_text (plain name ∷ event_words e)) c.kept-event.ensures)
