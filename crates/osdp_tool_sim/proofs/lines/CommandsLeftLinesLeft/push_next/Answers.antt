use Rattle.osdp_tool_sim.proofs.Common.{ℕ, List, ◌∷◌, ◌++◌, ap, string_bytes, sym, ◌∙◌, Command, command_words, command_kept, plain, line_text}
use Rattle.osdp_tool_sim.proofs.Written.{command_is, one_next}
use Rattle.osdp_tool_sim.proofs.lines.CommandsLeftLinesLeft.push_next.Goals as goal

pub returns : goal.returns
returns c =
    let text = string_bytes c.args.text.now in
    let name = c.args.name.now in
    one_next command_words command_kept c.args.self.now.0 c.next.new.self c.in-Some.bytes.now name text (string_bytes c.write.new.self)
    c.in-Some.ensures.first c.in-Some.ensures.others
    (c.in_ok-write.ensures.bytes ∙ ap (λ (l : List ℕ). text ++ l) (sym (command_is name c.kept-command.result))
    ∙ ap (λ (m : Command). text ++ line_text (plain name ∷ command_words m)) c.kept-command.ensures)
