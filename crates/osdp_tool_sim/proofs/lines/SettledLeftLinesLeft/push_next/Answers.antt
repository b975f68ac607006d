use Rattle.osdp_tool_sim.proofs.Common.{◌≡◌, ℕ, List, ◌∷◌, ◌++◌, ap, string_bytes, sym, ◌∙◌, settled_words}
use Rattle.osdp_tool_sim.proofs.Written.{one_split, settled_is}
use Rattle.osdp_tool_sim.proofs.lines.SettledLeftLinesLeft.push_next.Goals as goal

pub returns : goal.returns
returns c =
    let text = string_bytes c.args.text.now in
    let name = c.args.name.now in
    let cut : c.args.self.now ≡ (c.in-Some.command, c.in-Some.answer) ∷ c.next.new.self = rw c.in-Some.is at c.next.ensures.steps in
    one_split settled_words c.args.self.now c.next.new.self (c.in-Some.command, c.in-Some.answer) name text (string_bytes c.write.new.self)
    cut
    (c.in_ok-write.ensures.bytes ∙ ap (λ (l : List ℕ). text ++ l) (sym (settled_is name c.in-Some.command c.in-Some.answer)))
