use Rattle.osdp_tool_inputs.proofs.Common.{◌≡◌, ◌+◌, ◌∷◌, length, take, rules, sym, ap, ◌∙◌, take_rest, lines_of}
use Rattle.osdp_tool_inputs.proofs.Cutting.{last_next, next_line, no_line}
use Rattle.osdp_tool_inputs.proofs.lines.Lines.next.Goals as goal

pub returns-then-is_empty : goal.returns-then-is_empty
returns-then-is_empty c =
    let s = c.self.inside in
    let none : length s.rest.now ≡ 0 = search rules in
    (sym c.self.view_is ∙ no_line s.rest.now none, sym c.self.view_is ∙ no_line s.rest.now none)

pub returns-in-None : goal.returns-in-None
returns-in-None c = let s = c.self.inside in sym c.self.view_is ∙ last_next s.rest.now c.in-None.ensures (search rules)

pub returns-in-Some : goal.returns-in-Some
returns-in-Some c =
    let s = c.self.inside in
    sym c.self.view_is ∙ next_line s.rest.now c.in-Some.length c.in-Some.ensures ∙ ap (λ l. take c.in-Some.length s.rest.now ∷ lines_of l) (sym (take_rest s.rest.now (c.in-Some.length + 1)))
