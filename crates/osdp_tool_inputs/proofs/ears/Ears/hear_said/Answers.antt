use Rattle.std.proofs.Common.{◌≡◌, length, rules, string_bytes, sym, ◌∙◌}
use Rattle.osdp_tool_streams.proofs.Whole.{no_items}
use Rattle.osdp_tool_inputs.proofs.OneByOne.{heard_bad, heard_empty, heard_past, heard_run, none_of, on_each}
use Rattle.osdp_tool_inputs.proofs.ears.Ears.hear_said.Goals as goal

pub returns-then-is_some-clause-heard : goal.returns-then-is_some-clause-heard
returns-then-is_some-clause-heard c = λ mode lines line h at said.
    heard_past mode lines line c.args.self.now.line (string_bytes c.args.self.now.shown) c.args.self.now.bad (sym c.is_some.ensures ∙ c.if-is_some.true) h

pub returns-in_default-clause-heard : goal.returns-in_default-clause-heard
returns-in_default-clause-heard c = λ mode lines line h at said.
    heard_bad mode lines line c.args.self.now.line c.args.self.now.line (string_bytes c.args.self.now.shown) (string_bytes c.args.self.now.shown) c.args.self.now.bad h
    c.args.number (none_of c.args.self.now.bad (sym c.is_some.ensures ∙ c.if-is_some.false)) at (sym said ∙ sym c.in_default.ensures)

pub returns-then-is_empty-clause-heard : goal.returns-then-is_empty-clause-heard
returns-then-is_empty-clause-heard c = λ mode lines line h at said.
    let none : length c.in-Some.run'.now ≡ 0 = search rules in
    heard_empty mode lines line c.in-Some.run'.now c.args.self.now.line (string_bytes c.args.self.now.shown) c.args.self.now.bad h
    (none_of c.args.self.now.bad (sym c.is_some.ensures ∙ c.if-is_some.false)) (sym said ∙ sym c.in-Some.ensures) (no_items c.in-Some.run'.now none)

pub returns-clause-heard : goal.returns-clause-heard
returns-clause-heard c =
    on_each c.hear_run.result
    (λ hears. λ mode lines line h at said.
    heard_run mode lines line c.args.self.now.line c.hear_run.new.self (string_bytes c.args.self.now.shown) (string_bytes c.hear_run.new.text) c.args.self.now.bad h
    c.in-Some.run'.now (none_of c.args.self.now.bad (sym c.is_some.ensures ∙ c.if-is_some.false)) (sym said ∙ sym c.in-Some.ensures) hears)
    c.hear_run.ensures.hears
