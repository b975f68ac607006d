use Rattle.osdp_tool_test_panel.proofs.Common.{inl, refl, said_ends, SaidFits, said_words, after_said, entries_of, model, new_test}
use Rattle.osdp_tool_test_panel.proofs.command.test_by.Goals as goal

pub returns-in-Ok : goal.returns-in-Ok
returns-in-Ok g c =
    inl (
      c.in-Some.form,
      c.in-Some.ensures,
      said_ends said_words SaidFits model after_said entries_of (λ m. refl) c.in-Ok.tested (new_test c.in-Some.form c.args.rules.now) c.in-Ok.ensures _ _ _ _ _ _ _ _ c.judge_lines.ensures,
    )
