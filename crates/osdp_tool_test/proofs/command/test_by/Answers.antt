use Rattle.osdp_tool_test.proofs.Common.{inl, refl, SaidFits, said_words, after_said, all_entries, model, new_test}
use Rattle.osdp_tool_test.proofs.Telling.{said_ends}
use Rattle.osdp_tool_test.proofs.command.test_by.Goals as goal

pub returns-in-Some : goal.returns-in-Some
returns-in-Some g c =
    inl (
      c.in-Some.form,
      c.in-Some.ensures,
      said_ends said_words SaidFits model after_said all_entries (λ m. refl) c.new.result (new_test c.in-Some.form c.args.rules.now) c.new.ensures _ _ _ _ _ _ _ _ c.judge_lines.ensures,
    )
