-- What is printed after what was printed before.
use Rattle.osdp_test_script.proofs.Common.{◌≡◌, List, ◌++◌, ℕ, ap, ◌∙◌, append_assoc, Called, Comes, after_text, counts_line, ends, settled}
use Rattle.osdp_test_script.specs.declared.run.ScriptRun.{ScriptRun}

pub chained : (t0 t1 t2 : List ℕ) (first : Called) (next : ScriptRun) (second : Called) → t1 ≡ t0 ++ first.text → Comes t1 t2 next second
    → Comes t0 t2 next (after_text first.text second)
chained t0 t1 t2 first next second is comes = record {
  text = comes.text ∙ ap (λ t. t ++ second.text) is ∙ append_assoc t0 first.text second.text;
  run = comes.run;
}

pub then_counted : (t0 t1 t2 : List ℕ) (s next : ScriptRun) → Comes t0 t1 next (settled s) → t2 ≡ t1 ++ counts_line next.counts → Comes t0 t2 next (ends s)
then_counted t0 t1 t2 s next comes is = record {
  text = is ∙ ap (λ t. t ++ counts_line next.counts) comes.text ∙ append_assoc t0 (settled s).text (counts_line next.counts)
      ∙ ap (λ (r : ScriptRun). t0 ++ ((settled s).text ++ counts_line r.counts)) comes.run;
  run = comes.run;
}
