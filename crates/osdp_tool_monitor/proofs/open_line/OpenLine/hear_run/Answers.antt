use Rattle.osdp_tool_monitor.proofs.Common.{[], ◌∷◌, refl, arith, string_bytes, Hears, RunEnds, HearsRun, on_ok}
use Rattle.osdp_tool_monitor.proofs.OpenRuns.{load_ended, run_heard}
use Rattle.osdp_tool_monitor.proofs.open_line.OpenLine.hear_run.Goals as goal

pub returns-clause-hears : goal.returns-clause-hears
returns-clause-hears c =
    on_ok c.hear_run.result
    (λ (h : HearsRun c.args.run.now c.args.self.now.listener c.hear_run.new.self (string_bytes c.args.text.now) (string_bytes c.hear_run.new.text)).
    run_heard c.args.run.now c.args.self.now _ _ _ c.requires.none refl c.requires.is_open h.tells h.heard h.text) c.hear_run.ensures.hears

pub returns-clause-load : goal.returns-clause-load
returns-clause-load c =
    on_ok c.hear_run.result
    (λ (h : Hears (RunEnds c.args.run.now ∷ []) c.args.self.now (record c.args.self.now { listener = c.hear_run.new.self }) (string_bytes c.args.text.now) (string_bytes c.hear_run.new.text)).
    load_ended c.args.run.now c.args.self.now (record c.args.self.now { listener = c.hear_run.new.self }) _ _ (λ k. omega (arith, c.type_inv.run k))
    c.requires.is_open h)
    (returns-clause-hears c)
