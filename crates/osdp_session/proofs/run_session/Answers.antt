use Rattle.osdp_session.proofs.run_session.Goals as goal

pub returns : goal.returns
returns g c =
    c.holds_of_each_run.ensures.link c.args.config.now c.args.handler c.args.steps.now c.run_session.result
    (record { ends = c.run_session.ensures.ends; fits = c.run_session.ensures.fits })
