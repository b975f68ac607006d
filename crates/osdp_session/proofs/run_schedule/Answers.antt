use Rattle.osdp_session.proofs.run_schedule.Goals as goal

pub returns : goal.returns
returns g c =
    c.holds_of_each_run.ensures.link c.args.config.now c.args.handler (g.S.Schedule.left c.args.schedule) c.run_schedule.result
    (record { ends = c.run_schedule.ensures.ends; fits = c.run_schedule.ensures.fits })
