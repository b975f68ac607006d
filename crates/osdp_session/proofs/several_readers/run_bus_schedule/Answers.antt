use Rattle.osdp_session.proofs.several_readers.run_bus_schedule.Goals as goal

pub returns : goal.returns
returns g c =
    c.holds_of_each_run.ensures.bus c.args.config.now c.args.readers.items (g.S.Schedule.left c.args.schedule) c.run_bus_schedule.result
    (record { ends = c.run_bus_schedule.ensures.ends; fits = c.run_bus_schedule.ensures.fits })
