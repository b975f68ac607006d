use Rattle.osdp_session.proofs.several_readers.run_bus.Goals as goal

pub returns : goal.returns
returns g c =
    c.holds_of_each_run.ensures.bus c.args.config.now c.args.readers.items c.args.steps.now c.run_bus.result
    (record { ends = c.run_bus.ensures.ends; fits = c.run_bus.ensures.fits })
