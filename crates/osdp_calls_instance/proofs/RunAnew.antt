-- What `osdp panel` runs by any words is a panel that is run anew.
use Rattle.osdp_calls_instance.specs.LinePrograms.{PanelsRunAnew}

pub panels_run_anew : PanelsRunAnew
panels_run_anew given first s (config, (settings, give, is), made) = (config.config, made)
