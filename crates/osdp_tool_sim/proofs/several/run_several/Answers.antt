use Rattle.osdp_tool_sim.proofs.Common.{Ok, Err, sym, subst, ap, ◌∙◌, Vec, steps_left, lists_of_all, TellsEach, readers_from}
use Rattle.osdp_sim.specs.declared.account.Account as declared
use Rattle.osdp_tool_sim.proofs.Accounts.{each_ok, each_stopped, holds_as}
use Rattle.osdp_tool_sim.proofs.Ranges.{several_in_range}
use Rattle.osdp_tool_sim.proofs.Running.{if_ok}
use Rattle.osdp_tool_sim.proofs.several.run_several.Goals as goal

pub returns-in-Ok-run_bus_schedule-clause-told : goal.returns-in-Ok-run_bus_schedule-clause-told
returns-in-Ok-run_bus_schedule-clause-told c =
    each_ok c.args.script.now c.in-Ok-run_bus_schedule.what
    (holds_as c.args.script.now c.settings-config.result c.in-Ok.readers.items (steps_left c.schedule.result) (Ok c.in-Ok-run_bus_schedule.what)
    c.settings-config.ensures (c.in-Ok.ensures ∙ ap (readers_from 1) c.deref.ensures.value) c.schedule.ensures c.in-Ok-run_bus_schedule.ensures)

pub returns-in-Err-clause-told : goal.returns-in-Err-clause-told
returns-in-Err-clause-told c =
    if_ok c.stopped.result (λ told is.
    subst (λ (a : Vec declared.Account). TellsEach c.args.script.now (lists_of_all a.items) told.end) (sym is.0)
    (each_stopped c.args.script.now c.in-Err.fault told.end
    (holds_as c.args.script.now c.settings-config.result c.in-Ok.readers.items (steps_left c.schedule.result) (Err c.in-Err.fault)
    c.settings-config.ensures (c.in-Ok.ensures ∙ ap (readers_from 1) c.deref.ensures.value) c.schedule.ensures c.in-Err.ensures) is.1))
    c.stopped.ensures.told

pub stopped-requires : goal.stopped-requires
stopped-requires c =
    several_in_range c.args.script.now c.in-Err.fault c.requires.readers
    (holds_as c.args.script.now c.settings-config.result c.in-Ok.readers.items (steps_left c.schedule.result) (Err c.in-Err.fault)
    c.settings-config.ensures (c.in-Ok.ensures ∙ ap (readers_from 1) c.deref.ensures.value) c.schedule.ensures c.in-Err.ensures).run.ends
