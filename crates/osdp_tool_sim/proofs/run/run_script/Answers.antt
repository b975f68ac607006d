use Rattle.osdp_tool_sim.proofs.Counting.{steps_few}
use Rattle.osdp_tool_sim.proofs.Running.{if_ok}
use Rattle.osdp_tool_sim.proofs.run.run_script.Goals as goal

pub tell-requires-clause-steps : goal.tell-requires-clause-steps
tell-requires-clause-steps c = steps_few c.args.bytes.now c.in-Ok.script c.requires c.in-Ok.ensures

pub tell-requires-clause-readers : goal.tell-requires-clause-readers
tell-requires-clause-readers c = c.has_readers.ensures c.args.bytes.now c.in-Ok.script c.in-Ok.ensures

pub returns-in-Ok-clause-told : goal.returns-in-Ok-clause-told
returns-in-Ok-clause-told c =
    if_ok c.tell.result (λ told is. record { script = c.in-Ok.script; said = c.in-Ok.ensures; told = is }) c.tell.ensures.told
