use Rattle.osdp_tool_objects.proofs.Common.{drop, texts}
use Rattle.osdp_tool_objects.proofs.Counts.{column_step, columns_end, columns_stop}
use Rattle.osdp_tool_objects.proofs.members.push_columns.Goals as goal

pub returns-in_default : goal.returns-in_default
returns-in_default c = columns_stop _ _ (texts (drop c.names.name-index c.args.names.now)) _ c.in_default.ensures c.names.invariant

pub names-preserved : goal.names-preserved
names-preserved c =
    column_step _ _ _ c.args.names.now c.names.name-index _ c.in-Some.number.now _ _ c.names.numbers c.word.new.self c.names-test.true c.in-Some.ensures c.as_bytes.ensures.value
    c.as_bytes-in-names.ensures.value c.in_ok-push_member.ensures c.names.invariant

pub returns : goal.returns
returns c = columns_end _ _ c.args.names.now c.names.name-index c.names.numbers c.names-test.false c.names.invariant
