use Rattle.osdp_tool_objects.proofs.Common.{◌≡◌, ◌++◌, OnOk, subst, columns}
use Rattle.osdp_tool_objects.proofs.object.push_numbers.Goals as goal

pub returns : goal.returns
returns c =
    subst (λ names. OnOk c.push_columns.result (c.push_columns.new.object.items ≡ c.args.object.now.items ++ columns names c.args.numbers.now)) c.column_names.ensures
    c.push_columns.ensures
