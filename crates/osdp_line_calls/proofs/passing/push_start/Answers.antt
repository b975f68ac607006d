use Rattle.osdp_line_calls.proofs.Common.{◌+◌, ◌++◌, ap, append_assoc, codes, string_bytes, number_text}
use Rattle.std.specs.Fmt.{decimal}
use Rattle.osdp_line_calls.proofs.PanelCalls.{then_written}
use Rattle.osdp_line_calls.proofs.passing.push_start.Goals as goal

pub returns : goal.returns
returns c =
    then_written c.push_number.result (string_bytes c.args.text.now) _ (string_bytes c.write.new.self) (number_text c.args.number)
    (string_bytes c.push_number.new.text) _ c.in_ok-write.ensures.bytes c.push_number.ensures
    (ap (λ l. codes "passed over " ++ l) (append_assoc (decimal (c.args.entry + 1)) (codes " ") (number_text c.args.number)))
