use Rattle.std.proofs.Common.{◌≡◌, length, rules}
use Rattle.osdp_tool_streams.proofs.Whole.{no_items, says_at_once}
use Rattle.osdp_tool_streams.proofs.line.read_line.Goals as goal

pub returns-then-branch-clause-read : goal.returns-then-branch-clause-read
returns-then-branch-clause-read c =
    let none : length c.args.line.now.items ≡ 0 = search rules in
    says_at_once c.args.line.now.items c.args.characters.now c.read_digits.new.bytes.items c.in_ok-read_digits.field-0
    (no_items c.args.line.now.items none) c.in_ok-read_digits.ensures.read c.if-branch.true
