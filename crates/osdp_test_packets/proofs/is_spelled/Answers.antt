use Rattle.osdp_test_packets.proofs.Spelling.{same_spelled}
use Rattle.osdp_test_packets.proofs.is_spelled.Goals as goal

pub returns-in-Some : goal.returns-in-Some
returns-in-Some c = same_spelled c.args.digits.now _ _ _ c.in-Some.ensures.spelled c.eq.ensures
