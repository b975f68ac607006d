use Rattle.osdp_tool_sim.proofs.Common.{◌∙◌, map, string_bytes, lists_of, texts_from}
use Rattle.osdp_tool_sim.proofs.Accounts.{texts_more}
use Rattle.osdp_tool_sim.proofs.several.texts.Goals as goal

pub loop-i-preserved : goal.loop-i-preserved
loop-i-preserved c =
    texts_more c.args.accounts.now c.loop-i.i c.index-accounts-i.result (string_bytes c.loop-i.text) c.as_str.result.now (string_bytes c.push_str.new.self)
    (texts_from 1 (map lists_of c.args.accounts.now)) c.loop-i-test.true c.index-accounts-i.is (c.as_str.ensures.value ∙ c.in_ok-one.ensures)
    c.in_ok-push_str.ensures.bytes c.loop-i.invariant
