use Rattle.osdp_calls.proofs.Ruling.{calls_rule_suffices}
use Rattle.osdp_calls.proofs.calls_rule_suffices.Goals as goal

pub returns : goal.returns
returns g c = record {
  suffices = calls_rule_suffices g.H.Handler.answer_of g.H.Handler.after c.rule_suffices.ensures c.nobody_else_hears.ensures.hears c.reads_what_is_asked.ensures;
}
