use Rattle.osdp_tool_monitor.proofs.Common.{◌++◌, [], ◌∷◌, subst, string_bytes, Come, Hears, on_ok, gap_events, Goes, cut_of}
use Rattle.osdp_tool_monitor.proofs.Sessions.{bytes_came}
use Rattle.osdp_tool_monitor.proofs.session.Session.take_bytes.Goals as goal

pub returns-clause-goes : goal.returns-clause-goes
returns-clause-goes c =
    on_ok c.come.result
    (λ (h : Hears (Come c.args.bytes.now ∷ []) c.end_if.new.self.line c.come.new.self (string_bytes c.end_if.new.text) (string_bytes c.come.new.text)).
    subst (λ over. Goes (gap_events over ++ Come c.args.bytes.now ∷ []) (cut_of c.args.self.now) c.args.self.now (record c.end_if.new.self { line = c.come.new.self })
    (string_bytes c.args.text.now) (string_bytes c.come.new.text)) c.is_run_over-over.ensures
    (bytes_came c.is_run_over-over.result c.args.bytes.now c.args.self.now c.end_if.new.self c.come.new.self _ _ _ c.requires.form c.in_ok-end_if.ensures.goes h))
    c.come.ensures.hears
