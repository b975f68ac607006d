use Rattle.osdp_line_calls.proofs.Common.{◌≡◌, ◌++◌, string_bytes, Session}
use Rattle.osdp_line_calls.specs.PanelSessions.{most_reports, tells_all}
use Rattle.osdp_line_calls.proofs.panel_session.LinePanel.tell.Given as goal

-- the reports that are left, after what was written, are all that there were
abbrev pub invariant-reports : goal.invariant-reports
invariant-reports l = record {
  text : string_bytes l.text ++ (tells_all l.self).text ≡ string_bytes l.initial.text ++ (tells_all l.initial.self).text;
  session : ◌≡◌ {A = Session} (tells_all l.self).session (tells_all l.initial.self).session;
}

abbrev pub decreases-reports : goal.decreases-reports
decreases-reports l = most_reports l.self.panel
