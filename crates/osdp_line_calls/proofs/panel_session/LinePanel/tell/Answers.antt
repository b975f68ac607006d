use Rattle.osdp_line_calls.proofs.Common.{string_bytes, refl, sym, ◌∙◌, arith}
use Rattle.osdp_line_calls.proofs.Telling.{by_one}
use Rattle.osdp_panel.specs.Telling.{tells}
use Rattle.osdp_line_calls.proofs.panel_session.LinePanel.tell.Goals as goal

pub reports-smaller : goal.reports-smaller
reports-smaller c =
    let s = c.reports.self in
    let told = by_one (tells s.panel) (string_bytes c.reports.text) (string_bytes c.tell_first.new.text) _ s c.tell_first.new.self refl c.in_ok-tell_first.ensures.text
    c.in_ok-tell_first.ensures.session (sym c.in_ok-tell_first.ensures.some ∙ c.if-branch.true) c.reports.invariant.text in
    omega (arith, told.2)

pub reports-preserved : goal.reports-preserved
reports-preserved c =
    let s = c.reports.self in
    let told = by_one (tells s.panel) (string_bytes c.reports.text) (string_bytes c.tell_first.new.text) _ s c.tell_first.new.self refl c.in_ok-tell_first.ensures.text
    c.in_ok-tell_first.ensures.session (sym c.in_ok-tell_first.ensures.some ∙ c.if-branch.true) c.reports.invariant.text in
    record { text = told.0; session = told.1 ∙ c.reports.invariant.session }
