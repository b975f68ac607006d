-- Whatever is taken when, what a monitor tells is the text of what has happened.
use Rattle.std.proofs.Common.{◌≡◌, ℕ, List, [], ◌∷◌, ◌++◌, take, drop, sym, ap, ◌∙◌, append_assoc, append-nil, take-append-drop}
use Rattle.osdp_tool_monitor.specs.Hearing.{Hearing, LineEvent, after_event, after_events, event_report, events_report, hearing_of, line_detail}
use Rattle.osdp_tool_monitor.specs.InTurn.{after_all, report_of_all}
use Rattle.osdp_tool_show.specs.declared.detail.Detail.{Detail}
use Rattle.osdp_c_values.specs.HeldMonitors.{HeldMonitor}
use Rattle.osdp_c_values.specs.MonitorCalls.{AreDone, Happens, MonitorCall, Takes, TellsAll, happened}

-- what one thing comes to, and then others
one_more : (detail : Detail) (h : Hearing) (event : LineEvent) (events : List LineEvent)
    → events_report detail h (event ∷ events) ≡ events_report detail h (event ∷ []) ++ events_report detail (after_events h (event ∷ [])) events
unfolding after_all report_of_all
one_more detail h event events =
    ap (λ t. t ++ events_report detail (after_event h event) events) (sym (append-nil (event_report detail h event)))

told : (calls : List MonitorCall) (m m' : HeldMonitor) (texts : List ℕ) → AreDone calls m m' texts
    → texts ++ m'.waiting ≡ m.waiting ++ events_report (line_detail m.line) (hearing_of m.line) (happened calls)
unfolding AreDone happened report_of_all
told [] m m' texts done =
    ap (λ t. t ++ m'.waiting) done.1 ∙ ap (λ (k : HeldMonitor). k.waiting) done.0 ∙ sym (append-nil m.waiting)
told (Happens event ∷ calls) m m' texts done =
    let next = done.0 in
    let h = done.1.2 in
    let d = line_detail m.line in
    let k = hearing_of m.line in
    told calls next m' texts done.2
    ∙ ap (λ d'. next.waiting ++ events_report d' (hearing_of next.line) (happened calls)) h.prints
    ∙ ap (λ k'. next.waiting ++ events_report d k' (happened calls)) h.heard
    ∙ ap (λ w. w ++ events_report d (after_events k (event ∷ [])) (happened calls)) h.text
    ∙ append_assoc m.waiting (events_report d k (event ∷ [])) (events_report d (after_events k (event ∷ [])) (happened calls))
    ∙ ap (λ t. m.waiting ++ t) (sym (one_more d k event (happened calls)))
told (Takes room ∷ calls) m m' texts done =
    let rest = done.0 in
    let w = m.waiting in
    let r = events_report (line_detail m.line) (hearing_of m.line) (happened calls) in
    ap (λ t. t ++ m'.waiting) done.1
    ∙ append_assoc (take room w) rest m'.waiting
    ∙ ap (λ t. take room w ++ t) (told calls (record m { waiting = drop room w }) m' rest done.2)
    ∙ sym (append_assoc (take room w) (drop room w) r)
    ∙ ap (λ t. t ++ r) (take-append-drop room w)

pub tells_all_lem : TellsAll
tells_all_lem detail standard m m' calls texts new done =
    told calls m m' texts done
    ∙ ap (λ w. w ++ events_report (line_detail m.line) (hearing_of m.line) (happened calls)) new.waiting
    ∙ ap (λ d. events_report d (hearing_of m.line) (happened calls)) new.prints
    ∙ ap (λ h. events_report detail h (happened calls)) new.heard
