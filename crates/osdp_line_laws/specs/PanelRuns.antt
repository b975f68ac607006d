-- A run of lines to a panel, from the first to the last: which calls the lines are, what is told of them, and what the panel is after them.
use Rattle.std.specs.Prelude.{◌≡◌, ℕ, List, [], ◌∷◌, ◌++◌, Option, Some, None}
use Rattle.osdp_panel_laws.specs.Calls.{after_calls}
use Rattle.osdp_line_answers.specs.Answers.{Speaks}
use Rattle.osdp_line_calls.specs.Calls.{AreSaid}
use Rattle.osdp_line_calls.specs.declared.panel_call.PanelCall.{PanelCall}
use Rattle.osdp_line_calls.specs.declared.panel_call.PanelCall.TheVariants as line
use Rattle.osdp_line_calls.specs.PanelCalls.{CallFits, call_words}
use Rattle.osdp_line_calls.specs.PanelLines.{Answers}
use Rattle.osdp_line_calls.specs.Passing.{Listening, opened_by}
use Rattle.osdp_line_calls.specs.PanelSessions.{IsDue, Session, burst_after, overhears}
use Rattle.osdp_line_calls.specs.PanelTexts.{due_line, no_line}
use Rattle.osdp_line_laws.specs.PanelLines.{calls_of, calls_text, ordered}
use Rattle.osdp_panel.specs.Sending.{sent_at}

-- the moment of the calls to come is that of the last line of a moment
abbrev pub moment_after : PanelCall → ℕ → ℕ
moment_after (line.At later) now = later
moment_after _ now = now

-- a line of a tick puts its burst in the place of the one before it
abbrev pub burst_said : PanelCall → Session → List ℕ
burst_said line.Tick s = burst_after (sent_at s.now s.panel) s.burst
burst_said _ s = s.burst

-- what is heard beside the bus after a line; the report of the bus that waits then may say that a session is open, or isn't any more
abbrev pub listening_after : PanelCall → Session → Listening
listening_after call s =
    let heard = (overhears call s).after in
    record heard { opened = opened_by (after_calls (ordered call s.now) s.panel).bus.devices.report heard.opened }

-- the whole panel after a line, and what is told of it: first what is passed over
abbrev pub after_said : Option PanelCall → Session → Session
after_said (Some call) s = record {
  panel = after_calls (calls_of call s) s.panel;
  burst = burst_said call s;
  now = moment_after call s.now;
  listening = listening_after call s;
}
after_said None s = s

abbrev pub said_text : Option PanelCall → Session → List ℕ
said_text (Some call) s = (overhears call s).text ++ calls_text (calls_of call s) s.burst s.panel
said_text None s = no_line

-- one line after the other, each as those before it have left the panel; each answer ends with the moment of the next turn then
abbrev pub Tells : List (Option PanelCall) → Session → List ℕ → Session → Type 0
Tells [] s text last = (text ≡ []) × (last ≡ s)
Tells (said ∷ more) s text last =
    (due : Option ℕ) × (rest : List ℕ) × IsDue (after_said said s) due × Tells more (after_said said s) rest last
    × (text ≡ (said_text said s ++ due_line due) ++ rest)

-- what a panel writes to a run of lines is what is told of the calls that these lines are, and it leaves the panel that these calls leave
abbrev pub RunsAreCalls : Type 0
RunsAreCalls = (first : Session) (lines : List (List ℕ)) (text : List ℕ) (last : Session) → Speaks Answers first lines text last
    → (said : List (Option PanelCall)) × AreSaid call_words CallFits lines said × Tells said first text last
