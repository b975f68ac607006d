-- What a line does to a panel, as calls of the panel, and what is told of them.
use Rattle.std.specs.Prelude.{◌≡◌, ◌⊎◌, ℕ, zero, suc, if◌then◌else◌, List, [], ◌∷◌, ◌++◌, Option, None, is_some, option_map}
use Rattle.osdp_bus.specs.declared.config.BusConfig.{BusConfig}
use Rattle.osdp_bus.specs.Machine.{add_refusal, begin_refusal_at, retarget_refusal_at, withdrawal_at}
use Rattle.osdp_line_answers.specs.Answers.{Speaks}
use Rattle.osdp_line_calls.specs.Calls.{Says, SaysNothing}
use Rattle.osdp_line_calls.specs.declared.panel_call.PanelCall.{PanelCall}
use Rattle.osdp_line_calls.specs.declared.panel_call.PanelCall.TheVariants as line
use Rattle.osdp_line_calls.specs.PanelCalls.{CallFits, call_words}
use Rattle.osdp_line_calls.specs.PanelLines.{Answers}
use Rattle.osdp_line_calls.specs.PanelSessions.{IsDue, Session, burst_after, front_number_at, most_reports, new_session, overhears}
use Rattle.osdp_line_calls.specs.PanelTexts.{burst_line, due_line, no_line, refusal_line, report_line, send_line, submit_line, withdrawal_line}
use Rattle.osdp_panel.specs.Giving.{give_refusal}
use Rattle.osdp_panel.specs.Orders.{PanelState, orders_at}
use Rattle.osdp_panel.specs.Panels.{new_panel}
use Rattle.osdp_panel.specs.Sending.{after_tick, sent_at, written}
use Rattle.osdp_panel.specs.Telling.{after_settle, tells}
use Rattle.osdp_panel_laws.specs.Calls.{Call, Add, Begin, Submit, Withdraw, Retarget, Hear, Silence, Tick, Write, NextReport, after_call, after_calls}

-- the call of the panel that a line orders, at the moment of the session; a moment is none
abbrev pub ordered : PanelCall → ℕ → List Call
ordered (line.At later) now = []
ordered (line.Add address next) now = Add address next ∷ []
ordered (line.Begin entry) now = Begin entry now ∷ []
ordered (line.Submit entry until command) now = Submit entry command until ∷ []
ordered (line.Withdraw entry) now = Withdraw entry ∷ []
ordered (line.Retarget entry address) now = Retarget entry address ∷ []
ordered (line.Bytes list) now = Hear list.items now ∷ []
ordered line.Silence now = Silence now ∷ []
ordered line.Tick now = Tick now ∷ []
ordered line.Write now = Write now ∷ []

-- the reports are taken, of so many at most, until there is none
abbrev pub takes_some : ℕ → PanelState → List Call
takes_some zero p = []
takes_some (suc most) p = if is_some (tells p) then NextReport ∷ takes_some most (after_settle p) else []

-- .. all that there are
abbrev pub takes_all : PanelState → List Call
takes_all p = takes_some (most_reports p) p

-- the calls of the panel that a line is: the one that it orders, and the taking of each report that there is then
abbrev pub calls_of : PanelCall → Session → List Call
calls_of call s = ordered call s.now ++ takes_all (after_calls (ordered call s.now) s.panel)

-- what stands in the place of bursts after a call
abbrev pub burst_by : Call → List ℕ → PanelState → List ℕ
burst_by (Tick now) burst p = burst_after (sent_at now p) burst
burst_by _ burst p = burst

-- what is told of a call: why it is refused, the order that was accepted or taken back, that a burst is to go out, its bytes, or the report that is taken
abbrev pub call_text : Call → List ℕ → PanelState → List ℕ
call_text (Add address next) burst p = refusal_line (add_refusal address p.bus)
call_text (Begin entry now) burst p = refusal_line (begin_refusal_at entry p.bus)
call_text (Submit entry command until) burst p = submit_line entry (give_refusal entry command p) (option_map (λ o. o.next) (orders_at entry p))
call_text (Withdraw entry) burst p = withdrawal_line entry (front_number_at entry p) (withdrawal_at entry p.bus)
call_text (Retarget entry address) burst p = refusal_line (retarget_refusal_at entry address p.bus)
call_text (Hear bytes now) burst p = []
call_text (Silence now) burst p = []
call_text (Tick now) burst p = burst_line (is_some (after_tick now p).last)
call_text (Write now) burst p = send_line (written now burst p)
call_text NextReport burst p = report_line (tells p)

-- of a list of calls, each as those before it have left the panel and the burst
abbrev pub calls_text : List Call → List ℕ → PanelState → List ℕ
calls_text [] burst p = []
calls_text (call ∷ calls) burst p = call_text call burst p ++ calls_text calls (burst_by call burst p) (after_call call p)

-- these calls were made, and after them there is nothing to report; the answer is what was told before, what they told, and the moment of the next turn
pub record Calls (s : Session) (before : List ℕ) (calls : List Call) (text : List ℕ) (next : Session) : Type 0 where
  pub panel : next.panel ≡ after_calls calls s.panel
  pub none_left : tells next.panel ≡ None
  pub due : Option ℕ
  pub is_due : IsDue next due
  pub told : text ≡ (before ++ calls_text calls s.burst s.panel) ++ due_line due

-- a line that is none changes nothing
pub record Refused (s : Session) (text : List ℕ) (next : Session) : Type 0 where
  pub same : next ≡ s
  pub due : Option ℕ
  pub is_due : IsDue s due
  pub told : text ≡ no_line ++ due_line due

-- a line is the call of the panel that it orders, and the taking of all reports that there are then, after the lines of what it lets be heard beside the bus; or it is none
abbrev pub IsCallOrNone : Type 0
IsCallOrNone = (s : Session) (given text : List ℕ) (next : Session) → Answers s given text next
    → ((call : PanelCall) × Says call_words CallFits given call × Calls s (overhears call s).text (calls_of call s) text next)
    ⊎ (SaysNothing call_words CallFits given × Refused s text next)

-- lines to a new panel come to a list of its calls, so what holds after every list of calls holds after any lines
abbrev pub ComesOfCalls : Type 0
ComesOfCalls = (config : BusConfig) (lines : List (List ℕ)) (text : List ℕ) (last : Session)
    → Speaks Answers (new_session config) lines text last
    → (calls : List Call) × (last.panel ≡ after_calls calls (new_panel config))
