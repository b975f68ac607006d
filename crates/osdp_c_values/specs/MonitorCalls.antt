-- What a program makes of a monitor, call by call.
use Rattle.std.specs.Prelude.{◌≡◌, ℕ, Bool, List, [], ◌∷◌, ◌++◌}
use Rattle.osdp_tool_monitor.specs.Hearing.{LineEvent, events_report, nothing_yet}
use Rattle.osdp_tool_show.specs.declared.detail.Detail.{Detail}
use Rattle.osdp_c_values.specs.declared.status.Status.TheVariants.{Done}
use Rattle.osdp_c_values.specs.HeldMonitors.{HeldMonitor}
use Rattle.osdp_c_values.specs.Monitors.{EventEnds, IsNew, next_text, takes_text}

-- something happens on the line, or text is taken into so much room
pub data MonitorCall : Type 0 where
  Happens : LineEvent → MonitorCall
  Takes : ℕ → MonitorCall

-- what happens on the line, in its order
unfoldable pub happened : List MonitorCall → List LineEvent
happened [] = []
happened (Happens event ∷ calls) = event ∷ happened calls
happened (Takes room ∷ calls) = happened calls

-- these calls were done, and these texts were taken, one after the other
unfoldable pub AreDone : List MonitorCall → HeldMonitor → HeldMonitor → List ℕ → Type 0
AreDone [] m m' texts = (m' ≡ m) × (texts ≡ [])
AreDone (Happens event ∷ calls) m m' texts = (next : HeldMonitor) × EventEnds event m Done next × AreDone calls next m' texts
AreDone (Takes room ∷ calls) m m' texts =
    (rest : List ℕ) × (texts ≡ next_text room m ++ rest) × AreDone calls (takes_text room m).machine m' rest

-- Whenever text is taken, and into whatever room: the texts that were taken, and then what waits, are what `osdp monitor` prints of what has happened.
abbrev pub TellsAll : Type 0
TellsAll = (detail : Detail) (standard : Bool) (m m' : HeldMonitor) (calls : List MonitorCall) (texts : List ℕ)
    → IsNew detail standard m → AreDone calls m m' texts
    → texts ++ m'.waiting ≡ events_report detail (nothing_yet standard) (happened calls)
