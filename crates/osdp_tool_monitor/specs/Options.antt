-- The words of the command `monitor`: options, in any order; a later one of a kind holds.
use Rattle.std.specs.Prelude.{◌≡◌, ℕ, Bool, true, false, List, [], ◌∷◌, codes, Option, None, Some}
use Rattle.osdp_tool_options.specs.Options.{ReadsOptions, TakesNumber, Words, numbered}
use Rattle.osdp_frame.specs.Times.{IsTime}
use Rattle.osdp_tool_show.specs.declared.detail.Detail.TheVariants.{Filtered, Full, Refusals}
use Rattle.osdp_tool_monitor.specs.declared.mode.MonitorMode.{MonitorMode}
use Rattle.osdp_tool_monitor.specs.declared.mode.MonitorOption.{MonitorOption}
use Rattle.osdp_tool_monitor.specs.declared.mode.MonitorOption.TheVariants.{Packets, Talk, Gap, Every, Standard, Recorded, Times, Json, Clock}
use Rattle.osdp_tool_monitor.specs.declared.mode.OptionName.{OptionName}
use Rattle.osdp_tool_monitor.specs.declared.mode.OptionName.TheVariants as name

abbrev pub name_text : OptionName → List ℕ
name_text name.Packets = codes "--packets"
name_text name.Talk = codes "--talk"
name_text name.Gap = codes "--gap"
name_text name.Every = codes "--every"
name_text name.Standard = codes "--standard"
name_text name.Recorded = codes "--recorded"
name_text name.Times = codes "--times"
name_text name.Json = codes "--json"
name_text name.Clock = codes "--clock"

abbrev pub name_of : MonitorOption → OptionName
name_of Packets = name.Packets
name_of Talk = name.Talk
name_of (Gap n) = name.Gap
name_of (Every n) = name.Every
name_of Standard = name.Standard
name_of Recorded = name.Recorded
name_of Times = name.Times
name_of Json = name.Json
name_of Clock = name.Clock

-- the number of an option that has one
abbrev pub numbers_of : MonitorOption → List ℕ
numbers_of Packets = []
numbers_of Talk = []
numbers_of (Gap n) = n ∷ []
numbers_of (Every n) = n ∷ []
numbers_of Standard = []
numbers_of Recorded = []
numbers_of Times = []
numbers_of Json = []
numbers_of Clock = []

-- milliseconds of a gap, or seconds between two tables: both have the range of a time of the link
abbrev pub OptionFits : MonitorOption → Type 0
OptionFits Packets = Unit {0}
OptionFits Talk = Unit {0}
OptionFits (Gap n) = IsTime n
OptionFits (Every n) = IsTime n
OptionFits Standard = Unit {0}
OptionFits Recorded = Unit {0}
OptionFits Times = Unit {0}
OptionFits Json = Unit {0}
OptionFits Clock = Unit {0}

abbrev pub with_option : MonitorOption → MonitorMode → MonitorMode
with_option Packets mode = record mode { detail = Full }
with_option Talk mode = record mode { detail = Filtered (record { address = None; no_polls = true }) }
with_option (Gap n) mode = record mode { gap = n }
with_option (Every n) mode = record mode { every = Some n }
with_option Standard mode = record mode { standard = true }
with_option Recorded mode = record mode { recorded = true }
with_option Times mode = record mode { times = true }
with_option Json mode = record mode { json = true }
-- the day's time of a moment is asked for with the moment
with_option Clock mode = record mode { times = true; clock = true }

-- without options the input is lines of digits, findings alone are printed, in lines of text, a run is over after 20 milliseconds, no accusation is left
-- out, and no moment is told
abbrev pub default_mode : MonitorMode
default_mode = record { hex = true; detail = Refusals; gap = 20; every = None; standard = false; recorded = false; times = false; json = false; clock = false }

-- what the words ask for of an input of lines of digits, or of one of bytes
abbrev pub ReadsMode : Bool → Words → Option MonitorMode → Type 0
ReadsMode hex words result =
    ReadsOptions (λ option. name_text (name_of option)) numbers_of OptionFits with_option (record default_mode { hex = hex }) words result

-- ---- one option

-- the option of a name, after which these words stand
abbrev pub TakesOption : OptionName → Words → Words → Option MonitorOption → Type 0
TakesOption name.Packets old new result = (result ≡ Some Packets) × (new ≡ old)
TakesOption name.Talk old new result = (result ≡ Some Talk) × (new ≡ old)
TakesOption name.Gap old new result = (n : Option ℕ) × TakesNumber IsTime old new n × (result ≡ numbered Gap n)
TakesOption name.Every old new result = (n : Option ℕ) × TakesNumber IsTime old new n × (result ≡ numbered Every n)
TakesOption name.Standard old new result = (result ≡ Some Standard) × (new ≡ old)
TakesOption name.Recorded old new result = (result ≡ Some Recorded) × (new ≡ old)
TakesOption name.Times old new result = (result ≡ Some Times) × (new ≡ old)
TakesOption name.Json old new result = (result ≡ Some Json) × (new ≡ old)
TakesOption name.Clock old new result = (result ≡ Some Clock) × (new ≡ old)
