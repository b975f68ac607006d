-- The options of `show` and `check`, in any order; a later one of a kind holds.
use Rattle.std.specs.Prelude.{◌≡◌, ◌<◌, ℕ, true, false, List, [], ◌∷◌, codes, Option, None, Some}
use Rattle.osdp_tool.specs.Job.{Words}
use Rattle.osdp_tool_options.specs.Options.{ReadsOptions, TakesNumber, numbered}
use Rattle.osdp_tool.specs.declared.capture_options.CaptureMode.{CaptureMode}
use Rattle.osdp_tool.specs.declared.capture_options.CaptureOption.{CaptureOption}
use Rattle.osdp_tool.specs.declared.capture_options.CaptureOption.TheVariants.{Join, Times, NoPolls, Address}
use Rattle.osdp_tool.specs.declared.capture_options.OptionName.{OptionName}
use Rattle.osdp_tool.specs.declared.capture_options.OptionName.TheVariants as name

abbrev pub name_text : OptionName → List ℕ
name_text name.Join = codes "--join"
name_text name.Times = codes "--times"
name_text name.NoPolls = codes "--no-polls"
name_text name.Address = codes "--address"

abbrev pub name_of : CaptureOption → OptionName
name_of Join = name.Join
name_of Times = name.Times
name_of NoPolls = name.NoPolls
name_of (Address a) = name.Address

-- the address of an option that has one
abbrev pub numbers_of : CaptureOption → List ℕ
numbers_of Join = []
numbers_of Times = []
numbers_of NoPolls = []
numbers_of (Address a) = a ∷ []

abbrev pub IsAddress : ℕ → Type 0
IsAddress a = a < 128

abbrev pub OptionFits : CaptureOption → Type 0
OptionFits Join = Unit {0}
OptionFits Times = Unit {0}
OptionFits NoPolls = Unit {0}
OptionFits (Address a) = IsAddress a

abbrev pub with_option : CaptureOption → CaptureMode → CaptureMode
with_option Join mode = record mode { join = true }
with_option Times mode = record mode { times = true }
with_option NoPolls mode = record mode { no_polls = true }
with_option (Address a) mode = record mode { address = Some a }

-- without options each line of digits is a run, and nothing is left out
abbrev pub default_mode : CaptureMode
default_mode = record { join = false; times = false; no_polls = false; address = None }

-- what the words ask for
abbrev pub ReadsCaptureMode : Words → Option CaptureMode → Type 0
ReadsCaptureMode words result = ReadsOptions (λ option. name_text (name_of option)) numbers_of OptionFits with_option default_mode words result

-- ---- one option

-- the option of a name, after which these words stand
abbrev pub TakesOption : OptionName → Words → Words → Option CaptureOption → Type 0
TakesOption name.Join old new result = (result ≡ Some Join) × (new ≡ old)
TakesOption name.Times old new result = (result ≡ Some Times) × (new ≡ old)
TakesOption name.NoPolls old new result = (result ≡ Some NoPolls) × (new ≡ old)
TakesOption name.Address old new result = (a : Option ℕ) × TakesNumber IsAddress old new a × (result ≡ numbered Address a)
