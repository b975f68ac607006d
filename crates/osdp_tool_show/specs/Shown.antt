-- What show and check print of an input, and what they answer.
use Rattle.std.specs.Prelude.{ℕ, Bool, ◌||◌, nat_lt, nat_le, if◌then◌else◌, List, ◌++◌, length, take, is_some, Result, Ok, Err}
use Rattle.std.specs.Option.{option_map_or}
use Rattle.osdp_tool_streams.specs.declared.form.Form.{Form}
use Rattle.osdp_tool_streams.specs.declared.form.Form.TheVariants.{Raw, Joined, Apart}
use Rattle.osdp_tool_streams.specs.Runs.{runs_of, ended_runs, open_run, first_bad, first_bad_ended}
use Rattle.osdp_tool_streams.specs.declared.mode.Mode.{Mode}
use Rattle.osdp_tool_show.specs.declared.detail.Detail.{Detail}
use Rattle.osdp_tool_show.specs.declared.tally.Tally.{Tally}
use Rattle.osdp_tool_show.specs.Tally.{no_tally}
use Rattle.osdp_tool_show.specs.ToldItems.{after_runs, runs_lines, end_line, lines_so_far}
use Rattle.osdp_tool_streams.specs.declared.fault.ToolFault.{ToolFault}
use Rattle.osdp_tool_streams.specs.declared.fault.ToolFault.TheVariants.{NotHex, TooLong}

-- how the input of a mode stands in runs
abbrev pub form_of : Mode → Form
form_of mode = if mode.raw then Raw else (if mode.join then Joined else Apart)

-- all that is counted of an input
abbrev pub tally_of : Form → List ℕ → Tally
tally_of form bytes = after_runs no_tally (runs_of form bytes)

-- the text of an input that has ended: the lines of its runs, in full or those of refusals alone, and the
-- line of counts where they are alone
abbrev pub shown : Detail → Form → List ℕ → List ℕ
shown detail form bytes = runs_lines detail no_tally (runs_of form bytes) ++ end_line detail (tally_of form bytes)

-- whether a refusal stands in it
abbrev pub is_refused_input : Form → List ℕ → Bool
is_refused_input form bytes = nat_lt 0 (tally_of form bytes).refused

-- the answer to an input that has ended
abbrev pub answer_to : Form → List ℕ → Result Bool ToolFault
answer_to form bytes = option_map_or (λ line. Err (NotHex line)) (first_bad form bytes) (Ok (is_refused_input form bytes))

-- the text of an input that is cut off: the lines of the items that its bytes decide, without the counts
abbrev pub shown_so_far : Detail → Form → List ℕ → List ℕ
shown_so_far detail form bytes = lines_so_far detail (ended_runs form bytes) (open_run form bytes)

-- the input ends within this many bytes, or a bad line in them ends it
abbrev pub ends_within : Form → ℕ → List ℕ → Bool
ends_within form limit bytes = nat_le (length bytes) limit || is_some (first_bad_ended form (take limit bytes))

-- the text and the answer for all the bytes that an input has, of which no more than the limit are read
abbrev pub limited_text : Detail → Form → ℕ → List ℕ → List ℕ
limited_text detail form limit bytes =
    if ends_within form limit bytes then shown detail form (take limit bytes) else shown_so_far detail form (take limit bytes)

abbrev pub limited_answer : Form → ℕ → List ℕ → Result Bool ToolFault
limited_answer form limit bytes =
    if ends_within form limit bytes then answer_to form (take limit bytes) else Err TooLong
