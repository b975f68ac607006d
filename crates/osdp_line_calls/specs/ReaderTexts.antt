-- The lines that answer a call.
use Rattle.std.specs.Prelude.{ℕ, Bool, true, false, List, [], ◌∷◌, ◌++◌, codes, Option, Some, None}
use Rattle.std.specs.Fmt.{decimal}
use Rattle.osdp_msg.specs.declared.command.Command.{Command}
use Rattle.osdp_msg.specs.declared.command_fields.Communication.{Communication}
use Rattle.osdp_msg.specs.CommandText.{command_text}
use Rattle.osdp_msg.specs.Events.{event_text}
use Rattle.osdp_reader.specs.Heard.{accepted_comset}
use Rattle.osdp_words.specs.Word.{bytes, printed}
use Rattle.osdp_device.specs.Saying.{Said, again_by, taken_by}
use Rattle.osdp_device.specs.declared.events.Expired.{Expired}
use Rattle.osdp_device.specs.declared.events.Expired.TheVariants.{Withdrawn, InDoubt}

-- a command that the device does, or that was acted on once more
abbrev pub command_line : List ℕ → Option Command → List ℕ
command_line name None = []
command_line name (Some command) = name ++ (codes " " ++ (command_text command ++ codes "\n"))

-- where the reader is from now on, and at which rate
abbrev pub moved_line : Option Communication → List ℕ
moved_line None = []
moved_line (Some c) = codes "moved " ++ (decimal c.address ++ (codes " " ++ (decimal c.baud_rate ++ codes "\n")))

abbrev pub send_line : List ℕ → List ℕ
send_line sent = codes "send " ++ (printed (bytes sent) ++ codes "\n")

-- what is sent back, then what the device is told
abbrev pub said_lines : Said → List ℕ
said_lines s =
    send_line s.bytes
    ++ (command_line (codes "taken") (taken_by s.kind s.command)
    ++ (command_line (codes "again") (again_by s.kind s.command)
    ++ moved_line (accepted_comset s.command)))

abbrev pub all_lines : List Said → List ℕ
all_lines [] = []
all_lines (s ∷ said) = said_lines s ++ all_lines said

-- by whether the panel was gone and whether it is: it went, or it came, or nothing is new
abbrev pub presence_text : Bool → Bool → List ℕ
presence_text false true = codes "offline\n"
presence_text true false = codes "online\n"
presence_text before now = []

-- an event that became too old while the panel was gone: it was never offered, or it was, and the panel may have it or not
abbrev pub expired_line : Expired → List ℕ
expired_line (Withdrawn event) = codes "withdrawn " ++ (event_text event ++ codes "\n")
expired_line (InDoubt event) = codes "in doubt " ++ (event_text event ++ codes "\n")

abbrev pub expired_lines : List Expired → List ℕ
expired_lines [] = []
expired_lines (expired ∷ later) = expired_line expired ++ expired_lines later

-- each answer ends with how many events wait
abbrev pub waiting_line : ℕ → List ℕ
waiting_line count = codes "waiting " ++ (decimal count ++ codes "\n")

-- the queue is full
abbrev pub full_line : List ℕ
full_line = codes "refused N2\n"

-- the line is none
abbrev pub no_line : List ℕ
no_line = codes "refused line\n"
