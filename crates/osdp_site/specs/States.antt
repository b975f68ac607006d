-- Which commands say how something is to be from then on, and of what they say it.
use Rattle.std.specs.Prelude.{ℕ, ◌+◌, Bool, false, ◌&&◌, ◌||◌, ◌==◌, nat_le, nat_lt, if◌then◌else◌, List, [], ◌∷◌, Option, Some, None, Result, Ok, Err}
use Rattle.osdp_msg.specs.declared.command.Command.{Command}
use Rattle.osdp_msg.specs.declared.command.Command.TheVariants as command
use Rattle.osdp_msg.specs.declared.command_fields.Buzzer.{Buzzer}
use Rattle.osdp_msg.specs.declared.command_fields.Text.{Text}
use Rattle.osdp_msg.specs.declared.leds.LedRecord.{LedRecord}
use Rattle.osdp_msg.specs.declared.outputs.OutputRecord.{OutputRecord}
use Rattle.osdp_site.specs.declared.fault.SiteFault.{SiteFault}
use Rattle.osdp_site.specs.declared.fault.SiteFault.TheVariants.{Several, Timed, NoState}
use Rattle.osdp_site.specs.declared.subject.Subject.{Subject}
use Rattle.osdp_site.specs.declared.subject.Subject.TheVariants as subject

-- an output is on or off for good by controls 1 to 4, and for a time by 5 and 6
abbrev pub output_subject : OutputRecord → Result Subject SiteFault
output_subject r =
    if nat_le 1 r.control && nat_le r.control 4 then Ok (subject.Output r.output)
    else (if r.control == 5 || r.control == 6 then Err Timed else Err NoState)

-- an LED gets its permanent state; one that gets a temporary state too is put for a time
abbrev pub led_subject : LedRecord → Result Subject SiteFault
led_subject r =
    if nat_lt 1 r.temporary_control then Err Timed
    else (if r.permanent_control == 1 then Ok (subject.Led r.reader r.led) else Err NoState)

-- tone 0 says nothing, and 1 is off; any other sounds a number of times, or with number 0 until it is told otherwise
abbrev pub buzzer_subject : Buzzer → Result Subject SiteFault
buzzer_subject b =
    if b.tone == 0 then Err NoState
    else (if nat_lt 1 b.tone && nat_lt 0 b.count then Err Timed else Ok (subject.Buzzer b.reader))

-- a text stays by 1 and 2, and is shown for a time by 3 and 4
abbrev pub text_subject : Text → Result Subject SiteFault
text_subject t =
    if t.command == 1 || t.command == 2 then Ok (subject.Text t.reader t.row t.column)
    else (if t.command == 3 || t.command == 4 then Err Timed else Err NoState)

-- the one of a list, where it has no other
abbrev pub only : {A : Type 0} → List A → Option A
only (x ∷ []) = Some x
only _ = None

abbrev pub or_several : {A : Type 0} → (A → Result Subject SiteFault) → Option A → Result Subject SiteFault
or_several subject (Some x) = subject x
or_several subject None = Err Several

-- one output or LED in a command; what puts nothing is no state
abbrev pub subject_of : Command → Result Subject SiteFault
subject_of (command.Output records) = or_several output_subject (only records)
subject_of (command.Led records) = or_several led_subject (only records)
subject_of (command.Buzzer b) = buzzer_subject b
subject_of (command.Text t) = text_subject t
subject_of _ = Err NoState

-- of the same kind, and with the same numbers
abbrev pub is_same : Subject → Subject → Bool
is_same (subject.Output a) (subject.Output b) = a == b
is_same (subject.Led a b) (subject.Led c d) = a == c && b == d
is_same (subject.Buzzer a) (subject.Buzzer b) = a == b
is_same (subject.Text a b c) (subject.Text d e f) = a == d && b == e && c == f
is_same _ _ = false

abbrev pub is_subject : Subject → Result Subject SiteFault → Bool
is_subject s (Ok t) = is_same s t
is_subject s (Err fault) = false

-- the command says the state of this
abbrev pub is_about : Subject → Command → Bool
is_about s c = is_subject s (subject_of c)

-- the first command of a list that does, by its number; the first of the list has number `at`
abbrev pub first_about : ℕ → Subject → List Command → Option ℕ
first_about at s [] = None
first_about at s (c ∷ cs) = if is_about s c then Some at else first_about (at + 1) s cs
