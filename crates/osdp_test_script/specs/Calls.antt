-- What a line of a script says, and its words.
use Rattle.std.specs.Prelude.{ℕ, ◌<◌, ◌≤◌, ◌^◌, List, [], ◌∷◌, ◌++◌, codes, length}
use Rattle.std.specs.Fmt.{decimal}
use Rattle.hex.specs.Hex.{IsBytes}
use Rattle.osdp_frame.specs.Check.{check_name}
use Rattle.osdp_frame.specs.Times.{longest_time}
use Rattle.osdp_msg.specs.CommandTable.{CommandFits}
use Rattle.osdp_msg.specs.CommandText.{command_words}
use Rattle.osdp_msg.specs.ReplyTable.{ReplyFits}
use Rattle.osdp_msg.specs.ReplyText.{reply_words}
use Rattle.osdp_words.specs.Word.{Word, plain, bytes, number}
use Rattle.osdp_test_script.specs.Awaited.{awaited_name}
use Rattle.osdp_test_script.specs.declared.call.Permit.{Permit}
use Rattle.osdp_test_script.specs.declared.call.Permit.TheVariants.{Output, Led, Buzzer, Text, Comset, Maker}
use Rattle.osdp_test_script.specs.declared.call.Term.{Term}
use Rattle.osdp_test_script.specs.declared.call.Term.TheVariants.{Open, Within, FromUser}
use Rattle.osdp_test_script.specs.declared.call.ScriptCall.{ScriptCall}
use Rattle.osdp_test_script.specs.declared.call.ScriptCall.TheVariants.{Device, Check, May, Send, Repeat, Reopen, Lose, Damage, Wait, Expect, Reads, Keep, Counts, Heard, Ready}

abbrev pub permit_text : Permit → List ℕ
permit_text (Output n) = codes "out:" ++ decimal n
permit_text Led = codes "led"
permit_text Buzzer = codes "buz"
permit_text Text = codes "text"
permit_text Comset = codes "comset"
permit_text Maker = codes "mfg"

abbrev pub PermitFits : Permit → Type 0
PermitFits (Output n) = n < 256
PermitFits _ = Unit {0}

abbrev pub term_words : Term → List Word
term_words Open = []
term_words (Within n) = plain (codes "within") ∷ number n ∷ []
term_words (FromUser n) = plain (codes "from") ∷ plain (codes "user") ∷ plain (codes "within") ∷ number n ∷ []

-- up to an hour
abbrev pub TermFits : Term → Type 0
TermFits Open = Unit {0}
TermFits (Within n) = n ≤ longest_time
TermFits (FromUser n) = n ≤ longest_time

-- the name of a line, and the words after it
abbrev pub call_name : ScriptCall → List ℕ
call_name (Device address) = codes "device"
call_name (Check kind) = codes "check"
call_name (May permit) = codes "may"
call_name (Send command) = codes "send"
call_name Repeat = codes "repeat"
call_name Reopen = codes "reopen"
call_name Lose = codes "lose"
call_name (Damage place) = codes "damage"
call_name (Wait time) = codes "wait"
call_name (Expect awaited term) = codes "expect"
call_name (Reads reply) = codes "reads"
call_name (Keep place) = codes "keep"
call_name (Counts more) = codes "counts"
call_name (Heard moment delay list) = codes "heard"
call_name Ready = codes "ready"

abbrev pub call_fields : ScriptCall → List Word
call_fields (Device address) = number address ∷ []
call_fields (Check kind) = plain (check_name kind) ∷ []
call_fields (May permit) = plain (permit_text permit) ∷ []
call_fields (Send command) = command_words command
call_fields Repeat = []
call_fields Reopen = []
call_fields Lose = plain (codes "answer") ∷ []
call_fields (Damage place) = number place ∷ []
call_fields (Wait time) = number time ∷ []
call_fields (Expect awaited term) = plain (awaited_name awaited) ∷ term_words term
call_fields (Reads reply) = reply_words reply
call_fields (Keep place) = number place ∷ []
call_fields (Counts more) = number more ∷ []
call_fields (Heard moment delay list) = number moment ∷ number delay ∷ bytes list.items ∷ []
call_fields Ready = []

abbrev pub call_words : ScriptCall → List Word
call_words call = plain (call_name call) ∷ call_fields call

-- places count from 1
abbrev pub IsPlace : ℕ → Type 0
IsPlace n = (0 < n) × (n < 2 ^ 16)

abbrev pub IsHeard : List ℕ → Type 0
IsHeard list = (length list ≤ 4096) × IsBytes list

abbrev pub CallFits : ScriptCall → Type 0
CallFits (Device address) = address < 127
CallFits (Check kind) = Unit {0}
CallFits (May permit) = PermitFits permit
CallFits (Send command) = CommandFits command
CallFits Repeat = Unit {0}
CallFits Reopen = Unit {0}
CallFits Lose = Unit {0}
CallFits (Damage place) = IsPlace place
CallFits (Wait time) = time ≤ longest_time
CallFits (Expect awaited term) = TermFits term
CallFits (Reads reply) = ReplyFits reply
CallFits (Keep place) = IsPlace place
CallFits (Counts more) = more < 256
CallFits (Heard moment delay list) = (moment < 2 ^ 64) × (delay < 2 ^ 64) × IsHeard list.items
CallFits Ready = Unit {0}
