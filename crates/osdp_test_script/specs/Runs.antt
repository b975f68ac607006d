-- What a line of a script does: what is sent, and what its verdict is.
use Rattle.std.specs.Prelude.{◌≡◌, ℕ, ◌+◌, ◌-◌, ◌^◌, ◌&&◌, nat_le, nat_lt, min, Bool, true, false, List, [], ◌∷◌, ◌++◌, codes, length, slice_index, slice_set, Option, Some, None, if◌then◌else◌}
use Rattle.osdp_frame.specs.Packed.{packed}
use Rattle.osdp_frame.specs.Packet.{Packet}
use Rattle.osdp_frame.specs.Spelling.{spelling}
use Rattle.osdp_frame.specs.declared.check_kind.CheckKind.{CheckKind}
use Rattle.osdp_frame.specs.declared.check_kind.CheckKind.TheVariants.{Crc}
use Rattle.osdp_msg.specs.CommandTable.{command_code, command_data}
use Rattle.osdp_msg.specs.ReplyText.{reply_text}
use Rattle.osdp_msg.specs.declared.command.Command.{Command}
use Rattle.osdp_msg.specs.declared.command.Command.TheVariants.{Poll}
use Rattle.osdp_msg.specs.declared.reply.Reply.{Reply}
use Rattle.osdp_rules.specs.Known.{known_after, next_number}
use Rattle.osdp_rules.specs.Packets.{code_of, is_busy, takes_nothing}
use Rattle.osdp_rules.specs.declared.known.Known.{Known}
use Rattle.osdp_rules.specs.declared.known.Known.TheVariants.{Unknown}
use Rattle.std.specs.Fmt.{decimal}
use Rattle.osdp_test_script.specs.Answers.{IsAnswerIn}
use Rattle.osdp_test_script.specs.Awaited.{awaited_code}
use Rattle.osdp_test_script.specs.Permits.{is_allowed, new_permits, with_permit}
use Rattle.osdp_test_script.specs.Seen.{counts_seen, expected_seen, is_code, kept_byte, reads_seen}
use Rattle.osdp_test_script.specs.Texts.{expect_text, refusal_line, refusal_text, send_line, verdict_lines, wait_line}
use Rattle.osdp_test_script.specs.declared.awaited.Awaited.{Awaited}
use Rattle.osdp_test_script.specs.declared.call.Permit.{Permit}
use Rattle.osdp_test_script.specs.declared.call.Term.{Term}
use Rattle.osdp_test_script.specs.declared.call.Term.TheVariants as term
use Rattle.osdp_test_script.specs.declared.call.ScriptCall.{ScriptCall}
use Rattle.osdp_test_script.specs.declared.call.ScriptCall.TheVariants.{Device, Check, May, Send, Repeat, Reopen, Lose, Damage, Wait, Expect, Reads, Keep, Counts, Heard, Ready}
use Rattle.osdp_test_script.specs.declared.refusal.Refusal.{Refusal}
use Rattle.osdp_test_script.specs.declared.refusal.Refusal.TheVariants as refusal
use Rattle.osdp_test_script.specs.declared.run.Awaits.{Awaits}
use Rattle.osdp_test_script.specs.declared.run.Awaits.TheVariants as awaits
use Rattle.osdp_test_script.specs.declared.run.Counts.{Counts as Tally}
use Rattle.osdp_test_script.specs.declared.run.Exchange.{Exchange}
use Rattle.osdp_test_script.specs.declared.run.Fault.{Fault}
use Rattle.osdp_test_script.specs.declared.run.Fault.TheVariants as fault
use Rattle.osdp_test_script.specs.declared.run.Heard.{Heard as Answer}
use Rattle.osdp_test_script.specs.declared.run.KeptByte.{KeptByte}
use Rattle.osdp_test_script.specs.declared.run.ScriptRun.{ScriptRun}
use Rattle.osdp_test_script.specs.declared.run.UserWait.{UserWait}
use Rattle.osdp_test_script.specs.declared.seen.Seen.{Seen}
use Rattle.osdp_test_script.specs.declared.seen.Seen.TheVariants as seen

-- what a line comes to: what is printed, and the run after it
pub record Called : Type 0 where
  pub text : List ℕ
  pub run : ScriptRun

-- how often a packet goes out again while nothing is heard of it, or BUSY
abbrev pub tries : ℕ
tries = 2

-- after such a silence, in milliseconds, a device has ended its session
abbrev pub offline : ℕ
offline = 8000

-- so long nothing goes out between two POLLs that wait for a user
abbrev pub pause : ℕ
pause = 50

-- numbers of lines and counts end where theirs do
abbrev pub one_more : ℕ → ℕ
one_more n = if nat_lt n (2 ^ 64 - 1) then n + 1 else n

abbrev pub new_run : ScriptRun
new_run = record {
  line = 0;
  device = None;
  check = Crc;
  permits = new_permits;
  fault = fault.Whole;
  known = Unknown;
  exchange = None;
  awaits = awaits.Nothing;
  kept = None;
  counts = record { ok = 0; broken = 0; unclear = 0 };
  refused = None;
}

-- ---- what goes out

abbrev pub packet_of : ℕ → ℕ → CheckKind → Command → Packet
packet_of address number check command = packed false address number check false 0 (command_code command ∷ command_data command)

-- the byte at a place, counted from 1, inverted: the last where there are fewer
abbrev pub inverted_at : ℕ → List ℕ → List ℕ
inverted_at i list = slice_set list i (255 - slice_index list i)

abbrev pub damaged : Fault → List ℕ → List ℕ
damaged (fault.Damaged place) list = inverted_at (min place (length list) - 1) list
damaged _ list = list

abbrev pub sent_line : Fault → Packet → List ℕ
sent_line f p = send_line (damaged f (spelling p))

abbrev pub new_exchange : Packet → Option Packet → Exchange
new_exchange p first = record { sent = p; first = first; heard = None; moment = 0; delay = 0 }

-- a packet goes out as the line above it says, and its answer is waited for
abbrev pub goes_out : Packet → Option Packet → ScriptRun → Called
goes_out p first s = record {
  text = sent_line s.fault p;
  run = record s { exchange = Some (new_exchange p first); awaits = awaits.Answer s.fault tries; fault = fault.Whole };
}

-- ---- lines

abbrev pub quiet : ScriptRun → Called
quiet s = record { text = []; run = s }

abbrev pub first_refused : Option ℕ → ℕ → Option ℕ
first_refused None line = Some line
first_refused (Some first) line = Some first

abbrev pub refuses_saying : List ℕ → ScriptRun → Called
refuses_saying why s = record { text = refusal_line s.line why; run = record s { refused = first_refused s.refused s.line } }

abbrev pub refuses : Refusal → ScriptRun → Called
refuses why s = refuses_saying (refusal_text why) s

-- another device: nothing is known of it, and nothing may be done to it
abbrev pub names : ℕ → ScriptRun → ScriptRun
names address s = record s {
  device = Some address;
  permits = new_permits;
  fault = fault.Whole;
  known = Unknown;
  exchange = None;
  awaits = awaits.Nothing;
  kept = None;
}

abbrev pub allows : Permit → Option ℕ → ScriptRun → Called
allows permit None s = refuses refusal.NoDevice s
allows permit (Some address) s = quiet (record s { permits = with_permit permit s.permits })

abbrev pub sends_to : Command → ℕ → ScriptRun → Called
sends_to command address s =
    if is_allowed s.permits command then goes_out (packet_of address (next_number s.known) s.check command) None s else refuses refusal.NotAllowed s

abbrev pub sends : Command → Option ℕ → ScriptRun → Called
sends command None s = refuses refusal.NoDevice s
sends command (Some address) s = sends_to command address s

abbrev pub repeats : Option Exchange → ScriptRun → Called
repeats None s = refuses refusal.NothingSent s
repeats (Some x) s = goes_out x.sent x.first s

abbrev pub known_after_wait : ℕ → Known → Known
known_after_wait time k = if nat_le offline time then Unknown else k

abbrev pub waits : ℕ → ScriptRun → Called
waits time s = record { text = wait_line time; run = record s { known = known_after_wait time s.known } }

abbrev pub counted : Seen → Tally → Tally
counted seen.Ok c = record c { ok = one_more c.ok }
counted seen.Broken c = record c { broken = one_more c.broken }
counted seen.Unclear c = record c { unclear = one_more c.unclear }

-- a verdict on a line that says this
abbrev pub tells : ℕ → Seen → List ℕ → Exchange → ScriptRun → Called
tells line v says x s = record { text = verdict_lines line v says x; run = record s { counts = counted v s.counts } }

-- what a user is to make the device say: it is polled
abbrev pub new_wait : ℕ → Awaited → ℕ → UserWait
new_wait line awaited time = record { line = line; awaited = awaited; time = time; since = None; tries = tries }

abbrev pub polls : UserWait → ℕ → ScriptRun → Called
polls w address s = let p = packet_of address (next_number s.known) s.check Poll in record {
  text = wait_line pause ++ send_line (spelling p);
  run = record s { exchange = Some (new_exchange p None); awaits = awaits.User w; fault = fault.Whole };
}

abbrev pub asks_user : Awaited → ℕ → Option ℕ → ScriptRun → Called
asks_user awaited time None s = refuses refusal.NoDevice s
asks_user awaited time (Some address) s = polls (new_wait s.line awaited time) address s

abbrev pub expects : Awaited → Term → Option Exchange → ScriptRun → Called
expects awaited t None s = refuses refusal.NothingSent s
expects awaited t (Some x) s = tells s.line (expected_seen awaited t x.first x.heard x.delay) (expect_text awaited t) x s

abbrev pub expects_by : Awaited → Term → ScriptRun → Called
expects_by awaited (term.FromUser time) s = asks_user awaited time s.device s
expects_by awaited t s = expects awaited t s.exchange s

abbrev pub reads : Reply → Option Exchange → ScriptRun → Called
reads reply None s = refuses refusal.NothingSent s
reads reply (Some x) s = tells s.line (reads_seen reply x.heard) (codes "reads " ++ reply_text reply) x s

abbrev pub keeps : ℕ → Option Exchange → ScriptRun → Called
keeps place None s = refuses refusal.NothingSent s
keeps place (Some x) s = quiet (record s { kept = Some (record { place = place; value = kept_byte place x.heard }) })

abbrev pub counts_in : ℕ → Option Exchange → Option KeptByte → ScriptRun → Called
counts_in more None kept s = refuses refusal.NothingSent s
counts_in more (Some x) None s = refuses refusal.NothingKept s
counts_in more (Some x) (Some kept) s =
    tells s.line (counts_seen kept.value kept.place more x.heard) (codes "counts " ++ decimal more) x s

-- a line of the script
abbrev pub says : ScriptCall → ScriptRun → Called
says (Device address) s = quiet (names address s)
says (Check kind) s = quiet (record s { check = kind })
says (May permit) s = allows permit s.device s
says (Send command) s = sends command s.device s
says Repeat s = repeats s.exchange s
says Reopen s = quiet (record s { known = Unknown })
says Lose s = quiet (record s { fault = fault.Lost })
says (Damage place) s = quiet (record s { fault = fault.Damaged place })
says (Wait time) s = waits time s
says (Expect awaited t) s = expects_by awaited t s
says (Reads reply) s = reads reply s.exchange s
says (Keep place) s = keeps place s.exchange s
says (Counts more) s = counts_in more s.exchange s.kept s
says (Heard moment delay list) s = quiet s
says Ready s = quiet s

-- ---- what was heard

-- of a damaged packet the device knows nothing; where it answers one, nobody knows what it took
abbrev pub known_damaged : Option Packet → Known → Known
known_damaged None k = k
known_damaged (Some a) k = if takes_nothing a then k else Unknown

abbrev pub known_heard : Fault → Packet → Option Packet → Known → Known
known_heard (fault.Damaged place) p answer k = known_damaged answer k
known_heard f p answer k = known_after p.address p answer k

abbrev pub heard_by : Fault → Option Packet → Option Packet
heard_by fault.Lost answer = None
heard_by f answer = answer

-- the first answer that isn't BUSY, NAK 1 or NAK 4
abbrev pub first_after : Option Packet → Option Packet → Option Packet
first_after (Some first) answer = Some first
first_after None None = None
first_after None (Some a) = if takes_nothing a then None else Some a

abbrev pub heard_exchange : Fault → Answer → Exchange → Exchange
heard_exchange f h x =
    record x { first = first_after x.first h.answer; heard = heard_by f h.answer; moment = h.moment; delay = h.delay }

-- nothing was heard, or BUSY
abbrev pub is_put_off : Option Packet → Bool
is_put_off None = true
is_put_off (Some a) = is_busy a

abbrev pub is_whole : Fault → Bool
is_whole fault.Whole = true
is_whole f = false

abbrev pub is_again : Fault → ℕ → Option Packet → Bool
is_again f left answer = is_whole f && nat_lt 0 left && is_put_off answer

-- the packet goes out again
abbrev pub again : Awaits → Packet → ScriptRun → Called
again a p s = record { text = send_line (spelling p); run = record s { awaits = a } }

-- .. or nothing more is waited for
abbrev pub answer_taken : Bool → Fault → ℕ → Exchange → ScriptRun → Called
answer_taken true f left x s = again (awaits.Answer f (left - 1)) x.sent s
answer_taken false f left x s = quiet (record s { awaits = awaits.Nothing })

-- what the user did was seen, or the time is over, or the device is polled on
abbrev pub is_seen : Awaited → Option Packet → Bool
is_seen awaited None = false
is_seen awaited (Some a) = is_code (awaited_code awaited) (code_of a)

abbrev pub since_of : Option ℕ → ℕ → ℕ
since_of None moment = moment
since_of (Some since) moment = since

abbrev pub tells_user : Seen → UserWait → Exchange → ScriptRun → Called
tells_user v w x s = tells w.line v (expect_text w.awaited (term.FromUser w.time)) x (record s { awaits = awaits.Nothing })

abbrev pub goes_on : UserWait → ℕ → Exchange → ScriptRun → Called
goes_on w moment x s = let since = since_of w.since moment in
    if nat_le (since + w.time) moment then tells_user seen.Unclear w x s
    else polls (record w { since = Some since; tries = tries }) x.sent.address s

abbrev pub poll_taken : Bool → UserWait → ℕ → Exchange → ScriptRun → Called
poll_taken true w moment x s =
    again (awaits.User (record w { since = Some (since_of w.since moment); tries = w.tries - 1 })) x.sent s
poll_taken false w moment x s = goes_on w moment x s

-- with what is known of the device after it
abbrev pub with_heard : Fault → Answer → Exchange → ScriptRun → ScriptRun
with_heard f h x s = record s { known = known_heard f x.sent h.answer s.known; exchange = Some (heard_exchange f h x) }

abbrev pub answer_heard : Fault → ℕ → Answer → Exchange → ScriptRun → Called
answer_heard f left h x s = answer_taken (is_again f left h.answer) f left (heard_exchange f h x) (with_heard f h x s)

abbrev pub poll_heard : UserWait → Answer → Exchange → ScriptRun → Called
poll_heard w h x s =
    let heard = heard_exchange fault.Whole h x in
    let after = with_heard fault.Whole h x s in
    if is_seen w.awaited h.answer then tells_user seen.Ok w heard after
    else poll_taken (is_again fault.Whole w.tries h.answer) w h.moment heard after

abbrev pub hears_by : Awaits → Option Exchange → Answer → ScriptRun → Called
hears_by (awaits.Answer f left) (Some x) h s = answer_heard f left h x s
hears_by (awaits.User w) (Some x) h s = poll_heard w h x s
hears_by _ _ h s = refuses refusal.NothingAwaited s

abbrev pub hears : Answer → ScriptRun → Called
hears h s = hears_by s.awaits s.exchange h s

-- ---- a line in its turn

-- a line that comes while a user is waited for ends that
abbrev pub settled_by : Awaits → Option Exchange → ScriptRun → Called
settled_by (awaits.User w) (Some x) s = tells_user seen.Unclear w x s
settled_by _ _ s = quiet (record s { awaits = awaits.Nothing })

abbrev pub settled : ScriptRun → Called
settled s = settled_by s.awaits s.exchange s

abbrev pub after_text : List ℕ → Called → Called
after_text text c = record { text = text ++ c.text; run = c.run }

abbrev pub counted_line : ScriptRun → ScriptRun
counted_line s = record s { line = one_more s.line }

abbrev pub begins_line : ScriptRun → Called
begins_line s = let c = settled s in record { text = c.text; run = counted_line c.run }

-- what a line of the script does after what was waited for
abbrev pub then_does : (ScriptRun → Called) → Called → Called
then_does does c = after_text c.text (does (counted_line c.run))

-- all that came of the lines so far was printed
abbrev pub is_ready : ScriptRun → Called
is_ready s = record { text = codes "ready\n"; run = s }

-- what a line comes to; of what was heard the first reply from the address to which the last packet went counts
abbrev pub Does : ScriptCall → ScriptRun → Called → Type 0
Does (Heard moment delay list) s c =
    (answer : Option Packet) × IsAnswerIn s.exchange list.items answer × (c ≡ hears (record { moment = moment; delay = delay; answer = answer }) s)
Does Ready s c = c ≡ is_ready s
Does call s c = c ≡ then_does (says call) (settled s)

-- a line that says nothing, or can't be read
abbrev pub refuses_line : List ℕ → ScriptRun → Called
refuses_line why s = then_does (refuses_saying why) (settled s)

-- a blank line
abbrev pub passes_line : ScriptRun → Called
passes_line s = then_does quiet (settled s)

-- the end of the script: the verdicts are counted
abbrev pub counts_line : Tally → List ℕ
counts_line c = codes "ok " ++ (decimal c.ok ++ (codes " broken " ++ (decimal c.broken ++ (codes " unclear " ++ (decimal c.unclear ++ codes "\n")))))

abbrev pub ends : ScriptRun → Called
ends s = let c = settled s in record { text = c.text ++ counts_line c.run.counts; run = c.run }

-- whether each expectation was seen
abbrev pub is_accepted : ScriptRun → Bool
is_accepted s = nat_le s.counts.broken 0 && nat_le s.counts.unclear 0

-- the code's answer to a line: the text grows by what is printed, and the run is the one after it
pub record Comes (before after : List ℕ) (next : ScriptRun) (c : Called) : Type 0 where
  pub text : after ≡ before ++ c.text
  pub run : next ≡ c.run
