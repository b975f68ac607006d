-- A test of a device: what each line adds to it.
use Rattle.std.specs.Prelude.{ℕ, ◌==◌, Bool, true, false, if◌then◌else◌, List, [], ◌∷◌, ◌++◌, map, option_map, Option, Some, None}
use Rattle.osdp_frame.specs.Packet.{Packet}
use Rattle.osdp_rules.specs.Claims.{no_claims}
use Rattle.osdp_rules.specs.Delays.{delays_finding}
use Rattle.osdp_rules.specs.Runs.{claims_next, known_next}
use Rattle.osdp_rules.specs.Showing.{shown}
use Rattle.osdp_rules.specs.declared.claims.Claims.{Claims}
use Rattle.osdp_rules.specs.declared.finding.Finding.{Finding}
use Rattle.osdp_rules.specs.declared.finding.Finding.TheVariants.{Kept, Broken}
use Rattle.osdp_rules.specs.declared.known.Known.{Known}
use Rattle.osdp_rules.specs.declared.known.Known.TheVariants.{Unknown}
use Rattle.osdp_tool_test.specs.Entries.{Told, after_finding, after_shown, by_ground, new_entry, told, with_finding}
use Rattle.osdp_tool_test.specs.Faults.{fault_text, why_line}
use Rattle.osdp_tool_test.specs.Lines.{LeftOut, Line, SaidFits, asks, breaks, device, keeps, opens, said_words, skips, times}
use Rattle.osdp_tool_test.specs.Saying.{IsFirstBad, LinesFind, RefusesSaid, ShowsByRows, TakesSaid}
use Rattle.osdp_tool_test.specs.Rules.{rule_in}
use Rattle.osdp_tool_test.specs.Seen.{Seen, is_answered, seen_in}
use Rattle.osdp_tool_test.specs.Table.{device_rules, row}
use Rattle.osdp_tool_test.specs.Times.{RunTimes, new_times, times_after, times_of, times_text}
use Rattle.osdp_tool_test.specs.declared.exchange.Exchange.{Exchange}
use Rattle.osdp_tool_test.specs.declared.report.Form.{Form}
use Rattle.osdp_tool_test.specs.declared.rules.Rule.{Rule}
use Rattle.osdp_tool_test.specs.declared.tested.Tested.{Tested}

-- the device's address, what is known of it, what it says by CAP, how long its answers took, the rules that are done, and the one whose lines are read
pub record DeviceTest : Type 0 where
  pub form : Form
  pub rules : List Rule
  pub address : ℕ
  pub known : Known
  pub claims : Claims
  pub run : RunTimes
  pub done : List Told
  pub current : Option Told

abbrev pub model : Tested → DeviceTest
model t = record {
  form = t.form;
  rules = t.rules.now;
  address = t.address;
  known = t.known;
  claims = t.claims;
  run = times_of t.times;
  done = map told t.done.items;
  current = option_map told t.current;
}

abbrev pub new_test : Form → List Rule → DeviceTest
new_test form rules = record {
  form = form;
  rules = rules;
  address = 0;
  known = Unknown;
  claims = no_claims;
  run = new_times;
  done = [];
  current = None;
}

-- ---- the rule of a line: the one whose lines are read, or one that begins

abbrev pub begun_entry : ℕ → Rule → Option Told → Told
begun_entry n rule None = new_entry n rule.says.now rule.ground
begun_entry n rule (Some e) = if e.number == n then e else new_entry n rule.says.now rule.ground

abbrev pub begun_done : ℕ → List Told → Option Told → List Told
begun_done n done None = done
begun_done n done (Some e) = if e.number == n then done else done ++ e ∷ []

-- what was found of it changes so
abbrev pub with_entry : ℕ → Rule → (Told → Told) → DeviceTest → DeviceTest
with_entry n rule change t =
    record t { done = begun_done n t.done t.current; current = Some (change (begun_entry n rule t.current)) }

-- ---- a packet, or bytes that hold none, and what was heard of it

-- what it shows of a rule, by what was known before it
abbrev pub found_in : Rule → Seen → DeviceTest → Finding
found_in rule s t = shown rule.aspect t.address t.known t.claims s.packet s.answer s.count s.delay

abbrev pub judged_entry : Bool → Exchange → Rule → Seen → DeviceTest → Told → Told
judged_entry true x rule s t e = after_shown (by_ground rule.ground (found_in rule s t)) (fault_text t.form rule.aspect x) e
judged_entry false x rule s t e = e

-- what is known of the device, and what it says by CAP
abbrev pub with_known : Option Packet → Option Packet → DeviceTest → DeviceTest
with_known packet answer t = record t {
  known = known_next t.address packet answer t.known;
  claims = claims_next t.address t.known packet answer t.claims;
}

-- its rule is judged by it where it is asked for, and what is known of the device follows it
abbrev pub after_seen : Bool → Exchange → Rule → Seen → DeviceTest → DeviceTest
after_seen asked x rule s t = with_known s.packet s.answer (with_entry x.number rule (judged_entry asked x rule s t) t)

abbrev pub after_each : Bool → Exchange → Rule → List Seen → DeviceTest → DeviceTest
after_each asked x rule [] t = t
after_each asked x rule (s ∷ more) t = after_each asked x rule more (after_seen asked x rule s t)

-- ---- an exchange

-- its answer is one of the run
abbrev pub with_run : Exchange → Bool → DeviceTest → DeviceTest
with_run x answered t = record t { run = if answered then times_after t.form x t.run else t.run }

abbrev pub after_exchange : Bool → Exchange → Option Rule → DeviceTest → DeviceTest
after_exchange asked x None t = t
after_exchange asked x (Some rule) t = after_each asked x rule (seen_in x) (with_run x (is_answered x) t)

-- ---- a line

abbrev pub left_out : LeftOut → Option Rule → DeviceTest → DeviceTest
left_out x None t = t
left_out x (Some rule) t = with_entry x.number rule (λ e. record e { skipped = x.why }) t

-- a rule that is judged by the times of all answers so far, which are told after it
abbrev pub timed_entry : Form → RunTimes → Told → Told
timed_entry form run e = record (with_finding (delays_finding run.delays) e) { fault = e.fault ++ times_text form run }

abbrev pub after_times : ℕ → Option Rule → DeviceTest → DeviceTest
after_times n None t = t
after_times n (Some rule) t = with_entry n rule (timed_entry t.form t.run) t

-- a rule of which somebody beside the line saw that it is kept, or what breaks it
abbrev pub after_keeps : ℕ → Option Rule → DeviceTest → DeviceTest
after_keeps n None t = t
after_keeps n (Some rule) t = with_entry n rule (with_finding Kept) t

abbrev pub broken_entry : Form → List ℕ → Told → Told
broken_entry form why e = after_finding Broken (why_line form why) e

abbrev pub after_breaks : LeftOut → Option Rule → DeviceTest → DeviceTest
after_breaks x None t = t
after_breaks x (Some rule) t = with_entry x.number rule (broken_entry t.form x.why) t

abbrev pub after_said : Option Line → DeviceTest → DeviceTest
after_said None t = t
after_said (Some (device address)) t = record t { address = address }
after_said (Some (opens x)) t = after_exchange false x (rule_in t.rules x.number) t
after_said (Some (asks x)) t = after_exchange true x (rule_in t.rules x.number) t
after_said (Some (skips x)) t = left_out x (rule_in t.rules x.number) t
after_said (Some (times n)) t = after_times n (rule_in t.rules n) t
after_said (Some (keeps n)) t = after_keeps n (rule_in t.rules n) t
after_said (Some (breaks x)) t = after_breaks x (rule_in t.rules x.number) t

-- all rules whose lines were read
abbrev pub entries_with : List Told → Option Told → List Told
entries_with done None = done
entries_with done (Some e) = done ++ e ∷ []

abbrev pub all_entries : DeviceTest → List Told
all_entries t = entries_with t.done t.current

-- what the lines of a test of a device show of its rules
abbrev pub DeviceFinds : Form → List Rule → List (List ℕ) → List Told → Type 0
DeviceFinds form rules = LinesFind said_words SaidFits after_said (new_test form rules) all_entries

-- .. by the rules of a device
abbrev pub DeviceShows : Form → List (List ℕ) → List Told → Type 0
DeviceShows = ShowsByRows row device_rules DeviceFinds

abbrev pub DeviceStops : List (List ℕ) → ℕ → Type 0
DeviceStops = IsFirstBad said_words SaidFits

-- the words of a line are taken, or they are those of none
abbrev pub Takes : Tested → List (List ℕ) → Tested → Type 0
Takes = TakesSaid said_words SaidFits model after_said

abbrev pub Refuses : List (List ℕ) → Type 0
Refuses = RefusesSaid said_words SaidFits
