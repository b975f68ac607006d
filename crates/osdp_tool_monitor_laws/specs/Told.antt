-- When each diagnosis is told, in words of what the line held, and what it says.
use Rattle.std.specs.Prelude.{◌≡◌, ◌≢◌, ◌↔◌, ◌⊎◌, ◌<◌, ◌≤◌, ◌+◌, ◌-◌, ◌*◌, ◌/◌, ◌^◌, ℕ, zero, suc, Bool, true, List, [], ◌∷◌, ◌++◌, codes, count_by, filter, flat_map}
use Rattle.std.specs.Fmt.{decimal}
use Rattle.osdp_frame.specs.Reading.{RunItem}
use Rattle.osdp_monitor.specs.Line.{no_knowledge}
use Rattle.osdp_tool_show.specs.ItemText.{is_refusal}
use Rattle.osdp_tool_show.specs.Told.{is_packet, is_skipped}
use Rattle.osdp_tool_monitor.specs.Diagnoses.{diagnoses_text}
use Rattle.osdp_tool_monitor.specs.Listening.{heard_items, nothing_heard}
use Rattle.osdp_tool_monitor_laws.specs.Counting.{Entry, answered, busy, capped, entries, how_many_at, refused, repeated, sent}
use Rattle.osdp_tool_monitor_laws.specs.Faults.{demanded, doubled, is_hit, is_needless, is_whole, last_or, rates, replied, restarted, secured, with_earlier, with_last, with_next}

-- what is told of the device at an address
pub data Fault : Type 0 where
  NeverAnswers : Fault
  ComesTwice : Fault
  Loses : Fault
  LosesAlone : Fault
  Restarts : Fault
  IsTwo : Fault
  IsHitAlone : Fault
  IsRepeated : Fault
  Demands : Fault
  Speaks : Fault
  IsSet : Fault

-- .. and of the whole line
pub data Diagnosis : Type 0 where
  Noise : Diagnosis
  AllHit : Diagnosis
  Of : ℕ → Fault → Diagnosis

-- a line: its items, and whether accusations by the profile alone are left out
pub record Heard : Type 0 where
  pub standard : Bool
  pub items : List RunItem

-- ---- how many

abbrev pub packets : Heard → List Entry
packets line = entries line.standard no_knowledge line.items

-- packets of a kind to the device at an address, or from it
abbrev pub number : Heard → (Entry → Bool) → ℕ → ℕ
number line kind address = how_many_at address kind (packets line)

-- packets to it
abbrev pub asked : Heard → ℕ → ℕ
asked line address = number line sent address

-- of them those that had no reply: there are so many fewer replies
abbrev pub unanswered : Heard → ℕ → ℕ
unanswered line address = asked line address - number line replied address

-- of a hundred
abbrev pub share : Heard → ℕ → ℕ
share line address = (100 * unanswered line address) / asked line address

-- copies of a packet that was answered
abbrev pub needless : Heard → ℕ → ℕ
needless line address = capped (count_by (is_needless address) (with_earlier [] (packets line)))

-- packets to it with damage after them
abbrev pub hits : Heard → ℕ → ℕ
hits line address = capped (count_by (is_hit address) (with_next line.items))

-- packets to it or from it with no damage before them
abbrev pub whole : Heard → ℕ → ℕ
whole line address = capped (count_by (is_whole address) (with_last [] line.items))

-- what its last COM named, in bits a second
abbrev pub rate : Heard → ℕ → ℕ
rate line address = last_or 0 (rates address line.items)

-- ---- how often

-- once in so many, or more often
abbrev pub IsOnceIn : ℕ → ℕ → ℕ → Type 0
IsOnceIn many count all = all ≤ many * count

-- from nine to thirteen of twenty
abbrev pub IsAHalf : ℕ → ℕ → Type 0
IsAHalf count all = (9 * all ≤ 20 * count) × (20 * count ≤ 13 * all)

-- ---- what is so of a device

-- damage did not make it: a packet of it came without damage before, or three of a kind came
abbrev pub IsThere : Heard → ℕ → Type 0
IsThere line a =
    (1 ≤ whole line a) ⊎ ((3 ≤ asked line a) ⊎ ((3 ≤ number line answered a) ⊎ ((3 ≤ number line busy a) ⊎ (3 ≤ number line refused a))))

-- it was asked twenty times, and fewer than 2^57
abbrev pub IsMeasured : Heard → ℕ → Type 0
IsMeasured line a = (20 ≤ asked line a) × (asked line a < 2 ^ 57)

abbrev pub IsMute : Heard → ℕ → Type 0
IsMute line a = (3 ≤ asked line a) × (number line replied a ≡ 0)

abbrev pub IsDoubled : Heard → ℕ → Type 0
IsDoubled line a = IsMeasured line a × IsAHalf (number line repeated a) (asked line a) × IsAHalf (unanswered line a) (asked line a)

abbrev pub LosesAnswers : Heard → ℕ → Type 0
LosesAnswers line a =
    IsMeasured line a × (3 ≤ unanswered line a) × IsOnceIn 100 (unanswered line a) (asked line a) × (¬ IsMute line a) × (¬ IsDoubled line a)

abbrev pub IsSilent : Heard → ℕ → Type 0
IsSilent line a = LosesAnswers line a ⊎ IsMute line a

-- damage comes after one packet to it in twenty
abbrev pub IsHurt : Heard → ℕ → Type 0
IsHurt line a = IsMeasured line a × (3 ≤ hits line a) × IsOnceIn 20 (hits line a) (asked line a)

-- .. after one in sixty
abbrev pub IsTouched : Heard → ℕ → Type 0
IsTouched line a = IsMeasured line a × (1 ≤ hits line a) × IsOnceIn 60 (hits line a) (asked line a)

abbrev pub IsShared : Heard → ℕ → Type 0
IsShared line a = (3 ≤ number line doubled a) ⊎ ((3 ≤ hits line a) × IsOnceIn 2 (hits line a) (asked line a))

-- two devices are measured
abbrev pub AreSeveral : Heard → Type 0
AreSeveral line = (a b : ℕ) × (a < 128) × (b < 128) × (a ≢ b) × IsMeasured line a × IsMeasured line b

-- .. and of those that are this is the only one that is so
abbrev pub IsOnly : Heard → (ℕ → Type 0) → ℕ → Type 0
IsOnly line P a = AreSeveral line × ((b : ℕ) → b < 128 → IsMeasured line b → P b → b ≡ a)

-- ---- when it is told; to 127 all devices listen, and each answers with its own address

abbrev pub IsSo : Heard → ℕ → Fault → Type 0
IsSo line a NeverAnswers = IsMute line a × (a ≢ 127)
IsSo line a ComesTwice = IsDoubled line a
IsSo line a Loses = LosesAnswers line a × (¬ IsOnly line (IsSilent line) a)
IsSo line a LosesAlone = LosesAnswers line a × IsOnly line (IsSilent line) a
IsSo line a Restarts = 2 ≤ number line restarted a
IsSo line a IsTwo = IsShared line a
IsSo line a IsHitAlone = IsHurt line a × (¬ IsShared line a) × IsOnly line (IsTouched line) a
IsSo line a IsRepeated = (3 ≤ needless line a) × IsOnceIn 20 (needless line a) (asked line a)
IsSo line a Demands = 1 ≤ number line demanded a
IsSo line a Speaks = 1 ≤ number line secured a
IsSo line a IsSet = 1 ≤ rate line a

abbrev pub Holds : Heard → Diagnosis → Type 0
Holds line Noise =
    (count_by is_packet line.items ≡ 0) × ((20 ≤ count_by is_skipped line.items) ⊎ (3 ≤ count_by is_refusal line.items))
Holds line AllHit = AreSeveral line × ((a : ℕ) → a < 128 → IsMeasured line a → IsHurt line a)
Holds line (Of a fault) = (a < 128) × IsThere line a × IsSo line a fault

-- ---- what it says

abbrev pub fault_words : Heard → ℕ → Fault → List ℕ
fault_words line a NeverAnswers = decimal a ++ codes " never answered"
fault_words line a ComesTwice = codes "each packet to " ++ (decimal a ++ codes " comes twice: an echo of the adapter?")
fault_words line a Loses = decimal a ++ (codes " loses " ++ (decimal (share line a) ++ codes "% of answers"))
fault_words line a LosesAlone = decimal a ++ (codes " loses " ++ (decimal (share line a) ++ codes "% of answers, others none"))
fault_words line a Restarts = decimal a ++ (codes " restarted " ++ (decimal (number line restarted a) ++ codes " times"))
fault_words line a IsTwo = codes "two devices may answer at " ++ decimal a
fault_words line a IsHitAlone = codes "damage on " ++ (decimal a ++ codes " alone")
fault_words line a IsRepeated = codes "packets to " ++ (decimal a ++ codes " are repeated although answered")
fault_words line a Demands = decimal a ++ codes " demands Secure Channel"
fault_words line a Speaks = decimal a ++ codes " speaks Secure Channel, which is not judged"
fault_words line a IsSet = decimal a ++ (codes " was set to " ++ (decimal (rate line a) ++ codes " bits a second"))

abbrev pub words : Heard → Diagnosis → List ℕ
words line Noise = codes "nothing but noise: another rate?"
words line AllHit = codes "damage on all alike"
words line (Of a fault) = fault_words line a fault

unfoldable pub told_line : Heard → Diagnosis → List ℕ
told_line line d = codes "diagnosis: " ++ (words line d ++ codes "\n")

-- ---- all of them, in the order in which they are told

abbrev pub of_device : ℕ → List Diagnosis
of_device a =
    Of a NeverAnswers ∷ Of a ComesTwice ∷ Of a Loses ∷ Of a LosesAlone ∷ Of a Restarts ∷ Of a IsTwo ∷ Of a IsHitAlone ∷ Of a IsRepeated ∷ Of a Demands
    ∷ Of a Speaks ∷ Of a IsSet ∷ []

-- those of so many devices, from this one on
unfoldable pub of_devices : ℕ → ℕ → List Diagnosis
of_devices a zero = []
of_devices a (suc more) = of_device a ++ of_devices (a + 1) more

abbrev pub every : List Diagnosis
every = Noise ∷ AllHit ∷ of_devices 0 128

-- What stands after the table is a line for each diagnosis that holds, in this order, and nothing else.
abbrev pub TellsDiagnoses : Type 0
TellsDiagnoses = (line : Heard) →
    let l = heard_items (nothing_heard line.standard) line.items in
    (holds : Diagnosis → Bool) × ((d : Diagnosis) → (holds d ≡ true) ↔ Holds line d)
    × (diagnoses_text l.tally l.counts ≡ flat_map (told_line line) (filter holds every))
