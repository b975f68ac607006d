-- What the counts of a line come to: its likely faults, in words.
use Rattle.std.specs.Prelude.{ℕ, ◌+◌, ◌-◌, ◌*◌, ◌/◌, ◌^◌, ◌==◌, ◌&&◌, ◌||◌, not, nat_le, nat_lt, Bool, if◌then◌else◌, List, [], ◌∷◌, ◌++◌, codes}
use Rattle.std.specs.Fmt.{decimal}
use Rattle.osdp_tool_show.specs.declared.tally.Tally.{Tally}
use Rattle.osdp_tool_monitor.specs.Counts.{is_ghost, more_if}
use Rattle.osdp_tool_monitor.specs.InTurn.{after_all}
use Rattle.osdp_tool_monitor.specs.declared.counts.Counts.{Counts}
use Rattle.osdp_tool_monitor.specs.declared.diagnosis.Survey.{Survey}

-- once in so many, or more often
abbrev pub is_once_in : ℕ → ℕ → ℕ → Bool
is_once_in many count all = nat_le all (many * count)

-- at least three times, and once in a hundred
abbrev pub is_often : ℕ → ℕ → Bool
is_often count all = nat_le 3 count && is_once_in 100 count all

-- at least three times, and once in twenty
abbrev pub is_common : ℕ → ℕ → Bool
is_common count all = nat_le 3 count && is_once_in 20 count all

-- asked often enough for a share of it to tell
abbrev pub is_measured : Counts → Bool
is_measured c = nat_le 20 c.asked && nat_lt c.asked (2 ^ 57)

-- packets to a device that had no reply
abbrev pub lost : Counts → ℕ
lost c = ((c.asked - c.answered) - c.busy) - c.nak

-- .. in a hundred
abbrev pub lost_share : Counts → ℕ
lost_share c = (100 * lost c) / c.asked

-- asked three times or more, and nothing has come from there
abbrev pub is_mute : Counts → Bool
is_mute c = nat_le 3 c.asked && (c.answered == 0 && c.busy == 0 && c.nak == 0)

-- nothing came from an address that a device may have. 127 is none: all devices listen there, and answer with their own address
abbrev pub is_absent : ℕ → Counts → Bool
is_absent address c = is_mute c && not (address == 127)

-- between nine and thirteen in twenty
unfoldable pub is_half : ℕ → ℕ → Bool
is_half count all = nat_le (9 * all) (20 * count) && nat_le (20 * count) (13 * all)

-- half of the packets to a device are copies, and as many had no reply: each came twice, and was answered once
abbrev pub is_echoed : Counts → Bool
is_echoed c = is_measured c && is_half c.repeats c.asked && is_half (lost c) c.asked

abbrev pub loses : Counts → Bool
loses c = is_measured c && is_often (lost c) c.asked && not (is_mute c) && not (is_echoed c)

-- the share that is told
abbrev pub told_share : Counts → ℕ
told_share c = if loses c then lost_share c else 0

abbrev pub has_damage : Counts → Bool
has_damage c = is_measured c && is_common c.damaged c.asked

-- damage came, and at least once in sixty
abbrev pub is_touched : Counts → Bool
is_touched c = is_measured c && (nat_le 1 c.damaged && is_once_in 60 c.damaged c.asked)

-- Damage comes after half of the packets to a device, or more: two devices answer at once. Or one after the other: second replies.
abbrev pub is_shared : Counts → Bool
is_shared c = nat_le 3 c.seconds || (nat_le 3 c.damaged && is_once_in 2 c.damaged c.asked)

-- how many devices are measured, how many of them lose answers, or never answered, and after the packets to how many of them damage is common, and came at all
abbrev pub add : Survey → Counts → Survey
add s c = record {
  measured = more_if (is_measured c) s.measured;
  losing = more_if (is_measured c && (loses c || is_mute c)) s.losing;
  damaged = more_if (has_damage c) s.damaged;
  touched = more_if (is_touched c) s.touched;
}

abbrev pub survey_of : List Counts → Survey
survey_of counts = after_all add (record { measured = 0; losing = 0; damaged = 0; touched = 0 }) counts

-- it is one of several, and the only one so
abbrev pub is_alone : Survey → ℕ → Bool
is_alone s count = nat_le 2 s.measured && count == 1

-- all of several are so
abbrev pub are_all : Survey → ℕ → Bool
are_all s count = nat_le 2 s.measured && count == s.measured

-- ---- the lines

-- about the device at an address, where the test holds
unfoldable pub told_at : Bool → List ℕ → ℕ → List ℕ → List ℕ
told_at test before address after =
    if test then codes "diagnosis: " ++ (before ++ (decimal address ++ (after ++ codes "\n"))) else []

-- .. with a count
unfoldable pub told_count : Bool → ℕ → List ℕ → ℕ → List ℕ → List ℕ
told_count test address before count after =
    if test then codes "diagnosis: " ++ (decimal address ++ (before ++ (decimal count ++ (after ++ codes "\n")))) else []

-- about the whole line
unfoldable pub told_if : Bool → List ℕ → List ℕ
told_if test words = if test then codes "diagnosis: " ++ (words ++ codes "\n") else []

abbrev pub loss_words : Bool → List ℕ
loss_words alone = if alone then codes "% of answers, others none" else codes "% of answers"

unfoldable pub loss_lines : Survey → ℕ → Counts → List ℕ
loss_lines s address c =
    told_count (loses c) address (codes " loses ") (told_share c) (loss_words (is_alone s s.losing))
    ++ told_count (nat_le 2 c.restarted) address (codes " restarted ") c.restarted (codes " times")

unfoldable pub copy_lines : ℕ → Counts → List ℕ
copy_lines address c =
    told_at (is_absent address c) (codes "") address (codes " never answered")
    ++ told_at (is_echoed c) (codes "each packet to ") address (codes " comes twice: an echo of the adapter?")

abbrev pub answer_lines : Survey → ℕ → Counts → List ℕ
answer_lines s address c = copy_lines address c ++ loss_lines s address c

unfoldable pub repeat_lines : Bool → ℕ → Counts → List ℕ
repeat_lines alone address c =
    told_at alone (codes "damage on ") address (codes " alone")
    ++ told_at (is_common c.needless c.asked) (codes "packets to ") address (codes " are repeated although answered")

-- damage is common there, but not so that two devices may answer, and comes to no other measured device
unfoldable pub is_worn : Survey → Counts → Bool
is_worn s c = has_damage c && not (is_shared c) && is_alone s s.touched

abbrev pub damage_lines : Survey → ℕ → Counts → List ℕ
damage_lines s address c =
    told_at (is_shared c) (codes "two devices may answer at ") address (codes "")
    ++ repeat_lines (is_worn s c) address c

abbrev pub secure_lines : ℕ → Counts → List ℕ
secure_lines address c =
    told_at (nat_le 1 c.demands) (codes "") address (codes " demands Secure Channel")
    ++ told_at (nat_le 1 c.secured) (codes "") address (codes " speaks Secure Channel, which is not judged")

abbrev pub setting_lines : ℕ → Counts → List ℕ
setting_lines address c =
    secure_lines address c ++ told_count (nat_le 1 c.rate) address (codes " was set to ") c.rate (codes " bits a second")

-- nothing of an address that damage made
abbrev pub device_lines : Survey → ℕ → Counts → List ℕ
device_lines s address c = if is_ghost c then [] else answer_lines s address c ++ (damage_lines s address c ++ setting_lines address c)

unfoldable pub lines_from : Survey → ℕ → List Counts → List ℕ
lines_from s address [] = []
lines_from s address (c ∷ counts) = device_lines s address c ++ lines_from s (address + 1) counts

-- bytes came, and no packet among them
abbrev pub is_noise : Tally → Bool
is_noise tally = tally.packets == 0 && (nat_le 20 tally.skipped || nat_le 3 tally.refused)

abbrev pub line_lines : Tally → Survey → List ℕ
line_lines tally s =
    told_if (is_noise tally) (codes "nothing but noise: another rate?")
    ++ told_if (are_all s s.damaged) (codes "damage on all alike")

-- those of the line, and those of each device, from address 0 on
abbrev pub diagnoses_text : Tally → List Counts → List ℕ
diagnoses_text tally counts = line_lines tally (survey_of counts) ++ lines_from (survey_of counts) 0 counts
