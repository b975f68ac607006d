-- What is printed of what a monitor finds.
use Rattle.std.specs.Prelude.{ℕ, ◌&&◌, if◌then◌else◌, Bool, true, false, List, [], ◌∷◌, ◌++◌, codes, Option, None, Some}
use Rattle.std.specs.Fmt.{decimal}
use Rattle.osdp_frame.specs.Packet.{Packet}
use Rattle.osdp_frame.specs.Spelling.{spelling}
use Rattle.osdp_words.specs.Word.{bytes, printed}
use Rattle.osdp_monitor.specs.declared.accusation.Accusation.{Accusation}
use Rattle.osdp_monitor.specs.declared.accusation.Accusation.TheVariants as accusation
use Rattle.osdp_monitor.specs.Accused.{basis}
use Rattle.osdp_monitor.specs.declared.accusation.Basis.{Basis}
use Rattle.osdp_monitor.specs.declared.accusation.Basis.TheVariants as basis_is
use Rattle.osdp_monitor.specs.declared.found.Found.{Found}
use Rattle.osdp_monitor.specs.declared.found.Notice.{Notice}
use Rattle.osdp_monitor.specs.declared.found.Notice.TheVariants as notice

-- who is accused, before the address: the panel of a packet to a device, the reader of a reply
abbrev pub accused_text : Bool → List ℕ
accused_text true = codes " reader "
accused_text false = codes " panel to "

abbrev pub accusation_text : Accusation → List ℕ
-- a panel
accusation_text accusation.AnotherPacket = codes "another packet with the number of the last"
accusation_text accusation.NotAnswered = codes "the next number, but the last one was not answered"
accusation_text accusation.SentOutOfTurn = codes "a number out of turn"
-- a reader
accusation_text accusation.SecondReply = codes "a second reply to one packet"
accusation_text accusation.AnotherNumber = codes "another number"
accusation_text accusation.AnotherCheck = codes "another check"
accusation_text accusation.BusyToRepeat = codes "BUSY to a packet that was answered"
accusation_text accusation.RefusedZero = codes "NAK 4 to number 0"
accusation_text accusation.AnotherReply = codes "a repeat is answered by something else"
accusation_text accusation.TakenOutOfTurn = codes "a number out of turn was taken"
accusation_text accusation.UnreadReply = codes "a reply that can't be read"
accusation_text accusation.UnfitReply = codes "a reply that doesn't fit the command"
accusation_text accusation.EventAtZero = codes "an event at number 0"

-- what asks for the rule
abbrev pub basis_text : Basis → List ℕ
basis_text basis_is.Standard = codes " (standard)"
basis_text basis_is.Profile = codes " (profile)"

abbrev pub is_profile : Basis → Bool
is_profile basis_is.Standard = false
is_profile basis_is.Profile = true

-- an accusation by the profile alone may be left out
abbrev pub is_left_out : Bool → Option Accusation → Bool
is_left_out standard None = false
is_left_out standard (Some found) = standard && is_profile (basis found)

abbrev pub told : Bool → Found → Found
told standard found = if is_left_out standard found.accusation then record found { accusation = None } else found

abbrev pub notice_text : Notice → List ℕ
notice_text notice.Opened = codes "opened"
notice_text (notice.Moved address) = codes "moved to " ++ decimal address
notice_text notice.Restarted = codes "restarted"
notice_text notice.Unanswered = codes "unanswered"
notice_text notice.Late = codes "a late answer: the reader takes longer than the panel waits"
notice_text notice.Unsure = codes "heard too little to judge"

-- a line about a packet's address: the number of its run, from 1, its place in the run, and who it speaks of
abbrev pub address_line : ℕ → ℕ → List ℕ → ℕ → List ℕ → List ℕ
address_line run place party address text =
    decimal run ++ (codes ":" ++ (decimal place ++ (party ++ (decimal address ++ (codes ": " ++ (text ++ codes "\n"))))))

abbrev pub notice_line : ℕ → ℕ → ℕ → Option Notice → List ℕ
notice_line run place address None = []
notice_line run place address (Some found) = address_line run place (codes " device ") address (notice_text found)

abbrev pub accusation_line : ℕ → ℕ → Packet → Option Accusation → List ℕ
accusation_line run place p None = []
accusation_line run place p (Some found) = address_line run place (accused_text p.reply) p.address (accusation_text found ++ basis_text (basis found))

-- the bytes of the packet that had to come, where only one might
abbrev pub expected_bytes : Option Packet → List ℕ
expected_bytes None = []
expected_bytes (Some p) = spelling p

-- they and those of the packet that came, where there are any
abbrev pub both_lines : List ℕ → List ℕ → List ℕ
both_lines expected seen =
    codes "     expected " ++ (printed (bytes expected) ++ (codes "\n     seen     " ++ (printed (bytes seen) ++ codes "\n")))

abbrev pub expected_lines : List ℕ → Packet → List ℕ
expected_lines [] p = []
expected_lines (b ∷ expected) p = both_lines (b ∷ expected) (spelling p)

-- what is found in a packet
abbrev pub found_text : ℕ → ℕ → Packet → Found → List ℕ → List ℕ
found_text run place p found expected =
    notice_line run place p.address found.notice ++ (accusation_line run place p found.accusation ++ expected_lines expected p)
