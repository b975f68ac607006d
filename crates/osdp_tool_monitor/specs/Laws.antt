-- What stands in print of whoever is accused.
use Rattle.std.specs.Prelude.{◌≡◌, ◌⊎◌, ℕ, ◌+◌, Bool, true, false, List, [], ◌∷◌, ◌++◌, codes, Option, None, Some}
use Rattle.std.specs.Fmt.{decimal}
use Rattle.osdp_frame.specs.Packet.{Packet}
use Rattle.osdp_frame.specs.Reading.{PacketItem, RunItem}
use Rattle.osdp_frame.specs.Spelling.{spelling}
use Rattle.osdp_words.specs.Word.{bytes, printed}
use Rattle.osdp_monitor.specs.declared.accusation.Accusation.{Accusation}
use Rattle.osdp_monitor.specs.Accused.{basis}
use Rattle.osdp_monitor.specs.declared.accusation.Basis.TheVariants.{Standard}
use Rattle.osdp_monitor.specs.Line.{after_items, expected_in, found_in}
use Rattle.osdp_tool_show.specs.ToldItems.{shown_line}
use Rattle.osdp_tool_show.specs.declared.detail.Detail.{Detail}
use Rattle.osdp_tool_monitor.specs.Listening.{Listening, heard_item, heard_items, items_report}
use Rattle.osdp_tool_monitor.specs.Talk.{talk_line}
use Rattle.osdp_tool_monitor.specs.Trail.{detail_after}
use Rattle.osdp_tool_monitor.specs.Text.{accusation_text, basis_text, notice_line}

-- who broke a rule: the reader of a reply, and else the panel
abbrev pub culprit : Bool → List ℕ
culprit true = codes " reader "
culprit false = codes " panel to "

-- a line that names a packet's run, from 1, its place in the run, who broke a rule, the address, the rule, and what asks for it
abbrev pub naming_line : ℕ → ℕ → Packet → Accusation → List ℕ
naming_line runs place p accusation =
    decimal (runs + 1) ++ (codes ":" ++ (decimal place ++ (culprit p.reply ++ (decimal p.address ++ (codes ": " ++ ((accusation_text accusation ++ basis_text (basis accusation)) ++ codes "\n"))))))

-- the packet that had to come in place of this one, and this one, where only one might come
abbrev pub both_packets : Option Packet → Packet → List ℕ
both_packets None p = []
both_packets (Some expected) p =
    codes "     expected " ++ (printed (bytes (spelling expected)) ++ (codes "\n     seen     " ++ (printed (bytes (spelling p)) ++ codes "\n")))

-- Whoever is accused in a packet, by a rule that isn't left out, is named in what is printed of any items about it. Before that line stands what is printed of the items before the packet,
-- the packet's own line, what a NAK refuses and what is worth a look in it. After it stand the two packets, and what is printed of the items after the packet.
abbrev pub PrintsAccusations : Type 0
PrintsAccusations = (detail : Detail) (l : Listening) (front rest : List RunItem) (p : Packet) (accusation : Accusation)
    → (found_in (after_items l.knowledge front) p).accusation ≡ Some accusation → (l.standard ≡ false) ⊎ (basis accusation ≡ Standard)
    → let now = heard_items l front in
    items_report detail l (front ++ PacketItem p ∷ rest)
    ≡ items_report detail l front
    ++ (shown_line (detail_after now.trail detail) now.tally (PacketItem p)
    ++ (talk_line detail (now.tally.runs + 1) now.tally.place now.trail (PacketItem p)
    ++ (notice_line (now.tally.runs + 1) now.tally.place p.address (found_in now.knowledge p).notice
    ++ (naming_line now.tally.runs now.tally.place p accusation
    ++ (both_packets (expected_in now.knowledge p) p
    ++ items_report detail (heard_item now (PacketItem p)) rest)))))
