-- The rules of a panel.
use Rattle.std.specs.Prelude.{ℕ, Bool, true, false, List, [], ◌∷◌, codes}
use Rattle.osdp_panel_rules.specs.declared.aspect.Aspect.{Aspect}
use Rattle.osdp_panel_rules.specs.declared.aspect.Aspect.TheVariants.{Asks, Reserved, Plain, Turn, Copy, Wait, Online, Answer, Silence, Order, Noise, Astray, Busy, Damage, Refusal, Lapse}
use Rattle.osdp_tool_test.specs.declared.rules.Ground.{Ground}
use Rattle.osdp_tool_test.specs.declared.rules.Ground.TheVariants.{Asked, Open}
use Rattle.osdp_tool_test_panel.specs.declared.rules.PanelRule.{PanelRule}

-- what a rule looks at, what asks for it, whether all packets judge it, and what it says
abbrev pub Row : Type 0
Row = Aspect × Ground × Bool × List ℕ

abbrev pub row : PanelRule → Row
row rule = (rule.aspect, rule.ground, rule.is_always, rule.says.now)

-- numbered from 1
unfoldable pub panel_rules : List Row
panel_rules =
    (Asks, Asked, true, codes "bit 7 of the address is clear in a packet to the device")
    ∷ (Reserved, Open, true, codes "the reserved bits of a packet are 0")
    ∷ (Plain, Open, true, codes "a packet has no security block, which the device lacks")
    ∷ (Turn, Asked, true, codes "1 follows 0, 2 follows 1, 3 follows 2 and 1 follows 3")
    ∷ (Copy, Asked, true, codes "a packet with the last number is the last packet, byte for byte")
    ∷ (Wait, Asked, true, codes "a packet comes again after 200 ms at the soonest")
    ∷ (Online, Asked, true, codes "in a session a packet comes within 8 seconds")
    ∷ (Answer, Asked, false, codes "an answer is followed by the next number")
    ∷ (Answer, Asked, false, codes "an answer after 150 ms is taken")
    ∷ (Answer, Asked, false, codes "an answer after bytes FF is taken")
    ∷ (Answer, Open, false, codes "an answer after noise is taken")
    ∷ (Answer, Open, false, codes "an answer with reserved bits is taken")
    ∷ (Answer, Open, false, codes "an answer in two pieces is taken")
    ∷ (Answer, Open, false, codes "an answer after another device's is taken")
    ∷ (Answer, Asked, false, codes "a card is taken")
    ∷ (Silence, Asked, false, codes "number 1 without an answer comes again")
    ∷ (Silence, Asked, false, codes "number 2 without an answer comes again")
    ∷ (Silence, Asked, false, codes "number 3 without an answer comes again")
    ∷ (Silence, Asked, false, codes "number 0 without an answer comes again")
    ∷ (Silence, Asked, false, codes "a copy without an answer comes again")
    ∷ (Silence, Asked, false, codes "a card whose answer is lost is asked for again")
    ∷ (Order, Asked, false, codes "an order whose answer is lost comes again with its number")
    ∷ (Noise, Asked, false, codes "an answer with a wrong check is none")
    ∷ (Noise, Asked, false, codes "an answer that is cut off is none")
    ∷ (Noise, Asked, false, codes "an answer whose length is too great is none")
    ∷ (Noise, Asked, false, codes "an answer with another start of message is none")
    ∷ (Noise, Asked, false, codes "noise is no answer")
    ∷ (Astray, Asked, false, codes "an answer with the next number is none")
    ∷ (Astray, Asked, false, codes "an answer with number 0 is none")
    ∷ (Astray, Asked, false, codes "another device's answer is none")
    ∷ (Astray, Asked, false, codes "an answer without bit 7 of the address is none")
    ∷ (Busy, Asked, false, codes "BUSY with number 0 is no answer")
    ∷ (Busy, Asked, false, codes "a second BUSY is no answer")
    ∷ (Busy, Asked, false, codes "BUSY with the number of its packet is no answer")
    ∷ (Damage, Open, false, codes "after NAK 1 the packet comes again")
    ∷ (Refusal, Asked, true, codes "after NAK 4 a session begins with number 0")
    ∷ (Lapse, Asked, false, codes "after 8 seconds of silence a session begins with number 0")
    ∷ []
