-- For each rule a line that breaks it, one that leaves it open and one that keeps it, where a packet can do so; and a run of our panel that is allowed.
use Rattle.std.specs.Prelude.{◌≡◌, ℕ, true, false, List, [], ◌∷◌, ◌++◌, Some, None}
use Rattle.osdp_controller.specs.Settings.{default_config}
use Rattle.osdp_frame.specs.Packet.{Packet}
use Rattle.osdp_frame.specs.declared.check_kind.CheckKind.TheVariants.{Crc}
use Rattle.osdp_msg.specs.declared.limits.Room.{Room}
use Rattle.osdp_panel_rules.specs.Line.{Line, Rule, came, device, said, verdict_of}
use Rattle.osdp_panel_rules.specs.declared.aspect.Aspect.{Aspect}
use Rattle.osdp_panel_rules.specs.declared.aspect.Aspect.TheVariants as rule
use Rattle.osdp_rules.specs.declared.verdict.Verdict.TheVariants.{Ok}
use Rattle.osdp_panel_rules_laws.specs.Breaks.{Breaks, Keeps, LeavesOpen}
use Rattle.osdp_panel_rules_laws.specs.Laws.{IsNowhere, Somewhere}
use Rattle.osdp_panel_rules_laws.specs.Runs.{AreAllowed, Begin, Hear, Move, Say, Tested, Tick, lost, new_tested, run, whole}

-- a packet to the device at address 5, and one of it
abbrev pub asks : ℕ → List ℕ → Packet
asks number body = record { reply = false; address = 5; sequence = number; check = Crc; block = false; reserved = 0; body = body }

abbrev pub tells : ℕ → List ℕ → Packet
tells number body = record { reply = true; address = 5; sequence = number; check = Crc; block = false; reserved = 0; body = body }

-- POLL, and an LED with number 1
abbrev pub poll : ℕ → Packet
poll number = asks number (0x60 ∷ [])

abbrev pub lit : Packet
lit = asks 1 (0x69 ∷ 0 ∷ 0 ∷ 0 ∷ 0 ∷ 0 ∷ 0 ∷ 0 ∷ 0 ∷ 0 ∷ 1 ∷ 1 ∷ 0 ∷ 1 ∷ 0 ∷ [])

-- ACK with number 1 and with number 2, BUSY, NAK 1 and NAK 4; bytes that hold no packet, and nothing
abbrev pub ack : Line
ack = said (Some (tells 1 (0x40 ∷ []))) ∷ []

abbrev pub astray : Line
astray = said (Some (tells 2 (0x40 ∷ []))) ∷ []

abbrev pub busy : Line
busy = said (Some (tells 0 (0x79 ∷ []))) ∷ []

abbrev pub damage : Line
damage = said (Some (tells 1 (0x41 ∷ 1 ∷ []))) ∷ []

abbrev pub refusal : Line
refusal = said (Some (tells 1 (0x41 ∷ 4 ∷ []))) ∷ []

abbrev pub noise : Line
noise = said None ∷ []

abbrev pub nothing : Line
nothing = []

-- A packet comes to the device, this is said to it for rule 9, and so many milliseconds after it another packet comes.
abbrev pub then_comes : Packet → Line → ℕ → Packet → Line
then_comes p told wait q = came 9 wait (Some q) ∷ (told ++ came 9 0 (Some p) ∷ device 5 ∷ [])

abbrev pub broken_by : Aspect → Line
broken_by rule.Asks = then_comes (poll 1) ack 50 (tells 2 (0x60 ∷ []))
broken_by rule.Turn = then_comes (poll 1) ack 50 (poll 3)
broken_by rule.Copy = then_comes (poll 1) ack 50 (asks 1 (0x64 ∷ []))
broken_by rule.Silence = then_comes (poll 1) nothing 200 (poll 2)
broken_by rule.Order = then_comes lit nothing 200 (poll 2)
broken_by rule.Noise = then_comes (poll 1) noise 200 (poll 2)
broken_by rule.Astray = then_comes (poll 1) astray 200 (poll 2)
broken_by rule.Busy = then_comes (poll 1) busy 50 (poll 2)
broken_by rule.Refusal = then_comes (poll 1) refusal 50 (poll 2)
broken_by rule.Lapse = then_comes (poll 1) nothing 9000 (poll 3)
broken_by rule.Wait = then_comes (poll 1) nothing 149 (poll 1)
broken_by rule.Online = then_comes (poll 1) ack 8501 (poll 2)
broken_by _ = []

abbrev pub left_open_by : Aspect → Line
left_open_by rule.Reserved = then_comes (poll 1) ack 50 (record (poll 2) { reserved = 1 })
left_open_by rule.Plain = then_comes (poll 1) ack 50 (record (poll 2) { block = true })
left_open_by rule.Answer = then_comes (poll 1) ack 50 (poll 0)
left_open_by rule.Silence = then_comes (poll 1) nothing 600 (poll 0)
left_open_by rule.Order = then_comes lit nothing 600 (poll 0)
left_open_by rule.Noise = then_comes (poll 1) noise 600 (poll 0)
left_open_by rule.Astray = then_comes (poll 1) astray 600 (poll 0)
left_open_by rule.Busy = then_comes (poll 1) busy 600 (poll 0)
left_open_by rule.Damage = then_comes (poll 1) damage 50 (poll 2)
left_open_by rule.Wait = then_comes (poll 1) nothing 150 (poll 1)
left_open_by rule.Online = then_comes (poll 1) ack 8001 (poll 2)
left_open_by _ = []

abbrev pub kept_by : Aspect → Line
kept_by rule.Asks = then_comes (poll 1) ack 50 (poll 2)
kept_by rule.Reserved = then_comes (poll 1) ack 50 (poll 2)
kept_by rule.Plain = then_comes (poll 1) ack 50 (poll 2)
kept_by rule.Turn = then_comes (poll 1) ack 50 (poll 2)
kept_by rule.Copy = then_comes (poll 1) nothing 200 (poll 1)
kept_by rule.Answer = then_comes (poll 1) ack 50 (poll 2)
kept_by rule.Silence = then_comes (poll 1) nothing 200 (poll 1)
kept_by rule.Order = then_comes lit nothing 200 lit
kept_by rule.Noise = then_comes (poll 1) noise 200 (poll 1)
kept_by rule.Astray = then_comes (poll 1) astray 200 (poll 1)
kept_by rule.Busy = then_comes (poll 1) busy 50 (poll 1)
kept_by rule.Damage = then_comes (poll 1) damage 50 (poll 1)
kept_by rule.Refusal = then_comes (poll 1) refusal 400 (poll 0)
kept_by rule.Lapse = then_comes (poll 1) nothing 9000 (poll 0)
kept_by rule.Wait = then_comes (poll 1) nothing 200 (poll 1)
kept_by rule.Online = then_comes (poll 1) ack 8000 (poll 2)

-- rule 9 looks at what comes after bytes that were answered for it
abbrev pub ninth : Aspect → Rule
ninth aspect = record { number = 9; aspect = aspect; is_always = false }

abbrev pub IsBrokenSomewhere : Aspect → Line → Type 0
IsBrokenSomewhere aspect line = Somewhere (λ address earlier moment q a. Breaks address earlier moment q a) (ninth aspect) line

abbrev pub IsBrokenNowhere : Aspect → Line → Type 0
IsBrokenNowhere aspect line = IsNowhere (λ address earlier moment q a. Breaks address earlier moment q a) (ninth aspect) line

abbrev pub IsOpenSomewhere : Aspect → Line → Type 0
IsOpenSomewhere aspect line = Somewhere (λ address earlier moment q a. LeavesOpen address earlier moment q a) (ninth aspect) line

abbrev pub IsOpenNowhere : Aspect → Line → Type 0
IsOpenNowhere aspect line = IsNowhere (λ address earlier moment q a. LeavesOpen address earlier moment q a) (ninth aspect) line

abbrev pub IsKeptSomewhere : Aspect → Line → Type 0
IsKeptSomewhere aspect line = Somewhere (λ address earlier moment q a. Keeps address earlier moment q a) (ninth aspect) line

-- a line for each rule that a packet can break, or leave open
abbrev pub CanBeBroken : Aspect → Type 0
CanBeBroken rule.Reserved = Unit {0}
CanBeBroken rule.Plain = Unit {0}
CanBeBroken rule.Answer = Unit {0}
CanBeBroken rule.Damage = Unit {0}
CanBeBroken aspect = IsBrokenSomewhere aspect (broken_by aspect)

abbrev pub CanBeOpen : Aspect → Type 0
CanBeOpen rule.Asks = Unit {0}
CanBeOpen rule.Turn = Unit {0}
CanBeOpen rule.Copy = Unit {0}
CanBeOpen rule.Refusal = Unit {0}
CanBeOpen rule.Lapse = Unit {0}
CanBeOpen aspect = IsBrokenNowhere aspect (left_open_by aspect) × IsOpenSomewhere aspect (left_open_by aspect)

abbrev pub CanBeKept : Aspect → Type 0
CanBeKept aspect = IsBrokenNowhere aspect (kept_by aspect) × IsOpenNowhere aspect (kept_by aspect) × IsKeptSomewhere aspect (kept_by aspect)

-- ---- our own panel

-- the ID that opens a session, and the PDID of a device
abbrev pub opening : Packet
opening = asks 0 (0x61 ∷ 0 ∷ [])

abbrev pub known : Packet
known = tells 0 (0x45 ∷ 0x45 ∷ 0x53 ∷ 0x49 ∷ 1 ∷ 1 ∷ 5 ∷ 0 ∷ 0 ∷ 0 ∷ 1 ∷ 0 ∷ 0 ∷ [])

-- The panel opens a session after 400 ms of quiet, and polls 50 ms after the answer. The first POLL is lost on its way to the device, and comes again.
abbrev pub opens : List Move
opens = Begin 0 ∷ Tick 400 (whole 9 100) ∷ Say (Some known) ∷ Hear known 410 ∷ Tick 460 lost ∷ Tick 660 (whole 9 360)
    ∷ Say (Some (tells 1 (0x40 ∷ []))) ∷ Hear (tells 1 (0x40 ∷ [])) 670 ∷ Tick 720 (whole 9 420) ∷ []

abbrev pub at_first : Tested
at_first = new_tested 5 (default_config 5 Crc) (record { messages = 1; bytes = 1434 })

-- its run is one of those of which the law speaks, and shows that an answer is followed by the next number
abbrev pub OpensWell : Type 0
OpensWell = AreAllowed 5 opens at_first × (verdict_of (ninth rule.Answer) (run 5 opens at_first).line ≡ Ok)
