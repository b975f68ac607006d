-- For each rule that can be broken, a list that breaks it.
use Rattle.std.specs.Prelude.{◌≡◌, ℕ, true, false, List, [], ◌∷◌, Some, None}
use Rattle.osdp_frame.specs.Packet.{Packet}
use Rattle.osdp_frame.specs.declared.check_kind.CheckKind.TheVariants.{Sum, Crc}
use Rattle.osdp_rules.specs.Runs.{Sent, verdict_on}
use Rattle.osdp_rules.specs.declared.aspect.Aspect.{Aspect}
use Rattle.osdp_rules.specs.declared.aspect.Aspect.TheVariants as rule
use Rattle.osdp_rules.specs.declared.verdict.Verdict.TheVariants.{Broken}

-- a packet to the device at address 5, and one of it
abbrev pub packet : ℕ → List ℕ → Packet
packet number body = record { reply = false; address = 5; sequence = number; check = Crc; block = false; reserved = 0; body = body }

abbrev pub answer : ℕ → List ℕ → Packet
answer number body = record { reply = true; address = 5; sequence = number; check = Crc; block = false; reserved = 0; body = body }

abbrev pub exchange : Packet → List Packet → Sent
exchange p answers = record { asks = true; packet = Some p; answers = answers; delay = 5 }

-- POLL with number 0, which is answered
abbrev pub poll : Packet
poll = packet 0 (0x60 ∷ [])

abbrev pub polled : Sent
polled = exchange poll (answer 0 (0x40 ∷ []) ∷ [])

-- CAP with number 0. Its answer tells an input of level 3 with count 1, and LEDs of level 3 with count 2.
abbrev pub capable : Sent
capable = exchange (packet 0 (0x62 ∷ 0 ∷ [])) (answer 0 (0x46 ∷ 1 ∷ 3 ∷ 1 ∷ 4 ∷ 3 ∷ 2 ∷ []) ∷ [])

-- an LED that is lit for a time: LED 2 of reader 0
abbrev pub lit : List ℕ
lit = 0x69 ∷ 0 ∷ 2 ∷ 2 ∷ 5 ∷ 5 ∷ 1 ∷ 0 ∷ 10 ∷ 0 ∷ 0 ∷ 0 ∷ 0 ∷ 0 ∷ 0 ∷ []

-- by rule; no answer to a security block breaks one
abbrev pub wrong : Aspect → List Sent
wrong rule.Address = exchange poll (record (answer 0 (0x40 ∷ [])) { address = 6 } ∷ []) ∷ []
wrong rule.Check = exchange poll (record (answer 0 (0x40 ∷ [])) { check = Sum } ∷ []) ∷ []
wrong rule.Number = exchange poll (answer 1 (0x40 ∷ []) ∷ []) ∷ []
wrong rule.Plain = exchange poll (record (answer 0 (0x40 ∷ [])) { block = true } ∷ []) ∷ []
wrong rule.Turn = polled ∷ exchange (packet 1 (0x60 ∷ [])) (answer 1 (0x41 ∷ 4 ∷ []) ∷ []) ∷ []
wrong rule.Fit = exchange poll (answer 0 (0x45 ∷ []) ∷ []) ∷ []
wrong rule.Served = exchange poll (answer 0 (0x41 ∷ 3 ∷ []) ∷ []) ∷ []
wrong rule.Code = exchange (packet 0 (0x5F ∷ [])) (answer 0 (0x40 ∷ []) ∷ []) ∷ []
wrong rule.Length = exchange (packet 0 (0x60 ∷ 1 ∷ [])) (answer 0 (0x40 ∷ []) ∷ []) ∷ []
wrong rule.Read = exchange (packet 0 (0x61 ∷ 0 ∷ [])) (answer 0 (0x45 ∷ []) ∷ []) ∷ []
wrong rule.Busy = exchange poll (answer 2 (0x79 ∷ []) ∷ []) ∷ []
wrong rule.Repeat = polled ∷ exchange (packet 1 (0x60 ∷ [])) (answer 1 (0x40 ∷ []) ∷ []) ∷ exchange (packet 1 (0x60 ∷ [])) (answer 1 (0x48 ∷ 0 ∷ 0 ∷ []) ∷ []) ∷ []
wrong rule.Wrong = polled ∷ exchange (packet 2 (0x60 ∷ [])) (answer 2 (0x40 ∷ []) ∷ []) ∷ []
wrong rule.Block = []
wrong rule.Quiet = exchange (record poll { address = 6 }) (answer 0 (0x40 ∷ []) ∷ []) ∷ []
wrong rule.Deaf = record { asks = true; packet = None; answers = answer 0 (0x40 ∷ []) ∷ []; delay = 5 } ∷ []
wrong rule.Single = exchange poll (answer 0 (0x40 ∷ []) ∷ answer 0 (0x40 ∷ []) ∷ []) ∷ []
wrong rule.Prompt = record polled { delay = 201 } ∷ []
wrong rule.Listed = capable ∷ exchange (packet 1 (0x65 ∷ [])) (answer 1 (0x49 ∷ 0 ∷ 0 ∷ 0 ∷ []) ∷ []) ∷ []
wrong rule.Beyond = capable ∷ exchange (packet 1 lit) (answer 1 (0x40 ∷ []) ∷ []) ∷ []

abbrev pub CanBeBroken : Aspect → Type 0
CanBeBroken rule.Block = Unit {0}
CanBeBroken aspect = verdict_on aspect 5 [] (wrong aspect) ≡ Broken

abbrev pub EachCanBeBroken : Type 0
EachCanBeBroken = (aspect : Aspect) → CanBeBroken aspect
