-- What went before a packet of a panel, said of the list of what went over the line: the latest first.
use Rattle.std.specs.Prelude.{◌≡◌, ◌≢◌, ◌⊎◌, ℕ, ◌-◌, Bool, true, false, [], ◌∷◌, ◌++◌, Option, Some, None}
use Rattle.osdp_controller.specs.Answers.{meaning_of}
use Rattle.osdp_controller.specs.declared.meaning.ReplyMeaning.{ReplyMeaning}
use Rattle.osdp_controller.specs.declared.meaning.ReplyMeaning.TheVariants.{NotTaken, Damaged, NumberRefused, Plain, Unreadable}
use Rattle.osdp_frame.specs.Packet.{Packet, next_sequence}
use Rattle.osdp_panel_rules.specs.Line.{Event, Line, came, device, said}
use Rattle.osdp_panel_rules.specs.declared.said.Said.{Said}
use Rattle.osdp_panel_rules.specs.declared.said.Said.TheVariants.{Silence, Noise, Astray, Busy, Damage, Refusal, Answer}
use Rattle.osdp_panel_rules.specs.declared.sequel.Sequel.{Sequel}
use Rattle.osdp_panel_rules.specs.declared.sequel.Sequel.TheVariants.{Again, Anew, Altered, Next, Out}

-- ---- what a reply says to the panel that waits for an answer to a packet

-- a controller takes a reply as an answer, whether or not it can be read
abbrev pub IsAnswer : ReplyMeaning → Type 0
IsAnswer (Plain reply) = Unit {0}
IsAnswer (Unreadable code) = Unit {0}
IsAnswer _ = ⊥

-- a device at the packet's address says it, in clear
pub record IsFrom (p r : Packet) : Type 0 where
  pub replies : r.reply ≡ true
  pub address : r.address ≡ p.address
  pub clear : r.block ≡ false

-- .. with its number, and a controller takes it as an answer
pub record Answers (p r : Packet) : Type 0 where
  pub from : IsFrom p r
  pub number : r.sequence ≡ p.sequence
  pub means : IsAnswer (meaning_of r)

-- an answer; BUSY with the packet's number or with 0; NAK 1 and NAK 4 with its number
abbrev pub Says : Packet → Packet → Said → Type 0
Says p r Answer = Answers p r
Says p r Busy = IsFrom p r × ((r.sequence ≡ p.sequence) ⊎ (r.sequence ≡ 0)) × (meaning_of r ≡ NotTaken)
Says p r Damage = IsFrom p r × (r.sequence ≡ p.sequence) × (meaning_of r ≡ Damaged)
Says p r Refusal = IsFrom p r × (r.sequence ≡ p.sequence) × (meaning_of r ≡ NumberRefused)
Says p r _ = ⊥

-- ---- events between two packets to the device

abbrev pub Each : (Event → Type 0) → Line → Type 0
Each P [] = Unit {0}
Each P (event ∷ earlier) = P event × Each P earlier

-- the device gets no address
abbrev pub IsNoName : Event → Type 0
IsNoName (device address) = ⊥
IsNoName event = Unit {0}

-- the address that the device got last; 0 where it got none
pub record WasNamed (address : ℕ) (earlier : Line) : Type 0 where
  pub since : Line
  pub before : Line
  pub whole : earlier ≡ since ++ device address ∷ before
  pub last : Each IsNoName since

abbrev pub IsAt : ℕ → Line → Type 0
IsAt address earlier = WasNamed address earlier ⊎ (Each IsNoName earlier × (address ≡ 0))

-- the device speaks
abbrev pub IsSpoken : Event → Type 0
IsSpoken (said reply) = Unit {0}
IsSpoken event = ⊥

-- what came last was answered for the rule with this number
pub record WasFor (number : ℕ) (earlier : Line) : Type 0 where
  pub since : Line
  pub at : ℕ
  pub sent : Option Packet
  pub before : Line
  pub whole : earlier ≡ since ++ came number at sent ∷ before
  pub last : Each IsSpoken since

-- a packet to the device
pub record IsTo (address : ℕ) (p : Packet) : Type 0 where
  pub asks : p.reply ≡ false
  pub there : p.address ≡ address

-- no packet to the device, nor one to all, which may change it; and the device stays
abbrev pub LeavesAlone : ℕ → Event → Type 0
LeavesAlone address (device other) = ⊥
LeavesAlone address (came number moment None) = Unit {0}
LeavesAlone address (came number moment (Some q)) = q.reply ≡ false → (q.address ≢ address) × (q.address ≢ 127)
LeavesAlone address (said reply) = Unit {0}

-- .. or a copy of this one
abbrev pub LeavesOrIs : ℕ → Packet → Event → Type 0
LeavesOrIs address p (came number moment (Some q)) = (q ≡ p) ⊎ LeavesAlone address (came number moment (Some q))
LeavesOrIs address p event = LeavesAlone address event

-- the device said this to a packet that had come; and no other one has come to it since
pub record WasSaidTo (address : ℕ) (earlier : Line) (p r : Packet) : Type 0 where
  pub later : Line
  pub between : Line
  pub number : ℕ
  pub at : ℕ
  pub before : Line
  pub whole : earlier ≡ later ++ said (Some r) ∷ (between ++ came number at (Some p) ∷ before)
  pub to : IsTo address p
  pub after : Each (LeavesOrIs address p) later
  pub until : Each (LeavesOrIs address p) between

-- .. and it is an answer
abbrev pub WasAnswered : ℕ → Line → Packet → Type 0
WasAnswered address earlier p = (r : Packet) × WasSaidTo address earlier p r × Answers p r

-- ---- what was said to a packet, by all that went over the line since

-- the device says nothing
abbrev pub IsSilent : Event → Type 0
IsSilent (said reply) = ⊥
IsSilent event = Unit {0}

-- what it says doesn't speak to the panel
abbrev pub SaysNothing : Packet → Event → Type 0
SaysNothing p (said (Some r)) = (s : Said) → Says p r s → ⊥
SaysNothing p event = Unit {0}

-- it said this last
pub record LastSaid (reply : Option Packet) (since : Line) : Type 0 where
  pub later : Line
  pub earlier : Line
  pub whole : since ≡ later ++ said reply ∷ earlier
  pub silent : Each IsSilent later

-- what it said first that speaks to the panel says this
pub record FirstSaid (p : Packet) (since : Line) (s : Said) : Type 0 where
  pub later : Line
  pub reply : Packet
  pub earlier : Line
  pub whole : since ≡ later ++ said (Some reply) ∷ earlier
  pub says : Says p reply s
  pub nothing : Each (SaysNothing p) earlier

-- nothing at all; or nothing that speaks to the panel, and last bytes without a packet, or a packet; or what speaks to it
abbrev pub WasSaid : Packet → Line → Said → Type 0
WasSaid p since Silence = Each IsSilent since
WasSaid p since Noise = Each (SaysNothing p) since × LastSaid None since
WasSaid p since Astray = Each (SaysNothing p) since × (r : Packet) × LastSaid (Some r) since
WasSaid p since Busy = FirstSaid p since Busy
WasSaid p since Damage = FirstSaid p since Damage
WasSaid p since Refusal = FirstSaid p since Refusal
WasSaid p since Answer = FirstSaid p since Answer

-- ---- how a packet follows another

-- the same once more; another with number 0; another with the same number; the next number; none of these numbers
abbrev pub Comes : Packet → Packet → Sequel → Type 0
Comes p q Again = q ≡ p
Comes p q Anew = (q ≢ p) × (q.sequence ≡ 0)
Comes p q Altered = (q ≢ p) × (q.sequence ≢ 0) × (q.sequence ≡ p.sequence)
Comes p q Next = q.sequence ≡ next_sequence p.sequence
Comes p q Out = (q.sequence ≢ 0) × (q.sequence ≢ p.sequence) × (q.sequence ≢ next_sequence p.sequence)

abbrev pub IsWhether : Bool → Type 0 → Type 0
IsWhether true P = P
IsWhether false P = P → ⊥

-- q comes to the device at a moment after p, which came to it last: whether p was answered, what was said since, how q follows it, and how long after
pub record Follows (address : ℕ) (earlier : Line) (moment : ℕ) (q p : Packet) (answered : Bool) (s : Said) (how : Sequel) (wait : ℕ) : Type 0 where
  pub since : Line
  pub number : ℕ
  pub at : ℕ
  pub before : Line
  pub whole : earlier ≡ since ++ came number at (Some p) ∷ before
  pub to : IsTo address q
  pub last : IsTo address p
  pub alone : Each (LeavesAlone address) since
  pub answers : IsWhether answered (WasAnswered address earlier p)
  pub says : WasSaid p since s
  pub comes : Comes p q how
  pub waits : wait ≡ moment - at
