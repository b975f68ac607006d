-- When a packet of a panel breaks a rule, leaves it open or keeps it, by all that went over the line before.
use Rattle.std.specs.Prelude.{◌≡◌, ◌≢◌, ◌⊎◌, ◌<◌, ◌≤◌, ℕ, Bool, true, false}
use Rattle.osdp_frame.specs.Packet.{Packet}
use Rattle.osdp_panel_rules.specs.Line.{Line}
use Rattle.osdp_panel_rules.specs.declared.aspect.Aspect.{Aspect}
use Rattle.osdp_panel_rules.specs.declared.aspect.Aspect.TheVariants as rule
use Rattle.osdp_panel_rules.specs.declared.said.Said.{Said}
use Rattle.osdp_panel_rules.specs.declared.said.Said.TheVariants.{Silence, Noise, Astray, Busy, Damage, Refusal, Answer}
use Rattle.osdp_panel_rules.specs.declared.sequel.Sequel.{Sequel}
use Rattle.osdp_panel_rules.specs.declared.sequel.Sequel.TheVariants.{Again, Anew, Altered, Next, Out}
use Rattle.osdp_rules.specs.Packets.{code_of}
use Rattle.osdp_panel_rules_laws.specs.Before.{Follows, IsTo}

-- POLL, ID, CAP and the status commands have codes below
abbrev pub IsOrder : Packet → Type 0
IsOrder p = 0x68 ≤ code_of p

-- a packet comes to the device at a moment after these events
module _ (address : ℕ) (earlier : Line) (moment : ℕ) (q : Packet) where
  -- it follows the last one so
  abbrev pub InWay : Sequel → Type 0
  InWay how = (p : Packet) × (answered : Bool) × (s : Said) × (wait : ℕ) × Follows address earlier moment q p answered s how wait

  -- .. which has no answer since its first copy, and to which this was said since its last
  abbrev pub Unanswered : Said → Sequel → Type 0
  Unanswered s how = (p : Packet) × (wait : ℕ) × Follows address earlier moment q p false s how wait

  -- .. and is an order
  abbrev pub UnansweredOrder : Sequel → Type 0
  UnansweredOrder how = (p : Packet) × (wait : ℕ) × IsOrder p × Follows address earlier moment q p false Silence how wait

  -- an answer was said to it first
  abbrev pub AfterAnswer : Sequel → Type 0
  AfterAnswer how = (p : Packet) × (answered : Bool) × (wait : ℕ) × Follows address earlier moment q p answered Answer how wait

  -- number 0, though the last one has no answer
  abbrev pub Restarts : Said → Type 0
  Restarts s = (q.sequence ≡ 0) × (how : Sequel) × Unanswered s how

  -- the next number or one out of turn, though the last packet has no answer
  abbrev pub GoesOn : Said → Type 0
  GoesOn s = Unanswered s Next ⊎ Unanswered s Out

  -- the same again, which isn't number 0, so many milliseconds after nothing was said to it
  abbrev pub ComesAgain : (ℕ → Type 0) → Type 0
  ComesAgain Waits = (q.sequence ≢ 0) × (p : Packet) × (wait : ℕ) × Waits wait × Follows address earlier moment q p false Silence Again wait

  -- the next number, so many milliseconds after a packet that was answered
  abbrev pub GoesOnAfter : (ℕ → Type 0) → Type 0
  GoesOnAfter Waits = (p : Packet) × (s : Said) × (wait : ℕ) × Waits wait × Follows address earlier moment q p true s Next wait

  -- a packet as if the device had said it; a number out of turn, or the last number on another packet; the next number, though the last packet has no
  -- answer; after NAK 4 any other packet but number 0; a copy within 150 ms, or the next packet of a session after more than 8.5 seconds
  abbrev pub Breaks : Aspect → Type 0
  Breaks rule.Asks = (q.reply ≡ true) × (q.address ≡ address)
  Breaks rule.Turn = InWay Out
  Breaks rule.Copy = InWay Altered
  Breaks rule.Silence = Unanswered Silence Next
  Breaks rule.Order = UnansweredOrder Next
  Breaks rule.Noise = Unanswered Noise Next
  Breaks rule.Astray = Unanswered Astray Next
  Breaks rule.Busy = Unanswered Busy Next
  Breaks rule.Refusal = GoesOn Refusal ⊎ Unanswered Refusal Altered
  Breaks rule.Lapse = GoesOn Silence
  Breaks rule.Wait = ComesAgain (λ wait. wait < 150)
  Breaks rule.Online = GoesOnAfter (λ wait. 8500 < wait)
  Breaks _ = ⊥

  -- reserved bits; a security block; a new session where the same packet or the next number would do; anything after NAK 1; and what clocks that
  -- differ may explain
  abbrev pub LeavesOpen : Aspect → Type 0
  LeavesOpen rule.Reserved = IsTo address q × (q.reserved ≢ 0)
  LeavesOpen rule.Plain = IsTo address q × (q.block ≡ true)
  LeavesOpen rule.Answer = AfterAnswer Anew
  LeavesOpen rule.Silence = Unanswered Silence Anew
  LeavesOpen rule.Order = UnansweredOrder Anew
  LeavesOpen rule.Noise = Unanswered Noise Anew
  LeavesOpen rule.Astray = Unanswered Astray Anew
  LeavesOpen rule.Busy = Unanswered Busy Anew
  LeavesOpen rule.Damage = Unanswered Damage Anew ⊎ Unanswered Damage Next
  LeavesOpen rule.Wait = ComesAgain (λ wait. (150 ≤ wait) × (wait < 200))
  LeavesOpen rule.Online = GoesOnAfter (λ wait. (8000 < wait) × (wait ≤ 8500))
  LeavesOpen _ = ⊥

  -- a packet to the device; no reserved bits, and no security block; the next number; the same packet again where it has no answer; number 0 after NAK 4
  -- and after a silence
  abbrev pub Keeps : Aspect → Type 0
  Keeps rule.Asks = IsTo address q
  Keeps rule.Reserved = IsTo address q × (q.reserved ≡ 0)
  Keeps rule.Plain = IsTo address q × (q.block ≡ false)
  Keeps rule.Turn = InWay Next
  Keeps rule.Copy = InWay Again
  Keeps rule.Answer = AfterAnswer Next
  Keeps rule.Silence = Unanswered Silence Again
  Keeps rule.Order = UnansweredOrder Again
  Keeps rule.Noise = Unanswered Noise Again
  Keeps rule.Astray = Unanswered Astray Again
  Keeps rule.Busy = Unanswered Busy Again
  Keeps rule.Damage = Unanswered Damage Again
  Keeps rule.Refusal = Restarts Refusal
  Keeps rule.Lapse = Restarts Silence
  Keeps rule.Wait = ComesAgain (λ wait. 200 ≤ wait)
  Keeps rule.Online = GoesOnAfter (λ wait. wait ≤ 8000)
