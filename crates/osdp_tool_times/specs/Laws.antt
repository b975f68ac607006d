-- Which answers are told as late, in the words of the line: a panel that sends, and a device that answers.
use Rattle.std.specs.Prelude.{◌≡◌, ◌≢◌, ◌≤◌, ◌<◌, ◌-◌, ℕ, List, [], ◌∷◌, None, Some}
use Rattle.osdp_tool_times.specs.Waits.{after_reply, after_sent, no_waits, told_reply}
use Rattle.osdp_tool_times.specs.declared.waits.Sent.{Sent}
use Rattle.osdp_tool_times.specs.declared.waits.Told.TheVariants.{InTime, Late, Nothing}
use Rattle.osdp_tool_times.specs.declared.waits.Waits.{Waits}

-- a packet of a number, sent at a moment
abbrev pub sent : ℕ → ℕ → Waits → Waits
sent number moment w = after_sent (record { moment = moment; number = number }) w

-- a packet that is answered before the panel sends its next one
pub record Exchange : Type 0 where
  pub number : ℕ
  pub asked : ℕ
  pub answered : ℕ
  pub in_turn : asked ≤ answered

-- after such exchanges, one after the other
unfoldable pub after_exchanges : Waits → List Exchange → Waits
after_exchanges w [] = w
after_exchanges w (e ∷ exchanges) = after_exchanges (after_reply e.number e.answered (sent e.number e.asked w)) exchanges

-- A device that answers each packet before the panel sends its next one is never told late: each answer is told with the time from the packet to it.
abbrev pub NeverTellsLate : Type 0
NeverTellsLate = (exchanges : List Exchange) (e : Exchange)
    → told_reply (sent e.number e.asked (after_exchanges no_waits exchanges)) e.number e.answered ≡ InTime (e.answered - e.asked)

-- A device that answers after the panel has sent another packet with another number is told late, with the time that it took, and the time that the panel waited.
abbrev pub TellsLate : Type 0
TellsLate = (exchanges : List Exchange) (number next asked later answered : ℕ) → next ≢ number → asked ≤ later → later ≤ answered
    → told_reply (sent next later (sent number asked (after_exchanges no_waits exchanges))) number answered ≡ Late (answered - asked) (later - asked)

-- A device that answers after the panel has sent its packet once more, and then that copy, is told late by its second answer, with the time of the first.
abbrev pub TellsLateCopies : Type 0
TellsLateCopies = (exchanges : List Exchange) (number asked again answered last : ℕ) → asked ≤ again → again ≤ answered
    → told_reply (after_reply number answered (sent number again (sent number asked (after_exchanges no_waits exchanges)))) number last
    ≡ Late (answered - asked) (again - asked)

-- It is told late as well where the panel has gone on by the first answer before the second one comes, with the time of the second.
abbrev pub TellsLateSeconds : Type 0
TellsLateSeconds = (exchanges : List Exchange) (number next asked again answered later last : ℕ) → next ≢ number → again ≤ later → later ≤ last
    → told_reply (sent next later (after_reply number answered (sent number again (sent number asked (after_exchanges no_waits exchanges))))) number last
    ≡ Late (last - again) (later - again)

-- A device that answers after the panel has sent two more packets, neither of them with its number, is told late.
abbrev pub TellsLateFurther : Type 0
TellsLateFurther = (exchanges : List Exchange) (number next last asked later latest answered : ℕ) → next ≢ number → last ≢ number → asked ≤ latest → latest ≤ answered
    → told_reply (sent last latest (sent next later (sent number asked (after_exchanges no_waits exchanges)))) number answered ≡ Late (answered - asked) (later - asked)

-- An answer that is said to come before the last packet was sent tells no time, whatever was sent before: the moments of the capture go back there.
abbrev pub TellsNothingBefore : Type 0
TellsNothingBefore = (w : Waits) (last : Sent) (number answered : ℕ) → w.last ≡ Some last → w.first ≡ None → answered < last.moment
    → told_reply w number answered ≡ Nothing
