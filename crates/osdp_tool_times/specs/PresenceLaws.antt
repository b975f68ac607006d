-- Which device is told offline, how often one restarted, and what answers count, in the words of the line.
use Rattle.std.specs.Prelude.{◌≡◌, ◌≤◌, ◌<◌, ◌+◌, ◌*◌, ◌^◌, ℕ, zero, suc, Bool, true, false, Some}
use Rattle.osdp_frame.specs.Packet.{Packet}
use Rattle.osdp_tool_times.specs.Presence.{after_answer, after_asked, is_offline, not_heard, restart_seconds}
use Rattle.osdp_tool_times.specs.Times.{after_further}
use Rattle.osdp_tool_times.specs.declared.presence.Presence.{Presence}
use Rattle.osdp_tool_times.specs.declared.table.Times.{Times}

-- so many packets are sent to a device, which doesn't answer
unfoldable pub after_packets : ℕ → Presence → Presence
after_packets zero w = w
after_packets (suc count) w = after_asked (after_packets count w)

-- it answers at this moment, and then so many packets have no answer
abbrev pub falls_silent : Bool → ℕ → ℕ → Presence → Presence
falls_silent refused moment count w = after_packets count (after_answer refused moment w)

-- A device is told offline from its third packet on that has no answer, and no earlier. Its last answer is the one before them.
pub record OfflineFromTheThird (refused : Bool) (moment count : ℕ) (w : Presence) : Type 0 where
  pub offline : 3 ≤ count → is_offline (falls_silent refused moment count w) ≡ true
  pub online : count < 3 → is_offline (falls_silent refused moment count w) ≡ false
  pub last : (falls_silent refused moment count w).last ≡ Some moment

abbrev pub TellsOffline : Type 0
TellsOffline = (refused : Bool) (moment count : ℕ) (w : Presence) → OfflineFromTheThird refused moment count w

-- Where it answers before that, it is online since when it was; where it answers later, since that answer.
pub record OnlineSinceItAnswers (first then : Bool) (moment later count : ℕ) (w : Presence) : Type 0 where
  pub goes_on : count < 3 → (after_answer then later (falls_silent first moment count w)).since ≡ (after_answer first moment w).since
  pub begins_anew : 3 ≤ count → (after_answer then later (falls_silent first moment count w)).since ≡ Some later

abbrev pub TellsOnline : Type 0
TellsOnline = (first then : Bool) (moment later count : ℕ) (w : Presence) → OnlineSinceItAnswers first then moment later count w

-- a device that restarts so often, the first time at this moment, and then again each so many milliseconds: it answers NAK 4 after another answer
unfoldable pub after_restarts : ℕ → ℕ → ℕ → Presence
after_restarts first between zero = not_heard
after_restarts first between (suc count) =
    after_answer true (first + count * between) (after_answer false (first + count * between) (after_restarts first between count))

-- A device that restarts every so many seconds, twice or more, is told so often, and with these seconds.
pub record RestartsAreTold (first seconds count : ℕ) : Type 0 where
  pub often : (after_restarts first (1000 * seconds) (suc (suc count))).restarts ≡ suc (suc count)
  pub every : restart_seconds (after_restarts first (1000 * seconds) (suc (suc count))) ≡ seconds

abbrev pub CountsRestarts : Type 0
CountsRestarts = (first seconds count : ℕ) → suc (suc count) < 2 ^ 64 → RestartsAreTold first seconds count

-- Several NAK 4 in a row are one restart.
abbrev pub CountsARowOnce : Type 0
CountsARowOnce = (moment later : ℕ) (w : Presence) → (after_answer true later (after_answer true moment w)).restarts ≡ (after_answer true moment w).restarts

-- An answer that stands further in its run, as after its packet, is an answer: its device is not told offline then. No time is told of it.
pub record IsHeardFurther (p : Packet) (moment : ℕ) (t : Times) : Type 0 where
  pub online : p.reply ≡ true → is_offline (after_further p (Some moment) t).presence ≡ false
  pub answers : (after_further p (Some moment) t).answers ≡ t.answers
  pub late : (after_further p (Some moment) t).late ≡ t.late

abbrev pub HearsFurtherAnswers : Type 0
HearsFurtherAnswers = (p : Packet) (moment : ℕ) (t : Times) → IsHeardFurther p moment t
