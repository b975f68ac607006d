-- What holds of a session at all times is kept by the rows of both tables.
use Rattle.osdp_controller.proofs.Common.{◌≡◌, ℕ, ◌+◌, ◌*◌, ◌<◌, ◌≤◌, ◌&&◌, [], Option, Some, None, refl, arith, rules, IfSome, nat_lt, nat_le, ◌==◌, ltb-true, ltb-false, next_sequence, Command, Communication, Reply, PdId, ReplyMeaning, NotTaken, Damaged, NumberRefused, Plain, Unreadable, Exchange, Opening, Polling, Asking, Outstanding, Session, State, Closed, Quiet, Idle, Waiting, Pausing, submitted_command, is_order, is_poll_next, asks_or_polls, polls, after_send, later, seen, Ticked, begins, gives_up, sends_frame, stays, ticks_in, tries_again, Heard, answered, answered_unread, com_of, command_answered, comset_of, hears_busy, loses, moved_by, opening_answered, pausing_hears, pd_id_of, waiting_hears, numbered_in, IsOutstanding, IsSession, IsState, IsSubmitted, OpensAtZero}
use Rattle.std.proofs.Math.Nat.{mul-add}
use Rattle.osdp_controller.specs.declared.report.LostCause.TheVariants as causes
use Rattle.osdp_controller.specs.Settings.{IsConfig}
use Rattle.osdp_controller.proofs.Choices.{either_way, first_true}

-- one more send
pub keeps_send : (sends : ℕ) (o : Outstanding) (s : Session) → IsConfig s.config → 1 ≤ sends → sends ≤ s.config.sends
    → IfSome (submitted_command o.exchange) IsSubmitted → o.busies ≤ s.config.busy_limit
    → o.sent + 1 ≤ s.config.sends * o.busies + sends
    → (o.exchange ≡ Opening → s.number ≡ 0) → IsSession (after_send sends o s)
keeps_send sends o s config one within command busies sent opening = record {
  config = config;
  state = (one, within, record { command = command; busies = busies; some = omega arith; sent = sent });
  opening = opening;
}

-- a new exchange
pub keeps_begins : (x : Exchange) (number : ℕ) (s : Session) → IsConfig s.config → IfSome (submitted_command x) IsSubmitted
    → (x ≡ Opening → number ≡ 0) → IsSession (begins x number s []).session
keeps_begins x number s config command opening =
    let some : 1 ≤ s.config.sends = config.sends.0 in
    keeps_send 1 (record { exchange = x; busies = 0; sent = 0 }) (record s { number = number; asked = is_order x }) config (omega arith) some command (omega arith) (omega arith) opening

keeps_try : (sends : ℕ) (o : Outstanding) (s : Session) → IsConfig s.config → 1 ≤ sends → sends ≤ s.config.sends → IsOutstanding s.config sends o
    → (o.exchange ≡ Opening → s.number ≡ 0) → IsSession (tries_again sends o s []).session
keeps_try sends o s config one within is opening =
    let sent : o.sent ≤ s.config.sends * o.busies + sends = is.sent in
    either_way (λ (t : Ticked). IsSession t.session) (nat_lt sends s.config.sends) (sends_frame (sends + 1) o s []) (gives_up o s [])
    (λ below. let less : sends < s.config.sends = ltb-true sends s.config.sends below in
    keeps_send (sends + 1) o s config (omega arith) (omega arith) is.command is.busies (omega arith) opening)
    (λ above. record { config = config; state = tt; opening = tt })

-- by the state, which is the session's own
pub keeps_ticks : (state : State) (s : Session) → IsSession s → IsState s.config state → OpensAtZero state s.number
    → IsSession (ticks_in state s []).session
keeps_ticks Closed s same is opening = same
keeps_ticks (Quiet until) s same is opening =
    either_way (λ (t : Ticked). IsSession t.session) (nat_le until s.greatest) (begins Opening 0 s []) (stays s [])
    (λ h. keeps_begins Opening 0 s same.config tt (λ e. refl)) (λ h. same)
keeps_ticks (Idle due) s same is opening =
    let polled = either_way (λ (t : Ticked). IsSession t.session) (nat_le due s.greatest) (begins Polling (next_sequence s.number) s []) (stays s [])
    (λ h. keeps_begins Polling (next_sequence s.number) s same.config tt (λ e. cc)) (λ h. same) in
    either_way (λ (t : Ticked). IsSession t.session) (is_poll_next s) (polls due s []) (asks_or_polls [] due s) (λ h. polled) (λ h. polled)
keeps_ticks (Waiting until sends o) s same is opening =
    either_way (λ (t : Ticked). IsSession t.session) (nat_le until s.greatest) (tries_again sends o s []) (stays s [])
    (λ h. keeps_try sends o s same.config is.0 is.1 is.2 opening) (λ h. same)
keeps_ticks (Pausing until o) s same is opening =
    let sent : o.sent ≤ s.config.sends * o.busies + 0 = is.sent in
    let some : 1 ≤ s.config.sends = same.config.sends.0 in
    either_way (λ (t : Ticked). IsSession t.session) (nat_le until s.greatest) (sends_frame 1 o s []) (stays s [])
    (λ h. keeps_send 1 o s same.config (omega arith) some is.command is.busies (omega arith) opening)
    (λ h. same)

-- one more BUSY
keeps_busy : (sends : ℕ) (o : Outstanding) (s : Session) → IsConfig s.config → sends ≤ s.config.sends → IsOutstanding s.config sends o
    → (o.exchange ≡ Opening → s.number ≡ 0) → IsSession (hears_busy o s).session
keeps_busy sends o s config within is opening =
    let sent : o.sent ≤ s.config.sends * o.busies + sends = is.sent in
    let split : s.config.sends * (o.busies + 1) ≡ s.config.sends * o.busies + s.config.sends * 1 = mul-add s.config.sends o.busies 1 in
    let some : 1 ≤ o.sent = is.some in
    either_way (λ (h : Heard). IsSession h.session) (nat_lt s.config.busy_limit (o.busies + 1)) (loses causes.TooBusy o s)
    (record { session = record s { state = Pausing (later s.config.busy_wait s) (record o { busies = o.busies + 1 }) }; report = None })
    (λ h. record { config = config; state = tt; opening = tt })
    (λ h. let below : o.busies + 1 ≤ s.config.busy_limit = ltb-false s.config.busy_limit (o.busies + 1) h in record {
      config = config;
      state = record { command = is.command; busies = below; some = some; sent = omega arith };
      opening = opening;
    })

-- a reader moves to the address of a device
pub moved_to_device : (asked answered : Option Communication) → IfSome (moved_by asked answered) (λ d. d.address < 127)
moved_to_device None answered = tt
moved_to_device (Some a) None = tt
moved_to_device (Some a) (Some d) =
    either_way (λ (o : Option Communication). IfSome o (λ d. d.address < 127)) (nat_lt d.address 127 && d.address == a.address) (Some d) None
    (λ h. ltb-true d.address 127 (first_true (nat_lt d.address 127) (d.address == a.address) h)) (λ h. tt)

keeps_opening : (id : Option PdId) (s : Session) → IsSession s → IsSession (opening_answered id s).session
keeps_opening None s is = is
keeps_opening (Some id) s is = record { config = is.config; state = tt; opening = tt }

keeps_command : (moved : Option Communication) (command : Command) (reply : Reply) (s : Session) → IfSome moved (λ d. d.address < 127) → IsConfig s.config
    → IsSession (command_answered moved command reply s).session
keeps_command None command reply s device config = record { config = config; state = tt; opening = tt }
keeps_command (Some d) command reply s device config = record { config = search rules; state = tt; opening = tt }

keeps_answered : (x : Exchange) (reply : Reply) (s : Session) → IsSession s → IsSession (answered x reply s).session
keeps_answered Opening reply s is = keeps_opening (pd_id_of reply) s is
keeps_answered Polling reply s is = record { config = is.config; state = tt; opening = tt }
keeps_answered (Asking command) reply s is =
    keeps_command (moved_by (comset_of command) (com_of reply)) command reply s (moved_to_device (comset_of command) (com_of reply)) is.config

keeps_unread : (x : Exchange) (code : ℕ) (s : Session) → IsSession s → IsSession (answered_unread x code s).session
keeps_unread Opening code s is = is
keeps_unread Polling code s is = record { config = is.config; state = tt; opening = tt }
keeps_unread (Asking command) code s is = record { config = is.config; state = tt; opening = tt }

keeps_waiting : (a : ReplyMeaning) (sends : ℕ) (o : Outstanding) (s : Session) → 1 ≤ sends → sends ≤ s.config.sends → IsOutstanding s.config sends o
    → (o.exchange ≡ Opening → s.number ≡ 0) → IsSession s → IsSession (waiting_hears a sends o s).session
keeps_waiting NotTaken sends o s one within out opening is = keeps_busy sends o s is.config within out opening
keeps_waiting Damaged sends o s one within out opening is = record { config = is.config; state = (one, within, out); opening = opening }
keeps_waiting NumberRefused sends o s one within out opening is = record { config = is.config; state = tt; opening = tt }
keeps_waiting (Plain reply) sends o s one within out opening is = keeps_answered o.exchange reply s is
keeps_waiting (Unreadable code) sends o s one within out opening is = keeps_unread o.exchange code s is

keeps_pausing : (a : ReplyMeaning) (o : Outstanding) (s : Session) → IsSession s → IsSession (pausing_hears a o s).session
keeps_pausing NotTaken o s is = is
keeps_pausing Damaged o s is = is
keeps_pausing NumberRefused o s is = record { config = is.config; state = tt; opening = tt }
keeps_pausing (Plain reply) o s is = keeps_answered o.exchange reply s is
keeps_pausing (Unreadable code) o s is = keeps_unread o.exchange code s is

pub keeps_numbered : (state : State) (a : ReplyMeaning) (s : Session) → IsState s.config state → OpensAtZero state s.number → IsSession s
    → IsSession (numbered_in state a s).session
keeps_numbered (Waiting until sends o) a s state opening is = keeps_waiting a sends o s state.0 state.1 state.2 opening is
keeps_numbered (Pausing until o) a s state opening is = keeps_pausing a o s is
keeps_numbered _ a s state opening is = is

-- a moment that is seen changes nothing else
pub keeps_seen : (now : ℕ) (s : Session) → IsSession s → IsSession (seen now s)
keeps_seen now s is = record { config = is.config; state = is.state; opening = is.opening }
