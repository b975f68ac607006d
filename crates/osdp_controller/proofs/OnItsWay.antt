-- The command that is on its way.
use Rattle.osdp_controller.proofs.Common.{◌≡◌, ap, sym, subst, refl, ℕ, ◌+◌, true, false, List, [], Option, Some, None, IfSome, is_some, nat_le, nat_lt, Packet, next_sequence, command_kept, Command, Communication, Reply, PdId, Exchange, Opening, Polling, Asking, Outstanding, ReplyMeaning, NotTaken, Damaged, NumberRefused, Plain, Unreadable, Session, State, Closed, Quiet, Idle, Waiting, Pausing, meaning_of, submitted_command, Heard, answered, answered_unread, com_of, command_answered, comset_of, hears, hears_busy, hears_in, ignores, is_from_reader, is_numbered, loses, moved_by, opening_answered, pausing_hears, pd_id_of, waiting_hears, exchange_of, on_its_way, state_in, state_of, later, seen, is_over, is_poll_next, asks_or_polls, polls, Ticked, begins, gives_up, sends_frame, stays, ticks_in}
use Rattle.osdp_controller.specs.declared.exchange.Asked.{Asked}
use Rattle.osdp_controller.specs.declared.exchange.Asked.TheVariants as asked
use Rattle.osdp_controller.specs.declared.report.LostCause.TheVariants as causes
use Rattle.osdp_controller.specs.declared.state.Progress.{Progress}
use Rattle.osdp_controller.specs.declared.state.Stage.{Stage}
use Rattle.osdp_controller.specs.declared.state.Stage.TheVariants as stages
use Rattle.osdp_controller.proofs.Choices.{either_way}
use Rattle.osdp_controller.proofs.Over.{not_second}

-- ---- the same parts with other bytes

again : (stage : Stage) (moment sends : ℕ) (a : Asked) (busies sent : ℕ) (old bytes : List ℕ)
    → IfSome (on_its_way (state_of stage moment sends (record { exchange = exchange_of a (command_kept old); busies = busies; sent = sent }))) (λ c. c ≡ command_kept bytes)
    → state_of stage moment sends (record { exchange = exchange_of a (command_kept bytes); busies = busies; sent = sent })
    ≡ state_of stage moment sends (record { exchange = exchange_of a (command_kept old); busies = busies; sent = sent })
again stages.Closed moment sends a busies sent old bytes same = refl
again stages.Quiet moment sends a busies sent old bytes same = refl
again stages.Idle moment sends a busies sent old bytes same = refl
again stages.Waiting moment sends asked.Opening busies sent old bytes same = refl
again stages.Waiting moment sends asked.Polling busies sent old bytes same = refl
again stages.Waiting moment sends asked.Submitted busies sent old bytes same =
    ap (λ (c : Command). Waiting moment sends (record { exchange = Asking c; busies = busies; sent = sent })) (sym same)
again stages.Pausing moment sends asked.Opening busies sent old bytes same = refl
again stages.Pausing moment sends asked.Polling busies sent old bytes same = refl
again stages.Pausing moment sends asked.Submitted busies sent old bytes same =
    ap (λ (c : Command). Pausing moment (record { exchange = Asking c; busies = busies; sent = sent })) (sym same)

pub same_state : (p : Progress) (old bytes : List ℕ) → IfSome (on_its_way (state_in p old)) (λ c. c ≡ command_kept bytes) → state_in p bytes ≡ state_in p old
same_state p old bytes same = again p.stage p.moment p.sends p.asked p.busies p.sent old bytes same

its_own : (stage : Stage) (moment sends : ℕ) (a : Asked) (busies sent : ℕ) (bytes : List ℕ)
    → IfSome (on_its_way (state_of stage moment sends (record { exchange = exchange_of a (command_kept bytes); busies = busies; sent = sent }))) (λ c. c ≡ command_kept bytes)
its_own stages.Closed moment sends a busies sent bytes = tt
its_own stages.Quiet moment sends a busies sent bytes = tt
its_own stages.Idle moment sends a busies sent bytes = tt
its_own stages.Waiting moment sends asked.Opening busies sent bytes = tt
its_own stages.Waiting moment sends asked.Polling busies sent bytes = tt
its_own stages.Waiting moment sends asked.Submitted busies sent bytes = refl
its_own stages.Pausing moment sends asked.Opening busies sent bytes = tt
its_own stages.Pausing moment sends asked.Polling busies sent bytes = tt
its_own stages.Pausing moment sends asked.Submitted busies sent bytes = refl

-- the command on its way is that of the bytes
pub own_bytes : (p : Progress) (bytes : List ℕ) → IfSome (on_its_way (state_in p bytes)) (λ c. c ≡ command_kept bytes)
own_bytes p bytes = its_own p.stage p.moment p.sends p.asked p.busies p.sent bytes

pub of_none : (o : Option Command) (P : Command → Type 0) → is_some o ≡ false → IfSome o P
of_none None P none = tt
of_none (Some c) P none = cc

of_some : (o : Option Command) (P : Command → Type 0) (c : Command) → o ≡ Some c → IfSome o P → P c
of_some o P c same is = subst (λ (x : Option Command). IfSome x P) same is

-- ---- a session that goes on: the same command is on its way, or none

abbrev pub Follows : State → State → Type 0
Follows old new = IfSome (on_its_way new) (λ c. on_its_way old ≡ Some c)

some_self : (o : Option Command) → IfSome o (λ c. o ≡ Some c)
some_self None = tt
some_self (Some c) = refl

pub follows_self : (state : State) → Follows state state
follows_self state = some_self (on_its_way state)

still : (o : Option Command) (old : State) (bytes : List ℕ) → IfSome o (λ c. on_its_way old ≡ Some c) → IfSome (on_its_way old) (λ c. c ≡ command_kept bytes)
    → IfSome o (λ c. c ≡ command_kept bytes)
still None old bytes follows is = tt
still (Some c) old bytes follows is = of_some (on_its_way old) (λ d. d ≡ command_kept bytes) c follows is

-- so its command has the same bytes
pub still_its_own : (p : Progress) (bytes : List ℕ) (new : State) → Follows (state_in p bytes) new → IfSome (on_its_way new) (λ c. c ≡ command_kept bytes)
still_its_own p bytes new follows = still (on_its_way new) (state_in p bytes) bytes follows (own_bytes p bytes)

asks_on : (o p : Option Command) → IfSome o (λ c. p ≡ Some c) → is_some o ≡ true → is_some p ≡ true
asks_on None p follows some = cc
asks_on (Some c) p follows some = ap (λ (x : Option Command). is_some x) follows

pub asked_before : (old new : State) → Follows old new → is_some (on_its_way new) ≡ true → is_some (on_its_way old) ≡ true
asked_before old new follows some = asks_on (on_its_way new) (on_its_way old) follows some

-- frames

abbrev HeardFollows : State → Heard → Type 0
HeardFollows old h = Follows old h.session.state

busy_follows : (until sends : ℕ) (o : Outstanding) (s : Session) (old : State) → on_its_way old ≡ submitted_command o.exchange → HeardFollows old (hears_busy o s)
busy_follows until sends o s old same =
    either_way (HeardFollows old) (nat_lt s.config.busy_limit (o.busies + 1)) (loses causes.TooBusy o s)
    (record { session = record s { state = Pausing (later s.config.busy_wait s) (record o { busies = o.busies + 1 }) }; report = None })
    (λ b. tt) (λ b. subst (λ (x : Option Command). IfSome (submitted_command o.exchange) (λ c. x ≡ Some c)) (sym same) (some_self (submitted_command o.exchange)))

opening_follows : (id : Option PdId) (s : Session) (old : State) → Follows old s.state → HeardFollows old (opening_answered id s)
opening_follows None s old is = is
opening_follows (Some id) s old is = tt

command_follows : (moved : Option Communication) (command : Command) (reply : Reply) (s : Session) (old : State) → HeardFollows old (command_answered moved command reply s)
command_follows None command reply s old = tt
command_follows (Some d) command reply s old = tt

answer_follows : (x : Exchange) (reply : Reply) (s : Session) (old : State) → Follows old s.state → HeardFollows old (answered x reply s)
answer_follows Opening reply s old is = opening_follows (pd_id_of reply) s old is
answer_follows Polling reply s old is = tt
answer_follows (Asking command) reply s old is = command_follows (moved_by (comset_of command) (com_of reply)) command reply s old

unread_follows : (x : Exchange) (code : ℕ) (s : Session) (old : State) → Follows old s.state → HeardFollows old (answered_unread x code s)
unread_follows Opening code s old is = is
unread_follows Polling code s old is = tt
unread_follows (Asking command) code s old is = tt

waiting_follows : (a : ReplyMeaning) (until sends : ℕ) (o : Outstanding) (s : Session) → Follows (Waiting until sends o) s.state
    → HeardFollows (Waiting until sends o) (waiting_hears a sends o s)
waiting_follows NotTaken until sends o s is = busy_follows until sends o s (Waiting until sends o) refl
waiting_follows Damaged until sends o s is = some_self (submitted_command o.exchange)
waiting_follows NumberRefused until sends o s is = tt
waiting_follows (Plain reply) until sends o s is = answer_follows o.exchange reply s (Waiting until sends o) is
waiting_follows (Unreadable code) until sends o s is = unread_follows o.exchange code s (Waiting until sends o) is

pausing_follows : (a : ReplyMeaning) (until : ℕ) (o : Outstanding) (s : Session) → Follows (Pausing until o) s.state
    → HeardFollows (Pausing until o) (pausing_hears a o s)
pausing_follows NotTaken until o s is = is
pausing_follows Damaged until o s is = is
pausing_follows NumberRefused until o s is = tt
pausing_follows (Plain reply) until o s is = answer_follows o.exchange reply s (Pausing until o) is
pausing_follows (Unreadable code) until o s is = unread_follows o.exchange code s (Pausing until o) is

in_state_follows : (state : State) (number : ℕ) (a : ReplyMeaning) (s : Session) → Follows state s.state → HeardFollows state (hears_in state number a s)
in_state_follows Closed number a s is = is
in_state_follows (Quiet until) number a s is = is
in_state_follows (Idle due) number a s is = is
in_state_follows (Waiting until sends o) number a s is =
    either_way (HeardFollows (Waiting until sends o)) (is_numbered number a s) (waiting_hears a sends o s) (ignores s)
    (λ b. waiting_follows a until sends o s is) (λ b. is)
in_state_follows (Pausing until o) number a s is =
    either_way (HeardFollows (Pausing until o)) (is_numbered number a s) (pausing_hears a o s) (ignores s)
    (λ b. pausing_follows a until o s is) (λ b. is)

pub hears_follows : (p : Packet) (now : ℕ) (s : Session) → Follows s.state (hears p now s).session.state
hears_follows p now s =
    either_way (HeardFollows s.state) (is_from_reader p s) (hears_in s.state p.sequence (meaning_of p) (seen now s)) (ignores (seen now s))
    (λ b. in_state_follows s.state p.sequence (meaning_of p) (seen now s) (follows_self s.state)) (λ b. follows_self s.state)

-- ticks, where no command begins and the session goes on

abbrev Asks : Option Command → Ticked → Type 0
Asks o t = on_its_way t.session.state ≡ o

pub ticks_ask : (state : State) (s : Session) → is_over state s ≡ false → on_its_way s.state ≡ on_its_way state → on_its_way (ticks_in state s []).session.state ≡ on_its_way state
ticks_ask Closed s going same = same
ticks_ask (Quiet until) s going same = either_way (Asks None) (nat_le until s.greatest) (begins Opening 0 s []) (stays s []) (λ b. refl) (λ b. same)
ticks_ask (Idle due) s going same =
    let polled = either_way (Asks None) (nat_le due s.greatest) (begins Polling (next_sequence s.number) s []) (stays s []) (λ b. refl) (λ b. same) in
    either_way (Asks None) (is_poll_next s) (polls due s []) (asks_or_polls [] due s) (λ b. polled) (λ b. polled)
ticks_ask (Waiting until sends o) s going same =
    not_second (Asks (submitted_command o.exchange)) (nat_le until s.greatest) (nat_lt sends s.config.sends)
    (sends_frame (sends + 1) o s []) (gives_up o s []) (stays s []) going refl same
ticks_ask (Pausing until o) s going same =
    either_way (Asks (submitted_command o.exchange)) (nat_le until s.greatest) (sends_frame 1 o s []) (stays s []) (λ b. refl) (λ b. same)

follows_equal : (o p : Option Command) → o ≡ p → IfSome o (λ c. p ≡ Some c)
follows_equal None p same = tt
follows_equal (Some c) p same = sym same

pub follows_same : (old new : State) → on_its_way new ≡ on_its_way old → Follows old new
follows_same old new same = follows_equal (on_its_way new) (on_its_way old) same
