-- What must have come where a frame is told about.
use Rattle.osdp_controller_laws.proofs.Common.{◌≡◌, ◌≤◌, ◌∙◌, ap, arith, inl, inr, subst, ℕ, ◌+◌, Bool, true, false, not, ◌&&◌, ◌||◌, Option, Some, None, refl, ◌⊎◌, if◌then◌else◌, nat_lt, ◌==◌, and_parts, eq-eqb, eqb-true, ltb-true, or_cases, Packet, Command, Communication, EventOfReader, Reply, PdId, event_in, event_reply, ReplyMeaning, NotTaken, Damaged, NumberRefused, Plain, Unreadable, Exchange, Opening, Polling, Asking, Outstanding, Report, Moved, PollAnswered, Session, State, Closed, Waiting, Pausing, meaning_of, is_not_taken, Heard, answered, answered_unread, com_of, command_answered, comset_of, hears, ignores, is_ack, is_from_reader, is_numbered, loses, moved_by, opening_answered, pausing_hears, pd_id_of, poll_told, waiting_hears, numbered_in, Comes, ComesNumbered, HearsAnswers, IsFromReader, TellsWhy, WhyTold, exchange_in, IsSession, OpensAtZero, later, seen, either_way}
use Rattle.osdp_msg.specs.declared.command.Command.TheVariants as commands
use Rattle.osdp_msg.specs.declared.event.Event.TheVariants as events
use Rattle.osdp_msg.specs.declared.reply.Reply.TheVariants as replies
use Rattle.osdp_controller.specs.declared.report.LostCause.TheVariants as causes
use Rattle.osdp_controller_laws.specs.Laws.{ConfirmsMove}
use Rattle.osdp_controller_laws.proofs.Frames.{by_number, by_tests, either_frame}

-- where something is told
abbrev WhyIf : Option Report → Packet → Session → Type 0
WhyIf None p s = Unit {0}
WhyIf (Some report) p s = WhyTold report p s

pd_id_is : (reply : Reply) (id : PdId) → pd_id_of reply ≡ Some id → reply ≡ replies.PdId id
pd_id_is (replies.PdId p) id h = cc
pd_id_is reply id h = cc

com_is : (reply : Reply) (d : Communication) → com_of reply ≡ Some d → reply ≡ replies.Com d
com_is (replies.Com c) d h = cc
com_is reply d h = cc

pub event_is : (reply : Reply) (e : EventOfReader) → event_in reply ≡ Some e → reply ≡ event_reply e
event_is (replies.LocalState s) e h = let same : events.LocalState s ≡ e = cc in ap event_reply same
event_is (replies.Inputs states) e h = let same : events.Inputs states ≡ e = cc in ap event_reply same
event_is (replies.Outputs states) e h = let same : events.Outputs states ≡ e = cc in ap event_reply same
event_is (replies.Readers states) e h = let same : events.Readers states ≡ e = cc in ap event_reply same
event_is (replies.Raw r) e h = let same : events.Raw r ≡ e = cc in ap event_reply same
event_is (replies.Formatted f) e h = let same : events.Formatted f ≡ e = cc in ap event_reply same
event_is (replies.Keypad k) e h = let same : events.Keypad k ≡ e = cc in ap event_reply same
event_is reply e h = cc

comset_is : (command : Command) (a : Communication) → comset_of command ≡ Some a → command ≡ commands.Comset a
comset_is (commands.Comset c) a h = cc
comset_is command a h = cc

-- both are there, with one device's address
MovesTo : Option Communication → Option Communication → Communication → Type 0
MovesTo asked answered d =
    (a : Communication) × (asked ≡ Some a) × (answered ≡ Some d) × (d.address ≡ a.address) × (a.address ≤ 126)

moved_is : (asked answered : Option Communication) (d : Communication) → moved_by asked answered ≡ Some d → MovesTo asked answered d
unfolding MovesTo
moved_is None answered d h = absurd cc
moved_is (Some a) None d h = absurd cc
moved_is (Some a) (Some b) d h =
    either_way (λ (o : Option Communication). o ≡ Some d → MovesTo (Some a) (Some b) d) (nat_lt b.address 127 && b.address == a.address) (Some b) None
    (λ t e.
    let parts = and_parts (nat_lt b.address 127) (b.address == a.address) t in
    let below = ltb-true b.address 127 parts.0 in
    let same = eqb-true b.address a.address parts.1 in
    let is : b ≡ d = cc in
    (a, refl, e, subst (λ (c : Communication). c.address ≡ a.address) is same, omega (arith, below, same)))
    (λ t e. absurd cc) h

confirms : (command : Command) (reply : Reply) (d : Communication) → MovesTo (comset_of command) (com_of reply) d → (reply ≡ replies.Com d) × ConfirmsMove command d
unfolding MovesTo
confirms command reply d (a, asked, answered, same, device) = (com_is reply d answered, (a, comset_is command a asked, same, device))

-- the COM answers a COMSET, and confirms its address
pub moved_parts : (command : Command) (reply : Reply) (d : Communication) → moved_by (comset_of command) (com_of reply) ≡ Some d
    → (reply ≡ replies.Com d) × ConfirmsMove command d
moved_parts command reply d e = confirms command reply d (moved_is (comset_of command) (com_of reply) d e)

why_opening : (id : Option PdId) (reply : Reply) (p : Packet) (s t : Session) → pd_id_of reply ≡ id → ComesNumbered p s Opening (Plain reply) → s.number ≡ 0
    → WhyIf (opening_answered id t).report p s
why_opening None reply p s t e comes zero = tt
why_opening (Some id) reply p s t e comes zero =
    (subst (λ (r : Reply). ComesNumbered p s Opening (Plain r)) (pd_id_is reply id e) comes, comes.number ∙ zero)

why_poll : (event : Option EventOfReader) (reply : Reply) (p : Packet) (s : Session) → event_in reply ≡ event → ComesNumbered p s Polling (Plain reply)
    → WhyIf (poll_told reply event) p s
why_poll (Some event) reply p s e comes =
    subst (λ (r : Reply). ComesNumbered p s Polling (Plain r)) (event_is reply event e) comes
why_poll None reply p s e comes =
    either_way (λ (o : Option Report). WhyIf o p s) (is_ack reply) None (Some (PollAnswered reply)) (λ h. tt) (λ h. comes)

why_moved : (command : Command) (reply : Reply) (d : Communication) (p : Packet) (s : Session) → MovesTo (comset_of command) (com_of reply) d
    → ComesNumbered p s (Asking command) (Plain reply) → WhyTold (Moved command d) p s
unfolding MovesTo
why_moved command reply d p s (a, asked, answered, same, device) comes =
    (subst (λ (r : Reply). ComesNumbered p s (Asking command) (Plain r)) (com_is reply d answered) comes, (a, comset_is command a asked, same, device))

why_command : (moved : Option Communication) (command : Command) (reply : Reply) (p : Packet) (s t : Session)
    → moved_by (comset_of command) (com_of reply) ≡ moved
    → ComesNumbered p s (Asking command) (Plain reply) → WhyIf (command_answered moved command reply t).report p s
why_command None command reply p s t e comes = comes
why_command (Some d) command reply p s t e comes =
    why_moved command reply d p s (moved_is (comset_of command) (com_of reply) d e) comes

why_answered : (x : Exchange) (reply : Reply) (p : Packet) (s t : Session) → ComesNumbered p s x (Plain reply) → (x ≡ Opening → s.number ≡ 0)
    → WhyIf (answered x reply t).report p s
why_answered Opening reply p s t comes zero = why_opening (pd_id_of reply) reply p s t refl comes (zero refl)
why_answered Polling reply p s t comes zero = why_poll (event_in reply) reply p s refl comes
why_answered (Asking command) reply p s t comes zero =
    why_command (moved_by (comset_of command) (com_of reply)) command reply p s t refl comes

why_unread : (x : Exchange) (code : ℕ) (p : Packet) (s t : Session) → ComesNumbered p s x (Unreadable code)
    → WhyIf (answered_unread x code t).report p s
why_unread Opening code p s t comes = tt
why_unread Polling code p s t comes = comes
why_unread (Asking command) code p s t comes = comes

first_of : (x c : Bool) → (x || c && false) ≡ true → x ≡ true
first_of true c h = refl
first_of false true h = h
first_of false false h = h

-- an answer that isn't BUSY has the number of the exchange
numbered : (p : Packet) (s : Session) (x : Exchange) (answer : ReplyMeaning) → is_not_taken answer ≡ false → Comes p s x answer → is_numbered p.sequence answer s ≡ true
    → ComesNumbered p s x answer
numbered p s x answer plain comes h = record {
  comes = comes;
  number = eqb-true p.sequence s.number (first_of (p.sequence == s.number) (p.sequence == 0) (rw plain at h));
}

-- a BUSY has that number or 0
busy_numbered : (p : Packet) (s : Session) → is_numbered p.sequence NotTaken s ≡ true → (p.sequence ≡ s.number) ⊎ (p.sequence ≡ 0)
busy_numbered p s h =
    elim (or_cases (p.sequence == s.number) (p.sequence == 0 && true) h) [
      | inl own ↦ inl (eqb-true p.sequence s.number own)
      | inr other ↦ inr (eqb-true p.sequence 0 (and_parts (p.sequence == 0) true other).0)
    ]

why_waiting : (answer : ReplyMeaning) (sends : ℕ) (o : Outstanding) (p : Packet) (s t : Session) → Comes p s o.exchange answer → is_numbered p.sequence answer s ≡ true
    → (o.exchange ≡ Opening → s.number ≡ 0) → WhyIf (waiting_hears answer sends o t).report p s
why_waiting NotTaken sends o p s t comes h zero =
    either_way (λ (e : Heard). WhyIf e.report p s) (nat_lt t.config.busy_limit (o.busies + 1)) (loses causes.TooBusy o t)
    (record { session = record t { state = Pausing (later t.config.busy_wait t) (record o { busies = o.busies + 1 }) }; report = None })
    (λ b. (o.exchange, (comes, busy_numbered p s h), refl)) (λ b. tt)
why_waiting Damaged sends o p s t comes h zero = tt
why_waiting NumberRefused sends o p s t comes h zero = (o.exchange, numbered p s o.exchange NumberRefused refl comes h, refl)
why_waiting (Plain reply) sends o p s t comes h zero = why_answered o.exchange reply p s t (numbered p s o.exchange (Plain reply) refl comes h) zero
why_waiting (Unreadable code) sends o p s t comes h zero = why_unread o.exchange code p s t (numbered p s o.exchange (Unreadable code) refl comes h)

why_pausing : (answer : ReplyMeaning) (o : Outstanding) (p : Packet) (s t : Session) → Comes p s o.exchange answer → is_numbered p.sequence answer s ≡ true
    → (o.exchange ≡ Opening → s.number ≡ 0) → WhyIf (pausing_hears answer o t).report p s
why_pausing NotTaken o p s t comes h zero = tt
why_pausing Damaged o p s t comes h zero = tt
why_pausing NumberRefused o p s t comes h zero = (o.exchange, numbered p s o.exchange NumberRefused refl comes h, refl)
why_pausing (Plain reply) o p s t comes h zero = why_answered o.exchange reply p s t (numbered p s o.exchange (Plain reply) refl comes h) zero
why_pausing (Unreadable code) o p s t comes h zero = why_unread o.exchange code p s t (numbered p s o.exchange (Unreadable code) refl comes h)

-- a frame from the own reader

own_reader : (reply same block : Bool) → (reply && same && not block) ≡ true → (reply ≡ true) × (same ≡ true) × (block ≡ false)
own_reader true true false h = (refl, refl, refl)
own_reader true true true h = cc
own_reader true false block h = cc
own_reader false same block h = cc

pub is_reader : (p : Packet) (s : Session) → is_from_reader p s ≡ true → IsFromReader p s
is_reader p s h =
    let own = own_reader p.reply (p.address == s.config.address) p.block h in
    record { reply = own.0; address = eqb-true p.address s.config.address own.1; without_block = own.2 }

all_three : (reply same block : Bool) → reply ≡ true → same ≡ true → block ≡ false → (reply && same && not block) ≡ true
all_three true true false h k l = refl
all_three true true true h k l = cc
all_three true false block h k l = cc
all_three false same block h k l = cc

pub of_reader : (p : Packet) (s : Session) → IsFromReader p s → is_from_reader p s ≡ true
of_reader p s is =
    all_three p.reply (p.address == s.config.address) p.block is.reply (eq-eqb p.address s.config.address is.address) is.without_block

why_numbered : (state : State) (answer : ReplyMeaning) (p : Packet) (s t : Session) → exchange_in s.state ≡ exchange_in state → is_from_reader p s ≡ true → meaning_of p ≡ answer
    → is_numbered p.sequence answer s ≡ true → OpensAtZero state s.number → WhyIf (numbered_in state answer t).report p s
why_numbered (Waiting until sends o) answer p s t out from says h zero =
    why_waiting answer sends o p s t (record { from_reader = is_reader p s from; outstanding = out; says = says }) h zero
why_numbered (Pausing until o) answer p s t out from says h zero =
    why_pausing answer o p s t (record { from_reader = is_reader p s from; outstanding = out; says = says }) h zero
why_numbered _ answer p s t out from says h zero = tt

why_if : (p : Packet) (now : ℕ) (s : Session) → IsSession s → WhyIf (hears p now s).report p s
why_if p now s is =
    either_frame (λ (e : Heard). WhyIf e.report p s) p now s
    (λ from h. why_numbered s.state (meaning_of p) p s (seen now s) refl from refl h is.opening) tt

pub tells_why : TellsWhy
tells_why p now s report is e = subst (λ (o : Option Report). WhyIf o p s) e (why_if p now s is)

-- the answer that is heard

if_true : {A : Type 0} (b : Bool) (x y : A) → b ≡ true → (if b then x else y) ≡ x
if_true true x y h = refl
if_true false x y h = cc

same_number : (a b : ℕ) (c : Bool) → a ≡ b → (a == b || c) ≡ true
same_number a b c e = let yes = eq-eqb a b e in rw yes refl

numbered_plain : (state : State) (x : Exchange) (reply : Reply) (t : Session) → exchange_in state ≡ Some x → numbered_in state (Plain reply) t ≡ answered x reply t
numbered_plain Closed x reply t h = cc
numbered_plain state x reply t h = cc

pub hears_answers : HearsAnswers
hears_answers p now s x reply is =
    let comes = is.comes in
    by_tests p now s
    ∙ (if_true (is_from_reader p s) (by_number p now s) (ignores (seen now s)) (of_reader p s comes.from_reader)
    ∙ (if_true (is_numbered p.sequence (meaning_of p) s) (numbered_in s.state (meaning_of p) (seen now s)) (ignores (seen now s))
    (same_number p.sequence s.number (p.sequence == 0 && is_not_taken (meaning_of p)) is.number)
    ∙ (ap (λ (a : ReplyMeaning). numbered_in s.state a (seen now s)) comes.says ∙ numbered_plain s.state x reply (seen now s) comes.outstanding)))
