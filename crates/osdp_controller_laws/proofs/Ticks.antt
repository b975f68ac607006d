-- What ticks come to.
use Rattle.osdp_controller_laws.proofs.Common.{◌≡◌, ap, subst, ℕ, zero, suc, ◌+◌, ◌≤◌, true, false, List, [], ◌∷◌, Option, Some, None, refl, arith, if◌then◌else◌, nat_lt, nat_le, is_some, max, next_sequence, Command, Exchange, Opening, Polling, Asking, Report, Lost, Session, State, Closed, Quiet, Idle, Waiting, Pausing, inl, inr, ◌⊎◌, meaning_of, ReplyMeaning, submitted_command, Heard, hears_in, ignores, numbered_in, is_from_reader, CountsSends, KeepsTime, NumbersTakeTurns, TakesFront, TellsLost, exchange_in, Machine, begin_refusal, begun, changed_unless, is_outstanding, sent_in, seen, is_idle, Ticked, begins, gives_up, sends_frame, stays, ticks_in, tries_again, either_way}
use Rattle.osdp_controller.specs.declared.report.LostCause.TheVariants as causes
use Rattle.osdp_controller_laws.proofs.Frames.{OfEach, either_frame, of_pause, of_wait}
use Rattle.osdp_controller.proofs.Idling.{asks_front, idle_way, poll_way, polls_alone, polls_first}
use Rattle.osdp_controller.specs.Sessions.{is_poll_next}

-- one frame more, in an exchange that is outstanding then
abbrev OneMore : State → Ticked → Type 0
OneMore state t =
    is_some t.step.frame ≡ true → (sent_in t.session.state ≡ sent_in state + 1) × (is_outstanding t.session.state ≡ true)

one_more : (state : State) (s : Session) (w : List Command) → OneMore state (ticks_in state s w)
one_more Closed s w = λ h. cc
one_more (Quiet until) s w =
    either_way (OneMore (Quiet until)) (nat_le until s.greatest) (begins Opening 0 s w) (stays s w) (λ b h. (refl, refl)) (λ b h. cc)
one_more (Idle due) s w = idle_way (OneMore (Idle due)) due s w (λ b h. (refl, refl)) (λ b h. cc) (λ command rest e h. (refl, refl))
one_more (Waiting until sends o) s w =
    either_way (OneMore (Waiting until sends o)) (nat_le until s.greatest) (tries_again sends o s w) (stays s w)
    (λ b. either_way (OneMore (Waiting until sends o)) (nat_lt sends s.config.sends) (sends_frame (sends + 1) o s w) (gives_up o s w) (λ c h. (refl, refl)) (λ c h. cc))
    (λ b h. cc)
one_more (Pausing until o) s w =
    either_way (OneMore (Pausing until o)) (nat_le until s.greatest) (sends_frame 1 o s w) (stays s w) (λ b h. (refl, refl)) (λ b h. cc)

-- what comes leaves the count as it is, or ends the exchange
abbrev KeepsCount : State → Heard → Type 0
KeepsCount state e = (sent_in e.session.state ≡ sent_in state) ⊎ (is_outstanding e.session.state ≡ false)

each_keeps : (state : State) (t : Session) → sent_in t.state ≡ sent_in state → OfEach (KeepsCount state) t
each_keeps state t e = record { ignored = inl e; rested = λ told. inr refl; moved = λ d command. inr refl; lost = λ cause o. inr refl }

keeps_count : (state : State) (a : ReplyMeaning) (t : Session) → sent_in t.state ≡ sent_in state → KeepsCount state (numbered_in state a t)
keeps_count (Waiting until sends o) a t e =
    of_wait (KeepsCount (Waiting until sends o)) t (each_keeps (Waiting until sends o) t e) a sends o (inl refl) (inl refl)
keeps_count (Pausing until o) a t e = of_pause (KeepsCount (Pausing until o)) t (each_keeps (Pausing until o) t e) a o
keeps_count _ a t e = inl e

pub counts_sends : (now : ℕ) (s : Session) (w : List Command) → CountsSends now s w
counts_sends now s w = record {
  one_more = λ h. (one_more s.state (seen now s) w h).0;
  outstanding = λ h. (one_more s.state (seen now s) w h).1;
  kept = λ p. either_frame (KeepsCount s.state) p now s (λ from k. keeps_count s.state (meaning_of p) (seen now s) refl) (inl refl);
}

-- the front of the waiting commands

front_in : (state : State) (s : Session) (w : List Command) (command : Command) (rest : List Command) → is_idle state ≡ true → is_poll_next s ≡ false → w ≡ command ∷ rest
    → (exchange_in (ticks_in state s w).session.state ≡ Some (Asking command)) × ((ticks_in state s w).waiting ≡ rest)
front_in (Idle due) s w command rest h free e =
    rw (e, asks_front due s command rest free) (refl, refl)
front_in _ s w command rest h free e = cc

abbrev Polls : Ticked → Type 0
Polls t = is_some t.step.frame ≡ true → exchange_in t.session.state ≡ Some Polling

poll_in : (state : State) (s : Session) (w : List Command) → is_idle state ≡ true → w ≡ [] → Polls (ticks_in state s w)
poll_in (Idle due) s w h e =
    rw (e, polls_alone due s) (poll_way Polls due s [] (λ b f. refl) (λ b f. cc))
poll_in _ s w h e = cc

-- a POLL comes first: it begins once it is due, and all stay
abbrev PollsBefore : List Command → Ticked → Type 0
PollsBefore w t = Polls t × (t.waiting ≡ w)

first_in : (state : State) (s : Session) (w : List Command) → is_idle state ≡ true → is_poll_next s ≡ true → PollsBefore w (ticks_in state s w)
first_in (Idle due) s w h next =
    rw (polls_first due s w next) (poll_way (PollsBefore w) due s w (λ b. ((λ f. refl), refl)) (λ b. ((λ f. cc), refl)))
first_in _ s w h next = cc

stay_in : (state : State) (s : Session) (w : List Command) → is_idle state ≡ false → (ticks_in state s w).waiting ≡ w
stay_in Closed s w h = refl
stay_in (Quiet until) s w h =
    either_way (λ (t : Ticked). t.waiting ≡ w) (nat_le until s.greatest) (begins Opening 0 s w) (stays s w) (λ b. refl) (λ b. refl)
stay_in (Idle due) s w h = cc
stay_in (Waiting until sends o) s w h =
    either_way (λ (t : Ticked). t.waiting ≡ w) (nat_le until s.greatest) (tries_again sends o s w) (stays s w)
    (λ b. either_way (λ (t : Ticked). t.waiting ≡ w) (nat_lt sends s.config.sends) (sends_frame (sends + 1) o s w) (gives_up o s w) (λ c. refl) (λ c. refl))
    (λ b. refl)
stay_in (Pausing until o) s w h =
    either_way (λ (t : Ticked). t.waiting ≡ w) (nat_le until s.greatest) (sends_frame 1 o s w) (stays s w) (λ b. refl) (λ b. refl)

pub takes_front : (now : ℕ) (s : Session) (w : List Command) → TakesFront now s w
takes_front now s w = record {
  front = λ command rest h free e. front_in s.state (seen now s) w command rest h free e;
  first = λ h next. first_in s.state (seen now s) w h next;
  poll = λ h e f. poll_in s.state (seen now s) w h e f;
  stay = λ h. stay_in s.state (seen now s) w h;
}

-- the end of a session

abbrev LostIf : State → Option Report → Type 0
LostIf state None = Unit {0}
LostIf state (Some report) =
    (x : Exchange) × (exchange_in state ≡ Some x) × (report ≡ Lost causes.NoReply (submitted_command x))

lost_in : (state : State) (s : Session) (w : List Command) → LostIf state (ticks_in state s w).step.report
lost_in Closed s w = tt
lost_in (Quiet until) s w =
    either_way (λ (t : Ticked). LostIf (Quiet until) t.step.report) (nat_le until s.greatest) (begins Opening 0 s w) (stays s w) (λ b. tt) (λ b. tt)
lost_in (Idle due) s w = idle_way (λ (t : Ticked). LostIf (Idle due) t.step.report) due s w (λ b. tt) (λ b. tt) (λ command rest e. tt)
lost_in (Waiting until sends o) s w =
    either_way (λ (t : Ticked). LostIf (Waiting until sends o) t.step.report) (nat_le until s.greatest) (tries_again sends o s w) (stays s w)
    (λ b. either_way (λ (t : Ticked). LostIf (Waiting until sends o) t.step.report) (nat_lt sends s.config.sends) (sends_frame (sends + 1) o s w) (gives_up o s w)
    (λ c. tt) (λ c. (o.exchange, refl, refl)))
    (λ b. tt)
lost_in (Pausing until o) s w =
    either_way (λ (t : Ticked). LostIf (Pausing until o) t.step.report) (nat_le until s.greatest) (sends_frame 1 o s w) (stays s w) (λ b. tt) (λ b. tt)

pub tells_lost : TellsLost
tells_lost now s w report e = subst (λ (o : Option Report). LostIf s.state o) e (lost_in s.state (seen now s) w)

-- moments

same_seen : (now : ℕ) (s : Session) → now ≤ s.greatest → seen now s ≡ seen s.greatest s
same_seen now s h = let e : max s.greatest now ≡ max s.greatest s.greatest = omega arith in ap (λ (g : ℕ). record s { greatest = g }) e

pub keeps_time : (now : ℕ) (m : Machine) → KeepsTime now m
keeps_time now m = record {
  by_tick = λ h. ap (λ (t : Session). ticks_in m.session.state t m.waiting) (same_seen now m.session h);
  by_frame = λ p h. ap (λ (t : Session). if is_from_reader p m.session then hears_in m.session.state p.sequence (meaning_of p) t else ignores t) (same_seen now m.session h);
  by_begin = λ h. ap (λ (t : Session). changed_unless (begin_refusal m) m (record m { session = begun t })) (same_seen now m.session h);
}

-- numbers

pub numbers_turn : (k : ℕ) → NumbersTakeTurns k
numbers_turn zero = record { next = refl; differ = λ e. omega arith }
numbers_turn (suc k) = record { next = ap (λ (n : ℕ). n + 1) (omega arith); differ = λ e. omega arith }
