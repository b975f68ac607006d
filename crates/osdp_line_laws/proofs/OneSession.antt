-- Whether the session of a controller is open, and that it changes only as is told.
use Rattle.osdp_line_laws.proofs.Common.{◌≡◌, ap, ℕ, ◌+◌, Bool, true, false, List, [], ◌∷◌, Option, Some, None, refl, ◌↔◌, if◌then◌else◌, nat_le, nat_lt, unwrap_or, either_way, Report, OpensAtZero, Packet, next_sequence, Command, EventOfReader, opened_told, IsNotOpenIn}
use Rattle.osdp_controller.specs.declared.exchange.Exchange.{Exchange}
use Rattle.osdp_controller.specs.declared.exchange.Exchange.TheVariants.{Opening, Polling, Asking}
use Rattle.osdp_controller.specs.declared.exchange.Outstanding.{Outstanding}
use Rattle.osdp_controller.specs.declared.meaning.ReplyMeaning.{ReplyMeaning}
use Rattle.osdp_controller.specs.declared.meaning.ReplyMeaning.TheVariants.{NotTaken, Damaged, NumberRefused, Plain, Unreadable}
use Rattle.osdp_controller.specs.declared.report.Report.TheVariants.{PollAnswered}
use Rattle.osdp_controller.specs.declared.session.Session.{Session}
use Rattle.osdp_controller.specs.declared.state.State.{State}
use Rattle.osdp_controller.specs.declared.state.State.TheVariants.{Closed, Quiet, Idle, Waiting, Pausing}
use Rattle.osdp_controller.specs.Answers.{meaning_of}
use Rattle.osdp_controller.specs.Hearing.{Heard, answered, answered_unread, com_of, command_answered, comset_of, hears, hears_busy, hears_in, ignores, is_ack, is_from_reader, is_numbered, moved_by, opening_answered, pausing_hears, pd_id_of, poll_told, waiting_hears}
use Rattle.osdp_controller.specs.Sessions.{seen}
use Rattle.osdp_controller.specs.Ticking.{Ticked, begins, gives_up, idle_ticks, sends_frame, stays, ticks, ticks_in, tries_again}
use Rattle.osdp_msg.specs.declared.command_fields.Communication.{Communication}
use Rattle.osdp_msg.specs.declared.reply.Reply.{Reply}
use Rattle.osdp_msg.specs.declared.reply_fields.PdId.{PdId}
use Rattle.osdp_msg.specs.Events.{event_in}
use Rattle.osdp_controller.proofs.Idling.{idle_way}

-- an exchange of an open session is no opening
abbrev pub is_asked : Exchange → Bool
is_asked Opening = false
is_asked Polling = true
is_asked (Asking command) = true

abbrev pub open_in : State → Bool
open_in Closed = false
open_in (Quiet until) = false
open_in (Idle due) = true
open_in (Waiting until sends o) = is_asked o.exchange
open_in (Pausing until o) = is_asked o.exchange

-- ---- where it isn't

opening_of : (x : Exchange) → is_asked x ≡ false → x ≡ Opening
opening_of Opening h = refl
opening_of Polling h = absurd cc
opening_of (Asking command) h = absurd cc

pub shut_is : (state : State) (number : ℕ) → OpensAtZero state number → (open_in state ≡ false) ↔ IsNotOpenIn state number
shut_is Closed number at_zero = (λ h. tt, λ h. refl)
shut_is (Quiet until) number at_zero = (λ h. tt, λ h. refl)
shut_is (Idle due) number at_zero = (λ h. absurd cc, λ h. absurd h)
shut_is (Waiting until sends o) number at_zero = (
  λ h. let is = opening_of o.exchange h in record { exchange = is; at_zero = at_zero is },
  λ h. ap is_asked h.exchange,
)
shut_is (Pausing until o) number at_zero = (
  λ h. let is = opening_of o.exchange h in record { exchange = is; at_zero = at_zero is },
  λ h. ap is_asked h.exchange,
)

-- ---- what is told of it

-- whether it is open after what was told
abbrev pub open_told : Option Report → Bool → Bool
open_told None was = was
open_told (Some report) was = unwrap_or (opened_told report) was

abbrev HeardAs : Bool → Heard → Type 0
HeardAs was h = open_in h.session.state ≡ open_told h.report was

opened_as : (id : Option PdId) (s : Session) → open_in s.state ≡ false → HeardAs false (opening_answered id s)
opened_as (Some id) s is = refl
opened_as None s is = is

polled : (reply : Reply) (event : Option EventOfReader) → true ≡ open_told (poll_told reply event) true
polled reply (Some event) = refl
polled reply None = by_ack (is_ack reply)
  where
    by_ack : (b : Bool) → true ≡ open_told (if b then None else Some (PollAnswered reply)) true
    by_ack true = refl
    by_ack false = refl

commanded : (moved : Option Communication) (command : Command) (reply : Reply) (s : Session) → HeardAs true (command_answered moved command reply s)
commanded (Some answered) command reply s = refl
commanded None command reply s = refl

answered_as : (x : Exchange) (reply : Reply) (s : Session) → open_in s.state ≡ is_asked x → HeardAs (is_asked x) (answered x reply s)
answered_as Opening reply s is = opened_as (pd_id_of reply) s is
answered_as Polling reply s is = polled reply (event_in reply)
answered_as (Asking command) reply s is = commanded (moved_by (comset_of command) (com_of reply)) command reply s

unread_as : (x : Exchange) (code : ℕ) (s : Session) → open_in s.state ≡ is_asked x → HeardAs (is_asked x) (answered_unread x code s)
unread_as Opening code s is = is
unread_as Polling code s is = refl
unread_as (Asking command) code s is = refl

busy_as : (o : Outstanding) (s : Session) → HeardAs (is_asked o.exchange) (hears_busy o s)
busy_as o s = either_way (HeardAs (is_asked o.exchange)) (nat_lt s.config.busy_limit (o.busies + 1)) _ _ (λ h. refl) (λ h. refl)

waiting_as : (m : ReplyMeaning) (sends : ℕ) (o : Outstanding) (s : Session) → open_in s.state ≡ is_asked o.exchange
    → HeardAs (is_asked o.exchange) (waiting_hears m sends o s)
waiting_as NotTaken sends o s is = busy_as o s
waiting_as Damaged sends o s is = refl
waiting_as NumberRefused sends o s is = refl
waiting_as (Plain reply) sends o s is = answered_as o.exchange reply s is
waiting_as (Unreadable code) sends o s is = unread_as o.exchange code s is

pausing_as : (m : ReplyMeaning) (o : Outstanding) (s : Session) → open_in s.state ≡ is_asked o.exchange
    → HeardAs (is_asked o.exchange) (pausing_hears m o s)
pausing_as NotTaken o s is = is
pausing_as Damaged o s is = is
pausing_as NumberRefused o s is = refl
pausing_as (Plain reply) o s is = answered_as o.exchange reply s is
pausing_as (Unreadable code) o s is = unread_as o.exchange code s is

in_as : (state : State) (number : ℕ) (m : ReplyMeaning) (s : Session) → open_in s.state ≡ open_in state → HeardAs (open_in state) (hears_in state number m s)
in_as (Waiting until sends o) number m s is =
    either_way (HeardAs (is_asked o.exchange)) (is_numbered number m s) (waiting_hears m sends o s) (ignores s) (λ h. waiting_as m sends o s is) (λ h. is)
in_as (Pausing until o) number m s is =
    either_way (HeardAs (is_asked o.exchange)) (is_numbered number m s) (pausing_hears m o s) (ignores s) (λ h. pausing_as m o s is) (λ h. is)
in_as _ number m s is = is

-- a packet opens or shuts it as is told
pub heard_as : (p : Packet) (now : ℕ) (s : Session) → HeardAs (open_in s.state) (hears p now s)
heard_as p now s =
    either_way (HeardAs (open_in s.state)) (is_from_reader p s) (hears_in s.state p.sequence (meaning_of p) (seen now s)) (ignores (seen now s))
    (λ h. in_as s.state p.sequence (meaning_of p) (seen now s) refl) (λ h. refl)

abbrev TickedAs : Bool → Ticked → Type 0
TickedAs was t = open_in t.session.state ≡ open_told t.step.report was

idle_as : (waiting : List Command) (due : ℕ) (s : Session) → open_in s.state ≡ true → TickedAs true (idle_ticks waiting due s)
idle_as waiting due s is = idle_way (TickedAs true) due s waiting (λ h. refl) (λ h. is) (λ command rest e. refl)

again_as : (sends : ℕ) (o : Outstanding) (s : Session) (waiting : List Command) → TickedAs (is_asked o.exchange) (tries_again sends o s waiting)
again_as sends o s waiting =
    either_way (TickedAs (is_asked o.exchange)) (nat_lt sends s.config.sends) (sends_frame (sends + 1) o s waiting) (gives_up o s waiting) (λ h. refl) (λ h. refl)

tick_in_as : (state : State) (s : Session) (waiting : List Command) → open_in s.state ≡ open_in state → TickedAs (open_in state) (ticks_in state s waiting)
tick_in_as Closed s waiting is = is
tick_in_as (Quiet until) s waiting is =
    either_way (TickedAs false) (nat_le until s.greatest) (begins Opening 0 s waiting) (stays s waiting) (λ h. refl) (λ h. is)
tick_in_as (Idle due) s waiting is = idle_as waiting due s is
tick_in_as (Waiting until sends o) s waiting is =
    either_way (TickedAs (is_asked o.exchange)) (nat_le until s.greatest) (tries_again sends o s waiting) (stays s waiting) (λ h. again_as sends o s waiting) (λ h. is)
tick_in_as (Pausing until o) s waiting is =
    either_way (TickedAs (is_asked o.exchange)) (nat_le until s.greatest) (sends_frame 1 o s waiting) (stays s waiting) (λ h. refl) (λ h. is)

-- so does a tick
pub ticked_as : (now : ℕ) (s : Session) (waiting : List Command) → TickedAs (open_in s.state) (ticks now s waiting)
ticked_as now s waiting = tick_in_as s.state (seen now s) waiting refl
