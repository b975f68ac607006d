-- What a reader's table and a controller's make of the queue beside a line.
use Rattle.osdp_card_time_laws.proofs.Common.{◌≡◌, ◌∙◌, ap, sym, ℕ, ◌||◌, true, false, List, Option, Some, None, refl, ◌≢◌, ◌&&◌, ◌==◌, if◌then◌else◌, option_map, eq-eqb, Command, Poll, Event, event_for, offering, released}
use Rattle.osdp_frame.specs.Packet.{Packet}
use Rattle.osdp_msg.specs.declared.event.Event.TheVariants as events
use Rattle.osdp_msg.specs.declared.reply.Reply.{Reply}
use Rattle.osdp_msg.specs.Events.{event_in, event_reply}
use Rattle.osdp_controller.specs.declared.exchange.Exchange.TheVariants.{Polling}
use Rattle.osdp_controller.specs.declared.exchange.Outstanding.{Outstanding}
use Rattle.osdp_controller.specs.declared.meaning.ReplyMeaning.TheVariants.{Plain}
use Rattle.osdp_controller.specs.declared.report.Report.TheVariants as reports
use Rattle.osdp_controller.specs.declared.session.Session.{Session}
use Rattle.osdp_controller.specs.declared.state.State.{State}
use Rattle.osdp_controller.specs.declared.state.State.TheVariants.{Waiting, Pausing}
use Rattle.osdp_controller.specs.Answers.{meaning_of}
use Rattle.osdp_controller.specs.Hearing.{answered as answered_of, hears_in, ignores, is_numbered, pausing_hears, poll_told, waiting_hears}
use Rattle.osdp_controller.specs.Sessions.{frame_of, seen}
use Rattle.osdp_controller.proofs.Choices.{either_way}
use Rattle.osdp_controller_laws.specs.Laws.{exchange_in}
use Rattle.osdp_reader.specs.declared.handler.Answer.{Answer}
use Rattle.osdp_reader.specs.Replies.{reply_packet}
use Rattle.osdp_reader.specs.State.{ReaderState}
use Rattle.osdp_reader.specs.Table.{event_or_answer, moved, new_address, outcome, taken as takes_command}
use Rattle.osdp_card_time_laws.specs.Readers.{AnswersTellTheFront, ReadersTakeAsQueues}

-- ---- the reader

no_event : (command : Command) (waiting : List Event) → command ≢ Poll → event_for command waiting ≡ None
no_event Poll waiting other = absurd (other refl)
no_event _ waiting other = refl

module _ {H : Type 0} (answer_of : H → Command → Answer) (after : H → Command → H) where
  moved_queue : (o : Option ℕ) (r : ReaderState H) → (moved o r).queue ≡ r.queue
  moved_queue None r = refl
  moved_queue (Some address) r =
      either_way (λ (s : ReaderState H). s.queue ≡ r.queue) (address == r.config.address) r
      (record r { config = record r.config { address = address }; last = None; stored = None }) (λ b. refl) (λ b. refl)

  pub takes_as_queue : ReadersTakeAsQueues answer_of after
  takes_as_queue r p is = record {
    order = λ command reads other.
        let queue = released r.queue in
        let event = event_for command queue.events in
        let a = event_or_answer answer_of after event r.config r.handler command in
        let s = record r { last = Some p.sequence; stored = Some (reply_packet p p.sequence a.reply); queue = offering event queue; handler = a.handler } in
        ap (λ k. (outcome answer_of after k r p).reader.queue) is ∙ ap (λ c. (takes_command answer_of after c r p).reader.queue) reads
        ∙ moved_queue (new_address command) s ∙ ap (λ e. offering e queue) (no_event command queue.events other);
    poll = λ reads. ap (λ k. (outcome answer_of after k r p).reader.queue) is ∙ ap (λ c. (takes_command answer_of after c r p).reader.queue) reads;
    front = λ event reads there.
        ap (λ k. (outcome answer_of after k r p).reply) is ∙ ap (λ c. (takes_command answer_of after c r p).reply) reads
        ∙ ap (λ o. Some (reply_packet p p.sequence (event_or_answer answer_of after (option_map event_reply o) r.config r.handler Poll).reply)) there;
  }

-- ---- the controller

tells : (event : Event) → poll_told (event_reply event) (event_in (event_reply event)) ≡ Some (reports.Event event)
tells (events.LocalState s) = refl
tells _ = refl

module _ (event : Event) (number : ℕ) (s : Session) (same : number ≡ s.number) where
  abbrev said : Reply
  said = event_reply event

  numbered : is_numbered number (Plain said) s ≡ true
  numbered = ap (λ t. t || (number == 0 && false)) (eq-eqb number s.number same)

  answers : (o : Outstanding) → Some o.exchange ≡ Some Polling → (answered_of o.exchange said s).report ≡ Some (reports.Event event)
  answers o polling = let is : o.exchange ≡ Polling = cc in ap (λ x. (answered_of x said s).report) is ∙ tells event

  heard : (state : State) → exchange_in state ≡ Some Polling → (hears_in state number (Plain said) s).report ≡ Some (reports.Event event)
  heard (Waiting until sends o) polling =
      ap (λ t. (if t then waiting_hears (Plain said) sends o s else ignores s).report) numbered ∙ answers o polling
  heard (Pausing until o) polling =
      ap (λ t. (if t then pausing_hears (Plain said) o s else ignores s).report) numbered ∙ answers o polling
  heard _ polling = cc

pub answers_tell : AnswersTellTheFront
answers_tell event p now d polling own means =
    let s = d.controller.session in
    let both : Some (frame_of Polling s) ≡ Some p = sym (ap (option_map (λ x. frame_of x s)) polling) ∙ own in
    let frame : frame_of Polling s ≡ p = cc in
    let address : p.address ≡ s.config.address = sym (ap (λ (q : Packet). q.address) frame) in
    let number : p.sequence ≡ s.number = sym (ap (λ (q : Packet). q.sequence) frame) in
    ap (λ t. (if (true && t && true) then hears_in s.state p.sequence (meaning_of (reply_packet p p.sequence (event_reply event))) (seen now s) else ignores (seen now s)).report)
    (eq-eqb p.address s.config.address address)
    ∙ ap (λ m. (hears_in s.state p.sequence m (seen now s)).report) means ∙ heard event p.sequence (seen now s) number s.state polling
