-- A whole exchange without losses: what it does, and what both ends are after it.
use Rattle.osdp_link_laws.proofs.Common.{◌≡◌, ◌≤◌, ◌&&◌, ℕ, arith, leb, cond, List, [], ◌∷◌, ◌++◌, drop, Option, Some, None, refl, sym, subst, ap, ◌∙◌, le-leb, Packet, packed, next_sequence, Command, Reply, exchange_body, exchange_command, is_order, at_rest, frame_of, is_poll_next, later, seen, asks_front, polls_alone, begins, stays, Ticked, ticks, ticks_in, ControllerConfig, Exchange, Opening, Polling, Session, State, Idle, Quiet, event_for, offering, released, unoffered, ReaderState, Answer, Kind, Busy, Taken, Zero, MaySubmit, SaysWhatFits, Delivered, Link, Report, SetsNoAddress}
use Rattle.std.specs.Prelude.{max, false}
use Rattle.osdp_msg.specs.declared.reply.Reply.TheVariants as reply
use Rattle.osdp_reader.specs.Table.{Outcome, begun, event_or_answer, hears, kind_of, moved, outcome}
use Rattle.osdp_link_laws.specs.Link as link
use Rattle.osdp_link_laws.specs.Reports.{command_taken, taken_as, taken_by, taken_by_front}
use Rattle.osdp_link_laws.proofs.Acting.{kind_next, kind_zero}
use Rattle.osdp_link_laws.proofs.Answering.{Replies, SaysFit, no_address, opening, taken_answer, taken_hears, taking}
use Rattle.osdp_link_laws.proofs.Due.{Acts, next_exchange, stays_rests}
use Rattle.osdp_link_laws.proofs.Lines.{chosen}
use Rattle.osdp_link_laws.proofs.Moves.{Premises}
use Rattle.osdp_link_laws.proofs.Parts.{At}
use Rattle.osdp_link_laws.proofs.Round.{IsStill, Passed, answered_link, at_tick, come_through, passes}
use Rattle.osdp_link_laws.proofs.Settling.{MovesNone, report_of, settles_now}
use Rattle.osdp_link_laws.proofs.Since.{Hears, has_acted}
use Rattle.osdp_link_laws.proofs.Stages.{After, Each, IsAsked, IsOpen, Rest, Restarted, answer, frame}

-- where a controller at rest acts and no POLL has to come first, the exchange that is next begins
abbrev BeginsNext : Session → List Command → Ticked → Type 0
BeginsNext s waiting t = Acts t → t ≡ begins (next_exchange waiting) (next_sequence s.number) s (drop 1 waiting)

begins_next : (due : ℕ) (s : Session) (waiting : List Command) → is_poll_next s ≡ false → BeginsNext s waiting (ticks_in (Idle due) s waiting)
begins_next due s [] free does =
    subst (BeginsNext s []) (sym (polls_alone due s))
    (chosen Acts (λ t. t ≡ begins Polling (next_sequence s.number) s []) (leb due s.greatest) (begins Polling (next_sequence s.number) s []) (stays s [])
    (λ e. refl) (λ e. stays_rests s [] e)) does
begins_next due s (c ∷ rest) free does = asks_front due s c rest free

pub begins_next_at : (state : State) (due : ℕ) (s : Session) (waiting : List Command) → state ≡ Idle due → s.config.poll_between_orders ≡ false
    → Acts (ticks_in state s waiting) → ticks_in state s waiting ≡ begins (next_exchange waiting) (next_sequence s.number) s (drop 1 waiting)
begins_next_at state due s waiting is plain =
    subst (λ st. BeginsNext s waiting (ticks_in st s waiting)) (sym is) (begins_next due s waiting (ap (λ b. b && s.asked) plain))

-- a whole round: the link after it, what is told at its tick and by the packet to the controller, and what the reader takes in it
pub record Went (H : Type 0) : Type 0 where
  pub next : Link H
  pub first : Option Report
  pub told : Option Report
  pub taken : List Command

module _ {H : Type 0} (answer_of : H → Command → Answer) (after : H → Command → H) where
  abbrev went_by : ℕ → Ticked → Link H → Went H
  went_by now t l =
      let m = link.ticked t l in
      let w = passes answer_of after now m in
      record { next = w.next; first = t.step.report; told = w.told; taken = taken_by_front answer_of after Delivered m.to_reader l.reader }

  -- .. where nothing is told at its tick
  abbrev went_of : Passed H → List Packet → ReaderState H → Went H
  went_of w ps r = record { next = w.next; first = None; told = w.told; taken = taken_by_front answer_of after Delivered ps r }

  abbrev pub went : ℕ → Link H → Went H
  went now l = went_by now (ticks now l.controller.session l.controller.waiting) l

module _ (fixed : ControllerConfig) {H : Type 0} (answer_of : H → Command → Answer) (after : H → Command → H) where
  abbrev Given : Type 0
  Given = Premises fixed answer_of after

  abbrev Still : Link H → Type 0
  Still l = IsStill fixed answer_of after l

  -- ---- the exchange begins, and both packets come through

  -- an exchange begins, with this number
  abbrev begun_link : ℕ → Exchange → ℕ → List Command → Link H → Link H
  begun_link now x n rest l = link.ticked (begins x n (seen now l.controller.session) rest) l

  abbrev ended_link : ℕ → Exchange → ℕ → Reply → List Command → Link H → Link H
  ended_link now x n a rest l = answered_link fixed answer_of after now (frame fixed x n) x a (begun_link now x n rest l)

  begun_line : (now : ℕ) (x : Exchange) (n : ℕ) (rest : List Command) (l : Link H) → Still l → l.controller.session.config ≡ fixed
      → (begun_link now x n rest l).to_reader ≡ frame fixed x n ∷ []
  begun_line now x n rest l still config =
      ap (λ ps. ps ++ frame_of x (record (seen now l.controller.session) { number = n; asked = is_order x }) ∷ []) still.to_reader
      ∙ ap (λ (c : ControllerConfig). packed false c.address n c.check false 0 (exchange_body x) ∷ []) config

  abbrev ended : ℕ → Exchange → ℕ → Reply → List Command → Link H → Went H
  ended now x n a rest l = record {
    next = ended_link now x n a rest l;
    first = None;
    told = report_of x a;
    taken = taken_by answer_of after (frame fixed x n) l.reader;
  }

  whole : Given → (now : ℕ) (x : Exchange) (n : ℕ) (a : Reply) (rest : List Command) (l : Link H) → Still l → l.controller.session.config ≡ fixed
      → MovesNone x → ticks now l.controller.session l.controller.waiting ≡ begins x n (seen now l.controller.session) rest
      → Replies fixed answer_of after x n l.reader a → went answer_of after now l ≡ ended now x n a rest l
  whole given now x n a rest l still config none starts replies =
      let m = begun_link now x n rest l in
      let s = record (seen now l.controller.session) { number = n; asked = is_order x } in
      let says = given.hears n a replies.acted.0.fits ∙ given.plain a replies.acted.0.plain in
      let settles = settles_now fixed x n a now m.controller.session (later s.config.reply_wait s, 1, record { exchange = x; busies = 0; sent = 1 }, refl, refl)
      (config, refl) none replies.acted.1 says in
      let line = begun_line now x n rest l still config in
      ap (λ t. went_by answer_of after now t l) starts
      ∙ ap (λ (w : Passed H). went_of answer_of after w m.to_reader l.reader) (come_through fixed answer_of after now x n a m line still.to_controller replies.sent settles)
      ∙ ap (λ ps. went_of answer_of after (record { next = ended_link now x n a rest l; told = report_of x a }) ps l.reader) line

  -- what the reader says fits, where what it says to the frame on the line does
  fits_there : (now : ℕ) (x : Exchange) (n : ℕ) (rest : List Command) (l : Link H) → Still l → l.controller.session.config ≡ fixed
      → ticks now l.controller.session l.controller.waiting ≡ begins x n (seen now l.controller.session) rest
      → SaysWhatFits answer_of after (at_tick now l).to_reader l.reader → SaysFit fixed answer_of after (frame fixed x n) l.reader
  fits_there now x n rest l still config starts fits =
      subst (λ ps. SaysWhatFits answer_of after ps l.reader)
      (ap (λ t. (link.ticked t l).to_reader) starts ∙ begun_line now x n rest l still config) fits

  -- the round, by the line of the reader's table and by what comes of the frame
  abbrev ended_by : ℕ → Exchange → ℕ → Reply → List Command → Kind → Outcome H → Link H → Went H
  ended_by now x n a rest kind o l = record {
    next = record l {
      controller = record l.controller { session = at_rest (seen now (record (seen now l.controller.session) { number = n; asked = is_order x })); waiting = rest };
      reader = o.reader;
      to_reader = [];
      to_controller = [];
    };
    first = None;
    told = report_of x a;
    taken = taken_as kind o.command;
  }

  -- ---- the opening

  -- the session is open, and no event counts as offered
  abbrev pub opened_link : ℕ → Link H → Link H
  opened_link now l = record l {
    controller = record l.controller { session = at_rest (seen now (record (seen now l.controller.session) { number = 0; asked = false })) };
    reader = record l.reader { last = Some 0; queue = unoffered l.reader.queue };
    to_reader = [];
    to_controller = [];
  }

  -- .. who the device is was told, and nothing was taken
  abbrev pub opened : ℕ → Link H → Went H
  opened now l = record { next = opened_link now l; first = None; told = report_of Opening (reply.PdId l.reader.config.id); taken = [] }

  opens_at : (until now : ℕ) (s : Session) (waiting : List Command) → s.state ≡ Quiet until → until ≤ max s.greatest now
      → ticks now s waiting ≡ begins Opening 0 (seen now s) waiting
  opens_at until now s waiting is reached =
      ap (λ st. ticks_in st (seen now s) waiting) is
      ∙ ap (λ b. cond b (begins Opening 0 (seen now s) waiting) (stays (seen now s) waiting)) (le-leb until (max s.greatest now) reached)

  pub opening_exchange : Given → (until now : ℕ) (l : Link H) → Still l → l.controller.session.config ≡ fixed
      → l.controller.session.state ≡ Quiet until → until ≤ max l.controller.session.greatest now
      → SaysWhatFits answer_of after (at_tick now l).to_reader l.reader → went answer_of after now l ≡ opened now l
  opening_exchange given until now l still config is reached fits =
      let w = l.controller.waiting in
      let p = frame fixed Opening 0 in
      let r = l.reader in
      let a = reply.PdId r.config.id in
      let starts = opens_at until now l.controller.session w is reached in
      let said = fits_there now Opening 0 w l still config starts fits in
      let kind : kind_of r p ≡ Zero = kind_zero fixed r Opening still.ready.here ∙ ap (λ b. cond b Busy Zero) still.ready.ready in
      let replies = opening fixed answer_of after given r still.ready said in
      whole given now Opening 0 a w l still config tt starts replies
      ∙ ap (λ k. ended_by now Opening 0 a w k (outcome answer_of after k r p) l) kind
      ∙ ap (λ c. ended_by now Opening 0 a w Zero (begun answer_of after c r p) l) (given.reads Opening 0 (omega arith))

  -- ---- from rest

  -- the link after an exchange from rest: its command has gone, the reader has acted on it and stores its answer, and the next POLL is
  -- due after the interval
  abbrev pub rested_link : ℕ → Link H → Link H
  rested_link now l =
      let n = next_sequence l.controller.session.number in
      let c = exchange_command (next_exchange l.controller.waiting) in
      let queue = released l.reader.queue in
      let event = event_for c queue.events in
      let a = event_or_answer answer_of after event l.reader.config l.reader.handler c in
      record l {
        controller = record l.controller {
          session = at_rest (seen now (record (seen now l.controller.session) { number = n; asked = is_order (next_exchange l.controller.waiting) }));
          waiting = drop 1 l.controller.waiting;
        };
        reader = record l.reader { last = Some n; stored = Some (answer fixed n a.reply); queue = offering event queue; handler = a.handler };
        to_reader = [];
        to_controller = [];
      }

  -- .. and what was told and taken
  abbrev pub rested : ℕ → Link H → Went H
  rested now l =
      let x = next_exchange l.controller.waiting in
      let c = exchange_command x in
      record {
        next = rested_link now l;
        first = None;
        told = report_of x (event_or_answer answer_of after (event_for c (released l.reader.queue).events) l.reader.config l.reader.handler c).reply;
        taken = command_taken c;
      }

  -- the next exchange is asked after the one before, and moves no reader
  next_asked : (n : ℕ) (y : Exchange) (b : Reply) (waiting : List Command) → Each MaySubmit waiting → IsAsked (After n y b) (next_exchange waiting)
  next_asked n y b [] may = tt
  next_asked n y b (c ∷ waiting) may = may.0

  next_moves : (waiting : List Command) → Each SetsNoAddress waiting → MovesNone (next_exchange waiting)
  next_moves [] none = tt
  next_moves (c ∷ waiting) none = none.0

  pub exchange_from_rest : Given → fixed.poll_between_orders ≡ false → (now due : ℕ) (since : Restarted) (n : ℕ) (y : Exchange) (b : Reply) (l : Link H) → Hears since
      → At fixed answer_of after since (Rest n y b) l → Each SetsNoAddress l.controller.waiting
      → l.controller.session.state ≡ Idle due → IsOpen fixed n l.controller.session → Still l
      → Acts (ticks now l.controller.session l.controller.waiting) → SaysWhatFits answer_of after (at_tick now l).to_reader l.reader
      → went answer_of after now l ≡ rested now l
  exchange_from_rest given plain now due since n y b l hears_it h set is opened still does fits =
      let s = l.controller.session in
      let w = l.controller.waiting in
      let r = l.reader in
      let x = next_exchange w in
      let k = next_sequence s.number in
      let p = frame fixed x k in
      let a = taken_answer fixed answer_of after (exchange_command x) r in
      let last : r.last ≡ Some s.number = ((has_acted fixed since n y b l.reader hears_it h.reader).here still.ready.here).0 ∙ ap (λ m. Some m) (sym opened.1) in
      let starts = begins_next_at s.state due (seen now s) w is (ap (λ c. c.poll_between_orders) opened.0 ∙ plain) does in
      let asked = next_asked s.number y b w h.waiting in
      let none = next_moves w set in
      let said = fits_there now x k (drop 1 w) l still opened.0 starts fits in
      let replies = taking fixed answer_of after given s.number y b x r still.ready last asked said in
      let kind : kind_of r p ≡ Taken = kind_next fixed r x s.number still.ready.here last ∙ ap (λ u. cond u Busy Taken) still.ready.ready in
      let heard = taken_hears fixed answer_of after given s.number y b x r still.ready last asked in
      whole given now x k a.reply (drop 1 w) l still opened.0 none starts replies
      ∙ ap (λ kd. ended_by now x k a.reply (drop 1 w) kd (hears answer_of after r p) l) kind
      ∙ ap (λ o. ended_by now x k a.reply (drop 1 w) Taken o l) heard
      ∙ ap (λ to.
      let w : Went H = record (rested now l) {
        next = record (rested_link now l) {
          reader = moved to (record r {
            last = Some k;
            stored = Some (answer fixed k a.reply);
            queue = offering (event_for (exchange_command x) (released r.queue).events) (released r.queue);
            handler = a.handler;
          });
        };
      } in w) (no_address x none)
