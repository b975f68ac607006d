-- Rounds that lose nothing, from rest: each settles a command or reports an event, until all are.
use Rattle.osdp_link_laws.proofs.Common.{◌≡◌, ◌⊎◌, ◌+◌, ℕ, suc, Bool, false, List, [], ◌∷◌, ◌++◌, length, drop, refl, sym, subst, ap, ◌∙◌, inl, inr, arith, Command, Event, exchange_command, is_order, later, seen, ticks, ControllerConfig, Idle, next_sequence, Answer, ReaderConfig, event_for, event_or_answer, offering, Queue, released, option_to_list, outstanding_command, MaySubmit, SaysWhatFits, Link, SetsNoAddress, TellsItsEvent, count_ahead}
use Rattle.osdp_controller.specs.Hearing.{poll_told}
use Rattle.osdp_msg.specs.Events.{event_reply}
use Rattle.osdp_link_laws.specs.Ahead.{has_number, is_polling, is_unopened, offered_to, unoffered_events}
use Rattle.osdp_link_laws.proofs.Acting.{no_event}
use Rattle.osdp_link_laws.proofs.Due.{Acts, next_exchange}
use Rattle.osdp_link_laws.proofs.Exchanges.{exchange_from_rest, rested, rested_link, went}
use Rattle.osdp_link_laws.proofs.Leaving.{tells}
use Rattle.osdp_link_laws.proofs.Moves.{Premises}
use Rattle.osdp_link_laws.proofs.Once.{Goes}
use Rattle.osdp_link_laws.proofs.Parts.{At}
use Rattle.osdp_link_laws.proofs.Round.{IsIdle, at_tick, goes}
use Rattle.osdp_link_laws.proofs.Settling.{report_of}
use Rattle.osdp_link_laws.proofs.Since.{Hears}
use Rattle.osdp_link_laws.proofs.Stages.{Asks, Before, Behind, Each, Fresh, Level, Never, Now, Rest, Restarted, Rests, Stage, Waits, number_after}

-- one is told and one less is left, or none was
abbrev pub OneLess : ℕ → ℕ → ℕ → Type 0
OneLess told before after = ((told ≡ 1) × (before ≡ suc after)) ⊎ (before ≡ 0)

-- no event is offered
abbrev calm : List Event → ℕ → ℕ → Bool → Queue
calm events capacity room ever = record { events = events; capacity = capacity; room = room; offered = false; ever_offered = ever }

module _ {H : Type 0} where
  -- where nobody waits for an answer
  left_at_rest : (l : Link H) (due : ℕ) → l.controller.session.state ≡ Idle due → count_ahead l ≡ length l.controller.waiting + length (released l.reader.queue).events
  left_at_rest l due idle =
      ap (λ st. length (option_to_list (outstanding_command st) ++ l.controller.waiting)
      + length (offered_to (is_polling st) (has_number l.controller.session.number l.reader.last) l.reader.stored ++ unoffered_events (is_unopened st) l.reader.queue)) idle

  waiting_at_rest : (l : Link H) (due : ℕ) → l.controller.session.state ≡ Idle due
      → Each SetsNoAddress (option_to_list (outstanding_command l.controller.session.state) ++ l.controller.waiting) → Each SetsNoAddress l.controller.waiting
  waiting_at_rest l due idle = subst (λ st. Each SetsNoAddress (option_to_list (outstanding_command st) ++ l.controller.waiting)) idle

  module _ (answer_of : H → Command → Answer) (after : H → Command → H) where
    -- what the next exchange tells, and what it leaves
    counts : TellsItsEvent → (ws : List Command) (events : List Event) (capacity room : ℕ) (ever : Bool) (config : ReaderConfig) (handler : H) → Each MaySubmit ws
        → let x = next_exchange ws in
        let told = event_for (exchange_command x) events in
        OneLess (tells (report_of x (event_or_answer answer_of after told config handler (exchange_command x)).reply)) (length ws + length events)
        (length (drop 1 ws) + length (released (offering told (calm events capacity room ever))).events)
    counts tells_it [] [] capacity room ever config handler may = inr refl
    counts tells_it [] (e ∷ events) capacity room ever config handler may = inl (ap (λ o. tells (poll_told (event_reply e) o)) (tells_it e), omega arith)
    counts tells_it (c ∷ ws) events capacity room ever config handler may =
        let same = ap (λ o. length (released (offering o (calm events capacity room ever))).events) (no_event c events may.0.no_poll) in
        inl (refl, omega (arith, same))

module _ (fixed : ControllerConfig) {H : Type 0} (answer_of : H → Command → Answer) (after : H → Command → H) where
  abbrev Idles : Link H → Type 0
  Idles l = IsIdle fixed answer_of after l

  abbrev Given : Type 0
  Given = Premises fixed answer_of after

  -- the controller waits for nothing again
  pub rested_idle : (now : ℕ) (l : Link H) → Idles l → Idles (rested_link fixed answer_of after now l)
  rested_idle now l idle = record {
    idle = (later l.controller.session.config.poll_interval (seen now (record (seen now l.controller.session) { number = next_sequence l.controller.session.number; asked = is_order (next_exchange l.controller.waiting) })), refl);
    still = record {
      to_reader = refl;
      to_controller = refl;
      ready = record { here = idle.still.ready.here; ready = idle.still.ready.ready };
      stays = less l.controller.waiting (waiting_at_rest l idle.idle.0 idle.idle.1 idle.still.stays);
    };
    known = (next_sequence l.controller.session.number, refl);
  }
    where
      less : (ws : List Command) → Each SetsNoAddress ws → Each SetsNoAddress (drop 1 ws)
      less [] all = tt
      less (c ∷ ws) all = all.1

  -- a reader that knows its last number hears
  pub hears_known : (since : Restarted) (at : Stage) (l : Link H) → At fixed answer_of after since at l → Idles l → Hears since
  hears_known Never at l h idle = tt
  hears_known Before at l h idle = tt
  hears_known Now Fresh l h idle = absurd (subst (λ st. Waits fixed st l.controller.session) idle.idle.1 h.controller)
  hears_known Now (Behind past x) l h idle = absurd (subst (λ st. Asks fixed st (number_after past) x l.controller.session) idle.idle.1 h.controller)
  hears_known Now (Level past x a) l h idle = absurd (subst (λ st. Asks fixed st (number_after past) x l.controller.session) idle.idle.1 h.controller)
  hears_known Now (Rest n x a) l h idle = absurd (let e = sym idle.known.1 ∙ h.reader in cc)

  -- a round from a controller that waits for nothing is an exchange from rest
  pub idle_exchange : Given → fixed.poll_between_orders ≡ false → (now : ℕ) (l : Link H) → Goes fixed answer_of after l → Idles l
      → Acts (ticks now l.controller.session l.controller.waiting) → SaysWhatFits answer_of after (at_tick now l).to_reader l.reader
      → went answer_of after now l ≡ rested fixed answer_of after now l
  idle_exchange given plain now l held idle does fits = by_stage held.holds.1 held.holds.2
    where
      since : Restarted
      since = held.holds.0

      by_stage : (at : Stage) → At fixed answer_of after since at l → went answer_of after now l ≡ rested fixed answer_of after now l
      by_stage Fresh h = absurd (subst (λ st. Waits fixed st l.controller.session) idle.idle.1 h.controller)
      by_stage (Behind past x) h =
          absurd (subst (λ st. Asks fixed st (number_after past) x l.controller.session) idle.idle.1 h.controller)
      by_stage (Level past x a) h =
          absurd (subst (λ st. Asks fixed st (number_after past) x l.controller.session) idle.idle.1 h.controller)
      by_stage (Rest n y b) h =
          exchange_from_rest fixed answer_of after given plain now idle.idle.0 since n y b l (hears_known since (Rest n y b) l h idle) h
          (waiting_at_rest l idle.idle.0 idle.idle.1 idle.still.stays) idle.idle.1
          (subst (λ st. Rests fixed st n l.controller.session) idle.idle.1 h.controller) idle.still does fits

  -- .. which tells one, unless none is left
  pub idle_round : Given → fixed.poll_between_orders ≡ false → (now : ℕ) (l : Link H) → Goes fixed answer_of after l → Idles l
      → Acts (ticks now l.controller.session l.controller.waiting) → SaysWhatFits answer_of after (at_tick now l).to_reader l.reader
      → Idles (goes answer_of after now l) × OneLess (tells (went answer_of after now l).told) (count_ahead l) (count_ahead (goes answer_of after now l))
  idle_round given plain now l held idle does fits =
      let is = idle_exchange given plain now l held idle does fits in
      let q = l.reader.queue in
      let rest = released q in
      let before = left_at_rest l idle.idle.0 idle.idle.1 in
      let one = counts answer_of after given.tells l.controller.waiting rest.events q.capacity q.room rest.ever_offered l.reader.config l.reader.handler held.holds.2.waiting in (
        subst (λ w. Idles w.next) (sym is) (rested_idle now l idle),
        subst (λ w. OneLess (tells w.told) (count_ahead l) (count_ahead w.next)) (sym is)
            (subst (λ n. OneLess (tells (rested fixed answer_of after now l).told) n (count_ahead (rested_link fixed answer_of after now l))) (sym before) one),
      )
