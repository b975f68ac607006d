-- Another handler changes what is answered anew by it, and nothing else.
use Rattle.osdp_reader_laws.proofs.Common.{◌≡◌, ℕ, Bool, true, false, cond, eqb, Option, Some, None, Result, Ok, Err, refl, Packet, Command, MsgFault, Answer, Kind, Zero, Taken, event_for, released, reply_packet, ReaderState, after_set_handler, Outcome, begun, command_in, event_or_answer, answer_to, moved, new_address, outcome, taken, DiffersByHandler}
use Rattle.osdp_reader_laws.proofs.Outcomes.{after_next, after_zero, at_address}

module _ {H : Type 0} where
  -- a move of both
  moved_alike : (o : Option ℕ) (r : ReaderState H) (stored : Option Packet) (handler : H)
      → DiffersByHandler (moved o r) (moved o (record r { stored = stored; handler = handler }))
  moved_alike None r stored handler = record { config = refl; last = refl; queue = refl; busy = refl }
  moved_alike (Some a) r stored handler = by_test (eqb a r.config.address)
    where
      by_test : (here : Bool) → DiffersByHandler
          (cond here r (at_address a r)) (cond here (record r { stored = stored; handler = handler }) (record (at_address a r) { handler = handler }))
      by_test true = record { config = refl; last = refl; queue = refl; busy = refl }
      by_test false = record { config = refl; last = refl; queue = refl; busy = refl }

  -- the same command was acted on, and the readers after it differ by what their handlers answered
  abbrev ComesToTheSame : Outcome H → Outcome H → Type 0
  ComesToTheSame o x = (x.command ≡ o.command) × DiffersByHandler o.reader x.reader

  -- nothing was acted on
  not_acted : (r : ReaderState H) (handler : H) → DiffersByHandler r (after_set_handler handler r)
  not_acted r handler = record { config = refl; last = refl; queue = refl; busy = refl }

  module _ (answer_of : H → Command → Answer) (after : H → Command → H) where
    begun_alike : (read : Result Command MsgFault) (r : ReaderState H) (p : Packet) (handler : H)
        → ComesToTheSame (begun answer_of after read r p) (begun answer_of after read (after_set_handler handler r) p)
    begun_alike (Err fault) r p handler = (refl, record { config = refl; last = refl; queue = refl; busy = refl })
    begun_alike (Ok command) r p handler = (
      refl,
      moved_alike (new_address command) (after_zero (answer_to answer_of after r.config r.handler command).handler r)
          r.stored (answer_to answer_of after r.config handler command).handler,
    )

    taken_alike : (read : Result Command MsgFault) (r : ReaderState H) (p : Packet) (handler : H)
        → ComesToTheSame (taken answer_of after read r p) (taken answer_of after read (after_set_handler handler r) p)
    taken_alike (Err fault) r p handler = (refl, record { config = refl; last = refl; queue = refl; busy = refl })
    taken_alike (Ok command) r p handler =
        let event = event_for command (released r.queue).events in
        let a = event_or_answer answer_of after event r.config r.handler command in
        let b = event_or_answer answer_of after event r.config handler command in (
          refl,
          moved_alike (new_address command) (after_next p.sequence (reply_packet p p.sequence a.reply) event a.handler r)
              (Some (reply_packet p p.sequence b.reply)) b.handler,
        )

    pub outcome_alike : (kind : Kind) (r : ReaderState H) (p : Packet) (handler : H)
        → ComesToTheSame (outcome answer_of after kind r p) (outcome answer_of after kind (after_set_handler handler r) p)
    outcome_alike Zero r p handler = begun_alike (command_in p) r p handler
    outcome_alike Taken r p handler = taken_alike (command_in p) r p handler
    outcome_alike _ r p handler = (refl, not_acted r handler)
