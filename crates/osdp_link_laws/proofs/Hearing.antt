-- What a packet does to the controller, by how far the session has come.
use Rattle.osdp_link_laws.proofs.Common.{◌≡◌, ◌≢◌, ◌⊎◌, ℕ, zero, suc, ◌+◌, Bool, true, false, cond, eqb, ltb, [], ◌∷◌, Option, Some, None, refl, sym, subst, ap, ◌∙◌, inl, inr, ◌&&◌, ◌||◌, option_to_list, Packet, Command, Communication, Event, Reply, PdId, ReplyMeaning, NotTaken, NumberRefused, Plain, ControllerConfig, Exchange, Opening, Polling, Asking, Outstanding, Session, State, Closed, Quiet, Idle, Waiting, Pausing, meaning_of, event_in, Heard, answered, com_of, command_answered, comset_of, hears, hears_busy, hears_in, ignores, is_ack, is_from_reader, is_numbered, loses, moved_by, pausing_hears, poll_told, rests, waiting_hears, later, seen}
use Rattle.osdp_msg.specs.declared.reply.Reply.TheVariants as reply
use Rattle.osdp_controller.specs.declared.report.LostCause.TheVariants as cause
use Rattle.osdp_controller.specs.declared.report.Report.TheVariants as report
use Rattle.osdp_link_laws.proofs.Coming.{Announces}
use Rattle.osdp_link_laws.proofs.Lines.{both}
use Rattle.osdp_link_laws.proofs.Numbers.{is_false}
use Rattle.osdp_link_laws.proofs.Stages.{Asks, IsAnswerTo, IsOpen, Rests, owed, shown}
use Rattle.osdp_link_laws.proofs.Ticks.{asks_seen, rests_seen}

and_false : (b : Bool) → (b && false) ≡ false
and_false true = refl
and_false false = refl

module _ (fixed : ControllerConfig) where
  -- the exchange stays outstanding, or the session ends; nothing is settled or reported
  abbrev pub Ignored : ℕ → Exchange → Heard → Type 0
  Ignored n x h = Announces h.report [] [] × Asks fixed h.session.state n x h.session

  ignored : (state : State) (n : ℕ) (x : Exchange) (s : Session) → s.state ≡ state → Asks fixed state n x s
      → Ignored n x (ignores s)
  ignored state n x s e asks =
      ((refl, refl), subst (λ st. Asks fixed st n x s) (sym e) asks)

  busy_heard : (n : ℕ) (x : Exchange) (o : Outstanding) (s : Session) → IsOpen fixed n s → o.exchange ≡ x
      → Ignored n x (hears_busy o s)
  busy_heard n x o s at is =
      both (Ignored n x) (ltb s.config.busy_limit (o.busies + 1)) (loses cause.TooBusy o s)
      (record {
        session = record s { state = Pausing (later s.config.busy_wait s) (record o { busies = o.busies + 1 }) };
        report = None;
      })
      ((refl, refl), tt)
      ((refl, refl), (at, is))

  -- BUSY settles nothing
  busy_in : (state : State) (number n : ℕ) (x : Exchange) (s : Session) → s.state ≡ state → Asks fixed state n x s
      → Ignored n x (hears_in state number NotTaken s)
  busy_in Closed number n x s e asks = ignored Closed n x s e asks
  busy_in (Waiting until k o) number n x s e asks =
      both (Ignored n x) (is_numbered number NotTaken s) (hears_busy o s) (ignores s)
      (busy_heard n x o s asks.0 asks.1) (ignored (Waiting until k o) n x s e asks)
  busy_in (Pausing until o) number n x s e asks =
      both (Ignored n x) (is_numbered number NotTaken s) (ignores s) (ignores s)
      (ignored (Pausing until o) n x s e asks) (ignored (Pausing until o) n x s e asks)
  busy_in _ number n x s e asks = absurd asks

  -- a refused number ends the session, or is ignored
  refused_in : (state : State) (number n : ℕ) (x : Exchange) (s : Session) → s.state ≡ state → Asks fixed state n x s
      → Ignored n x (hears_in state number NumberRefused s)
  refused_in Closed number n x s e asks = ignored Closed n x s e asks
  refused_in (Waiting until k o) number n x s e asks =
      both (Ignored n x) (is_numbered number NumberRefused s) (loses cause.NumberRefused o s) (ignores s)
      ((refl, refl), tt) (ignored (Waiting until k o) n x s e asks)
  refused_in (Pausing until o) number n x s e asks =
      both (Ignored n x) (is_numbered number NumberRefused s) (loses cause.NumberRefused o s) (ignores s)
      ((refl, refl), tt) (ignored (Pausing until o) n x s e asks)
  refused_in _ number n x s e asks = absurd asks

  pub hears_refused : (p : Packet) (now n : ℕ) (x : Exchange) (s : Session) → meaning_of p ≡ NumberRefused → Asks fixed s.state n x s
      → Ignored n x (hears p now s)
  hears_refused p now n x s refused asks =
      let there = asks_seen fixed s.state n x s now asks in
      both (Ignored n x) (is_from_reader p s) (hears_in s.state p.sequence (meaning_of p) (seen now s)) (ignores (seen now s))
      (subst (λ a. Ignored n x (hears_in s.state p.sequence a (seen now s))) (sym refused)
      (refused_in s.state p.sequence n x (seen now s) refl there))
      (ignored s.state n x (seen now s) refl there)

  other_number : (number n : ℕ) (r : Reply) (s : Session) → number ≢ n → s.number ≡ n → is_numbered number (Plain r) s ≡ false
  other_number number n r s differ is =
      let zero_is = and_false (eqb number 0) in
      let differs = is_false number s.number (λ same. differ (same ∙ is)) in
      ap (λ b. b || (eqb number 0 && false)) differs ∙ zero_is

  -- nor does an answer with another number
  other_in : (state : State) (number n : ℕ) (x : Exchange) (r : Reply) (s : Session) → number ≢ n → s.state ≡ state → Asks fixed state n x s
      → Ignored n x (hears_in state number (Plain r) s)
  other_in Closed number n x r s differ e asks = ignored Closed n x s e asks
  other_in (Quiet until) number n x r s differ e asks = absurd asks
  other_in (Idle due) number n x r s differ e asks = absurd asks
  other_in (Waiting until k o) number n x r s differ e asks =
      subst (λ b. Ignored n x (cond b (waiting_hears (Plain r) k o s) (ignores s))) (sym (other_number number n r s differ asks.0.1))
      (ignored (Waiting until k o) n x s e asks)
  other_in (Pausing until o) number n x r s differ e asks =
      subst (λ b. Ignored n x (cond b (pausing_hears (Plain r) o s) (ignores s))) (sym (other_number number n r s differ asks.0.1))
      (ignored (Pausing until o) n x s e asks)

  -- a packet that is BUSY, or has another number
  pub hears_other : (p : Packet) (now n : ℕ) (x : Exchange) (s : Session)
      → (meaning_of p ≡ NotTaken) ⊎ ((p.sequence ≢ n) × ((r : Reply) × (meaning_of p ≡ Plain r)))
      → Asks fixed s.state n x s → Ignored n x (hears p now s)
  hears_other p now n x s (inl busy) asks =
      let there = asks_seen fixed s.state n x s now asks in
      both (Ignored n x) (is_from_reader p s) (hears_in s.state p.sequence (meaning_of p) (seen now s)) (ignores (seen now s))
      (subst (λ a. Ignored n x (hears_in s.state p.sequence a (seen now s))) (sym busy)
      (busy_in s.state p.sequence n x (seen now s) refl there))
      (ignored s.state n x (seen now s) refl there)
  hears_other p now n x s (inr (differ, (r, plain))) asks =
      let there = asks_seen fixed s.state n x s now asks in
      both (Ignored n x) (is_from_reader p s) (hears_in s.state p.sequence (meaning_of p) (seen now s)) (ignores (seen now s))
      (subst (λ a. Ignored n x (hears_in s.state p.sequence a (seen now s))) (sym plain)
      (other_in s.state p.sequence n x r (seen now s) differ refl there))
      (ignored s.state n x (seen now s) refl there)

  -- no exchange is outstanding: a packet changes nothing
  rest_in : (state : State) (number n : ℕ) (a : ReplyMeaning) (s : Session) → Rests fixed state n s → hears_in state number a s ≡ ignores s
  rest_in Closed number n a s rests = refl
  rest_in (Idle due) number n a s rests = refl
  rest_in _ number n a s rests = absurd rests

  -- .. but the moment
  abbrev pub Passed : ℕ → Heard → Type 0
  Passed n h = (h.report ≡ None) × Rests fixed h.session.state n h.session

  pub hears_resting : (p : Packet) (now n : ℕ) (s : Session) → Rests fixed s.state n s → Passed n (hears p now s)
  hears_resting p now n s rests =
      let there = rests_seen fixed s.state n s now rests in
      both (Passed n) (is_from_reader p s) (hears_in s.state p.sequence (meaning_of p) (seen now s)) (ignores (seen now s))
      (subst (Passed n) (sym (rest_in s.state p.sequence n (meaning_of p) (seen now s) there)) (refl, there))
      (refl, there)

  -- what an answer settles or reports
  abbrev pub Settles : ℕ → Exchange → Reply → Heard → Type 0
  Settles n x r h = Announces h.report (owed x r) (shown x r) × Rests fixed h.session.state n h.session

poll_tells : (event : Option Event) (r : Reply) → Announces (poll_told r event) [] (option_to_list event)
poll_tells (Some event) r = (refl, refl)
poll_tells None r = both (λ o. Announces o [] []) (is_ack r) None (Some (report.PollAnswered r)) (refl, refl) (refl, refl)

com_is : (r : Reply) (c : Communication) → com_of r ≡ Some c → reply.Com c ≡ r
com_is (reply.Com d) c e = cc
com_is a c e = absurd cc

only_if : (b : Bool) (y c : Communication) → cond b (Some y) None ≡ Some c → Some y ≡ Some c
only_if true y c e = e
only_if false y c e = absurd cc

moved_is : (asked came : Option Communication) (c : Communication) → moved_by asked came ≡ Some c → came ≡ Some c
moved_is (Some x) (Some y) c e = only_if (ltb y.address 127 && eqb y.address x.address) y c e
moved_is (Some x) None c e = absurd cc
moved_is None came c e = absurd cc

module _ (fixed : ControllerConfig) where
  command_settles : (moved : Option Communication) (n : ℕ) (c : Command) (r : Reply) (s : Session)
      → ((to : Communication) → moved ≡ Some to → reply.Com to ≡ r) → IsOpen fixed n s
      → Settles fixed n (Asking c) r (command_answered moved c r s)
  command_settles None n c r s is at = ((refl, refl), at)
  command_settles (Some to) n c r s is at = ((ap (λ q. (c, q) ∷ []) (is to refl), refl), tt)

  opening_settles : (pd : PdId) (n : ℕ) (r : Reply) (s : Session) → r ≡ reply.PdId pd → IsOpen fixed n s
      → Settles fixed n Opening r (answered Opening r s)
  opening_settles pd n r s is at =
      subst (λ q. Settles fixed n Opening q (answered Opening q s)) (sym is) ((refl, refl), at)

  answer_settles : (x : Exchange) (n : ℕ) (r : Reply) (s : Session) → IsAnswerTo x n r → IsOpen fixed n s
      → Settles fixed n x r (answered x r s)
  answer_settles Opening zero r s (pd, is) at = opening_settles pd 0 r s is at
  answer_settles Opening (suc n) r s is at = absurd is
  answer_settles Polling n r s is at = (poll_tells (event_in r) r, at)
  answer_settles (Asking c) n r s is at =
      command_settles (moved_by (comset_of c) (com_of r)) n c r s
      (λ to e. com_is r to (moved_is (comset_of c) (com_of r) to e)) at

  -- it is passed over, or it settles the exchange
  abbrev pub MaySettle : ℕ → Exchange → Reply → Heard → Type 0
  MaySettle n x r h = Ignored fixed n x h ⊎ Settles fixed n x r h

  answer_in : (state : State) (number n : ℕ) (x : Exchange) (r : Reply) (s : Session) → IsAnswerTo x n r → s.state ≡ state
      → Asks fixed state n x s → MaySettle n x r (hears_in state number (Plain r) s)
  answer_in Closed number n x r s is e asks = inl (ignored fixed Closed n x s e asks)
  answer_in (Quiet until) number n x r s is e asks = absurd asks
  answer_in (Idle due) number n x r s is e asks = absurd asks
  answer_in (Waiting until k o) number n x r s is e asks =
      both (MaySettle n x r) (is_numbered number (Plain r) s) (waiting_hears (Plain r) k o s) (ignores s)
      (inr (subst (λ y. Settles fixed n x r (answered y r s)) (sym asks.1) (answer_settles x n r s is asks.0)))
      (inl (ignored fixed (Waiting until k o) n x s e asks))
  answer_in (Pausing until o) number n x r s is e asks =
      both (MaySettle n x r) (is_numbered number (Plain r) s) (pausing_hears (Plain r) o s) (ignores s)
      (inr (subst (λ y. Settles fixed n x r (answered y r s)) (sym asks.1) (answer_settles x n r s is asks.0)))
      (inl (ignored fixed (Pausing until o) n x s e asks))

  -- a packet that says the answer
  pub hears_answer : (p : Packet) (now n : ℕ) (x : Exchange) (r : Reply) (s : Session) → meaning_of p ≡ Plain r
      → IsAnswerTo x n r → Asks fixed s.state n x s → MaySettle n x r (hears p now s)
  hears_answer p now n x r s says is asks =
      let there = asks_seen fixed s.state n x s now asks in
      both (MaySettle n x r) (is_from_reader p s) (hears_in s.state p.sequence (meaning_of p) (seen now s)) (ignores (seen now s))
      (subst (λ a. MaySettle n x r (hears_in s.state p.sequence a (seen now s))) (sym says)
      (answer_in s.state p.sequence n x r (seen now s) is refl there))
      (inl (ignored fixed s.state n x (seen now s) refl there))

-- a session that has ended stays so, and nothing is told
pub closed_hears : (p : Packet) (now : ℕ) (s : Session) → s.state ≡ Closed → hears p now s ≡ ignores (seen now s)
closed_hears p now s closed =
    both (λ heard. heard ≡ ignores (seen now s)) (is_from_reader p s) (hears_in s.state p.sequence (meaning_of p) (seen now s)) (ignores (seen now s))
    (ap (λ state. hears_in state p.sequence (meaning_of p) (seen now s)) closed) refl
