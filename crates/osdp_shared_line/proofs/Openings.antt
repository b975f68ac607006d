-- While a session that was begun hasn't opened, its controller asks for the opening ID alone.
use Rattle.osdp_shared_line.proofs.Common.{◌≡◌, ◌⊎◌, ◌+◌, ℕ, false, true, leb, ltb, eqb, List, Option, Some, None, refl, sym, subst, ap, ◌∙◌, inl, inr, arith, ◌&&◌, not, option_to_list, Packet, Command, Reply, PdId, said_by, Heard, answered, answered_unread, hears, hears_busy, hears_in, ignores, is_numbered, loses, opening_answered, pausing_hears, pd_id_of, waiting_hears, frame_of, later, seen, Ticked, begins, gives_up, sends_frame, stays, ticks_in, tries_again, Exchange, Opening, Polling, Asking, Outstanding, ReplyMeaning, NotTaken, Damaged, NumberRefused, Plain, Unreadable, Session, State, Closed, Quiet, Idle, Waiting, Pausing, command_in, ReadsWhatIsAsked, both, Each, SetsReader, address_in, is_opened}
use Rattle.osdp_controller.specs.declared.report.LostCause.TheVariants as causes

abbrev pub IsOpeningIn : Exchange → Type 0
IsOpeningIn Opening = Unit {0}
IsOpeningIn Polling = ⊥
IsOpeningIn (Asking command) = ⊥

-- it is closed, waits for the line to be quiet, or has sent the opening ID
abbrev pub IsOpening : State → Type 0
IsOpening Closed = Unit {0}
IsOpening (Quiet until) = Unit {0}
IsOpening (Idle due) = ⊥
IsOpening (Waiting until sends o) = IsOpeningIn o.exchange
IsOpening (Pausing until o) = IsOpeningIn o.exchange

pub record OpensOn (t : Ticked) : Type 0 where
  pub state : IsOpening t.session.state
  pub frames : Each (λ p. (to : ℕ) → SetsReader to p → ⊥) (option_to_list t.step.frame)

module _ (reads : ReadsWhatIsAsked) where
  none_set : (to : ℕ) → None ≡ Some to → ⊥
  none_set to is = cc

  sending : (k : ℕ) (o : Outstanding) (s : Session) (ws : List Command) → IsOpeningIn o.exchange → OpensOn (sends_frame k o s ws)
  sending k o s ws opens = by_exchange o.exchange refl opens
    where
      by_exchange : (x : Exchange) → o.exchange ≡ x → IsOpeningIn x → OpensOn (sends_frame k o s ws)
      by_exchange Opening is opens = record {
        state = subst IsOpeningIn (sym is) tt;
        frames = (
          λ to sets. none_set to (sym (ap address_in (reads Opening s (omega arith))) ∙ subst (λ y. address_in (command_in (frame_of y s)) ≡ Some to) is sets),
          tt,
        );
      }
      by_exchange Polling is opens = absurd opens
      by_exchange (Asking c) is opens = absurd opens

  pub ticks_opening : (state : State) (s : Session) (ws : List Command) → s.state ≡ state → IsOpening state → OpensOn (ticks_in state s ws)
  ticks_opening state s ws at opens = by_state state at opens
    where
      rests : (state : State) → s.state ≡ state → IsOpening state → OpensOn (stays s ws)
      rests state at opens = record { state = subst IsOpening (sym at) opens; frames = tt }

      by_state : (state : State) → s.state ≡ state → IsOpening state → OpensOn (ticks_in state s ws)
      by_state Closed at opens = rests Closed at opens
      by_state (Quiet until) at opens =
          both OpensOn (leb until s.greatest) (begins Opening 0 s ws) (stays s ws)
          (sending 1 (record { exchange = Opening; busies = 0; sent = 0 }) (record s { number = 0; asked = false }) ws tt) (rests (Quiet until) at opens)
      by_state (Idle due) at opens = absurd opens
      by_state (Waiting until k o) at opens =
          both OpensOn (leb until s.greatest) (tries_again k o s ws) (stays s ws)
          (both OpensOn (ltb k s.config.sends) (sends_frame (k + 1) o s ws) (gives_up o s ws) (sending (k + 1) o s ws opens) (record { state = tt; frames = tt }))
          (rests (Waiting until k o) at opens)
      by_state (Pausing until o) at opens =
          both OpensOn (leb until s.greatest) (sends_frame 1 o s ws) (stays s ws) (sending 1 o s ws opens) (rests (Pausing until o) at opens)

-- it goes on so, or tells that the session has opened
abbrev pub OpensOrTells : Heard → Type 0
OpensOrTells h = IsOpening h.session.state ⊎ (is_opened h.report ≡ true)

answers : (o : Option PdId) (s : Session) → IsOpening s.state → OpensOrTells (opening_answered o s)
answers None s opens = inl opens
answers (Some id) s opens = inr refl

busy : (o : Outstanding) (s : Session) → IsOpeningIn o.exchange → OpensOrTells (hears_busy o s)
busy o s opens =
    let paused : Heard = record { session = record s { state = Pausing (later s.config.busy_wait s) (record o { busies = o.busies + 1 }) }; report = None } in
    both OpensOrTells (ltb s.config.busy_limit (o.busies + 1)) (loses causes.TooBusy o s) paused (inl tt) (inl opens)

plain : (x : Exchange) (a : Reply) (s : Session) → IsOpeningIn x → IsOpening s.state → OpensOrTells (answered x a s)
plain Opening a s opens state = answers (pd_id_of a) s state
plain Polling a s opens state = absurd opens
plain (Asking c) a s opens state = absurd opens

unread : (x : Exchange) (code : ℕ) (s : Session) → IsOpeningIn x → IsOpening s.state → OpensOrTells (answered_unread x code s)
unread Opening code s opens state = inl state
unread Polling code s opens state = absurd opens
unread (Asking c) code s opens state = absurd opens

waiting : (a : ReplyMeaning) (k : ℕ) (o : Outstanding) (s : Session) → IsOpeningIn o.exchange → IsOpening s.state → OpensOrTells (waiting_hears a k o s)
waiting NotTaken k o s opens state = busy o s opens
waiting Damaged k o s opens state = inl opens
waiting NumberRefused k o s opens state = inl tt
waiting (Plain a) k o s opens state = plain o.exchange a s opens state
waiting (Unreadable code) k o s opens state = unread o.exchange code s opens state

pausing : (a : ReplyMeaning) (o : Outstanding) (s : Session) → IsOpeningIn o.exchange → IsOpening s.state → OpensOrTells (pausing_hears a o s)
pausing NotTaken o s opens state = inl state
pausing Damaged o s opens state = inl state
pausing NumberRefused o s opens state = inl tt
pausing (Plain a) o s opens state = plain o.exchange a s opens state
pausing (Unreadable code) o s opens state = unread o.exchange code s opens state

inside : (state : State) (number : ℕ) (a : ReplyMeaning) (s : Session) → s.state ≡ state → IsOpening state → OpensOrTells (hears_in state number a s)
inside Closed number a s is opens = inl (subst IsOpening (sym is) opens)
inside (Quiet until) number a s is opens = inl (subst IsOpening (sym is) opens)
inside (Idle due) number a s is opens = absurd opens
inside (Waiting until k o) number a s is opens =
    both OpensOrTells (is_numbered number a s) (waiting_hears a k o s) (ignores s)
    (waiting a k o s opens (subst IsOpening (sym is) opens)) (inl (subst IsOpening (sym is) opens))
inside (Pausing until o) number a s is opens =
    both OpensOrTells (is_numbered number a s) (pausing_hears a o s) (ignores s)
    (pausing a o s opens (subst IsOpening (sym is) opens)) (inl (subst IsOpening (sym is) opens))

pub hears_opening : (p : Packet) (now : ℕ) (s : Session) → IsOpening s.state → OpensOrTells (hears p now s)
hears_opening p now s opens =
    both OpensOrTells (p.reply && eqb p.address s.config.address && not p.block)
    (hears_in s.state p.sequence (said_by p) (seen now s)) (ignores (seen now s))
    (inside s.state p.sequence (said_by p) (seen now s) refl opens) (inl opens)
