-- What holds of a session holds after each packet that comes, or is lost.
use Rattle.osdp_link_laws.proofs.Common.{◌≡◌, ◌⊎◌, ℕ, List, [], ◌∷◌, Option, Some, None, refl, sym, subst, ap, ◌∙◌, inl, inr, arith, IfSome, Packet, next_sequence, ReplyFits, Command, Reply, PdId, NotTaken, NumberRefused, Plain, ControllerConfig, Report, Session, Exchange, Opening, Polling, Asking, Answer, refused, UnexpectedSequence, IsPlain, SaysWhatFitsIf, Delivered, Delivery, Link, Lost, Repeated, lost_at, IsPlainlySaid, told_by_front}
use Rattle.osdp_msg.specs.declared.reply.Reply.TheVariants as reply
use Rattle.osdp_controller.specs.Answers as packets
use Rattle.osdp_controller.specs.Hearing as controller
use Rattle.osdp_reader.specs.Table as reader
use Rattle.osdp_link_laws.specs.Link as link
use Rattle.osdp_link_laws.proofs.Advancing.{SaysWell, goes_on, opens}
use Rattle.osdp_link_laws.proofs.Coming.{Announces, HearsTo, Reads, ReadsFront, reported_in, settled_in}
use Rattle.osdp_link_laws.proofs.Hearing.{Ignored, Settles, hears_answer, hears_other, hears_refused, hears_resting}
use Rattle.osdp_link_laws.proofs.Lines.{each_append, each_map, runs_append, runs_each, each_lost, runs_lost}
use Rattle.osdp_link_laws.proofs.Moves.{Premises, asked_fits, runs_last}
use Rattle.osdp_link_laws.proofs.Numbers.{next_above_zero, next_differs}
use Rattle.osdp_link_laws.proofs.Stages.{Acted, After, Asks, Behind, ControllerAt, Each, Fresh, Introduces, IsFrame, IsOldFrame, IsPast, Level, MayRefuse, Past, Refuses, Rest, Restarted, Says, SaysOld, Stage, Start, ToControllerAt, ToReaderAt, answer, frame, number_after}
use Rattle.osdp_link_laws.proofs.Parts.{At, HoldsThen, with_session, with_to_controller, with_to_reader}
use Rattle.osdp_link_laws.proofs.Taking.{HeardAt, heard_again, shows_none}

-- BUSY, a reply that settles, or a refused number
abbrev pub IsRead : Packet → Type 0
IsRead p = IsPlainlySaid p ⊎ (packets.meaning_of p ≡ NumberRefused)

-- a refused number is of the table of replies
pub refusal_fits : ReplyFits (refused UnexpectedSequence)
refusal_fits = record { reason = tt; room = omega arith; detail = λ k. omega arith }

-- a reply that was said is plain
said_plainly : (said : Option Reply) → ((r : Reply) × (said ≡ Some r) × IsPlain r) → IfSome said IsPlain
said_plainly said (r, is, plain) = subst (λ o. IfSome o IsPlain) (sym is) plain

-- the stage stays
stays_at : (r : Option Report) (at : Stage) → Announces r [] [] → HearsTo r at at
stays_at r (Level past x a) none = inl (refl, none)
stays_at r Fresh none = (refl, none)
stays_at r (Behind past x) none = (refl, none)
stays_at r (Rest n x a) none = (refl, none)

module _ (fixed : ControllerConfig) {H : Type 0} (answer_of : H → Command → Answer) (after : H → Command → H) (since : Restarted) where
  abbrev AtStage : Stage → Link H → Type 0
  AtStage at l = At fixed answer_of after since at l

  -- how far the session has come once this packet is read
  abbrev HoldsRead : Stage → Packet → Link H → Type 0
  HoldsRead at p l = HoldsThen fixed answer_of after (Reads answer_of after (reader.kind_of l.reader p) p l.reader since at) (link.reader_gets answer_of after p l)

  abbrev Assumed : Type 0
  Assumed = Premises fixed answer_of after

  -- a packet in front of the line to the reader
  abbrev FrontToReader : Stage → Packet → Link H → Type 0
  FrontToReader Fresh p l = ⊥
  FrontToReader (Behind past x) p l =
      IsOldFrame fixed past p ⊎ (IsFrame fixed x (number_after past) p × Each (IsFrame fixed x (number_after past)) l.to_reader)
  FrontToReader (Level past x a) p l = IsFrame fixed x (number_after past) p
  FrontToReader (Rest n x a) p l = IsFrame fixed x n p

  -- what the table of replies, and the reader's laws, say of a reply that is said anew
  says_well : Assumed → (p : Packet) (l : Link H) → IfSome (reader.hears answer_of after l.reader p).said ReplyFits
      → SaysWell answer_of after p l.reader (reader.kind_of l.reader p)
  says_well given p l fits = (
    fits,
    λ kind.
        let o = given.plainly l.reader p kind in
        said_plainly (reader.hears answer_of after l.reader p).said (o.0, o.1, o.3),
  )

  -- the frame of an exchange that the reader has acted on
  heard_at : (at : Stage) (p : Packet) (l : Link H) → HeardAt fixed answer_of after since at (reader.kind_of l.reader p) p l → HoldsRead at p l
  heard_at at p l (s, reads, h) = (s, at, reads, h)

  reader_gets : Assumed → (at : Stage) (p : Packet) (l : Link H) → AtStage at l → FrontToReader at p l
      → IfSome (reader.hears answer_of after l.reader p).said ReplyFits
      → HoldsRead at p l
  reader_gets given Fresh p l h front fits = absurd front
  reader_gets given (Behind Start x) p l h (inl old) fits = absurd old
  reader_gets given (Behind Start Opening) p l h (inr (is, frames)) fits =
      subst (λ q. IfSome (reader.hears answer_of after l.reader q).said ReplyFits → HoldsRead (Behind Start Opening) q l) (sym is)
      (λ f. opens fixed answer_of after since l given.device (given.reads Opening 0 (omega arith)) h frames
      (says_well given (frame fixed Opening 0) l f)) fits
  reader_gets given (Behind Start Polling) p l h (inr (is, frames)) fits = absurd h.stage.1
  reader_gets given (Behind Start (Asking c)) p l h (inr (is, frames)) fits = absurd h.stage.1
  reader_gets given (Behind (After n y b) x) p l h (inl old) fits =
      subst (λ q. IfSome (reader.hears answer_of after l.reader q).said ReplyFits → HoldsRead (Behind (After n y b) x) q l) (sym old)
      (λ f. heard_at (Behind (After n y b) x) (frame fixed y n) l (heard_again fixed answer_of after since (Behind (After n y b) x) n y b l given.device (given.reads Opening 0 (omega arith)) h h.reader h.stage.0
      (λ is. (shows_none fixed answer_of after y b is, refl))
      (λ q says. each_append (SaysOld fixed since (After n y b)) l.to_controller (q ∷ []) h.to_controller (says, tt)) (λ s r knows. knows) f)) fits
  reader_gets given (Behind (After n y b) x) p l h (inr (is, frames)) fits =
      subst (λ q. IfSome (reader.hears answer_of after l.reader q).said ReplyFits → HoldsRead (Behind (After n y b) x) q l) (sym is)
      (λ f. goes_on fixed answer_of after since n y b x l given.device (given.reads x (next_sequence n) (asked_fits (After n y b) x h.stage.1)) h frames
      (says_well given (frame fixed x (next_sequence n)) l f)) fits
  reader_gets given (Level past x a) p l h is fits =
      subst (λ q. IfSome (reader.hears answer_of after l.reader q).said ReplyFits → HoldsRead (Level past x a) q l) (sym is)
      (λ f. heard_at (Level past x a) (frame fixed x (number_after past)) l (heard_again fixed answer_of after since (Level past x a) (number_after past) x a l given.device (given.reads Opening 0 (omega arith)) h h.reader h.stage.2
      (λ is. (refl, shows_none fixed answer_of after x a is))
      (λ q says. runs_append (SaysOld fixed since past) (Says fixed since (number_after past) a) l.to_controller (q ∷ []) h.to_controller (says, tt)) (λ s r knows. knows) f)) fits
  reader_gets given (Rest n x a) p l h is fits =
      subst (λ q. IfSome (reader.hears answer_of after l.reader q).said ReplyFits → HoldsRead (Rest n x a) q l) (sym is)
      (λ f. heard_at (Rest n x a) (frame fixed x n) l (heard_again fixed answer_of after since (Rest n x a) n x a l given.device (given.reads Opening 0 (omega arith)) h h.reader h.stage
      (λ is. (shows_none fixed answer_of after x a is, refl))
      (λ q says. each_append (Says fixed since n a) l.to_controller (q ∷ []) h.to_controller (says, tt)) (λ s r knows. knows) f)) fits

  -- the line without its front
  rest_to_reader : (at : Stage) (p : Packet) (ps : List Packet) → ToReaderAt fixed at (p ∷ ps) → ToReaderAt fixed at ps
  rest_to_reader Fresh p ps line = absurd cc
  rest_to_reader (Behind past x) p ps (inl old) = old.1
  rest_to_reader (Behind past x) p ps (inr new) = runs_last (IsOldFrame fixed past) (IsFrame fixed x (number_after past)) ps new.1
  rest_to_reader (Level past x a) p ps line = line.1
  rest_to_reader (Rest n x a) p ps line = line.1

  -- .. after which the front is one of the current exchange, and so are all others
  front_to_reader : (at : Stage) (p : Packet) (ps qs : List Packet) (l : Link H) → l.to_reader ≡ qs → (qs ≡ ps) ⊎ (qs ≡ p ∷ ps)
      → ToReaderAt fixed at (p ∷ ps) → FrontToReader at p l
  front_to_reader Fresh p ps qs l is which line = absurd cc
  front_to_reader (Behind past x) p ps qs l is which (inl old) = inl old.0
  front_to_reader (Behind past x) p ps qs l is (inl gone) (inr new) =
      inr (new.0, subst (Each (IsFrame fixed x (number_after past))) (sym (is ∙ gone)) new.1)
  front_to_reader (Behind past x) p ps qs l is (inr kept) (inr new) =
      inr (new.0, subst (Each (IsFrame fixed x (number_after past))) (sym (is ∙ kept)) new)
  front_to_reader (Level past x a) p ps qs l is which line = line.0
  front_to_reader (Rest n x a) p ps qs l is which line = line.0

  losing_to_reader : (at : Stage) (p : Packet) (ps : List Packet) (l : Link H) → l.to_reader ≡ p ∷ ps → AtStage at l → AtStage at (record l { to_reader = ps })
  losing_to_reader at p ps l is h =
      with_to_reader fixed answer_of after since at l ps h (rest_to_reader at p ps (subst (ToReaderAt fixed at) is h.to_reader))

  -- .. out of the middle too
  less_to_reader : (place : ℕ) (at : Stage) (ps : List Packet) → ToReaderAt fixed at ps → ToReaderAt fixed at (lost_at place ps)
  less_to_reader place Fresh ps line = ap (lost_at place) line
  less_to_reader place (Behind past x) ps line = runs_lost (IsOldFrame fixed past) (IsFrame fixed x (number_after past)) place ps line
  less_to_reader place (Level past x a) ps line = each_lost (IsFrame fixed x (number_after past)) place ps line
  less_to_reader place (Rest n x a) ps line = each_lost (IsFrame fixed x n) place ps line

  pub missing_to_reader : (place : ℕ) (at : Stage) (l : Link H) → AtStage at l → AtStage at (record l { to_reader = lost_at place l.to_reader })
  missing_to_reader place at l h =
      with_to_reader fixed answer_of after since at l (lost_at place l.to_reader) h (less_to_reader place at l.to_reader h.to_reader)

  pub coming_to_reader : Assumed → (how : Delivery) (ps : List Packet) (l : Link H) → l.to_reader ≡ ps → (at : Stage) → AtStage at l
      → SaysWhatFitsIf answer_of after how ps l.reader → HoldsThen fixed answer_of after (ReadsFront answer_of after ps how l.reader since at) (link.to_reader answer_of after ps how l)
  coming_to_reader given how [] l is at h fits = (since, at, (refl, refl), h)
  coming_to_reader given Delivered (p ∷ ps) l is at h fits =
      reader_gets given at p (record l { to_reader = ps }) (losing_to_reader at p ps l is h)
      (front_to_reader at p ps ps (record l { to_reader = ps }) refl (inl refl) (subst (ToReaderAt fixed at) is h.to_reader)) fits
  coming_to_reader given Lost (p ∷ ps) l is at h fits = (since, at, (refl, refl), losing_to_reader at p ps l is h)
  coming_to_reader given Repeated (p ∷ ps) l is at h fits =
      reader_gets given at p l h (front_to_reader at p ps (p ∷ ps) l is (inr refl) (subst (ToReaderAt fixed at) is h.to_reader)) fits

  -- a packet in front of the line to the controller
  abbrev FrontToController : Stage → Packet → Link H → Type 0
  FrontToController Fresh p l = ⊥
  FrontToController (Behind past x) p l = SaysOld fixed since past p
  FrontToController (Level past x a) p l =
      SaysOld fixed since past p ⊎ (Says fixed since (number_after past) a p × Each (Says fixed since (number_after past) a) l.to_controller)
  FrontToController (Rest n x a) p l = Says fixed since n a p

  -- what an answer of the exchange before, or BUSY, or a refused number, is to the current one
  busy_is : Assumed → (p : Packet) → p ≡ answer fixed 0 reply.Busy → packets.meaning_of p ≡ NotTaken
  busy_is given p is = ap packets.meaning_of is ∙ given.hears 0 reply.Busy tt

  plain_is : Assumed → (n : ℕ) (x : Exchange) (a : Reply) (p : Packet) → Acted n x a → p ≡ answer fixed n a
      → packets.meaning_of p ≡ Plain a
  plain_is given n x a p acted is = ap packets.meaning_of is ∙ given.hears n a acted.0.fits ∙ given.plain a acted.0.plain

  identity_is : Assumed → (pd : PdId) (p : Packet) → ReplyFits (reply.PdId pd) → p ≡ answer fixed 0 (reply.PdId pd)
      → packets.meaning_of p ≡ Plain (reply.PdId pd)
  identity_is given pd p fits is = ap packets.meaning_of is ∙ given.hears 0 (reply.PdId pd) fits ∙ given.plain (reply.PdId pd) tt

  refused_is : Assumed → (p : Packet) → Refuses fixed since p → packets.meaning_of p ≡ NumberRefused
  refused_is given p (may, (n, is)) = ap packets.meaning_of is ∙ given.hears n (refused UnexpectedSequence) refusal_fits

  -- .. to a session with this exchange: nothing is settled
  abbrev IsIgnored : ℕ → Exchange → ℕ → Packet → Session → Type 0
  IsIgnored n x now p s = Ignored fixed n x (controller.hears p now s)

  old_is : Assumed → (past : Past) (p : Packet) (now : ℕ) (x : Exchange) (s : Session) → IsPast past → SaysOld fixed since past p
      → Asks fixed s.state (number_after past) x s → IsIgnored (number_after past) x now p s
  old_is given Start p now x s acted is asks = hears_other fixed p now 0 x s (inl (busy_is given p is)) asks
  old_is given (After n y b) p now x s acted (inl busy) asks = hears_other fixed p now (next_sequence n) x s (inl (busy_is given p busy)) asks
  old_is given (After n y b) p now x s acted (inr (inl is)) asks =
      hears_other fixed p now (next_sequence n) x s
      (inr ((λ same. next_differs n (sym same ∙ ap (λ q. q.sequence) is)), (b, plain_is given n y b p acted is))) asks
  old_is given (After n y b) p now x s acted (inr (inr (inl refused))) asks =
      hears_refused fixed p now (next_sequence n) x s (refused_is given p refused) asks
  old_is given (After n y b) p now x s acted (inr (inr (inr (first, (pd, fits, is))))) asks =
      hears_other fixed p now (next_sequence n) x s
      (inr ((λ same. next_above_zero n (sym same ∙ ap (λ q. q.sequence) is)), (reply.PdId pd, identity_is given pd p fits is))) asks

  -- .. and what stands anywhere on the line
  module _ (P : Packet → Type 0) (plainly : (p : Packet) → IsPlainlySaid p → P p) (refusing : (p : Packet) → MayRefuse since → packets.meaning_of p ≡ NumberRefused → P p) where
    said : Assumed → (n : ℕ) (x : Exchange) (a : Reply) → Acted n x a → (p : Packet) → Says fixed since n a p → P p
    said given n x a acted p (inl busy) = plainly p (inl (busy_is given p busy))
    said given n x a acted p (inr (inl is)) = plainly p (inr (a, plain_is given n x a p acted is))
    said given n x a acted p (inr (inr (inl refuses))) = refusing p refuses.0 (refused_is given p refuses)
    said given n x a acted p (inr (inr (inr (first, (pd, fits, is))))) = plainly p (inr (reply.PdId pd, identity_is given pd p fits is))

    said_before : Assumed → (past : Past) → IsPast past → (p : Packet) → SaysOld fixed since past p → P p
    said_before given Start acted p is = plainly p (inl (busy_is given p is))
    said_before given (After n y b) acted p is = said given n y b acted p is

    all_so : Assumed → (at : Stage) (l : Link H) → AtStage at l → Each P l.to_controller
    all_so given Fresh l h = subst (Each P) (sym h.to_controller) tt
    all_so given (Behind past x) l h = each_map (SaysOld fixed since past) P (said_before given past h.stage.0) l.to_controller h.to_controller
    all_so given (Level past x a) l h =
        runs_each (SaysOld fixed since past) (Says fixed since (number_after past) a) P (said_before given past h.stage.0)
        (said given (number_after past) x a h.stage.2) l.to_controller h.to_controller
    all_so given (Rest n x a) l h = each_map (Says fixed since n a) P (said given n x a h.stage) l.to_controller h.to_controller

  -- where the reader hasn't restarted all is said plainly; else a number may be refused too
  pub all_said : Assumed → (MayRefuse since → ⊥) → (at : Stage) (l : Link H) → AtStage at l → Each IsPlainlySaid l.to_controller
  all_said given never at l h = all_so IsPlainlySaid (λ p is. is) (λ p may refuses. absurd (never may)) given at l h

  pub all_read : Assumed → (at : Stage) (l : Link H) → AtStage at l → Each IsRead l.to_controller
  all_read given at l h = all_so IsRead (λ p is. inl is) (λ p may refuses. inr refuses) given at l h

  -- how far the session has come once this report is told
  abbrev Heard : Option Report → Stage → Link H → Type 0
  Heard r at m = (to : Stage) × HearsTo r at to × AtStage to m

  -- a packet that settles nothing
  passed_over : (at : Stage) (now : ℕ) (p : Packet) (l : Link H) → let heard = controller.hears p now l.controller.session in
      Announces heard.report [] [] → ControllerAt fixed at heard.session → AtStage at l → Heard heard.report at (link.controller_gets p now l)
  passed_over at now p l none stands h =
      let heard = controller.hears p now l.controller.session in
      (at, stays_at heard.report at none, with_session fixed answer_of after since at l heard.session h stands)

  -- the answer comes
  settles : (past : Past) (x : Exchange) (a : Reply) (now : ℕ) (p : Packet) (l : Link H) → AtStage (Level past x a) l
      → Settles fixed (number_after past) x a (controller.hears p now l.controller.session)
      → Each (Says fixed since (number_after past) a) l.to_controller
      → Heard (controller.hears p now l.controller.session).report (Level past x a) (link.controller_gets p now l)
  settles past x a now p l h (tells, rests) line = (
    Rest (number_after past) x a,
    inr (refl, tells),
    record { stage = h.stage.2; controller = rests; waiting = h.waiting; reader = h.reader; to_reader = h.to_reader; to_controller = line },
  )

  -- the answer to the opening, from the device that is there by then
  identity_comes : Assumed → (past : Past) (x : Exchange) (a : Reply) (now : ℕ) (p : Packet) (l : Link H) → AtStage (Level past x a) l
      → Introduces fixed (number_after past) p → Each (Says fixed since (number_after past) a) l.to_controller
      → Heard (controller.hears p now l.controller.session).report (Level past x a) (link.controller_gets p now l)
  identity_comes given (After n y b) x a now p l h (first, identity) line = absurd (next_above_zero n first)
  identity_comes given Start Polling a now p l h identity line = absurd h.stage.1
  identity_comes given Start (Asking c) a now p l h identity line = absurd h.stage.1
  identity_comes given Start Opening a now p l h (first, (pd, fits, is)) line =
      elim (hears_answer fixed p now 0 Opening (reply.PdId pd) l.controller.session (identity_is given pd p fits is) (pd, refl) h.controller) [
        | inl i ↦ passed_over (Level Start Opening a) now p l i.0 i.1 h
        | inr settled ↦ settles Start Opening a now p l h settled line
      ]

  controller_gets : Assumed → (at : Stage) (now : ℕ) (p : Packet) (l : Link H) → AtStage at l → FrontToController at p l
      → Heard (controller.hears p now l.controller.session).report at (link.controller_gets p now l)
  controller_gets given Fresh now p l h front = absurd front
  controller_gets given (Behind past x) now p l h old =
      let i = old_is given past p now x l.controller.session h.stage.0 old h.controller in passed_over (Behind past x) now p l i.0 i.1 h
  controller_gets given (Level past x a) now p l h (inl old) =
      let i = old_is given past p now x l.controller.session h.stage.0 old h.controller in passed_over (Level past x a) now p l i.0 i.1 h
  controller_gets given (Level past x a) now p l h (inr (inl busy, line)) =
      let i = hears_other fixed p now (number_after past) x l.controller.session (inl (busy_is given p busy)) h.controller in
      passed_over (Level past x a) now p l i.0 i.1 h
  controller_gets given (Level past x a) now p l h (inr (inr (inl is), line)) =
      elim (hears_answer fixed p now (number_after past) x a l.controller.session
      (plain_is given (number_after past) x a p h.stage.2 is) h.stage.2.1 h.controller) [
        | inl i ↦ passed_over (Level past x a) now p l i.0 i.1 h
        | inr settled ↦ settles past x a now p l h settled line
      ]
  controller_gets given (Level past x a) now p l h (inr (inr (inr (inr identity)), line)) = identity_comes given past x a now p l h identity line
  controller_gets given (Level past x a) now p l h (inr (inr (inr (inl refused)), line)) =
      let i = hears_refused fixed p now (number_after past) x l.controller.session (refused_is given p refused) h.controller in
      passed_over (Level past x a) now p l i.0 i.1 h
  controller_gets given (Rest n x a) now p l h front =
      let heard = hears_resting fixed p now n l.controller.session h.controller in
      passed_over (Rest n x a) now p l (ap settled_in heard.0, ap reported_in heard.0) heard.1 h

  rest_to_controller : (at : Stage) (p : Packet) (ps : List Packet) → ToControllerAt fixed since at (p ∷ ps) → ToControllerAt fixed since at ps
  rest_to_controller Fresh p ps line = absurd cc
  rest_to_controller (Behind past x) p ps line = line.1
  rest_to_controller (Level past x a) p ps (inl old) = old.1
  rest_to_controller (Level past x a) p ps (inr new) = runs_last (SaysOld fixed since past) (Says fixed since (number_after past) a) ps new.1
  rest_to_controller (Rest n x a) p ps line = line.1

  front_to_controller : (at : Stage) (p : Packet) (ps qs : List Packet) (l : Link H) → l.to_controller ≡ qs → (qs ≡ ps) ⊎ (qs ≡ p ∷ ps)
      → ToControllerAt fixed since at (p ∷ ps) → FrontToController at p l
  front_to_controller Fresh p ps qs l is which line = absurd cc
  front_to_controller (Behind past x) p ps qs l is which line = line.0
  front_to_controller (Level past x a) p ps qs l is which (inl old) = inl old.0
  front_to_controller (Level past x a) p ps qs l is (inl gone) (inr new) =
      inr (new.0, subst (Each (Says fixed since (number_after past) a)) (sym (is ∙ gone)) new.1)
  front_to_controller (Level past x a) p ps qs l is (inr kept) (inr new) =
      inr (new.0, subst (Each (Says fixed since (number_after past) a)) (sym (is ∙ kept)) new)
  front_to_controller (Rest n x a) p ps qs l is which line = line.0

  losing_to_controller : (at : Stage) (p : Packet) (ps : List Packet) (l : Link H) → l.to_controller ≡ p ∷ ps → AtStage at l
      → AtStage at (record l { to_controller = ps })
  losing_to_controller at p ps l is h =
      with_to_controller fixed answer_of after since at l ps h
      (rest_to_controller at p ps (subst (ToControllerAt fixed since at) is h.to_controller))

  -- .. out of the middle too
  less_to_controller : (place : ℕ) (at : Stage) (ps : List Packet) → ToControllerAt fixed since at ps → ToControllerAt fixed since at (lost_at place ps)
  less_to_controller place Fresh ps line = ap (lost_at place) line
  less_to_controller place (Behind past x) ps line = each_lost (SaysOld fixed since past) place ps line
  less_to_controller place (Level past x a) ps line = runs_lost (SaysOld fixed since past) (Says fixed since (number_after past) a) place ps line
  less_to_controller place (Rest n x a) ps line = each_lost (Says fixed since n a) place ps line

  pub missing_to_controller : (place : ℕ) (at : Stage) (l : Link H) → AtStage at l → AtStage at (record l { to_controller = lost_at place l.to_controller })
  missing_to_controller place at l h =
      with_to_controller fixed answer_of after since at l (lost_at place l.to_controller) h (less_to_controller place at l.to_controller h.to_controller)

  -- nothing is heard
  unheard : (at : Stage) (m : Link H) → AtStage at m → Heard None at m
  unheard at m h = (at, stays_at None at (refl, refl), h)

  pub coming_to_controller : Assumed → (how : Delivery) (now : ℕ) (ps : List Packet) (l : Link H) → l.to_controller ≡ ps → (at : Stage) → AtStage at l
      → Heard (told_by_front how ps now l.controller.session) at (link.to_controller ps how now l)
  coming_to_controller given Delivered now [] l is at h = unheard at l h
  coming_to_controller given Lost now [] l is at h = unheard at l h
  coming_to_controller given Repeated now [] l is at h = unheard at l h
  coming_to_controller given Delivered now (p ∷ ps) l is at h =
      controller_gets given at now p (record l { to_controller = ps }) (losing_to_controller at p ps l is h)
      (front_to_controller at p ps ps (record l { to_controller = ps }) refl (inl refl) (subst (ToControllerAt fixed since at) is h.to_controller))
  coming_to_controller given Lost now (p ∷ ps) l is at h = unheard at (record l { to_controller = ps }) (losing_to_controller at p ps l is h)
  coming_to_controller given Repeated now (p ∷ ps) l is at h =
      controller_gets given at now p l h (front_to_controller at p ps (p ∷ ps) l is (inr refl) (subst (ToControllerAt fixed since at) is h.to_controller))
