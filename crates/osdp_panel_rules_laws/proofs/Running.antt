-- A panel of our controller breaks no rule, whatever is called, said, heard late and lost.
use Rattle.osdp_panel_rules_laws.proofs.Common.{◌≡◌, ◌≢◌, ◌⊎◌, inl, inr, ℕ, Bool, true, false, cond, eqb, not, ◌&&◌, ◌||◌, List, [], ◌∷◌, Option, Some, None, refl, sym, subst, ap, ◌∙◌, eqb-true, false≢true, ControllerConfig, Session, State, Closed, Quiet, Idle, Waiting, Pausing, is_from_reader, hears, seen, Packet, next_sequence, after_packet, after_sent, nothing_known, is_answer, said_to, says, judged, Aspect, Known, Said, Astray, Busy, Noise, Refusal, Silence, Line, Rule, address_of, came, known_of, looks, said, shown, verdict_of, Finding, Broken, Nothing, Verdict, verdict_after, Breaks, BreaksNoRule, Follows, IsTo, Next, Altered, Out, needs_clock, WasSaidTo}
use Rattle.osdp_controller.specs.declared.fault.ControllerFault.{ControllerFault}
use Rattle.osdp_controller.specs.Machine.{Machine, after_begin, after_frame, after_retarget, after_submit, after_tick, begin_refusal, changed_unless, or_no_device, refused_unless_closed, retarget_refusal, submit_refusal}
use Rattle.osdp_rules.specs.declared.verdict.Verdict.TheVariants as verdict
use Rattle.osdp_panel_rules.specs.declared.aspect.Aspect.TheVariants as rule
use Rattle.osdp_panel_rules_laws.proofs.Fitting.{AreTaken, Fits, FitsIn, Suits, TickFits, frame, hear_fits, tick_fits}
use Rattle.osdp_panel_rules_laws.proofs.Following.{is_known, next_above_zero, next_differs}
use Rattle.osdp_panel_rules_laws.proofs.Hearing.{at_device, is_answered, last_said, same_some, none_some}
use Rattle.osdp_panel_rules_laws.proofs.Judged.{Does, is_found}
use Rattle.osdp_panel_rules_laws.proofs.Saying.{from_own}
use Rattle.osdp_panel_rules_laws.specs.Runs.{AreAllowed, Anew, Arrival, Begin, Hear, IsAllowed, Move, Restart, Retarget, Say, Submit, Tested, Tick, Withdraw, after_move, after_sending, lost, new_tested, run, sent_at, spoiled, whole}

-- ---- a packet that follows the last one in order breaks no rule

module _ (address : ℕ) (line : Line) (moment : ℕ) (q : Packet) (suits : q.address ≡ address → Suits (known_of address line) q) where
  abbrev IsInOrder : Packet → Type 0
  IsInOrder p = (p ≡ q) ⊎ (q.sequence ≡ 0) ⊎ ((q.sequence ≡ next_sequence p.sequence) × ((known_of address line).answered ≡ true))

  in_turn : (p : Packet) → IsInOrder p → (q.sequence ≢ 0) × (q.sequence ≢ p.sequence) × (q.sequence ≢ next_sequence p.sequence) → ⊥
  in_turn p (inl same) out = out.1 (ap (λ (x : Packet). x.sequence) (sym same))
  in_turn p (inr (inl zero)) out = out.0 zero
  in_turn p (inr (inr next)) out = out.2 next.0

  unaltered : (p : Packet) → IsInOrder p → (q ≢ p) × (q.sequence ≢ 0) × (q.sequence ≡ p.sequence) → ⊥
  unaltered p (inl same) other = other.0 (sym same)
  unaltered p (inr (inl zero)) other = other.1 zero
  unaltered p (inr (inr next)) other = next_differs p.sequence (sym next.0 ∙ other.2)

  not_next : (p : Packet) → IsInOrder p → (known_of address line).answered ≡ false → q.sequence ≡ next_sequence p.sequence → ⊥
  not_next p (inl same) none is = next_differs p.sequence (sym is ∙ ap (λ (x : Packet). x.sequence) (sym same))
  not_next p (inr (inl zero)) none is = next_above_zero p.sequence (sym is ∙ zero)
  not_next p (inr (inr next)) none is = false≢true (sym none ∙ next.1)

  turn_kept : (p : Packet) (b : Bool) (s : Said) (wait : ℕ) → Follows address line moment q p b s Out wait → ⊥
  turn_kept p b s wait f = in_turn p (suits f.to.there p (is_known address line moment q p b s Out wait f).last) f.comes

  copy_kept : (p : Packet) (b : Bool) (s : Said) (wait : ℕ) → Follows address line moment q p b s Altered wait → ⊥
  copy_kept p b s wait f = unaltered p (suits f.to.there p (is_known address line moment q p b s Altered wait f).last) f.comes

  next_kept : (p : Packet) (s : Said) (wait : ℕ) → Follows address line moment q p false s Next wait → ⊥
  next_kept p s wait f =
      let h = is_known address line moment q p false s Next wait f in
      not_next p (suits f.to.there p h.last) h.answers f.comes

  breaks_none : (aspect : Aspect) → needs_clock aspect ≡ false → q.reply ≡ false → Breaks address line moment q aspect → ⊥
  breaks_none rule.Asks free asks h = false≢true (sym asks ∙ h.0)
  breaks_none rule.Turn free asks (p, b, s, wait, f) = turn_kept p b s wait f
  breaks_none rule.Copy free asks (p, b, s, wait, f) = copy_kept p b s wait f
  breaks_none rule.Silence free asks (p, wait, f) = next_kept p Silence wait f
  breaks_none rule.Order free asks (p, wait, order, f) = next_kept p Silence wait f
  breaks_none rule.Noise free asks (p, wait, f) = next_kept p Noise wait f
  breaks_none rule.Astray free asks (p, wait, f) = next_kept p Astray wait f
  breaks_none rule.Busy free asks (p, wait, f) = next_kept p Busy wait f
  breaks_none rule.Refusal free asks (inl (inl (p, wait, f))) = next_kept p Refusal wait f
  breaks_none rule.Refusal free asks (inl (inr (p, wait, f))) = turn_kept p false Refusal wait f
  breaks_none rule.Refusal free asks (inr (p, wait, f)) = copy_kept p false Refusal wait f
  breaks_none rule.Lapse free asks (inl (p, wait, f)) = next_kept p Silence wait f
  breaks_none rule.Lapse free asks (inr (p, wait, f)) = turn_kept p false Silence wait f
  breaks_none rule.Wait free asks h = absurd (false≢true (sym free))
  breaks_none rule.Online free asks h = absurd (false≢true (sym free))
  breaks_none aspect free asks h = absurd h

  unbroken_found : (aspect : Aspect) → needs_clock aspect ≡ false → q.reply ≡ false → judged aspect address (known_of address line) q moment ≢ Broken
  unbroken_found aspect free asks is =
      breaks_none aspect free asks (subst (λ f. Does address line moment q f aspect) is (is_found address line moment q aspect))

-- .. and leaves the verdict
stays : (v : Verdict) (f : Finding) → v ≢ verdict.Broken → f ≢ Broken → verdict_after v f ≢ verdict.Broken
stays verdict.Broken f unbroken fine is = unbroken refl
stays v Broken unbroken fine is = fine refl
stays verdict.Unclear f unbroken fine is = cc
stays verdict.Ok f unbroken fine is = cc
stays verdict.Either f unbroken fine is = cc

module _ (rule : Rule) (free : needs_clock rule.aspect ≡ false) (address : ℕ) where
  abbrev IsUnbroken : Line → Type 0
  IsUnbroken line = verdict_of rule line ≢ verdict.Broken

  shows_nothing : (line : Line) → IsUnbroken line → verdict_after (verdict_of rule line) Nothing ≢ verdict.Broken
  shows_nothing line unbroken = stays (verdict_of rule line) Nothing unbroken (λ e. cc)

  sent_unbroken : (line : Line) (number moment : ℕ) (q : Packet) → address_of line ≡ address → q.reply ≡ false
      → (q.address ≡ address → Suits (known_of address line) q) → IsUnbroken line → IsUnbroken (came number moment (Some q) ∷ line)
  sent_unbroken line number moment q at asks suits unbroken =
      stays (verdict_of rule line) (shown rule (came number moment (Some q)) line) unbroken (by_looks (looks rule line))
    where
      by_looks : (b : Bool) → cond b (judged rule.aspect (address_of line) (known_of (address_of line) line) q moment) Nothing ≢ Broken
      by_looks true =
          subst (λ a. judged rule.aspect a (known_of a line) q moment ≢ Broken) (sym at)
          (unbroken_found address line moment q suits rule.aspect free asks)
      by_looks false = λ e. cc

  -- ---- what is known beside the state

  -- two devices that know the same last packet, and the second at least as much of answers
  record KnowsMore (k j : Known) : Type 0 where
    pub last : j.last ≡ k.last
    pub answered : k.answered ≡ true → j.answered ≡ true

  suits_more : (k j : Known) (f : Packet) → KnowsMore k j → Suits k f → Suits j f
  suits_more k j f more suits p last = elim (suits p (sym more.last ∙ last)) [
    | inl same ↦ inl same
    | inr other ↦ elim other [
      | inl zero ↦ inr (inl zero)
      | inr next ↦ inr (inr (next.0, more.answered next.1))
    ]
  ]

  fits_more : (state : State) (number : ℕ) (config : ControllerConfig) (sent : Option Packet) (k j : Known) → KnowsMore k j
      → FitsIn state number config sent k → FitsIn state number config sent j
  fits_more Closed number config sent k j more fits = tt
  fits_more (Quiet until) number config sent k j more fits = tt
  fits_more (Idle due) number config sent k j more fits = λ p last.
      let rest = fits p (sym more.last ∙ last) in
      (rest.0, more.answered rest.1)
  fits_more (Waiting until sends o) number config sent k j more fits = (fits.0, suits_more k j (frame number config o.exchange) more fits.1)
  fits_more (Pausing until o) number config sent k j more fits = (fits.0, suits_more k j (frame number config o.exchange) more fits.1)

  -- .. and one that knows nothing
  fits_nothing : (state : State) (number : ℕ) (config : ControllerConfig) (sent : Option Packet) (k : Known) → FitsIn state number config sent k
      → FitsIn state number config sent nothing_known
  fits_nothing Closed number config sent k fits = tt
  fits_nothing (Quiet until) number config sent k fits = tt
  fits_nothing (Idle due) number config sent k fits = λ p last. absurd (none_some p last)
  fits_nothing (Waiting until sends o) number config sent k fits = (fits.0, λ p last. absurd (none_some p last))
  fits_nothing (Pausing until o) number config sent k fits = (fits.0, λ p last. absurd (none_some p last))

  -- ---- each move

  abbrev HoldsOf : Machine → Option Packet → Known → Type 0
  HoldsOf m sent k = m.session.config.address ≡ address → Fits m.session sent k

  record Holds (t : Tested) : Type 0 where
    pub at : address_of t.line ≡ address
    pub fits : HoldsOf t.panel t.sent (known_of address t.line)
    pub unbroken : IsUnbroken t.line

  unless : (o : Option ControllerFault) (m n : Machine) (sent : Option Packet) (k : Known) → HoldsOf m sent k
      → (o ≡ None → HoldsOf n sent k) → HoldsOf (changed_unless o m n) sent k
  unless None m n sent k old new = new refl
  unless (Some fault) m n sent k old new = old

  retargeted : (state : State) (to number : ℕ) (config : ControllerConfig) (sent : Option Packet) (k : Known)
      → or_no_device (refused_unless_closed state) to ≡ None → FitsIn state number config sent k
  retargeted Closed to number config sent k none = tt
  retargeted (Quiet until) to number config sent k none = tt
  retargeted _ to number config sent k none = absurd cc

  -- ---- what is said, and what the panel hears

  answered_more : (o : Option Packet) (k : Known) (r : Packet) → k.answered ≡ true → (said_to o k r).answered ≡ true
  answered_more None k r is = is
  answered_more (Some p) k r is = ap (λ b. b || is_answer (says p r)) is

  said_more : (reply : Option Packet) (line : Line) → KnowsMore (known_of address line) (known_of address (said reply ∷ line))
  said_more None line = record { last = refl; answered = λ is. is }
  said_more (Some r) line =
      let k = known_of address line in
      record { last = (last_said k.last k r).0; answered = answered_more k.last k r }

  -- the panel hears a packet: of the device, said to what it sent last, or of another
  hear_holds : (r : Packet) (now : ℕ) (t : Tested) → HoldsOf t.panel t.sent (known_of address t.line)
      → (t.panel.session.config.address ≡ address → is_from_reader r t.panel.session ≡ true
      → AreTaken (t.panel.session.config.address ≡ address) t.sent (known_of address t.line) r t.panel.session)
      → HoldsOf (after_frame r now t.panel) t.sent (known_of address t.line)
  hear_holds r now t holds taken here =
      let s = t.panel.session in
      let k = known_of address t.line in
      elim (hear_fits (s.config.address ≡ address) t.sent k r now s holds taken) [
        | inl stays ↦ stays.1 (ap (λ (c : ControllerConfig). c.address) (sym stays.0) ∙ here)
        | inr closed ↦ subst (λ state. FitsIn state (hears r now s).session.number (hears r now s).session.config t.sent k) (sym closed) tt
      ]

  first_part : (a b c : Bool) → (a && b && c) ≡ true → (a ≡ true) × (b ≡ true)
  first_part true true c is = (refl, refl)
  first_part true false c is = absurd (false≢true is)
  first_part false b c is = absurd (false≢true is)

  -- an answer to what it sent last has answered it
  own_taken : (r : Packet) (t : Tested) → IsAllowed address (Hear r 0) t → t.panel.session.config.address ≡ address
      → is_from_reader r t.panel.session ≡ true
      → AreTaken (t.panel.session.config.address ≡ address) t.sent (known_of address t.line) r t.panel.session
  own_taken r t allowed here from x is number answer =
      let s = t.panel.session in
      let f = frame s.number s.config x in
      let parts = first_part r.reply (eqb r.address s.config.address) (not r.block) from in
      let h = allowed parts.0 (eqb-true r.address s.config.address parts.1 ∙ here) in
      let same : h.0 ≡ f = same_some h.0 f (sym h.1 ∙ is) in
      let to : WasSaidTo address t.line f r = subst (λ p. WasSaidTo address t.line p r) same h.2 in
      let answered = is_answered address t.line f (r, to, record { from = from_own f r from; number = number; means = answer }) in
      λ p last. (ap (λ (y : Packet). y.sequence) (same_some p f (sym last ∙ answered.last)), answered.answered)

  -- ---- a tick

  module _ (t : Tested) (now : ℕ) (holds : Holds t) where
    abbrev s : Session
    s = t.panel.session

    abbrev k : Known
    k = known_of address t.line

    abbrev ticked : Tested
    ticked = record t { panel = after_tick now t.panel }

    same_address : (c d : ControllerConfig) → d ≡ c → d.address ≡ address → c.address ≡ address
    same_address c d same here = sym (ap (λ (x : ControllerConfig). x.address) same) ∙ here

    -- the frame is what the device knows last
    sent_suits : (f : Packet) (j : Known) (moment : ℕ) → j ≡ after_sent moment k f → Suits j f
    sent_suits f j moment is p last = inl (sym (same_some f p (sym (ap (λ (k : Known). k.last) is) ∙ last)))

    tick_holds : (o : Option Packet) (arrival : Arrival) → TickFits (s.config.address ≡ address) t.sent k o (seen now s) ticked.panel.session
        → Holds (after_sending o arrival ticked)
    tick_holds None arrival stays = record {
      at = holds.at;
      fits = λ here. stays.fits (same_address s.config ticked.panel.session.config stays.config here);
      unbroken = holds.unbroken;
    }
    tick_holds (Some f) lost sends = record {
      at = holds.at;
      fits = λ here. sends.out (Some f) k (refl, sends.suits (same_address s.config ticked.panel.session.config sends.config here));
      unbroken = holds.unbroken;
    }
    tick_holds (Some f) (spoiled number moment) sends = record {
      at = holds.at;
      fits = λ here. sends.out (Some f) k (refl, sends.suits (same_address s.config ticked.panel.session.config sends.config here));
      unbroken = shows_nothing t.line holds.unbroken;
    }
    tick_holds (Some f) (whole number moment) sends = record {
      at = holds.at;
      fits = λ here.
          let at = same_address s.config ticked.panel.session.config sends.config here in
          let to : IsTo address f = record { asks = sends.command; there = sends.address ∙ at } in
          sends.out (Some f) (after_packet address moment k f)
          (refl, sent_suits f (after_packet address moment k f) moment (at_device address f moment k to));
      unbroken = sent_unbroken t.line number moment f holds.at sends.command (λ to. sends.suits (sym sends.address ∙ to)) holds.unbroken;
    }

  with_panel : (t : Tested) (m : Machine) → Holds t → HoldsOf m t.sent (known_of address t.line) → Holds (record t { panel = m })
  with_panel t m holds fits = record { at = holds.at; fits = fits; unbroken = holds.unbroken }

  move_holds : (move : Move) (t : Tested) → Holds t → IsAllowed address move t → Holds (after_move address move t)
  move_holds (Restart config room) t holds allowed = record { at = holds.at; fits = λ here. tt; unbroken = holds.unbroken }
  move_holds (Submit c) t holds allowed =
      with_panel t (changed_unless (submit_refusal c t.panel) t.panel (after_submit c t.panel)) holds
      (unless (submit_refusal c t.panel) t.panel (after_submit c t.panel) t.sent (known_of address t.line) holds.fits (λ _. holds.fits))
  move_holds Withdraw t holds allowed = record { at = holds.at; fits = holds.fits; unbroken = holds.unbroken }
  move_holds (Begin now) t holds allowed =
      with_panel t (changed_unless (begin_refusal t.panel) t.panel (after_begin now t.panel)) holds
      (unless (begin_refusal t.panel) t.panel (after_begin now t.panel) t.sent (known_of address t.line) holds.fits (λ _ here. tt))
  move_holds (Retarget to) t holds allowed =
      let s = t.panel.session in
      with_panel t (changed_unless (retarget_refusal to t.panel) t.panel (after_retarget to t.panel)) holds
      (unless (retarget_refusal to t.panel) t.panel (after_retarget to t.panel) t.sent (known_of address t.line) holds.fits
      (λ none here. retargeted s.state to s.number (record s.config { address = to }) t.sent (known_of address t.line) none))
  move_holds (Tick now arrival) t holds allowed =
      tick_holds t now holds (sent_at now t.panel) arrival
      (tick_fits (t.panel.session.config.address ≡ address) t.sent (known_of address t.line) now t.panel.session t.panel.waiting holds.fits)
  move_holds (Say reply) t holds allowed =
      let s = t.panel.session in
      record {
        at = holds.at;
        fits = λ here. fits_more s.state s.number s.config t.sent (known_of address t.line) (known_of address (said reply ∷ t.line))
            (said_more reply t.line) (holds.fits here);
        unbroken = shows_nothing t.line holds.unbroken;
      }
  move_holds (Hear r now) t holds allowed =
      with_panel t (after_frame r now t.panel) holds (hear_holds r now t holds.fits (own_taken r t allowed))
  move_holds Anew t holds allowed =
      let s = t.panel.session in
      record {
        at = refl;
        fits = λ here. fits_nothing s.state s.number s.config t.sent (known_of address t.line) (holds.fits here);
        unbroken = shows_nothing t.line holds.unbroken;
      }

  all_hold : (moves : List Move) (t : Tested) → Holds t → AreAllowed address moves t → Holds (run address moves t)
  all_hold [] t holds allowed = holds
  all_hold (move ∷ moves) t holds allowed = all_hold moves (after_move address move t) (move_holds move t holds allowed.0) allowed.1

pub breaks_no_rule : BreaksNoRule
breaks_no_rule rule free address config room moves allowed =
    (all_hold rule free address moves (new_tested address config room) (record { at = refl; fits = λ here. tt; unbroken = λ e. cc }) allowed).unbroken
