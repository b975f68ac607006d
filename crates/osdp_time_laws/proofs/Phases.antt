-- What a session may still take, from one call to the next.
use Rattle.osdp_time_laws.proofs.Common.{◌≡◌, ◌∙◌, ◌⊎◌, ap, subst, inl, inr, ℕ, zero, suc, ◌+◌, ◌-◌, ◌*◌, ◌^◌, ◌≤◌, ◌<◌, Bool, true, false, List, ◌∷◌, None, refl, arith, All, nat_le, nat_lt, min-le_left, suc-mul, leb-false, ltb-false, ltb-true, All-head, All-tail, Packet, next_sequence, Command, ControllerConfig, Opening, Polling, Asking, Outstanding, ReplyMeaning, Session, State, Closed, Quiet, Idle, Waiting, Pausing, is_not_taken, meaning_of, Heard, hears, hears_busy, loses, waiting_hears, numbered_in, after_send, at_rest, closed, later, seen, is_closed, Ticked, begins, gives_up, sends_frame, stays, ticks_in, tries_again, either_way, idle_way, Call, Hear, OfEach, either_frame, of_answer, of_pause, of_unread, is_tick, IsNotBusy}
use Rattle.osdp_controller.specs.declared.meaning.ReplyMeaning.TheVariants.{NotTaken, Damaged, NumberRefused, Plain, Unreadable}
use Rattle.osdp_controller.specs.declared.report.LostCause.TheVariants as causes
use Rattle.osdp_time_laws.proofs.Duties.{Due, due_ahead, due_anew, due_kept, due_now, until_of}

-- a wait ends no later than it says
pub later_within : (wait : ℕ) (s : Session) → later wait s ≤ s.greatest + wait
later_within wait s = min-le_left (s.greatest + wait) (2 ^ 64 - 1)

-- arithmetic on moments alone
pub first_fits : (g d late wait m q end : ℕ) → g ≤ d + late → d + late + (((wait + late) + m) + q) ≤ end → (g + wait) + late + (m + q) ≤ end
first_fits g d late wait m q end within fits = omega arith

pub again_fits : (g d late wait m q end : ℕ) → g ≤ d + late → d + late + ((m + (wait + late)) + q) ≤ end → (g + wait) + late + (m + q) ≤ end
again_fits g d late wait m q end within fits = omega arith

pub pause_fits : (g d late wait m s q end : ℕ) → g ≤ d + late → d + late + (m + (q + ((wait + late) + s))) ≤ end → (g + wait) + late + (s + q) ≤ end
pause_fits g d late wait m s q end within fits = omega arith

pub is_near : (a rest end : ℕ) → a + rest ≤ end → a ≤ end
is_near a rest end fits = omega arith

-- settings with so many sends after the first, an end, and whether what follows the first tick counts
module _ (late end : ℕ) (c : ControllerConfig) (more : ℕ) (Counts : Type 0) where
  -- one send and its wait, a round of them, and what a BUSY costs
  abbrev pub one : ℕ
  one = c.reply_wait + late

  abbrev pub round : ℕ
  round = one + more * one

  abbrev pub pause : ℕ
  pause = (c.busy_wait + late) + round

  -- so many more BUSY answers are allowed, or none is read
  abbrev pub Left : ℕ → ℕ → List Call → Type 0
  Left q busies calls = (busies + q ≡ c.busy_limit) ⊎ All IsNotBusy calls

  -- a tick sends as the first of a round
  pub record Ready (until busies greatest : ℕ) (calls : List Call) : Type 0 where
    pub by_moment : ℕ
    pub busies_left : ℕ
    pub due : Due late by_moment until greatest calls
    pub near : by_moment + late ≤ end
    pub left : Left busies_left busies calls
    pub fits : Counts → by_moment + late + (round + busies_left * pause) ≤ end

  -- a frame has gone out
  pub record Sent (until sends busies greatest : ℕ) (calls : List Call) : Type 0 where
    pub by_moment : ℕ
    pub busies_left : ℕ
    pub sends_left : ℕ
    pub due : Due late by_moment until greatest calls
    pub left : Left busies_left busies calls
    pub enough : more + 1 ≤ sends + sends_left
    pub fits : by_moment + late + (sends_left * one + busies_left * pause) ≤ end

  abbrev pub Phase : List Call → State → ℕ → Type 0
  Phase calls Closed greatest = Unit {0}
  Phase calls (Quiet until) greatest = Ready until 0 greatest calls
  Phase calls (Idle due) greatest = Ready due 0 greatest calls
  Phase calls (Waiting until sends o) greatest = Sent until sends o.busies greatest calls
  Phase calls (Pausing until o) greatest = Ready until o.busies greatest calls

  pub left_tail : (q busies : ℕ) (call : Call) (calls : List Call) → Left q busies (call ∷ calls) → Left q busies calls
  left_tail q busies call calls (inl few) = inl few
  left_tail q busies call calls (inr none) = inr (All-tail IsNotBusy call calls none)

  -- what becomes of the moment by which a tick comes
  pub ready_by : (until busies greatest next : ℕ) (calls : List Call)
      → ((d : ℕ) → Due late d until greatest calls → Due late d until next calls) → Ready until busies greatest calls → Ready until busies next calls
  ready_by until busies greatest next calls f r =
      record { by_moment = r.by_moment; busies_left = r.busies_left; due = f r.by_moment r.due; near = r.near; left = r.left; fits = r.fits }

  pub sent_by_then : (until sends busies greatest next : ℕ) (calls : List Call)
      → ((d : ℕ) → Due late d until greatest calls → Due late d until next calls) → Sent until sends busies greatest calls → Sent until sends busies next calls
  sent_by_then until sends busies greatest next calls f r =
      record { by_moment = r.by_moment; busies_left = r.busies_left; sends_left = r.sends_left; due = f r.by_moment r.due; left = r.left; enough = r.enough; fits = r.fits }

  -- the call before the others is done
  pub ready_passed : (until busies greatest : ℕ) (call : Call) (calls : List Call)
      → ((d : ℕ) → Due late d until greatest (call ∷ calls) → Due late d until greatest calls) → Ready until busies greatest (call ∷ calls)
      → Ready until busies greatest calls
  ready_passed until busies greatest call calls f r =
      record { by_moment = r.by_moment; busies_left = r.busies_left; due = f r.by_moment r.due; near = r.near; left = left_tail r.busies_left busies call calls r.left; fits = r.fits }

  pub sent_passed : (until sends busies greatest : ℕ) (call : Call) (calls : List Call)
      → ((d : ℕ) → Due late d until greatest (call ∷ calls) → Due late d until greatest calls) → Sent until sends busies greatest (call ∷ calls)
      → Sent until sends busies greatest calls
  sent_passed until sends busies greatest call calls f r =
      record { by_moment = r.by_moment; busies_left = r.busies_left; sends_left = r.sends_left; due = f r.by_moment r.due; left = left_tail r.busies_left busies call calls r.left; enough = r.enough; fits = r.fits }

  -- the next moment that is seen lies within the end
  pub ready_near : (until busies greatest : ℕ) (calls : List Call) → Ready until busies greatest calls → greatest ≤ end
  ready_near until busies greatest calls r =
      let within : greatest ≤ r.by_moment + late = r.due.0 in let near : r.by_moment + late ≤ end = r.near in omega arith

  pub sent_near : (until sends busies greatest : ℕ) (calls : List Call) → Sent until sends busies greatest calls → greatest ≤ end
  sent_near until sends busies greatest calls r =
      let within : greatest ≤ r.by_moment + late = r.due.0 in
      let near : r.by_moment + late ≤ end = is_near (r.by_moment + late) (r.sends_left * one + r.busies_left * pause) end r.fits in omega arith

  -- the first send of a round
  pub first_send : (until next busies greatest : ℕ) (call : Call) (calls : List Call) → Counts → next ≤ greatest + c.reply_wait
      → Ready until busies greatest (call ∷ calls) → Sent next 1 busies greatest calls
  first_send until next busies greatest call calls counts before r = record {
    by_moment = greatest + c.reply_wait;
    busies_left = r.busies_left;
    sends_left = more;
    due = due_anew late next greatest c.reply_wait calls before;
    left = left_tail r.busies_left busies call calls r.left;
    enough = omega arith;
    fits = first_fits greatest r.by_moment late c.reply_wait (more * one) (r.busies_left * pause) end r.due.0 (r.fits counts);
  }

  -- one more of the round
  more_send : (k q d until next sends busies greatest : ℕ) (call : Call) (calls : List Call) → next ≤ greatest + c.reply_wait → sends < more + 1
      → Due late d until greatest (call ∷ calls) → Left q busies (call ∷ calls) → more + 1 ≤ sends + k
      → d + late + (k * one + q * pause) ≤ end → Sent next (sends + 1) busies greatest calls
  more_send zero q d until next sends busies greatest call calls before few due left enough fits = absurd (omega arith)
  more_send (suc k) q d until next sends busies greatest call calls before few due left enough fits = record {
    by_moment = greatest + c.reply_wait;
    busies_left = q;
    sends_left = k;
    due = due_anew late next greatest c.reply_wait calls before;
    left = left_tail q busies call calls left;
    enough = omega arith;
    fits = again_fits greatest d late c.reply_wait (k * one) (q * pause) end due.0
        (subst (λ (n : ℕ). d + late + (n + q * pause) ≤ end) (suc-mul k one) fits);
  }

  pub next_send : (until next sends busies greatest : ℕ) (call : Call) (calls : List Call) → next ≤ greatest + c.reply_wait → sends < more + 1
      → Sent until sends busies greatest (call ∷ calls) → Sent next (sends + 1) busies greatest calls
  next_send until next sends busies greatest call calls before few r =
      more_send r.sends_left r.busies_left r.by_moment until next sends busies greatest call calls before few r.due r.left r.enough r.fits

  -- one more BUSY
  pause_few : (m q d until next busies greatest : ℕ) (call : Call) (calls : List Call) → next ≤ greatest + c.busy_wait → busies < c.busy_limit
      → greatest ≤ d + late → busies + q ≡ c.busy_limit → d + late + (m + q * pause) ≤ end → Ready next (busies + 1) greatest calls
  pause_few m zero d until next busies greatest call calls before few within left fits = absurd (omega arith)
  pause_few m (suc q) d until next busies greatest call calls before few within left fits =
      let after = pause_fits greatest d late c.busy_wait m round (q * pause) end within
      (subst (λ (n : ℕ). d + late + (m + n) ≤ end) (suc-mul q pause) fits) in
      record {
        by_moment = greatest + c.busy_wait;
        busies_left = q;
        due = due_anew late next greatest c.busy_wait calls before;
        near = is_near (greatest + c.busy_wait + late) (round + q * pause) end after;
        left = inl (omega arith);
        fits = λ counts. after;
      }

  pub pauses_next : (until next sends busies greatest : ℕ) (call : Call) (calls : List Call) → next ≤ greatest + c.busy_wait → busies < c.busy_limit
      → (r : Sent until sends busies greatest (call ∷ calls)) → busies + r.busies_left ≡ c.busy_limit → Ready next (busies + 1) greatest calls
  pauses_next until next sends busies greatest call calls before few r left =
      pause_few (r.sends_left * one) r.busies_left r.by_moment until next busies greatest call calls before few r.due.0 left r.fits

  -- NAK 1: the deadline is now
  pub sent_now : (until sends busies greatest : ℕ) (calls : List Call) → Sent until sends busies greatest calls → Sent greatest sends busies greatest calls
  sent_now until sends busies greatest calls r =
      record { by_moment = r.by_moment; busies_left = r.busies_left; sends_left = r.sends_left; due = due_now late r.by_moment until greatest calls r.due; left = r.left; enough = r.enough; fits = r.fits }

  -- ---- what holds of a session, by a test of its state

  module _ (test : State → Bool) (not_closed : test Closed ≡ false) where
    abbrev pub Holds : List Call → Session → Type 0
    Holds calls s = (s.greatest ≤ end) × (test s.state ≡ true → (s.config ≡ c) × Phase calls s.state s.greatest)

    pub no_session : (calls : List Call) (s : Session) → s.greatest ≤ end → s.state ≡ Closed → Holds calls s
    no_session calls s near is = (near, λ so. absurd (let no : test s.state ≡ false = ap test is ∙ not_closed in cc))

    -- each call: the phase with the moment that is seen then
    abbrev Moves : List Call → ℕ → ℕ → ℕ → Type 0
    Moves calls until greatest next = (d : ℕ) → Due late d until greatest calls → Due late d until next calls

    pub phase_seen : (calls : List Call) (state : State) (greatest next : ℕ) → Moves calls (until_of state) greatest next → Phase calls state greatest
        → Phase calls state next
    phase_seen calls Closed greatest next f p = tt
    phase_seen calls (Quiet until) greatest next f p = ready_by until 0 greatest next calls f p
    phase_seen calls (Idle due) greatest next f p = ready_by due 0 greatest next calls f p
    phase_seen calls (Waiting until sends o) greatest next f p = sent_by_then until sends o.busies greatest next calls f p
    phase_seen calls (Pausing until o) greatest next f p = ready_by until o.busies greatest next calls f p

    -- it lies within the end
    pub phase_near : (calls : List Call) (state : State) (greatest : ℕ) → is_closed state ≡ false → Phase calls state greatest → greatest ≤ end
    phase_near calls Closed greatest lives p = cc
    phase_near calls (Quiet until) greatest lives p = ready_near until 0 greatest calls p
    phase_near calls (Idle due) greatest lives p = ready_near due 0 greatest calls p
    phase_near calls (Waiting until sends o) greatest lives p = sent_near until sends o.busies greatest calls p
    phase_near calls (Pausing until o) greatest lives p = ready_near until o.busies greatest calls p

    -- and without the call, where its duty goes on
    abbrev Passes : Call → List Call → ℕ → ℕ → Type 0
    Passes call calls until greatest = (d : ℕ) → Due late d until greatest (call ∷ calls) → Due late d until greatest calls

    pub phase_passed : (call : Call) (calls : List Call) (state : State) (greatest : ℕ) → Passes call calls (until_of state) greatest
        → Phase (call ∷ calls) state greatest → Phase calls state greatest
    phase_passed call calls Closed greatest f p = tt
    phase_passed call calls (Quiet until) greatest f p = ready_passed until 0 greatest call calls f p
    phase_passed call calls (Idle due) greatest f p = ready_passed due 0 greatest call calls f p
    phase_passed call calls (Waiting until sends o) greatest f p = sent_passed until sends o.busies greatest call calls f p
    phase_passed call calls (Pausing until o) greatest f p = ready_passed until o.busies greatest call calls f p

    pub holds_passed : (call : Call) (calls : List Call) (s : Session) → is_tick call ≡ false → Holds (call ∷ calls) s → Holds calls s
    holds_passed call calls s other (near, phase) = (
      near,
      λ so. let at = phase so in
          (at.0, phase_passed call calls s.state s.greatest (λ d due. due_kept late d (until_of s.state) s.greatest call calls other due) at.1),
    )

    -- ---- a tick

    later_reply : (s : Session) → s.config ≡ c → later s.config.reply_wait s ≤ s.greatest + c.reply_wait
    later_reply s e = subst (λ (k : ControllerConfig). later s.config.reply_wait s ≤ s.greatest + k.reply_wait) e (later_within s.config.reply_wait s)

    later_busy : (s : Session) → s.config ≡ c → later s.config.busy_wait s ≤ s.greatest + c.busy_wait
    later_busy s e = subst (λ (k : ControllerConfig). later s.config.busy_wait s ≤ s.greatest + k.busy_wait) e (later_within s.config.busy_wait s)

    module _ (counts : (until sends : ℕ) (o : Outstanding) → test (Waiting until sends o) ≡ true → Counts) (many : c.sends ≡ more + 1) where
      -- the first of a round goes out
      sends_first : (o : Outstanding) (until : ℕ) (call : Call) (calls : List Call) (s : Session) → s.greatest ≤ end → s.config ≡ c
          → Ready until o.busies s.greatest (call ∷ calls) → Holds calls (after_send 1 o s)
      sends_first o until call calls s near same r = (
        near,
        λ so. (
          same,
          first_send until (later s.config.reply_wait s) o.busies s.greatest call calls
              (counts (later s.config.reply_wait s) 1 (record o { sent = o.sent + 1 }) so) (later_reply s same) r,
        ),
      )

      sends_more : (o : Outstanding) (until sends : ℕ) (call : Call) (calls : List Call) (s : Session) → s.greatest ≤ end → s.config ≡ c
          → nat_lt sends s.config.sends ≡ true → Sent until sends o.busies s.greatest (call ∷ calls) → Holds calls (after_send (sends + 1) o s)
      sends_more o until sends call calls s near same test_less r =
          let less : sends < s.config.sends = ltb-true sends s.config.sends test_less in
          let count : s.config.sends ≡ more + 1 = ap (λ (k : ControllerConfig). k.sends) same ∙ many in
          (near, λ so. (same, next_send until (later s.config.reply_wait s) sends o.busies s.greatest call calls (later_reply s same) (omega arith) r))

      pub still : (call : Call) (calls : List Call) (s : Session) → s.greatest ≤ end → s.config ≡ c → s.greatest < until_of s.state
          → Phase (call ∷ calls) s.state s.greatest → Holds calls s
      still call calls s near same below p = (
        near,
        λ so. (
          same,
          phase_passed call calls s.state s.greatest
              (λ d due. due_ahead late d (until_of s.state) s.greatest (call ∷ calls) calls below due) p,
        ),
      )

      abbrev TickHolds : List Call → Ticked → Type 0
      TickHolds calls t = Holds calls t.session

      pub tick_holds : (state : State) (call : Call) (calls : List Call) (s : Session) (w : List Command) → s.greatest ≤ end → s.config ≡ c
          → is_closed state ≡ false → Phase (call ∷ calls) state s.greatest → (s.greatest < until_of state → Holds calls s)
          → TickHolds calls (ticks_in state s w)
      tick_holds Closed call calls s w near same lives p stay = cc
      tick_holds (Quiet until) call calls s w near same lives p stay =
          either_way (TickHolds calls) (nat_le until s.greatest) (begins Opening 0 s w) (stays s w)
          (λ reached. sends_first (record { exchange = Opening; busies = 0; sent = 0 }) until call calls (record s { number = 0; asked = false }) near same p)
          (λ no. stay (leb-false until s.greatest no))
      tick_holds (Idle due) call calls s w near same lives p stay =
          let number = next_sequence s.number in
          idle_way (TickHolds calls) due s w
          (λ reached. sends_first (record { exchange = Polling; busies = 0; sent = 0 }) due call calls (record s { number = number; asked = false }) near same p)
          (λ no. stay (leb-false due s.greatest no))
          (λ command rest has. sends_first (record { exchange = Asking command; busies = 0; sent = 0 }) due call calls
          (record s { number = number; asked = true }) near same p)
      tick_holds (Waiting until sends o) call calls s w near same lives p stay =
          either_way (TickHolds calls) (nat_le until s.greatest) (tries_again sends o s w) (stays s w)
          (λ reached. either_way (TickHolds calls) (nat_lt sends s.config.sends) (sends_frame (sends + 1) o s w) (gives_up o s w)
          (λ less. sends_more o until sends call calls s near same less p) (λ no. no_session calls (closed s) near refl))
          (λ no. stay (leb-false until s.greatest no))
      tick_holds (Pausing until o) call calls s w near same lives p stay =
          either_way (TickHolds calls) (nat_le until s.greatest) (sends_frame 1 o s w) (stays s w)
          (λ reached. sends_first o until call calls s near same p)
          (λ no. stay (leb-false until s.greatest no))

    -- ---- a frame from the line

    module _ (no_rest : (due : ℕ) → test (Idle due) ≡ false) where
      abbrev HeardHolds : List Call → Heard → Type 0
      HeardHolds calls h = Holds calls h.session

      at_rest_holds : (calls : List Call) (s : Session) → s.greatest ≤ end → Holds calls (at_rest s)
      at_rest_holds calls s near =
          (near, λ so. absurd (let no : test (Idle (later s.config.poll_interval s)) ≡ false = no_rest (later s.config.poll_interval s) in cc))

      -- a frame that says BUSY is among those that are allowed
      abbrev BusyLeft : ReplyMeaning → ℕ → ℕ → Type 0
      BusyLeft a q busies = (busies + q ≡ c.busy_limit) ⊎ (is_not_taken a ≡ false)

      busy_holds : (o : Outstanding) (until sends : ℕ) (call : Call) (calls : List Call) (s : Session) → s.greatest ≤ end → s.config ≡ c
          → (r : Sent until sends o.busies s.greatest (call ∷ calls)) → BusyLeft NotTaken r.busies_left o.busies
          → HeardHolds calls (hears_busy o s)
      busy_holds o until sends call calls s near same r (inr none) = cc
      busy_holds o until sends call calls s near same r (inl left) =
          either_way (HeardHolds calls) (nat_lt s.config.busy_limit (o.busies + 1)) (loses causes.TooBusy o s)
          (record { session = record s { state = Pausing (later s.config.busy_wait s) (record o { busies = o.busies + 1 }) }; report = None })
          (λ many. no_session calls (closed s) near refl)
          (λ few. let room : o.busies + 1 ≤ s.config.busy_limit = ltb-false s.config.busy_limit (o.busies + 1) few in
          let limit : s.config.busy_limit ≡ c.busy_limit = ap (λ (k : ControllerConfig). k.busy_limit) same in
          (near, λ so. (same, pauses_next until (later s.config.busy_wait s) sends o.busies s.greatest call calls (later_busy s same) (omega arith) r left)))

      each_holds : (calls : List Call) (s : Session) → s.greatest ≤ end → Holds calls s → OfEach (HeardHolds calls) s
      each_holds calls s near stay = record {
        ignored = stay;
        rested = λ told. at_rest_holds calls s near;
        moved = λ d command. no_session calls (closed (record s { config = record s.config { address = d.address } })) near refl;
        lost = λ cause o. no_session calls (closed s) near refl;
      }

      waiting_holds : (a : ReplyMeaning) (until sends : ℕ) (o : Outstanding) (call : Call) (calls : List Call) (s : Session) → is_tick call ≡ false
          → s.greatest ≤ end → s.config ≡ c → (r : Sent until sends o.busies s.greatest (call ∷ calls)) → BusyLeft a r.busies_left o.busies
          → Holds calls s → HeardHolds calls (waiting_hears a sends o s)
      waiting_holds NotTaken until sends o call calls s other near same r left stay = busy_holds o until sends call calls s near same r left
      waiting_holds Damaged until sends o call calls s other near same r left stay = (
        near,
        λ so. (
          same,
          sent_now until sends o.busies s.greatest calls
              (sent_passed until sends o.busies s.greatest call calls (λ d due. due_kept late d until s.greatest call calls other due) r),
        ),
      )
      waiting_holds NumberRefused until sends o call calls s other near same r left stay = no_session calls (closed s) near refl
      waiting_holds (Plain reply) until sends o call calls s other near same r left stay = of_answer (HeardHolds calls) s (each_holds calls s near stay) o.exchange reply
      waiting_holds (Unreadable code) until sends o call calls s other near same r left stay = of_unread (HeardHolds calls) s (each_holds calls s near stay) o.exchange code

      busy_left : (q busies now : ℕ) (p : Packet) (calls : List Call) → Left q busies (Hear p now ∷ calls) → BusyLeft (meaning_of p) q busies
      busy_left q busies now p calls (inl few) = inl few
      busy_left q busies now p calls (inr none) = inr (All-head IsNotBusy (Hear p now) calls none)

      numbered_holds : (state : State) (p : Packet) (now : ℕ) (calls : List Call) (s : Session) → s.greatest ≤ end → s.config ≡ c
          → Phase (Hear p now ∷ calls) state s.greatest → Holds calls s → HeardHolds calls (numbered_in state (meaning_of p) s)
      numbered_holds (Waiting until sends o) p now calls s near same r stay =
          waiting_holds (meaning_of p) until sends o (Hear p now) calls s refl near same r (busy_left r.busies_left o.busies now p calls r.left) stay
      numbered_holds (Pausing until o) p now calls s near same r stay = of_pause (HeardHolds calls) s (each_holds calls s near stay) (meaning_of p) o
      numbered_holds _ p now calls s near same r stay = stay

      pub frame_holds : (p : Packet) (now : ℕ) (calls : List Call) (s : Session) → (seen now s).greatest ≤ end → s.config ≡ c
          → Phase (Hear p now ∷ calls) s.state (seen now s).greatest → Holds calls (seen now s) → HeardHolds calls (hears p now s)
      frame_holds p now calls s near same r stay =
          either_frame (HeardHolds calls) p now s (λ from number. numbered_holds s.state p now calls (seen now s) near same r stay) stay
