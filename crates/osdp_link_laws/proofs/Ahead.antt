-- What is ahead of a link, by how far its session has come.
use Rattle.osdp_link_laws.proofs.Common.{◌≡◌, ◌≢◌, ◌+◌, ◌⊎◌, ℕ, Bool, true, false, List, [], length, Option, None, refl, sym, ap, ◌∙◌, inl, inr, arith, length-append, option_to_list, Packet, next_sequence, Command, Event, Reply, meaning_of, submitted_command, Plain, ControllerConfig, Exchange, Opening, Polling, Asking, Session, State, Closed, Quiet, Idle, Waiting, Pausing, Queue, ReaderState, Answer, Link, outstanding_command, count_ahead}
use Rattle.osdp_link_laws.specs.Ahead.{event_told, has_number, is_opening, is_poll, is_polling, is_unopened, offered_to, read_as, unoffered_events}
use Rattle.osdp_link_laws.proofs.Moves.{Premises}
use Rattle.osdp_link_laws.proofs.Numbers.{is_false, is_true, next_differs}
use Rattle.osdp_link_laws.proofs.Parts.{At}
use Rattle.osdp_link_laws.proofs.Stages.{After, Asks, Before, Behind, ControllerAt, Fresh, HasActed, IsAsked, IsOpen, IsStage, Knows, Level, Never, Now, Past, ReaderAt, Rest, Restarted, Rests, Stage, Start, Waits, answer, number_after, owed, owed_at, pending, pending_at, shown, unreported_at}

-- ---- at a stage

-- the event that was offered and isn't reported yet: a device that has restarted has none
abbrev pub untold_by : Restarted → List Event → List Event
untold_by Never events = events
untold_by Before events = events
untold_by Now events = []

abbrev pub is_first : Past → Bool
is_first Start = true
is_first (After n y b) = false

-- the session isn't open yet
abbrev pub is_first_at : Stage → Bool
is_first_at Fresh = true
is_first_at (Behind past x) = is_first past
is_first_at (Level past x a) = is_first past
is_first_at (Rest n x a) = false

-- how many commands have no end, and how many events aren't reported, with these commands that wait and this queue
abbrev pub count_at : Restarted → Stage → List Command → Queue → ℕ
count_at since at ws q =
    length (pending_at at) + length (owed_at at) + length ws + (length (untold_by since (unreported_at at)) + length (unoffered_events (is_first_at at) q))

first_asked : (past : Past) (x : Exchange) → IsAsked past x → is_opening x ≡ is_first past
first_asked Start Opening asked = refl
first_asked Start Polling asked = absurd asked
first_asked Start (Asking c) asked = absurd asked
first_asked (After n y b) Opening asked = absurd asked
first_asked (After n y b) Polling asked = refl
first_asked (After n y b) (Asking c) asked = refl

none_untold : (since : Restarted) → untold_by since [] ≡ []
none_untold Never = refl
none_untold Before = refl
none_untold Now = refl

one_pending : (x : Exchange) → length (option_to_list (submitted_command x)) ≡ length (pending x) + 0
one_pending Opening = refl
one_pending Polling = refl
one_pending (Asking c) = refl

one_owed : (x : Exchange) (a : Reply) → length (option_to_list (submitted_command x)) ≡ 0 + length (owed x a)
one_owed Opening a = refl
one_owed Polling a = refl
one_owed (Asking c) a = refl

no_offer : (polls : Bool) (stored : Option Packet) → offered_to polls false stored ≡ []
no_offer true stored = refl
no_offer false stored = refl

module _ (fixed : ControllerConfig) where
  -- this exchange is outstanding
  pub record AsksFor (n : ℕ) (x : Exchange) (s : Session) : Type 0 where
    pub is_open : IsOpen fixed n s
    pub command : outstanding_command s.state ≡ submitted_command x
    pub polls : is_polling s.state ≡ is_poll x
    pub opens : is_unopened s.state ≡ is_opening x

  pub asks_for : (state : State) (n : ℕ) (x : Exchange) (s : Session) → s.state ≡ state → state ≢ Closed → Asks fixed state n x s → AsksFor n x s
  asks_for Closed n x s is lasts asks = absurd (lasts refl)
  asks_for (Waiting until k o) n x s is lasts asks = record {
    is_open = asks.0;
    command = ap outstanding_command is ∙ ap submitted_command asks.1;
    polls = ap is_polling is ∙ ap is_poll asks.1;
    opens = ap is_unopened is ∙ ap is_opening asks.1;
  }
  asks_for (Pausing until o) n x s is lasts asks = record {
    is_open = asks.0;
    command = ap outstanding_command is ∙ ap submitted_command asks.1;
    polls = ap is_polling is ∙ ap is_poll asks.1;
    opens = ap is_unopened is ∙ ap is_opening asks.1;
  }
  asks_for _ n x s is lasts asks = absurd asks

  -- none is
  pub record AsksNone (first : Bool) (s : Session) : Type 0 where
    pub config : s.config ≡ fixed
    pub command : outstanding_command s.state ≡ None
    pub polls : is_polling s.state ≡ false
    pub opens : is_unopened s.state ≡ first

  pub waits_none : (state : State) (s : Session) → s.state ≡ state → state ≢ Closed → Waits fixed state s → AsksNone true s
  waits_none Closed s is lasts waits = absurd (lasts refl)
  waits_none (Quiet until) s is lasts waits = record { config = waits; command = ap outstanding_command is; polls = ap is_polling is; opens = ap is_unopened is }
  waits_none _ s is lasts waits = absurd waits

  pub rests_none : (state : State) (n : ℕ) (s : Session) → s.state ≡ state → state ≢ Closed → Rests fixed state n s → AsksNone false s
  rests_none Closed n s is lasts rests = absurd (lasts refl)
  rests_none (Idle due) n s is lasts rests = record { config = rests.0; command = ap outstanding_command is; polls = ap is_polling is; opens = ap is_unopened is }
  rests_none _ n s is lasts rests = absurd rests

  -- the command that is outstanding is pending, or its answer is on its way
  out_at : (at : Stage) (s : Session) → ControllerAt fixed at s → s.state ≢ Closed
      → length (option_to_list (outstanding_command s.state)) ≡ length (pending_at at) + length (owed_at at)
  out_at Fresh s is lasts = ap (λ c. length (option_to_list c)) (waits_none s.state s refl lasts is).command
  out_at (Behind past x) s is lasts = ap (λ c. length (option_to_list c)) (asks_for s.state (number_after past) x s refl lasts is).command ∙ one_pending x
  out_at (Level past x a) s is lasts = ap (λ c. length (option_to_list c)) (asks_for s.state (number_after past) x s refl lasts is).command ∙ one_owed x a
  out_at (Rest n x a) s is lasts = ap (λ c. length (option_to_list c)) (rests_none s.state n s refl lasts is).command

  opens_at : (at : Stage) (s : Session) → IsStage at → ControllerAt fixed at s → s.state ≢ Closed → is_unopened s.state ≡ is_first_at at
  opens_at Fresh s stage is lasts = (waits_none s.state s refl lasts is).opens
  opens_at (Behind past x) s stage is lasts = (asks_for s.state (number_after past) x s refl lasts is).opens ∙ first_asked past x stage.1
  opens_at (Level past x a) s stage is lasts = (asks_for s.state (number_after past) x s refl lasts is).opens ∙ first_asked past x stage.1
  opens_at (Rest n x a) s stage is lasts = (rests_none s.state n s refl lasts is).opens

  -- ---- where the device is

  -- once the session is open it is at the controller's address; or it has gone elsewhere, where it knows no number, and no event is on its way
  abbrev IsHereOrGone : Stage → ℕ → Option ℕ → Type 0
  IsHereOrGone at address last = (address ≡ fixed.address) ⊎ ((last ≡ None) × (unreported_at at ≡ []))

  abbrev pub IsPlaced : Stage → ℕ → Option ℕ → Type 0
  IsPlaced Fresh address last = Unit {0}
  IsPlaced (Behind Start x) address last = Unit {0}
  IsPlaced at address last = IsHereOrGone at address last

  pub placed_here : (at : Stage) (address : ℕ) (last : Option ℕ) → address ≡ fixed.address → IsPlaced at address last
  placed_here Fresh address last here = tt
  placed_here (Behind Start x) address last here = tt
  placed_here (Behind (After n y b) x) address last here = inl here
  placed_here (Level past x a) address last here = inl here
  placed_here (Rest n x a) address last here = inl here

  module _ {H : Type 0} (r : ReaderState H) where
    -- what a device that has acted on an exchange knows of its number and of its answer
    known_so : (since : Restarted) (n : ℕ) (x : Exchange) (a : Reply) → Knows fixed since n x a r → r.config.address ≡ fixed.address
        → HasActed fixed n x a r ⊎ ((since ≡ Now) × (r.last ≡ None))
    known_so Never n x a acted here = inl acted
    known_so Before n x a acted here = inl acted
    known_so Now n x a none here = inr (refl, none)

  module _ {H : Type 0} (answer_of : H → Command → Answer) (after : H → Command → H) (given : Premises fixed answer_of after) (s : Session) (r : ReaderState H) where
    -- what the answer that the device stores tells to the POLL that is outstanding
    abbrev Offers : List Event → Type 0
    Offers events = offered_to (is_polling s.state) (has_number s.number r.last) r.stored ≡ events

    offers_none : is_polling s.state ≡ false → Offers []
    offers_none none = ap (λ b. offered_to b (has_number s.number r.last) r.stored) none

    offers_no_number : has_number s.number r.last ≡ false → Offers []
    offers_no_number none = ap (λ b. offered_to (is_polling s.state) b r.stored) none ∙ no_offer (is_polling s.state) r.stored

    offers_unknown : r.last ≡ None → Offers []
    offers_unknown none = offers_no_number (ap (has_number s.number) none)

    -- the device hasn't acted on the exchange that is outstanding
    offers_behind : (since : Restarted) (n : ℕ) (y : Exchange) (b : Reply) (x : Exchange) → Knows fixed since n y b r → IsPlaced (Behind (After n y b) x) r.config.address r.last
        → s.number ≡ next_sequence n → Offers []
    offers_behind since n y b x knows (inr gone) number = offers_unknown gone.0
    offers_behind since n y b x knows (inl here) number = elim (known_so r since n y b knows here) [
      | inl acted ↦ offers_no_number (ap (has_number s.number) (acted.here here).0 ∙ is_false n s.number (λ e. next_differs n (sym number ∙ sym e)))
      | inr unknown ↦ offers_unknown unknown.1
    ]

    -- it has: it stores its answer
    offers_level : (since : Restarted) (past : Past) (x : Exchange) (a : Reply) → IsStage (Level past x a) → Knows fixed since (number_after past) x a r
        → IsPlaced (Level past x a) r.config.address r.last → AsksFor (number_after past) x s → Offers (untold_by since (shown x a))
    offers_level since past Opening a stage knows placed asks = offers_none asks.polls ∙ sym (none_untold since)
    offers_level since past (Asking c) a stage knows placed asks = offers_none asks.polls ∙ sym (none_untold since)
    offers_level since past Polling a stage knows (inr gone) asks = offers_unknown gone.0 ∙ sym (ap (untold_by since) gone.1 ∙ none_untold since)
    offers_level since past Polling a stage knows (inl here) asks = by_since since knows
      where
        stores : HasActed fixed (number_after past) Polling a r → Offers (shown Polling a)
        stores acted =
            let n = number_after past in
            let kept = acted.here here in
            let number : has_number s.number r.last ≡ true = ap (has_number s.number) kept.0 ∙ is_true n s.number (sym asks.is_open.1) in
            let says : meaning_of (answer fixed n a) ≡ Plain a = given.hears n a stage.2.0.fits ∙ given.plain a stage.2.0.plain in
            (λ i. offered_to (asks.polls i) (number i) (kept.1 i)) ∙ ap (λ meaning. event_told (read_as meaning)) says

        by_since : (since : Restarted) → Knows fixed since (number_after past) Polling a r → Offers (untold_by since (shown Polling a))
        by_since Never acted = stores acted
        by_since Before acted = stores acted
        by_since Now none = offers_unknown none

    offers_at : (since : Restarted) (at : Stage) → IsStage at → ControllerAt fixed at s → ReaderAt fixed since at r → IsPlaced at r.config.address r.last → s.state ≢ Closed
        → Offers (untold_by since (unreported_at at))
    offers_at since Fresh stage is knows placed lasts = offers_none (waits_none s.state s refl lasts is).polls ∙ sym (none_untold since)
    offers_at since (Behind Start Opening) stage is knows placed lasts = offers_none (asks_for s.state 0 Opening s refl lasts is).polls ∙ sym (none_untold since)
    offers_at since (Behind Start Polling) stage is knows placed lasts = absurd stage.1
    offers_at since (Behind Start (Asking c)) stage is knows placed lasts = absurd stage.1
    offers_at since (Behind (After n y b) x) stage is knows placed lasts =
        offers_behind since n y b x knows placed (asks_for s.state (next_sequence n) x s refl lasts is).is_open.1 ∙ sym (none_untold since)
    offers_at since (Level past x a) stage is knows placed lasts =
        offers_level since past x a stage knows placed (asks_for s.state (number_after past) x s refl lasts is)
    offers_at since (Rest n x a) stage is knows placed lasts = offers_none (rests_none s.state n s refl lasts is).polls ∙ sym (none_untold since)

  -- ---- so many are left

  pub left_at : {H : Type 0} (answer_of : H → Command → Answer) (after : H → Command → H) → Premises fixed answer_of after → (since : Restarted) (at : Stage) (l : Link H)
      → At fixed answer_of after since at l → IsPlaced at l.reader.config.address l.reader.last → l.controller.session.state ≢ Closed
      → count_ahead l ≡ count_at since at l.controller.waiting l.reader.queue
  left_at answer_of after given since at l h placed lasts =
      let s = l.controller.session in
      let ws = l.controller.waiting in
      let out = option_to_list (outstanding_command s.state) in
      let offered = offered_to (is_polling s.state) (has_number s.number l.reader.last) l.reader.stored in
      let orders = length-append out ws in
      let events = length-append offered (unoffered_events (is_unopened s.state) l.reader.queue) in
      let first = out_at at s h.controller lasts in
      let told = ap (λ es. length es) (offers_at answer_of after given s l.reader since at h.stage h.controller h.reader placed lasts) in
      let waits = ap (λ b. length (unoffered_events b l.reader.queue)) (opens_at at s h.stage h.controller lasts) in
      omega (arith, orders, events, first, told, waits)
