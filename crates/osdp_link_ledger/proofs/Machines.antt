-- What the two machines keep says what is acted on and isn't settled, and what is offered and isn't reported.
use Rattle.osdp_link_ledger.proofs.Common.{◌≡◌, ℕ, ◌==◌, Bool, true, false, List, [], ◌∷◌, Option, Some, None, refl, sym, ap, ◌∙◌, inl, inr, Command, Event, Reply, meaning_of, ControllerConfig, Exchange, Opening, Polling, Asking, Plain, Session, Packet, next_sequence, ReaderState, Answer, Order, outstanding_command, Premises, is_false, is_true, next_differs, After, Before, Behind, ControllerAt, Fresh, HasActed, IsStage, Knows, Level, Never, Now, ReaderAt, Rest, Restarted, Stage, Start, answer, number_after, owed, owed_at, shown, unreported_at}
use Rattle.osdp_link_laws.specs.Ahead.{event_told, is_polling, offered_to, read_as}
use Rattle.osdp_link_laws.proofs.Ahead.{AsksFor, asks_for, rests_none}
use Rattle.osdp_link_ledger.specs.Laws.{answer_to, is_under_way}
use Rattle.osdp_link_ledger.proofs.Facts.{lasts, unopened}
use Rattle.osdp_link_ledger.proofs.Ties.{ActedIs}

-- the answer that is on its way
abbrev pub owed_answer : List (Command × Reply) → Option Reply
owed_answer [] = None
owed_answer (answer ∷ rest) = Some answer.1

pub acted_is : (ahead : List Order) (acted : Option Reply) (owing : List (Command × Reply)) → ActedIs ahead acted owing → acted ≡ owed_answer owing
acted_is ahead acted owing (inl none) = none.acted ∙ ap owed_answer (sym none.owing)
acted_is ahead acted owing (inr one) = one.acted ∙ ap owed_answer (sym one.owing)

no_answer : (out : Option Command) (stored : Option Packet) → answer_to out false stored ≡ None
no_answer None stored = refl
no_answer (Some c) stored = refl

no_offer : (polls : Bool) (stored : Option Packet) → offered_to polls false stored ≡ []
no_offer true stored = refl
no_offer false stored = refl

module _ (fixed : ControllerConfig) where
  module _ {H : Type 0} (answer_of : H → Command → Answer) (after : H → Command → H) (s : Session) (r : ReaderState H) where
    -- what is due is what they keep, where the device's last number is this one
    abbrev pub AreKept : ℕ → List (Command × Reply) → List Event → Type 0
    AreKept m owing untold =
        (owed_answer owing ≡ answer_to (outstanding_command s.state) (m == s.number) r.stored)
        × (untold ≡ offered_to (is_polling s.state) (m == s.number) r.stored)

    -- neither a command nor a POLL is outstanding
    none_kept : (m : ℕ) → outstanding_command s.state ≡ None → is_polling s.state ≡ false → AreKept m [] []
    none_kept m none unpolled =
        (sym (ap (λ o. answer_to o (m == s.number) r.stored) none), sym (ap (λ b. offered_to b (m == s.number) r.stored) unpolled))

    has_acted : (since : Restarted) (m n : ℕ) (x : Exchange) (a : Reply) → r.last ≡ Some m → Knows fixed since n x a r → HasActed fixed n x a r
    has_acted Never m n x a last acted = acted
    has_acted Before m n x a last acted = acted
    has_acted Now m n x a last none = absurd (let e : None ≡ Some m = sym none ∙ last in cc)

    same_number : (m n : ℕ) → r.last ≡ Some m → r.last ≡ Some n → m ≡ n
    same_number m n last other = let e : Some m ≡ Some n = sym last ∙ other in cc

    -- the device hasn't acted on the exchange: its last number is the one before
    none_kept_for_next : (m n : ℕ) (y : Exchange) (b : Reply) (x : Exchange) → r.config.address ≡ fixed.address → r.last ≡ Some m → HasActed fixed n y b r
        → AsksFor fixed (next_sequence n) x s → AreKept m [] []
    none_kept_for_next m n y b x here last acted asks =
        let same = same_number m n last (acted.here here).0 in
        let differs : (m == s.number) ≡ false = is_false m s.number (λ e. next_differs n (sym asks.is_open.1 ∙ sym e ∙ same)) in (
          sym (ap (λ t. answer_to (outstanding_command s.state) t r.stored) differs ∙ no_answer (outstanding_command s.state) r.stored),
          sym (ap (λ t. offered_to (is_polling s.state) t r.stored) differs ∙ no_offer (is_polling s.state) r.stored),
        )

    -- it has: its last number is that of the exchange
    kept_for_last : (m n : ℕ) (x : Exchange) (a : Reply) → r.config.address ≡ fixed.address → r.last ≡ Some m → HasActed fixed n x a r
        → AsksFor fixed n x s → meaning_of (answer fixed n a) ≡ Plain a → AreKept m (owed x a) (shown x a)
    kept_for_last m n Opening a here last acted asks says = none_kept m asks.command asks.polls
    kept_for_last m n Polling a here last acted asks says =
        let kept = acted.here here in
        let same = is_true m s.number (same_number m n last kept.0 ∙ sym asks.is_open.1) in (
          sym (ap (λ o. answer_to o (m == s.number) r.stored) asks.command),
          ap (λ meaning. event_told (read_as meaning)) (sym says) ∙ (λ i. offered_to (sym asks.polls i) (sym same i) (sym kept.1 i)),
        )
    kept_for_last m n (Asking c) a here last acted asks says =
        let kept = acted.here here in
        let same = is_true m s.number (same_number m n last kept.0 ∙ sym asks.is_open.1) in (
          ap read_as (sym says) ∙ (λ i. answer_to (sym asks.command i) (sym same i) (sym kept.1 i)),
          sym (ap (λ b. offered_to b (m == s.number) r.stored) asks.polls),
        )

    pub kept_at : Premises fixed answer_of after → (since : Restarted) (at : Stage) (m : ℕ) → IsStage at → ControllerAt fixed at s → ReaderAt fixed since at r
        → is_under_way s.state ≡ true → r.config.address ≡ fixed.address → r.last ≡ Some m → AreKept m (owed_at at) (unreported_at at)
    kept_at given since Fresh m stage is reader way here last = absurd (unopened fixed s.state s is way)
    kept_at given since (Behind Start Opening) m stage is reader way here last =
        let asks = asks_for fixed s.state 0 Opening s refl (lasts s.state way) is in none_kept m asks.command asks.polls
    kept_at given since (Behind Start Polling) m stage is reader way here last = absurd stage.1
    kept_at given since (Behind Start (Asking c)) m stage is reader way here last = absurd stage.1
    kept_at given since (Behind (After n y b) x) m stage is reader way here last =
        none_kept_for_next m n y b x here last (has_acted since m n y b last reader) (asks_for fixed s.state (next_sequence n) x s refl (lasts s.state way) is)
    kept_at given since (Level past x a) m stage is reader way here last =
        let n = number_after past in
        kept_for_last m n x a here last (has_acted since m n x a last reader) (asks_for fixed s.state n x s refl (lasts s.state way) is)
        (given.hears n a stage.2.0.fits ∙ given.plain a stage.2.0.plain)
    kept_at given since (Rest n x a) m stage is reader way here last =
        let rests = rests_none fixed s.state n s refl (lasts s.state way) is in none_kept m rests.command rests.polls

  -- nothing is owed to a command that isn't outstanding, nor offered to such a POLL
  unasked_by : (x : Exchange) (a : Reply) (s : Session) (n : ℕ) → AsksFor fixed n x s → outstanding_command s.state ≡ None → owed_answer (owed x a) ≡ None
  unasked_by (Asking c) a s n asks none = absurd (let e : Some c ≡ None = sym asks.command ∙ none in cc)
  unasked_by _ a s n asks none = refl

  pub unasked_at : (at : Stage) (s : Session) → ControllerAt fixed at s → is_under_way s.state ≡ true → outstanding_command s.state ≡ None → owed_answer (owed_at at) ≡ None
  unasked_at (Level past x a) s is way none = unasked_by x a s (number_after past) (asks_for fixed s.state (number_after past) x s refl (lasts s.state way) is) none
  unasked_at _ s is way none = refl

  unpolled_by : (x : Exchange) (a : Reply) (s : Session) (n : ℕ) → AsksFor fixed n x s → is_polling s.state ≡ false → shown x a ≡ []
  unpolled_by Polling a s n asks none = absurd (let e : true ≡ false = sym asks.polls ∙ none in cc)
  unpolled_by _ a s n asks none = refl

  pub unpolled_at : (at : Stage) (s : Session) → ControllerAt fixed at s → is_under_way s.state ≡ true → is_polling s.state ≡ false → unreported_at at ≡ []
  unpolled_at (Level past x a) s is way none = unpolled_by x a s (number_after past) (asks_for fixed s.state (number_after past) x s refl (lasts s.state way) is) none
  unpolled_at _ s is way none = refl
