-- A tick where the session is open and no exchange is outstanding.
use Rattle.osdp_controller.proofs.Common.{◌≡◌, ℕ, Bool, true, false, List, [], ◌∷◌, refl, if◌then◌else◌, nat_le, next_sequence, Command, Polling, Asking, Session, Ticked, asks_or_polls, begins, idle_ticks, is_poll_next, polls, stays}
use Rattle.osdp_controller.proofs.Choices.{either_way}

module _ (P : Ticked → Type 0) (due : ℕ) (s : Session) where
  -- what holds where a POLL begins, and where nothing is due
  pub poll_way : (waiting : List Command) → (nat_le due s.greatest ≡ true → P (begins Polling (next_sequence s.number) s waiting))
      → (nat_le due s.greatest ≡ false → P (stays s waiting)) → P (polls due s waiting)
  poll_way waiting polled stayed =
      either_way P (nat_le due s.greatest) (begins Polling (next_sequence s.number) s waiting) (stays s waiting) polled stayed

  asking_way : (waiting : List Command) → (nat_le due s.greatest ≡ true → P (begins Polling (next_sequence s.number) s waiting))
      → (nat_le due s.greatest ≡ false → P (stays s waiting))
      → ((command : Command) (rest : List Command) → waiting ≡ command ∷ rest → P (begins (Asking command) (next_sequence s.number) s rest))
      → P (asks_or_polls waiting due s)
  asking_way [] polled stayed asks = poll_way [] polled stayed
  asking_way (command ∷ rest) polled stayed asks = asks command rest refl

  -- .. and where the front of what waits is asked, so holds of the tick
  pub idle_way : (waiting : List Command) → (nat_le due s.greatest ≡ true → P (begins Polling (next_sequence s.number) s waiting))
      → (nat_le due s.greatest ≡ false → P (stays s waiting))
      → ((command : Command) (rest : List Command) → waiting ≡ command ∷ rest → P (begins (Asking command) (next_sequence s.number) s rest))
      → P (idle_ticks waiting due s)
  idle_way waiting polled stayed asks =
      either_way P (is_poll_next s) (polls due s waiting) (asks_or_polls waiting due s) (λ e. poll_way waiting polled stayed) (λ e. asking_way waiting polled stayed asks)

-- the front of what waits is asked, where no POLL has to come first
pub asks_front : (due : ℕ) (s : Session) (command : Command) (rest : List Command) → is_poll_next s ≡ false
    → idle_ticks (command ∷ rest) due s ≡ begins (Asking command) (next_sequence s.number) s rest
asks_front due s command rest free = chooses (is_poll_next s) free
  where
    chooses : (b : Bool) → b ≡ false
        → (if b then polls due s (command ∷ rest) else asks_or_polls (command ∷ rest) due s) ≡ begins (Asking command) (next_sequence s.number) s rest
    chooses true e = absurd cc
    chooses false e = refl

-- a POLL is next, where one has to come first
pub polls_first : (due : ℕ) (s : Session) (waiting : List Command) → is_poll_next s ≡ true → idle_ticks waiting due s ≡ polls due s waiting
polls_first due s waiting next = chooses (is_poll_next s) next
  where
    chooses : (b : Bool) → b ≡ true → (if b then polls due s waiting else asks_or_polls waiting due s) ≡ polls due s waiting
    chooses true e = refl
    chooses false e = absurd cc

-- .. and where no command waits
pub polls_alone : (due : ℕ) (s : Session) → idle_ticks [] due s ≡ polls due s []
polls_alone due s = chooses (is_poll_next s)
  where
    chooses : (b : Bool) → (if b then polls due s [] else asks_or_polls [] due s) ≡ polls due s []
    chooses true = refl
    chooses false = refl
