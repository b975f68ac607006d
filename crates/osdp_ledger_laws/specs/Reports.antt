-- What each session comes to for events, whatever happens in it: also where either end loses power, or events are taken back or lapse.
use Rattle.std.specs.Prelude.{◌≡◌, ◌≢◌, ℕ, All, Contains, List, [], ◌∷◌, ◌++◌, map}
use Rattle.osdp_ledger.specs.History.{AfterReport, AreAllowed, History, Left, new_history, runs}
use Rattle.osdp_ledger.specs.Ledger.{Card, Lapse, Open, RestartDevice, Step, WithdrawEvent}
use Rattle.osdp_ledger_laws.specs.Sessions.{BeginsNone}

-- This event is one of those that have left, and it has not left because it was reported. It was taken back, it has lapsed, or it was thrown away.
abbrev pub LeftOtherwise : List Left → Card → Type 0
LeftOtherwise left card = (w : Left) × Contains left w × (w.card ≡ card) × (w.why ≢ AfterReport)

-- The first list is the second one without some events. Each of these has left otherwise than by its report. All others stay, in their order.
pub data IsWithout (left : List Left) : List Card → List Card → Type 0 where
  NoCards : IsWithout left [] []
  Stays : (card : Card) (fewer cards : List Card) → IsWithout left fewer cards → IsWithout left (card ∷ fewer) (card ∷ cards)
  Goes : (card : Card) (fewer cards : List Card) → LeftOtherwise left card → IsWithout left fewer cards → IsWithout left fewer (card ∷ cards)

-- of a session that began at this history, and of what has happened since
pub record ReportsInSession (began now : History) : Type 0 where
  -- the events reported since, those that the device has accepted since, and those that have left its queue since
  pub reported : List (ℕ × Card)
  pub queued : List Card
  pub left : List Left
  pub reported_since : now.reports ≡ began.reports ++ reported
  pub queued_since : now.queued ≡ began.queued ++ queued
  pub left_since : now.left ≡ began.left ++ left
  -- Take the events that waited as the session began, and after them those accepted since, without some that have left otherwise than by their report
  -- since it began. Those reported, each once and in this order, are a beginning of this list.
  pub beginning : (rest : List Card) × IsWithout left (map (λ (told : ℕ × Card). told.1) reported ++ rest) (began.ledger.cards ++ queued)

abbrev pub EachSessionReports : Type 0
EachSessionReports = (before since : List Step) → AreAllowed (before ++ Open ∷ since) new_history → All BeginsNone since
    → ReportsInSession (runs before new_history) (runs (before ++ Open ∷ since) new_history)

-- A step by which no event leaves the device's queue otherwise than by its report: none is taken back, none lapses, and the device keeps its power. Each of
-- the three steps that are left out takes events from the queue that may not be reported, and the session may report later ones. The panel may lose power, and
-- orders may be taken back.
abbrev pub GivesNoneUp : Step → Type 0
GivesNoneUp (WithdrawEvent card) = ⊥
GivesNoneUp (Lapse card) = ⊥
GivesNoneUp RestartDevice = ⊥
GivesNoneUp _ = Unit {0}

-- of a session of such steps: the events reported, each once and in this order, are a beginning of those that waited as it began and of those accepted since
pub record AreReportedFirst (began now : History) : Type 0 where
  pub reported : List (ℕ × Card)
  pub queued : List Card
  pub reported_since : now.reports ≡ began.reports ++ reported
  pub queued_since : now.queued ≡ began.queued ++ queued
  pub beginning : (rest : List Card) × (began.ledger.cards ++ queued ≡ map (λ (told : ℕ × Card). told.1) reported ++ rest)

abbrev pub ReportsAreABeginning : Type 0
ReportsAreABeginning = (before since : List Step) → AreAllowed (before ++ Open ∷ since) new_history → All BeginsNone since → All GivesNoneUp since
    → AreReportedFirst (runs before new_history) (runs (before ++ Open ∷ since) new_history)
