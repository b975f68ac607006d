-- What is wanted is the latest that was said of each output, LED, buzzer and text.
use Rattle.std.specs.Prelude.{◌≡◌, ◌⊎◌, ℕ, Bool, true, false, if◌then◌else◌, List, [], ◌∷◌, ◌++◌, Option, Some, None, Result, Ok, Err}
use Rattle.std.specs.List.{list_any}
use Rattle.osdp_msg.specs.declared.command.Command.{Command}
use Rattle.osdp_site.specs.declared.fault.SiteFault.{SiteFault}
use Rattle.osdp_site.specs.declared.subject.Subject.{Subject}
use Rattle.osdp_site.specs.Acting.{Acted, begins_due}
use Rattle.osdp_site.specs.Laws.{Acts, Heeds, Move, Wants, after_move, after_moves, is_opening, sent}
use Rattle.osdp_site.specs.Places.{PlaceState, due_of, is_refreshed, new_place, opens, wants_refusal}
use Rattle.osdp_site.specs.States.{is_about, subject_of}

-- ---- of the same

-- a command says the state of this, and of nothing else
abbrev pub IsOf : Subject → Command → Type 0
IsOf s c = subject_of c ≡ Ok s

pub record SaysOfOne (s : Subject) (c : Command) : Type 0 where
  pub is : is_about s c ≡ true → IsOf s c
  pub says : IsOf s c → is_about s c ≡ true

-- ---- the latest of each

-- a later command of a list says the state of the same
abbrev pub is_replaced_by : Result Subject SiteFault → List Command → Bool
is_replaced_by (Ok s) later = list_any (is_about s) later
is_replaced_by (Err fault) later = false

-- those of a list that none after them replaces
abbrev pub latest : List Command → List Command
latest [] = []
latest (c ∷ cs) = if is_replaced_by (subject_of c) cs then latest cs else c ∷ latest cs

-- the states that a site is asked for and doesn't refuse, in their order
abbrev pub accepted_if : Option SiteFault → Command → List Command
accepted_if None c = c ∷ []
accepted_if (Some fault) c = []

abbrev pub accepted_in : Move → PlaceState → List Command
accepted_in (Wants c) p = accepted_if (wants_refusal c p) c
accepted_in _ p = []

abbrev pub accepted : ℕ → ℕ → List Move → PlaceState → List Command
accepted entry pause [] p = []
accepted entry pause (m ∷ ms) p = accepted_in m p ++ accepted entry pause ms (after_move entry pause m p)

-- whatever is called, what is wanted is the latest of each of these
abbrev pub WantsTheLatest : Type 0
WantsTheLatest = (entry pause room bytes now : ℕ) (ms : List Move)
    → (after_moves entry pause ms (new_place room bytes now)).wanted ≡ latest (accepted entry pause ms (new_place room bytes now))

-- ---- what a session is given

-- what is submitted where an entry acts: to the panel as it is once a session that is due has begun
abbrev pub given_by : ℕ → Acted → List Command
given_by entry x = sent entry x.panel x.place

abbrev pub given_in : ℕ → Move → PlaceState → List Command
given_in entry (Acts b now) p = given_by entry (begins_due entry now (record { place = p; panel = b }))
given_in entry _ p = []

abbrev pub given : ℕ → ℕ → List Move → PlaceState → List Command
given entry pause [] p = []
given entry pause (m ∷ ms) p = given_in entry m p ++ given entry pause ms (after_move entry pause m p)

-- a call tells of no opening
abbrev pub IsNoOpening : Move → Type 0
IsNoOpening (Heeds r now) = is_opening r ≡ false
IsNoOpening _ = Unit {0}

abbrev pub NoOpenings : List Move → Type 0
NoOpenings [] = Unit {0}
NoOpenings (m ∷ ms) = IsNoOpening m × NoOpenings ms

-- a list is another one of which some items are left out
abbrev pub IsPartOf : List Command → List Command → Type 0
IsPartOf [] ds = Unit {0}
IsPartOf (c ∷ cs) [] = ⊥
IsPartOf (c ∷ cs) (d ∷ ds) = ((c ≡ d) × IsPartOf cs ds) ⊎ IsPartOf (c ∷ cs) ds

-- from an opening on, until the next: what was submitted, and then what is still due. No state is given twice: each of these was wanted as the session opened, or
-- was asked for since. None is forgotten: the latest of each are what is wanted. Where the site says that it is done, what was submitted is that
pub record IsGivenTheLatest (entry pause opened : ℕ) (ms : List Move) (p : PlaceState) : Type 0 where
  pub once : IsPartOf (given entry pause ms (opens opened p) ++ due_of (after_moves entry pause ms (opens opened p))) (p.wanted ++ accepted entry pause ms (opens opened p))
  pub all : latest (given entry pause ms (opens opened p) ++ due_of (after_moves entry pause ms (opens opened p))) ≡ (after_moves entry pause ms (opens opened p)).wanted
  pub done : is_refreshed (after_moves entry pause ms (opens opened p)) ≡ true
      → latest (given entry pause ms (opens opened p)) ≡ (after_moves entry pause ms (opens opened p)).wanted

-- so it is of an entry, whatever was called before
abbrev pub SessionsAreGivenTheLatest : Type 0
SessionsAreGivenTheLatest = (entry pause room bytes now opened : ℕ) (before ms : List Move) → NoOpenings ms
    → IsGivenTheLatest entry pause opened ms (after_moves entry pause before (new_place room bytes now))
