-- Whose turn it is where each entry is due whose session lasts: that of who holds the line, or else of the first in turn that is due.
use Rattle.osdp_bus_progress.proofs.Common.{◌≡◌, ◌≤◌, ◌<◌, ◌+◌, ◌-◌, ℕ, zero, suc, max, ◌||◌, ◌&&◌, Bool, true, false, if◌then◌else◌, List, [], ◌∷◌, length, Option, Some, None, inl, inr, refl, sym, subst, ap, ◌∙◌, arith, ltb-true, ltb-false, option_map_or, is_outstanding, State, Closed, holds, is_entry_due, ends_run, ends_silent, asks_holder, bus_ticks, is_due_at, is_held_and_due, next_due, stays, ticks_at, ticks_by, ticks_free, ticks_held, ticks_on, ticks_with, Entry, has_exchange, nobody, IsBefore, IsDueEntry, due_by, who_ticks}
use Rattle.std.specs.Prelude.{not, ◌⊎◌, is_some, nat_lt, slice_get}
use Rattle.osdp_bus.specs.Buses.{BusState, device_of, has_report, holder, seen}
use Rattle.osdp_bus_laws.proofs.Turning.{due_is_next, none_is_due, strictly}
use Rattle.osdp_bus.proofs.Waiting.{nothing_ends, nothing_silent}
use Rattle.osdp_bus_progress.proofs.Along.{AllAre, OneHolds}

-- the entry that is asked first: around, where the number is past the last
abbrev pub IsFirst : ℕ → ℕ → ℕ → Type 0
IsFirst count first entry = (first ≡ entry) ⊎ ((entry ≡ 0) × (count ≤ first))

abbrev pub IsTurn : ℕ → BusState → Type 0
IsTurn entry b = (holder b ≡ Some entry) ⊎ ((holder b ≡ None) × IsFirst (length b.devices.entries) b.first entry)

-- ---- places

pub within : (i : ℕ) (d : Entry) (ds : List Entry) → slice_get ds i ≡ Some d → i < length ds
within i d [] at = absurd cc
within zero d (e ∷ ds) at = omega arith
within (suc i) d (e ∷ ds) at = omega (arith, within i d ds at)

-- ---- whose turn

pub first_around : (count first : ℕ) → 0 < count → (entry : ℕ) × (entry < count) × IsFirst count first entry
first_around count first some = by_test (nat_lt first count) refl
  where
    by_test : (t : Bool) → nat_lt first count ≡ t → (entry : ℕ) × (entry < count) × IsFirst count first entry
    by_test true lt = (first, ltb-true first count lt, inl refl)
    by_test false ge = let above = ltb-false first count ge in (0, some, inr (refl, omega (arith, above)))

pub some_turn : (b : BusState) → 0 < length b.devices.entries → (entry : ℕ) × (entry < length b.devices.entries) × IsTurn entry b
some_turn b some = by_holder (holder b) refl
  where
    by_holder : (o : Option ℕ) → holder b ≡ o → (entry : ℕ) × (entry < length b.devices.entries) × IsTurn entry b
    by_holder (Some entry) held =
        let x = has_exchange entry b held in (entry, within entry x.device b.devices.entries x.there, inl held)
    by_holder None free =
        let next = first_around (length b.devices.entries) b.first some in (next.0, next.1, inr (free, next.2))

-- ---- where each entry is due whose session lasts

abbrev pub Lasts : Entry → Type 0
Lasts d = d.controller.session.state ≡ Closed → ⊥

abbrev pub LastingDue : ℕ → List Entry → Type 0
LastingDue now ds = AllAre (λ d. Lasts d → is_entry_due now d ≡ true) ds

outstanding_lasts : (state : State) → is_outstanding state ≡ true → state ≡ Closed → ⊥
outstanding_lasts state stands closed = absurd (let none : is_outstanding state ≡ false = ap is_outstanding closed in cc)

-- one comes before all others, where it is asked first
first_before : (entry k : ℕ) → (entry ≡ k → ⊥) → IsBefore entry entry k
first_before entry k other = by_side (nat_lt k entry) refl
  where
    by_side : (t : Bool) → nat_lt k entry ≡ t → IsBefore entry entry k
    by_side true lt = inr (inr (ltb-true k entry lt, omega arith))
    by_side false ge = inl (omega arith, strictly entry k (ltb-false k entry ge) (λ e. other (sym e)))

-- around, where the number is past the last
before_around : (count first entry at k : ℕ) → at < count → k < count → IsFirst count first entry → IsBefore first at k → IsBefore entry at k
before_around count first entry at k few within (inl here) before = subst (λ f. IsBefore f at k) here before
before_around count first entry at k few within (inr (zeroth, past)) (inl (above, below)) = absurd (omega (arith, past, above, few))
before_around count first entry at k few within (inr (zeroth, past)) (inr (inl (below, under))) = inl (omega (arith, zeroth), below)
before_around count first entry at k few within (inr (zeroth, past)) (inr (inr (under, above))) = absurd (omega (arith, past, above, few))

-- the entry that ticks: nobody else holds the line, and around from the one that is asked first it comes before one that is due
pub record Ticks (entry k : ℕ) (b : BusState) : Type 0 where
  pub at : ℕ
  pub device : Entry
  pub there : device_of at b ≡ Some device
  pub due : is_entry_due b.greatest device ≡ true
  pub alone : (i : ℕ) (d : Entry) → slice_get b.devices.entries i ≡ Some d → holds d ≡ true → i ≡ at
  pub before : (at ≡ k → ⊥) → IsBefore entry at k
  pub ticks : ticks_on b ≡ ticks_with at (Some device) b
  pub who : due_by (holder b) b ≡ Some at

-- the entry that ticks, or none
abbrev one_or_none : Bool → Option ℕ → Option ℕ
one_or_none ticks o = if ticks then o else None

abbrev none_or_one : Bool → Option ℕ → Option ℕ
none_or_one rests o = if rests then None else o

module _ (b : BusState) (due : LastingDue b.greatest b.devices.entries) (one : OneHolds b.devices) where
  is_due_here : (entry : ℕ) (d : Entry) → device_of entry b ≡ Some d → is_entry_due b.greatest d ≡ true → is_due_at entry b ≡ true
  is_due_here entry d at is = ap (λ o. option_map_or (is_entry_due b.greatest) o false) at ∙ is

  turn_ticks : (entry k : ℕ) → b.held ≡ [] → has_report b ≡ false → IsTurn entry b → IsDueEntry k b → Ticks entry k b
  turn_ticks entry k held none (inl here) mine =
      let x = has_exchange entry b here in
      let d = x.device in
      let due_d = due entry d x.there (outstanding_lasts d.controller.session.state x.outstanding) in
      let both : is_held_and_due entry b ≡ true =
      ap (λ o. option_map_or holds o false && is_due_at entry b) x.there
      ∙ ap (λ h. h && is_due_at entry b) x.outstanding
      ∙ is_due_here entry d x.there due_d in
      record {
        at = entry;
        device = d;
        there = x.there;
        due = due_d;
        alone = λ i e at h. one i entry e d at x.there h x.outstanding;
        before = first_before entry k;
        ticks = ap (λ o. ticks_by o b) here
            ∙ ap (λ t. if t then ticks_held entry (ends_run b) else stays b) (is_due_here entry d x.there due_d)
            ∙ ap (ticks_held entry) (nothing_ends b held)
            ∙ ap (λ t. if t || not (is_held_and_due entry b) then stays b else ticks_at (Some entry) b) none
            ∙ ap (λ t. if not t then stays b else ticks_at (Some entry) b) both
            ∙ ap (λ o. ticks_with entry o b) x.there;
        who = ap (λ o. due_by o b) here
            ∙ ap (λ t. one_or_none t (asks_holder None (λ asked. asked) entry b)) (is_due_here entry d x.there due_d)
            ∙ ap (λ t. none_or_one (t || not (is_held_and_due entry b)) (Some entry)) none
            ∙ ap (λ t. none_or_one (not t) (Some entry)) both;
      }
  turn_ticks entry k held none (inr (free, first)) mine = by_next (next_due b) refl
    where
      by_next : (o : Option ℕ) → next_due b ≡ o → Ticks entry k b
      by_next None nobody_due = absurd (none_is_due b nobody_due k mine)
      by_next (Some at) is =
          let next = due_is_next at b is in
          let d = next.due.device in
          let few = within at d b.devices.entries next.due.there in
          record {
            at = at;
            device = d;
            there = next.due.there;
            due = next.due.due;
            alone = λ i e at h. absurd (nobody b free i e at h);
            before = λ other.
                before_around (length b.devices.entries) b.first entry at k few (within k mine.device b.devices.entries mine.there) first
                (next.first k mine (λ e. other (sym e)));
            ticks = ap (λ o. ticks_by o b) free
                ∙ ap ticks_free (nothing_ends b held)
                ∙ ap (λ t. if t then stays b else ticks_at (next_due b) b) none
                ∙ ap (λ o. ticks_at o b) is
                ∙ ap (λ o. ticks_with at o b) next.due.there;
            who = ap (λ o. due_by o b) free ∙ ap (λ t. none_or_one t (next_due b)) none ∙ is;
          }

-- so it is of a tick of the whole bus
pub record BusTicks (now entry k : ℕ) (b : BusState) : Type 0 where
  pub turn : Ticks entry k (seen now b)
  pub ticks : bus_ticks now b ≡ ticks_with turn.at (Some turn.device) (seen now b)
  pub who : who_ticks now b ≡ Some turn.at

pub tick_is : (now entry k : ℕ) (b : BusState) → LastingDue (max b.greatest now) b.devices.entries → OneHolds b.devices → b.held ≡ []
    → b.devices.report ≡ None → IsTurn entry b → (d : Entry) → device_of k b ≡ Some d → is_entry_due (max b.greatest now) d ≡ true
    → BusTicks now entry k b
tick_is now entry k b due one held none turn d at mine =
    let silent : has_report b ≡ false = ap (λ o. is_some o) none in
    let is = turn_ticks (seen now b) due one entry k held silent turn (record { device = d; there = at; due = mine }) in
    record {
      turn = is;
      ticks = ap (λ t. if t then stays (seen now b) else ticks_on (ends_silent (seen now b))) silent
          ∙ ap ticks_on (nothing_silent (seen now b) held)
          ∙ is.ticks;
      who = is.who;
    }

-- ---- the next

-- after the turn of one the next entry is asked first
abbrev pub IsAfter : ℕ → ℕ → ℕ → Type 0
IsAfter count entry next = (next ≡ entry + 1) ⊎ ((next ≡ 0) × (count ≡ entry + 1))

pub next_turn : (count entry next : ℕ) → next < count → entry < count → IsFirst count (entry + 1) next → IsAfter count entry next
next_turn count entry next few within (inl here) = inl (sym here)
next_turn count entry next few within (inr (zeroth, past)) = inr (zeroth, omega (arith, past, within))

-- around from the entry that is asked first, one has its turn after so many turns of others at most
abbrev pub IsAway : ℕ → ℕ → ℕ → ℕ → Type 0
IsAway count entry k away = ((entry ≤ k) × (k ≤ entry + away)) ⊎ ((k < entry) × (k + count ≤ entry + away))

pub once_around : (count entry k : ℕ) → entry < count → k < count → IsAway count entry k (count - 1)
once_around count entry k here there = by_side (nat_lt k entry) refl
  where
    by_side : (t : Bool) → nat_lt k entry ≡ t → IsAway count entry k (count - 1)
    by_side true lt = let below = ltb-true k entry lt in inr (below, omega (arith, below, here, there))
    by_side false ge = let above = ltb-false k entry ge in inl (above, omega (arith, above, there))

-- a turn of another that comes before: one less, counted from the place after it
abbrev Less : ℕ → ℕ → ℕ → ℕ → Type 0
Less count at k away = (1 ≤ away) × IsAway count (at + 1) k (away - 1)

away_less : (count entry at k away : ℕ) → entry < count → at < count → k < count → IsBefore entry at k → IsAway count entry k away → Less count at k away
away_less count entry at k away here few there (inl (above, below)) (inl (low, high)) =
    (omega (arith, above, below, high), inl (omega (arith, below), omega (arith, above, below, high)))
away_less count entry at k away here few there (inl (above, below)) (inr (low, high)) = absurd (omega (arith, above, below, low))
away_less count entry at k away here few there (inr (inl (below, under))) (inl (low, high)) = absurd (omega (arith, under, low))
away_less count entry at k away here few there (inr (inl (below, under))) (inr (low, high)) =
    (omega (arith, here, high), inl (omega (arith, below), omega (arith, here, high)))
away_less count entry at k away here few there (inr (inr (under, above))) (inl (low, high)) = absurd (omega (arith, under, low))
away_less count entry at k away here few there (inr (inr (under, above))) (inr (low, high)) =
    (omega (arith, above, few, high), inr (omega (arith, under, above), omega (arith, above, few, high)))

-- .. or from the first, around
pub away_next : (count entry at k next away : ℕ) → entry < count → at < count → k < count → IsBefore entry at k → IsAfter count at next
    → IsAway count entry k away → (1 ≤ away) × IsAway count next k (away - 1)
away_next count entry at k next away here few there before after is =
    let less = away_less count entry at k away here few there before is in (less.0, around after less.1)
  where
    around : IsAfter count at next → IsAway count (at + 1) k (away - 1) → IsAway count next k (away - 1)
    around (inl one) less = subst (λ n. IsAway count n k (away - 1)) (sym one) less
    around (inr (zeroth, last)) (inl (low, high)) = absurd (omega (arith, last, low, there))
    around (inr (zeroth, last)) (inr (low, high)) = inl (omega (arith, zeroth), omega (arith, zeroth, last, high))
