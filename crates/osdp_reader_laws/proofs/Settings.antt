-- What no packet changes.
use Rattle.osdp_reader_laws.proofs.Common.{◌≡◌, refl, Packet, Command, Answer, Kind, ReaderState, outcome}
use Rattle.osdp_reader_laws.proofs.Outcomes.{IsKeptByEffects, outcome_keeps}

module _ {H : Type 0} where
  abbrev HasSettingsOf : ReaderState H → ReaderState H → Type 0
  HasSettingsOf r s =
      (s.busy ≡ r.busy) × (s.queue.capacity ≡ r.queue.capacity) × (s.queue.room ≡ r.queue.room) × (s.config.id ≡ r.config.id) × (s.config.caps ≡ r.config.caps)

  keeps_settings : (r : ReaderState H) → IsKeptByEffects (HasSettingsOf r)
  keeps_settings r = record {
    moved = λ s address within same. same;
    zero = λ s handler same. same;
    next = λ s number back told handler same. same;
  }

  pub outcome_settings : (answer_of : H → Command → Answer) (after : H → Command → H) (kind : Kind) (r : ReaderState H) (p : Packet)
      → HasSettingsOf r (outcome answer_of after kind r p).reader
  outcome_settings answer_of after kind r p =
      outcome_keeps answer_of after (HasSettingsOf r) kind r p (keeps_settings r) (refl, refl, refl, refl, refl)
