-- The words that ask for a form: which of them cannot stand where it is.
use Rattle.osdp_tool_test.proofs.Common.{ℕ, List, [], ◌∷◌, ◌++◌, codes, refl, sym, ap, subst, AsksForm, Plain, Tap}
use Rattle.std.specs.Borrow.{Bor}
use Rattle.osdp_refused_words.proofs.Stopping.{stops_alike}
use Rattle.osdp_refused_words.specs.Slots.{Fills}
use Rattle.osdp_refused_words.specs.Stops.{GoesOn, StopsAt}
use Rattle.osdp_refused_words.specs.declared.slot.Slot.{Slot}
use Rattle.osdp_refused_words.specs.declared.slot.Slot.TheVariants.{Text}

abbrev lent : List ℕ → Bor (List ℕ)
lent text = record { ref_ptr = (0, 0); now = text }

abbrev TapAlone : List Slot
TapAlone = Text (lent (codes "--tap")) ∷ []

tap_fills : Fills TapAlone (codes "--tap" ∷ [])
tap_fills = ((tt, tt), (refl, tt), (tt, tt))

to : (front : List (List ℕ)) → GoesOn AsksForm front → GoesOn (Fills TapAlone) front
to [] goes = (codes "--tap" ∷ [], tap_fills)
to (word ∷ front) (rest, (Plain, e)) = cc e
to (word ∷ front) (rest, (Tap, e)) = (rest, subst (Fills TapAlone) (sym e) tap_fills)

asks : (given : List (List ℕ)) → Fills TapAlone given → AsksForm given
asks [] (vs, s, f) = absurd s
asks (word ∷ []) (vs, s, f) = (Tap, ap (λ (x : List ℕ). x ∷ []) s.0)
asks (word ∷ more ∷ given) (vs, s, f) = absurd s.1

pub form_stops : (given : List (List ℕ)) (place : ℕ) → StopsAt (Fills TapAlone) given place → StopsAt AsksForm given place
form_stops given place h = stops_alike AsksForm (Fills TapAlone) given place (record { to = to; from = λ front goes. (goes.0, asks (front ++ goes.0) goes.1) }) h
