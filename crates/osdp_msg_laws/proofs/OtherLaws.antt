-- Laws of numbers in bytes, and of the replies that fit.
use Rattle.osdp_msg_laws.proofs.Common.{◌≡◌, ◌<◌, ◌+◌, ◌*◌, ℕ, true, false, [], ◌∷◌, refl, ap, ◌∙◌, arith, little_bytes, Command, Poll, Event, Busy, event_reply, FitsByKind, HasLowByteFirst, number_2, number_4}
use Rattle.osdp_msg.specs.declared.event.Event.TheVariants as events
use Rattle.osdp_msg.specs.Fitting.{reply_fits}

two_bytes : (a b : ℕ) → a < 256 → b < 256 → little_bytes 2 (a + 256 * b) ≡ a ∷ b ∷ []
two_bytes a b ha hb =
    let e : a + 256 * b ≡ a + 256 * (b + 0) = omega arith in
    ap (little_bytes 2) e ∙ number_2 a b ha hb

four_bytes : (a b c d : ℕ) → a < 256 → b < 256 → c < 256 → d < 256 → little_bytes 4 (a + 256 * b + 65536 * c + 16777216 * d) ≡ a ∷ b ∷ c ∷ d ∷ []
four_bytes a b c d ha hb hc hd =
    let e : a + 256 * b + 65536 * c + 16777216 * d ≡ a + 256 * (b + 256 * (c + 256 * (d + 0))) = omega arith in
    ap (little_bytes 4) e ∙ number_4 a b c d ha hb hc hd

pub low_byte_first : HasLowByteFirst
low_byte_first = (two_bytes, four_bytes)

busy_never : (m : Command) → reply_fits m Busy ≡ false
busy_never Poll = refl
busy_never m = refl

event_polled : (e : Event) → reply_fits Poll (event_reply e) ≡ true
event_polled (events.LocalState s) = refl
event_polled e = refl

pub fits_by_kind : FitsByKind
fits_by_kind = record { nak = λ m n. refl; busy = busy_never; event = event_polled }
