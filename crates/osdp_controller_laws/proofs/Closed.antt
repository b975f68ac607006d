-- A closed session: it may begin again, and nothing tells that it ends.
use Rattle.osdp_controller_laws.proofs.Common.{◌≡◌, ℕ, true, false, List, None, refl, sym, subst, ap, Packet, Command, meaning_of, Heard, hears, refused_unless_closed, numbered_in, seen, is_closed, ticks_in, Session, State, Closed, tells_end}
use Rattle.osdp_controller_laws.proofs.Frames.{either_frame}

pub closed_is : (state : State) → is_closed state ≡ true → state ≡ Closed
closed_is Closed e = refl
closed_is state e = absurd cc

pub may_begin : (state : State) → is_closed state ≡ true → refused_unless_closed state ≡ None
may_begin state e = ap refused_unless_closed (closed_is state e)

-- only such a session may begin
pub was_closed : (state : State) → refused_unless_closed state ≡ None → state ≡ Closed
was_closed Closed e = refl
was_closed state e = absurd cc

pub silent_tick : (state : State) (s : Session) (waiting : List Command) → is_closed state ≡ true → tells_end (ticks_in state s waiting).step.report ≡ false
silent_tick state s waiting e =
    subst (λ (other : State). tells_end (ticks_in other s waiting).step.report ≡ false) (sym (closed_is state e)) refl

abbrev IsSilent : Heard → Type 0
IsSilent h = tells_end h.report ≡ false

pub silent_frame : (p : Packet) (now : ℕ) (s : Session) → is_closed s.state ≡ true → IsSilent (hears p now s)
silent_frame p now s e =
    either_frame IsSilent p now s
    (λ from number. subst (λ (other : State). IsSilent (numbered_in other (meaning_of p) (seen now s))) (sym (closed_is s.state e)) refl) refl
