-- The reply that tells an event tells no other.
use Rattle.osdp_msg_laws.proofs.Common.{◌≡◌, ◌∙◌, ap, refl, sym, Event, Reply, event_reply}
use Rattle.osdp_msg.specs.declared.event.Event.TheVariants as events
use Rattle.osdp_msg.specs.declared.reply.Reply.TheVariants as replies

-- the event of a reply that tells one
event_of : Event → Reply → Event
event_of other (replies.LocalState x) = events.LocalState x
event_of other (replies.Inputs x) = events.Inputs x
event_of other (replies.Outputs x) = events.Outputs x
event_of other (replies.Readers x) = events.Readers x
event_of other (replies.Raw x) = events.Raw x
event_of other (replies.Formatted x) = events.Formatted x
event_of other (replies.Keypad x) = events.Keypad x
event_of other reply = other

event_again : (other e : Event) → event_of other (event_reply e) ≡ e
unfolding event_of
event_again other (events.LocalState x) = refl
event_again other (events.Inputs x) = refl
event_again other (events.Outputs x) = refl
event_again other (events.Readers x) = refl
event_again other (events.Raw x) = refl
event_again other (events.Formatted x) = refl
event_again other (events.Keypad x) = refl

pub same_event : (x y : Event) → event_reply x ≡ event_reply y → x ≡ y
same_event x y same = sym (event_again x x) ∙ ap (event_of x) same ∙ event_again x y
