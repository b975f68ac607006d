-- What a device does with a command, by the kind of its packet.
use Rattle.osdp_device.proofs.Common.{◌≡◌, ◌⊎◌, ◌↔◌, Bool, false, Option, Some, None, inl, inr, refl, sym, subst, ap, Packet, Command, Poll, Answer, Kind, Zero, Taken, ReaderState, outcome, either, order_by, again_by, but_poll, taken_by, Nothing, Once, Again}
use Rattle.std.specs.Prelude.{◌≢◌}
use Rattle.osdp_device.specs.declared.order.Order.{Order}

abbrev IsActed : Kind → Type 0
IsActed k = (k ≡ Zero) ⊎ (k ≡ Taken)

-- a command is acted on with number 0 or the next one alone
pub acted : {H : Type 0} (answer_of : H → Command → Answer) (after : H → Command → H) (k : Kind) (r : ReaderState H) (p : Packet) (command : Command)
    → (outcome answer_of after k r p).command ≡ Some command → IsActed k
acted answer_of after Zero r p command e = inl refl
acted answer_of after Taken r p command e = inr refl
acted answer_of after _ r p command e = absurd cc

no_poll : (command : Command) → command ≢ Poll → but_poll (Some command) ≡ Some command
no_poll Poll is_no = absurd (is_no refl)
no_poll _ is_no = refl

-- the order of a command, by whether it is refused and by its kind
abbrev pub order_at : Bool → Kind → Option Command → Order
order_at refused k command = order_by refused (taken_by k command) (again_by k command)

pub about_it : (k : Kind) (command : Command) → command ≢ Poll → IsActed k → either (taken_by k (Some command)) (again_by k (Some command)) ≡ Some command
about_it Taken command is_no acts = ap (λ (c : Option Command). either c None) (no_poll command is_no)
about_it Zero command is_no acts = no_poll command is_no
about_it _ command is_no (inl e) = absurd cc
about_it _ command is_no (inr e) = absurd cc

pub done_once : (k : Kind) (command : Command) → command ≢ Poll → IsActed k → (order_at false k (Some command) ≡ Once) ↔ (k ≡ Taken)
done_once Taken command is_no acts =
    subst (λ (c : Option Command). (order_by false c None ≡ Once) ↔ (Taken ≡ Taken)) (sym (no_poll command is_no)) ((λ e. refl), (λ e. refl))
done_once Zero command is_no acts =
    subst (λ (c : Option Command). (order_by false None c ≡ Once) ↔ (Zero ≡ Taken)) (sym (no_poll command is_no)) ((λ e. absurd cc), (λ e. absurd cc))
done_once _ command is_no (inl e) = absurd cc
done_once _ command is_no (inr e) = absurd cc

pub done_again : (k : Kind) (command : Command) → command ≢ Poll → IsActed k → (order_at false k (Some command) ≡ Again) ↔ (k ≡ Zero)
done_again Taken command is_no acts =
    subst (λ (c : Option Command). (order_by false c None ≡ Again) ↔ (Taken ≡ Zero)) (sym (no_poll command is_no)) ((λ e. absurd cc), (λ e. absurd cc))
done_again Zero command is_no acts =
    subst (λ (c : Option Command). (order_by false None c ≡ Again) ↔ (Zero ≡ Zero)) (sym (no_poll command is_no)) ((λ e. refl), (λ e. refl))
done_again _ command is_no (inl e) = absurd cc
done_again _ command is_no (inr e) = absurd cc

pub polled : (refused : Bool) (k : Kind) → order_at refused k (Some Poll) ≡ Nothing
polled refused Taken = refl
polled refused Zero = refl
polled refused _ = refl

pub unread : (refused : Bool) (k : Kind) → order_at refused k None ≡ Nothing
unread refused Taken = refl
unread refused Zero = refl
unread refused _ = refl
