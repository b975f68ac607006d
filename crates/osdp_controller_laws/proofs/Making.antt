-- How a controller comes about, by the cases of the answer, and which deadline it tells.
use Rattle.osdp_controller_laws.proofs.Common.{◌≡◌, ◌≤◌, ◌∙◌, ap, arith, inl, inr, refl, sym, ℕ, true, false, Some, None, max, nat_le, leb-true, le-leb, ControllerConfig, Machine, new_machine}
use Rattle.std.specs.Prelude.{Ok, Err}
use Rattle.osdp_controller.specs.declared.fault.ControllerFault.TheVariants.{Full, NoMemory, NotClosed, OutOfRange, PollSubmitted}
use Rattle.osdp_controller.specs.Machine.{AreSettings, IsDeadline}
use Rattle.osdp_controller_laws.specs.Making.{AreInRange, ComesOfItsSettings, HasOneDeadline, IsNew}

pub in_range : (c : ControllerConfig) (messages bytes : ℕ) → AreSettings c messages bytes → AreInRange c messages bytes
in_range c messages bytes are =
    let set = are.config_in_range in
    let below = set.address in record {
      address = omega (arith, below);
      reply_wait = set.reply_wait;
      poll_interval = set.poll_interval;
      sends = set.sends;
      busy_wait = set.busy_wait;
      busy_limit = set.busy_limit;
      quiet_wait = set.quiet_wait;
      messages_room = (are.room, are.limit);
      bytes_room = are.bytes;
    }

pub are_settings : (c : ControllerConfig) (messages bytes : ℕ) → AreInRange c messages bytes → AreSettings c messages bytes
are_settings c messages bytes are =
    let below = are.address in record {
      config_in_range = record {
        address = omega (arith, below);
        reply_wait = are.reply_wait;
        poll_interval = are.poll_interval;
        busy_wait = are.busy_wait;
        quiet_wait = are.quiet_wait;
        sends = are.sends;
        busy_limit = are.busy_limit;
      };
      room = are.messages_room.0;
      limit = are.messages_room.1;
      bytes = are.bytes_room;
    }

is_new : (config : ControllerConfig) (messages bytes : ℕ) (m : Machine) → m ≡ new_machine config messages bytes → IsNew config messages bytes m
is_new config messages bytes m is = record {
  settings = ap (λ (x : Machine). x.session.config) is;
  closed = ap (λ (x : Machine). x.session.state) is;
  no_moment = ap (λ (x : Machine). x.session.greatest) is;
  no_command = ap (λ (x : Machine). x.waiting) is;
  messages_room = ap (λ (x : Machine). x.capacity) is;
  bytes_room = ap (λ (x : Machine). x.room) is;
}

pub comes_of_its_settings : ComesOfItsSettings
comes_of_its_settings config messages bytes (Ok m) is = inr (in_range config messages bytes is.0, inr (m, refl, is_new config messages bytes m is.1))
comes_of_its_settings config messages bytes (Err OutOfRange) isnt = inl (λ are. isnt (are_settings config messages bytes are), refl)
comes_of_its_settings config messages bytes (Err NoMemory) is = inr (in_range config messages bytes is, inl refl)
comes_of_its_settings config messages bytes (Err Full) is = absurd is
comes_of_its_settings config messages bytes (Err PollSubmitted) is = absurd is
comes_of_its_settings config messages bytes (Err NotClosed) is = absurd is

-- at its own moment a deadline is reached
reached : (deadline greatest : ℕ) → greatest ≤ deadline → nat_le deadline (max greatest deadline) ≡ true
reached deadline greatest h = le-leb deadline (max greatest deadline) (omega (arith, h))

-- so no other is later
no_later : (m : Machine) (one other : ℕ) → IsDeadline m (Some one) → IsDeadline m (Some other) → one ≤ other
no_later m one other is its =
    let at = its.0 in
    let due : nat_le one (max m.session.greatest other) ≡ true = sym (is.1 other) ∙ (its.1 other ∙ reached other m.session.greatest at) in
    let by = leb-true one (max m.session.greatest other) due in
    omega (arith, by, at)

never : (m : Machine) (one : ℕ) → IsDeadline m None → IsDeadline m (Some one) → ⊥
never m one none is =
    let due : true ≡ false = sym (reached one m.session.greatest is.0) ∙ (sym (is.1 one) ∙ none one) in cc

pub has_one_deadline : (m : Machine) → HasOneDeadline m
has_one_deadline m None None is its = refl
has_one_deadline m None (Some other) is its = absurd (never m other is its)
has_one_deadline m (Some one) None is its = absurd (never m one its is)
has_one_deadline m (Some one) (Some other) is its =
    let below = no_later m one other is its in
    let above = no_later m other one its is in
    let same : one ≡ other = omega (arith, below, above) in ap (λ (d : ℕ). Some d) same
