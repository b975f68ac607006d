-- A controller stays at a device's address: a COMSET moves it to such a one alone.
use Rattle.osdp_link_laws.proofs.Common.{◌≡◌, ◌<◌, ℕ, List, max, cond, Option, Some, None, sym, ap, ◌∙◌, inl, inr, le-ltb, leb_tells, Packet, Command, hears, seen, ticks_in, ControllerConfig, Report, Session, or_no_device, refused_unless_closed, OutOfRange, State, Closed, HandlerAnswer, MoveFits, Link, Move, after_move}
use Rattle.osdp_controller_laws.proofs.Kept.{HoldsOfKept, frame_keeps, tick_keeps}
use Rattle.osdp_link_laws.proofs.Controllers.{IsKept, IsKeptOutside, move_keeps}

abbrev pub AtDevice : Session → Type 0
AtDevice s = s.config.address < 127

abbrev At : Option Report → ℕ → ControllerConfig → Type 0
At report greatest c = c.address < 127

at_device : (greatest : ℕ) (c : ControllerConfig) → c.address < 127 → HoldsOfKept At greatest c
at_device greatest c is = record { same = λ report stays. is; moved = λ command d device. device }

tick_there : (state : State) (s : Session) (waiting : List Command) → AtDevice s → AtDevice (ticks_in state s waiting).session
tick_there state s waiting is = tick_keeps At state s waiting (at_device s.greatest s.config is)

hears_there : (p : Packet) (now : ℕ) (s : Session) → AtDevice s → AtDevice (hears p now s).session
hears_there p now s is = frame_keeps At p now s (at_device (max s.greatest now) s.config is)

stays_there : IsKept AtDevice
stays_there = record {
  tick = λ now m is. tick_there m.session.state (seen now m.session) m.waiting is;
  frame = λ p now m is. hears_there p now m.session is;
}

target_device : (state : State) (address : ℕ) → or_no_device (refused_unless_closed state) address ≡ None → address < 127
target_device Closed address may =
    elim (leb_tells 127 address) [
      | inl far ↦ absurd (let e = sym (ap (λ b. cond b None (Some OutOfRange)) (le-ltb address 127 far.1)) ∙ may in cc)
      | inr near ↦ near.1
    ]
target_device state address may = absurd cc

outside : IsKeptOutside AtDevice
outside = record {
  begin = λ now m may is. is;
  target = λ address m may is. target_device m.session.state address may;
  restart = λ config room settings. settings.config_in_range.address;
}

module _ {H : Type 0} (answer_of : H → Command → HandlerAnswer) (after : H → Command → H) where
  abbrev pub IsDevice : Link H → Type 0
  IsDevice l = AtDevice l.controller.session

  pub move_there : (move : Move H) (l : Link H) → MoveFits answer_of after move l → IsDevice l → IsDevice (after_move answer_of after move l)
  move_there move l fits is = move_keeps answer_of after AtDevice stays_there outside move l fits is
