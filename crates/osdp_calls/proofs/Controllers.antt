-- A controller of the bus and that of its site, from call to call.
use Rattle.osdp_calls.proofs.Common.{◌≡◌, ◌≤◌, ℕ, ◌+◌, max, Bool, true, false, cond, Option, Some, None, refl, sym, ap, ◌∙◌, arith, ◌&&◌, ◌^◌, ◌-◌, min, Packet, Command, meaning_of, Heard, hears, hears_in, ignores, is_from_reader, Machine, after_begin, after_retarget, after_submit, refused_unless_closed, Ticked, ticks, ticks_in, Session, State, Closed, Quiet}
use Rattle.osdp_controller.specs.Machine.{after_withdraw, kept_in, withdrawn_in}
use Rattle.osdp_controller.specs.Sessions.{seen}
use Rattle.osdp_calls.proofs.Same.{Controls, IsSame, IsToOpen, at_moment, closed_at}

-- ---- moments

pub controls_later : (o : Option ℕ) (top next : ℕ) (m c : Machine) → top ≤ next → Controls o top m c → Controls o next m c
controls_later None top next m c le is = record { moment = is.moment; same = is.same; later = λ x le2. is.later x (omega (arith, le, le2)) }
controls_later (Some began) top next m c le is =
    record { moment = is.moment; same = is.same; quiet = is.quiet; later = λ x le2. is.later x (omega (arith, le, le2)) }

seen_more : (a b top x : ℕ) → top ≤ x → a ≡ max b x → a ≡ max (max b top) x
seen_more a b top x le is = omega (arith, le, is)

-- the bus's controller has seen the moment alone
pub saw : (o : Option ℕ) (top : ℕ) (m c : Machine) → Controls o top m c → Controls o top (record m { session = seen top m.session }) c
saw None top m c is = record { moment = is.moment; same = is.same; later = λ x le. seen_more (max is.moment x) m.session.greatest top x le (is.later x le) }
saw (Some began) top m c is = record {
  moment = is.moment;
  same = is.same;
  quiet = is.quiet;
  later = λ x le. seen_more (max (max is.moment began) x) m.session.greatest top x le (is.later x le);
}

-- ---- a packet

pub ignored_command : (p : Packet) (now : ℕ) (s : Session) → p.reply ≡ false → hears p now s ≡ ignores (seen now s)
ignored_command p now s is = ap (λ b. cond ((b && (hearing_address p s)) && not_block p) (hears_in s.state p.sequence (meaning_of p) (seen now s)) (ignores (seen now s))) is
  where
    hearing_address : Packet → Session → Bool
    hearing_address p s = Rattle.std.specs.Prelude.◌==◌ p.address s.config.address

    not_block : Packet → Bool
    not_block p = Rattle.std.specs.Prelude.not p.block

-- where no exchange can be outstanding
pub ignored_quiet : (p : Packet) (now : ℕ) (s : Session) (until : ℕ) → s.state ≡ Quiet until → hears p now s ≡ ignores (seen now s)
ignored_quiet p now s until is =
    ap (λ st. cond (is_from_reader p s) (hears_in st p.sequence (meaning_of p) (seen now s)) (ignores (seen now s))) is ∙ either (is_from_reader p s)
  where
    either : (b : Bool) → cond b (ignores (seen now s)) (ignores (seen now s)) ≡ ignores (seen now s)
    either true = refl
    either false = refl

pub hears_same : (p : Packet) (top : ℕ) (m c : Machine) → IsSame top m c → hears p top c.session ≡ hears p top m.session
hears_same p top m c is =
    ap (λ (d : Machine). hears p top d.session) is.same
    ∙ ap (λ x. cond (is_from_reader p m.session) (hears_in m.session.state p.sequence (meaning_of p) (record m.session { greatest = x }))
    (ignores (record m.session { greatest = x }))) (is.later top (omega arith))

pub equal_same : (top : ℕ) (m c : Machine) → c ≡ m → IsSame top m c
equal_same top m c is = record { moment = m.session.greatest; same = is; later = λ x le. refl }

pub heard_same : (p : Packet) (top : ℕ) (m c : Machine) → IsSame top m c
    → IsSame top (record m { session = (hears p top m.session).session }) (record c { session = (hears p top c.session).session })
heard_same p top m c is =
    equal_same top (record m { session = (hears p top m.session).session }) (record c { session = (hears p top c.session).session })
    (ap (λ (d : Machine). record d { session = (hears p top c.session).session }) is.same
    ∙ ap (λ (h : Heard). record m { session = h.session }) (hears_same p top m c is))

-- ---- a tick

pub ticks_same : (top : ℕ) (m c : Machine) → IsSame top m c → ticks top c.session c.waiting ≡ ticks top m.session m.waiting
ticks_same top m c is =
    ap (λ (d : Machine). ticks top d.session d.waiting) is.same
    ∙ ap (λ x. ticks_in m.session.state (record m.session { greatest = x }) m.waiting) (is.later top (omega arith))

pub ticked_same : (top : ℕ) (m c : Machine) (t : Ticked) → c.capacity ≡ m.capacity → c.room ≡ m.room → ticks top c.session c.waiting ≡ ticks top m.session m.waiting
    → IsSame top (record m { session = (ticks top m.session m.waiting).session; waiting = (ticks top m.session m.waiting).waiting })
    (record c { session = (ticks top c.session c.waiting).session; waiting = (ticks top c.session c.waiting).waiting })
ticked_same top m c t room bytes is =
    equal_same top (record m { session = (ticks top m.session m.waiting).session; waiting = (ticks top m.session m.waiting).waiting })
    (record c { session = (ticks top c.session c.waiting).session; waiting = (ticks top c.session c.waiting).waiting })
    (λ i. record { session = (is i).session; waiting = (is i).waiting; capacity = room i; room = bytes i })

-- the opening ID goes out: the session of the site begins at its moment, and ticks
pub opened_ticks : (began top : ℕ) (m c : Machine) → IsToOpen began top m c
    → ticks top (after_begin began c).session (after_begin began c).waiting ≡ ticks top m.session m.waiting
opened_ticks began top m c is =
    ap (λ (d : Machine). ticks top (after_begin began d).session (after_begin began d).waiting) is.same
    ∙ ap (λ x. ticks_in q (record m.session { state = q; greatest = x }) m.waiting) (is.later top (omega arith))
    ∙ ap (λ st. ticks_in st (record m.session { state = st; greatest = max m.session.greatest top }) m.waiting) (sym is.quiet)
  where
    q : State
    q = Quiet (Rattle.osdp_controller.specs.Sessions.later m.session.config.quiet_wait (seen began (at_moment is.moment m).session))

-- ---- a session is to begin

pub closed_of : (st : State) → refused_unless_closed st ≡ None → st ≡ Closed
closed_of Closed is = refl
closed_of _ is = absurd cc

pub is_to_open : (top at : ℕ) (m c : Machine) → top ≤ at → m.session.state ≡ Closed → IsSame top m c → IsToOpen at at (after_begin at m) c
is_to_open top at m c le shut is = record {
  moment = is.moment;
  same = is.same ∙ ap (λ st. record m { session = record m.session { state = st; greatest = is.moment } }) shut;
  quiet = ap (λ x. Quiet (min (x + m.session.config.quiet_wait) (2 ^ 64 - 1))) (sym (is.later at le));
  later = λ x le2. ap (λ y. max y x) (is.later at le);
}

-- ---- commands and addresses

pub submitted_same : (o : Option ℕ) (top : ℕ) (command : Command) (m c : Machine) → Controls o top m c → Controls o top (after_submit command m) (after_submit command c)
submitted_same None top command m c is = record { moment = is.moment; same = ap (after_submit command) is.same; later = is.later }
submitted_same (Some began) top command m c is =
    record { moment = is.moment; same = ap (after_submit command) is.same; quiet = is.quiet; later = is.later }

-- the same one is taken back, also where a session is to begin: no command is on its way then
pub taken_back_same : (o : Option ℕ) (top : ℕ) (m c : Machine) → Controls o top m c → withdrawn_in c.session.state c.waiting ≡ withdrawn_in m.session.state m.waiting
taken_back_same None top m c is = ap (λ (x : Machine). withdrawn_in x.session.state x.waiting) is.same
taken_back_same (Some began) top m c is =
    ap (λ (x : Machine). withdrawn_in x.session.state x.waiting) is.same ∙ sym (ap (λ (st : State). withdrawn_in st m.waiting) is.quiet)

pub withdrawn_same : (o : Option ℕ) (top : ℕ) (m c : Machine) → Controls o top m c → Controls o top (after_withdraw m) (after_withdraw c)
withdrawn_same None top m c is = record { moment = is.moment; same = ap after_withdraw is.same; later = is.later }
withdrawn_same (Some began) top m c is = record {
  moment = is.moment;
  same = ap after_withdraw is.same ∙ sym (ap (λ (st : State). record (closed_at is.moment m) { waiting = kept_in st m.waiting }) is.quiet);
  quiet = is.quiet;
  later = is.later;
}

pub retargeted_same : (top address : ℕ) (m c : Machine) → IsSame top m c → IsSame top (after_retarget address m) (after_retarget address c)
retargeted_same top address m c is = record { moment = is.moment; same = ap (after_retarget address) is.same; later = is.later }

pub config_same : (o : Option ℕ) (top : ℕ) (m c : Machine) → Controls o top m c → c.session.config ≡ m.session.config
config_same None top m c is = ap (λ (d : Machine). d.session.config) is.same
config_same (Some began) top m c is = ap (λ (d : Machine). d.session.config) is.same

pub waiting_same : (o : Option ℕ) (top : ℕ) (m c : Machine) → Controls o top m c → c.waiting ≡ m.waiting
waiting_same None top m c is = ap (λ (d : Machine). d.waiting) is.same
waiting_same (Some began) top m c is = ap (λ (d : Machine). d.waiting) is.same
