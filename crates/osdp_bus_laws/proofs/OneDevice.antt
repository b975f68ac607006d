-- What one device of a bus keeps to, whatever comes.
use Rattle.osdp_bus_laws.proofs.Common.{◌≡◌, ◌∙◌, ap, sym, subst, inl, inr, ℕ, Bool, true, false, List, [], ◌∷◌, ◌++◌, Option, Some, None, refl, append_assoc, append-nil, ◌⊎◌, if◌then◌else◌, is_some, option_to_list, Packet, Command, Comset, Communication, NoReply, Report, Opened, Settled, Moved, Event, PollAnswered, Unread, Lost, State, Waiting, Pausing, Heard, comset_of, hears, IsMachine, Machine, is_outstanding, is_closed, ticks, GoesOn, IsAnswered, IsGivenUp, asked_by, asked_in, command_of, told_command, WhyTold, exchange_in, closed_is, begins_with_frame, keeps_settings, frames_in_steps, tells_lost, keeps_each, Entry, address_of, entry_hears, entry_ticks, holds, reserved_after, step_of, told_of, Names, ReservesItsComset, comsets_in}
use Rattle.osdp_controller.specs.declared.config.ControllerConfig.{ControllerConfig}
use Rattle.osdp_controller.specs.declared.exchange.Exchange.{Exchange}
use Rattle.osdp_controller.specs.declared.exchange.Exchange.TheVariants.{Asking}
use Rattle.osdp_controller.specs.Exchanges.{submitted_command}
use Rattle.osdp_controller_laws.specs.Calls.{told_address}
use Rattle.osdp_controller_laws.specs.Runs.{Tick, Hear, after_call}
use Rattle.osdp_controller_laws.proofs.Causes.{tells_why}
use Rattle.osdp_controller_laws.proofs.Endings.{tells_ends}
use Rattle.osdp_controller_laws.proofs.InOrder.{commands_by_place, none_outstanding}

-- ---- COMSETs on their way, and what is reserved

abbrev pub Reserves : List Communication → Option ℕ → Type 0
Reserves comsets reserved = (comsets ≡ []) ⊎ ((asked : Communication) × (comsets ≡ asked ∷ []) × (reserved ≡ Some asked.address))

-- what holds of each device of a bus
pub record IsDevice (d : Entry) : Type 0 where
  pub machine : IsMachine d.controller
  pub reserves : ReservesItsComset d

pub comsets_append : (xs ys : List Command) → comsets_in (xs ++ ys) ≡ comsets_in xs ++ comsets_in ys
comsets_append [] ys = refl
comsets_append (command ∷ xs) ys =
    ap (λ l. option_to_list (comset_of command) ++ l) (comsets_append xs ys)
    ∙ sym (append_assoc (option_to_list (comset_of command)) (comsets_in xs) (comsets_in ys))

only_one : (asked : Communication) (rest : List Communication) (reserved : Option ℕ) → Reserves (asked ∷ rest) reserved
    → (rest ≡ []) × (reserved ≡ Some asked.address)
only_one asked rest reserved (inl none) = absurd cc
only_one asked rest reserved (inr (other, one, is)) =
    let same : asked ≡ other = cc in
    (cc, is ∙ ap (λ (a : Communication). Some a.address) (sym same))

-- a command is done with
pub done_with : (comset : Option Communication) (rest : List Communication) (reserved : Option ℕ)
    → Reserves ((option_to_list comset ++ []) ++ rest) reserved → Reserves rest (if is_some comset then None else reserved)
done_with None rest reserved is = is
done_with (Some asked) rest reserved is = inl (only_one asked rest reserved is).0

-- a command is told unread or unsettled
left_open : (comset : Option Communication) (rest : List Communication) (reserved : Option ℕ)
    → Reserves ((option_to_list comset ++ []) ++ rest) reserved → Reserves rest reserved
left_open None rest reserved is = is
left_open (Some asked) rest reserved is = inl (only_one asked rest reserved is).0

open_told : (command : Option Command) (rest : List Communication) (reserved : Option ℕ)
    → Reserves (comsets_in (option_to_list command) ++ rest) reserved → Reserves rest reserved
open_told None rest reserved is = is
open_told (Some command) rest reserved is = left_open (comset_of command) rest reserved is

reserves_told : (report : Option Report) (rest : List Communication) (reserved : Option ℕ)
    → Reserves (comsets_in (option_to_list (told_command report)) ++ rest) reserved → Reserves rest (reserved_after report reserved)
reserves_told None rest reserved is = is
reserves_told (Some (Opened id)) rest reserved is = is
reserves_told (Some (Settled command reply)) rest reserved is = done_with (comset_of command) rest reserved is
reserves_told (Some (Moved command answered)) rest reserved is = done_with (comset_of command) rest reserved is
reserves_told (Some (Event event)) rest reserved is = is
reserves_told (Some (PollAnswered reply)) rest reserved is = is
reserves_told (Some (Unread command code)) rest reserved is = open_told command rest reserved is
reserves_told (Some (Lost cause command)) rest reserved is = open_told command rest reserved is

-- the outstanding command and those that wait
abbrev pub pending : Machine → List Command
pending m = option_to_list (asked_in m.session.state) ++ m.waiting

-- what is told leaves them
told_first : (before ask tell after w rest : List Command) → (ask ++ []) ++ rest ≡ w ++ [] → before ++ (ask ++ []) ≡ (tell ++ []) ++ after
    → before ++ w ≡ tell ++ (after ++ rest)
told_first before ask tell after w rest waits tells =
    let waited : w ≡ ask ++ rest = sym (append-nil w) ∙ sym waits ∙ ap (λ l. l ++ rest) (append-nil ask) in
    let told : before ++ ask ≡ tell ++ after = ap (λ l. before ++ l) (sym (append-nil ask)) ∙ tells ∙ ap (λ l. l ++ after) (append-nil tell) in
    ap (λ l. before ++ l) waited ∙ sym (append_assoc before ask rest) ∙ ap (λ l. l ++ rest) told ∙ append_assoc tell after rest

pending_told : (told : Option Command) (m k : Machine) (reserved : Option ℕ) (report : Option Report) → told ≡ told_command report
    → pending m ≡ option_to_list told ++ pending k → Reserves (comsets_in (pending m)) reserved → Reserves (comsets_in (pending k)) (reserved_after report reserved)
pending_told told m k reserved report is leave reserves =
    let parts : comsets_in (pending m) ≡ comsets_in (option_to_list (told_command report)) ++ comsets_in (pending k) =
    ap comsets_in leave ∙ ap (λ o. comsets_in (option_to_list o ++ pending k)) is
    ∙ comsets_append (option_to_list (told_command report)) (pending k) in
    reserves_told report (comsets_in (pending k)) reserved (subst (λ l. Reserves l reserved) parts reserves)

pub device_heard : (p : Packet) (now : ℕ) (d : Entry) → IsDevice d → IsDevice (entry_hears p now d)
device_heard p now d is =
    let m = d.controller in
    let place = commands_by_place m (Hear p now ∷ []) is.machine in
    record {
      machine = keeps_each (Hear p now) m is.machine;
      reserves = pending_told (told_command (told_of p now d)) m (after_call (Hear p now) m) d.reserved (told_of p now d) refl
          (told_first (option_to_list (asked_in m.session.state)) [] (option_to_list (told_command (told_of p now d)))
          (option_to_list (asked_in (after_call (Hear p now) m).session.state)) m.waiting m.waiting (sym (append-nil m.waiting)) place.told_once)
          is.reserves;
    }

pub device_ticked : (now : ℕ) (d : Entry) → IsDevice d → IsDevice (entry_ticks now d)
device_ticked now d is =
    let m = d.controller in
    let place = commands_by_place m (Tick now ∷ []) is.machine in
    record {
      machine = keeps_each (Tick now) m is.machine;
      reserves = pending_told (told_command (step_of now d).report) m (after_call (Tick now) m) d.reserved (step_of now d).report refl
          (told_first (option_to_list (asked_in m.session.state)) (option_to_list (asked_by (Tick now) m)) (option_to_list (told_command (step_of now d).report))
          (option_to_list (asked_in (after_call (Tick now) m).session.state)) m.waiting (after_call (Tick now) m).waiting
          (ap (λ l. l ++ (after_call (Tick now) m).waiting) (sym (append-nil (option_to_list (asked_by (Tick now) m) ++ []))) ∙ place.left_once)
          place.told_once)
          is.reserves;
    }

-- ---- the addresses of a device

abbrev NamesOf : ℕ → ℕ → Option ℕ → Type 0
NamesOf a address reserved = (address ≡ a) ⊎ (reserved ≡ Some a)

kept : (a old new : ℕ) (reserved left : Option ℕ) → new ≡ old → (left ≡ Some a → reserved ≡ Some a) → NamesOf a new left → NamesOf a old reserved
kept a old new reserved left same back (inl is) = inl (sym same ∙ is)
kept a old new reserved left same back (inr is) = inr (back is)

pub freed_some : (b : Bool) (a : ℕ) (reserved : Option ℕ) → (if b then None else reserved) ≡ Some a → reserved ≡ Some a
freed_some true a reserved is = absurd cc
freed_some false a reserved is = is

moved_to : (a old new to : ℕ) (reserved left : Option ℕ) → new ≡ to → reserved ≡ Some to → (left ≡ Some a → reserved ≡ Some a) → NamesOf a new left
    → NamesOf a old reserved
moved_to a old new to reserved left there was back (inl is) = inr (was ∙ ap Some (sym there ∙ is))
moved_to a old new to reserved left there was back (inr is) = inr (back is)

-- the COMSET that was moved by was the outstanding one, so its address was reserved
was_reserved : (command : Command) (asked : Communication) (m : Machine) (reserved : Option ℕ) → exchange_in m.session.state ≡ Some (Asking command)
    → command ≡ Comset asked → Reserves (comsets_in (pending m)) reserved → reserved ≡ Some asked.address
was_reserved command asked m reserved outstanding is reserves =
    let out : asked_in m.session.state ≡ Some command = ap command_of outstanding in
    let comsets : comsets_in (pending m) ≡ asked ∷ comsets_in m.waiting =
    ap (λ o. comsets_in (option_to_list o ++ m.waiting)) out ∙ ap (λ c. comsets_in (c ∷ m.waiting)) is in
    (only_one asked (comsets_in m.waiting) reserved (subst (λ l. Reserves l reserved) comsets reserves)).1

names_moved : (a new : ℕ) (command : Command) (answered : Communication) (p : Packet) (d : Entry) → new ≡ answered.address → IsDevice d
    → WhyTold (Moved command answered) p d.controller.session → NamesOf a new (reserved_after (Some (Moved command answered)) d.reserved) → Names a d
names_moved a new command answered p d there is (comes, (asked, is_comset, same, device)) named =
    let was = was_reserved command asked d.controller d.reserved comes.comes.outstanding is_comset is.reserves in
    moved_to a (address_of d) new answered.address d.reserved (reserved_after (Some (Moved command answered)) d.reserved) there
    (was ∙ ap Some (sym same)) (freed_some (is_some (comset_of command)) a d.reserved) named

names_by : (a new : ℕ) (report : Option Report) (p : Packet) (now : ℕ) (d : Entry) → IsDevice d → told_of p now d ≡ report
    → new ≡ told_address report (address_of d) → NamesOf a new (reserved_after report d.reserved) → Names a d
names_by a new None p now d is told there named = kept a (address_of d) new d.reserved d.reserved there (λ h. h) named
names_by a new (Some (Opened id)) p now d is told there named = kept a (address_of d) new d.reserved d.reserved there (λ h. h) named
names_by a new (Some (Settled command reply)) p now d is told there named =
    kept a (address_of d) new d.reserved (reserved_after (Some (Settled command reply)) d.reserved) there
    (freed_some (is_some (comset_of command)) a d.reserved) named
names_by a new (Some (Moved command answered)) p now d is told there named =
    names_moved a new command answered p d there is (tells_why p now d.controller.session (Moved command answered) is.machine.session told) named
names_by a new (Some (Event event)) p now d is told there named = kept a (address_of d) new d.reserved d.reserved there (λ h. h) named
names_by a new (Some (PollAnswered reply)) p now d is told there named = kept a (address_of d) new d.reserved d.reserved there (λ h. h) named
names_by a new (Some (Unread command code)) p now d is told there named = kept a (address_of d) new d.reserved d.reserved there (λ h. h) named
names_by a new (Some (Lost cause command)) p now d is told there named = kept a (address_of d) new d.reserved d.reserved there (λ h. h) named

pub names_heard : (a : ℕ) (p : Packet) (now : ℕ) (d : Entry) → IsDevice d → Names a (entry_hears p now d) → Names a d
names_heard a p now d is named =
    names_by a (address_of (entry_hears p now d)) (told_of p now d) p now d is refl
    (ap (λ (c : ControllerConfig). c.address) (keeps_settings (Hear p now) d.controller)) named

-- a tick tells of no address
names_lost : (a new : ℕ) (report : Option Report) (now : ℕ) (d : Entry) → (step_of now d).report ≡ report
    → new ≡ told_address report (address_of d) → NamesOf a new (reserved_after report d.reserved) → Names a d
names_lost a new None now d told there named = kept a (address_of d) new d.reserved d.reserved there (λ h. h) named
names_lost a new (Some report) now d told there named =
    let why = tells_lost now d.controller.session d.controller.waiting report told in
    lost_is why.0 why.2
  where
    lost_is : (x : Exchange) → report ≡ Lost NoReply (submitted_command x) → Names a d
    lost_is x lost =
        kept a (address_of d) new d.reserved (reserved_after (Some report) d.reserved)
        (there ∙ ap (λ r. told_address (Some r) (address_of d)) lost) (λ h. sym (ap (λ r. reserved_after (Some r) d.reserved) lost) ∙ h) named

pub names_ticked : (a : ℕ) (now : ℕ) (d : Entry) → Names a (entry_ticks now d) → Names a d
names_ticked a now d named =
    names_lost a (address_of (entry_ticks now d)) (step_of now d).report now d refl
    (ap (λ (c : ControllerConfig). c.address) (keeps_settings (Tick now) d.controller)) named

-- ---- its exchange

outstanding_exchange : (state : State) → is_outstanding state ≡ true → (x : Exchange) × (exchange_in state ≡ Some x)
outstanding_exchange (Waiting until sends o) h = (o.exchange, refl)
outstanding_exchange (Pausing until o) h = (o.exchange, refl)
outstanding_exchange state h = absurd cc

pub closed_exchange : (state : State) → is_closed state ≡ true → is_outstanding state ≡ false
closed_exchange state h = ap is_outstanding (closed_is state h)

pub heard_holds : (p : Packet) (now : ℕ) (d : Entry) → holds (entry_hears p now d) ≡ true → holds d ≡ true
heard_holds p now d h = by_holds (holds d) refl
  where
    by_holds : (b : Bool) → holds d ≡ b → holds d ≡ true
    by_holds true is = is
    by_holds false is = absurd (let sent = begins_with_frame (Hear p now) d.controller is h in cc)

-- what is told ends an exchange that was outstanding
abbrev Ended : Entry → Entry → Type 0
Ended d e = (holds d ≡ true) × (holds e ≡ false)

heard_ends : (p : Packet) (now : ℕ) (d : Entry) (x : Exchange) → is_some (told_of p now d) ≡ true
    → (GoesOn x (hears p now d.controller.session).session.state (hears p now d.controller.session).report
    ⊎ IsAnswered x (hears p now d.controller.session).session.state (hears p now d.controller.session).report)
    → holds (entry_hears p now d) ≡ false
heard_ends p now d x tells (inl on) = absurd (let nothing : told_of p now d ≡ None = on.nothing in let e = ap (λ (o : Option Report). is_some o) nothing in cc)
heard_ends p now d x tells (inr ended) = none_outstanding (hears p now d.controller.session).session.state ended.ended

pub heard_told : (p : Packet) (now : ℕ) (d : Entry) → is_some (told_of p now d) ≡ true → Ended d (entry_hears p now d)
heard_told p now d tells = by_holds (holds d) refl
  where
    by_holds : (b : Bool) → holds d ≡ b → Ended d (entry_hears p now d)
    by_holds true is =
        let x = outstanding_exchange d.controller.session.state is in
        (is, heard_ends p now d x.0 tells ((tells_ends now d.controller.session).by_frame x.0 p x.1))
    by_holds false is = absurd (
        let ignored = (frames_in_steps p now d.controller.session).not_outstanding is in
        let e = ap (λ (h : Heard). is_some h.report) ignored in
        cc)

ticked_ends : (now : ℕ) (d : Entry) (x : Exchange) → is_some (step_of now d).report ≡ true
    → (GoesOn x (ticks now d.controller.session d.controller.waiting).session.state (step_of now d).report
    ⊎ IsGivenUp x (ticks now d.controller.session d.controller.waiting).session.state (step_of now d).report)
    → holds (entry_ticks now d) ≡ false
ticked_ends now d x tells (inl on) = absurd (let nothing : (step_of now d).report ≡ None = on.nothing in let e = ap (λ (o : Option Report). is_some o) nothing in cc)
ticked_ends now d x tells (inr ended) = closed_exchange (ticks now d.controller.session d.controller.waiting).session.state ended.ended

exchange_stands : (state : State) (x : Exchange) → exchange_in state ≡ Some x → is_outstanding state ≡ true
exchange_stands (Waiting until sends o) x h = refl
exchange_stands (Pausing until o) x h = refl
exchange_stands state x h = absurd cc

some_is : (report : Option Report) → is_some report ≡ true → (r : Report) × (report ≡ Some r)
some_is None h = absurd cc
some_is (Some r) h = (r, refl)

pub ticked_told : (now : ℕ) (d : Entry) → is_some (step_of now d).report ≡ true → Ended d (entry_ticks now d)
ticked_told now d tells =
    let r = some_is (step_of now d).report tells in
    let why = tells_lost now d.controller.session d.controller.waiting r.0 r.1 in
    by_why why.0 why.1
  where
    by_why : (x : Exchange) → exchange_in d.controller.session.state ≡ Some x → Ended d (entry_ticks now d)
    by_why x out = (
      exchange_stands d.controller.session.state x out,
      ticked_ends now d x tells ((tells_ends now d.controller.session).by_tick x d.controller.waiting out),
    )
