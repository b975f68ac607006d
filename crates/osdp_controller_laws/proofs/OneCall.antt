-- What one call keeps to.
use Rattle.osdp_controller_laws.proofs.Common.{◌≡◌, ap, sym, ℕ, ◌+◌, true, false, List, [], ◌∷◌, Option, Some, None, refl, if◌then◌else◌, nat_lt, nat_le, is_none, is_some, Packet, next_sequence, Command, ControllerConfig, Opening, Polling, ControllerFault, Report, Session, State, Closed, Quiet, Idle, Waiting, Pausing, BeginsWithFrame, KeepsSettings, WaitsUntilDue, told_address, Heard, hears, Machine, acts, after_begin, after_retarget, after_submit, changed_unless, is_outstanding, refused_unless_closed, retarget_refusal, submit_refusal, Call, Submit, Begin, Retarget, Withdraw, Tick, Hear, seen, Ticked, begins, gives_up, sends_frame, stays, ticks_in, tries_again, either_way}
use Rattle.osdp_controller_laws.proofs.Kept.{HoldsOfKept, frame_keeps, tick_keeps}
use Rattle.osdp_controller_laws.proofs.Stepwise.{frames_in_steps}
use Rattle.osdp_controller.proofs.Idling.{idle_way}

-- an exchange begins

abbrev TickBegins : State → Ticked → Type 0
TickBegins state t = is_outstanding state ≡ false → is_outstanding t.session.state ≡ true → is_some t.step.frame ≡ true

tick_begins : (state : State) (s : Session) (w : List Command) → is_outstanding s.state ≡ is_outstanding state → TickBegins state (ticks_in state s w)
tick_begins (Quiet until) s w same =
    either_way (TickBegins (Quiet until)) (nat_le until s.greatest) (begins Opening 0 s w) (stays s w) (λ b h k. refl) (λ b h k. cc)
tick_begins (Idle due) s w same = idle_way (TickBegins (Idle due)) due s w (λ b h k. refl) (λ b h k. cc) (λ command rest e h k. refl)
tick_begins _ s w same = λ h k. cc

abbrev StaysIdle : Machine → Machine → Type 0
StaysIdle m k = is_outstanding m.session.state ≡ false → is_outstanding k.session.state ≡ true → false ≡ true

submit_begins : (f : Option ControllerFault) (command : Command) (m : Machine) → StaysIdle m (changed_unless f m (after_submit command m))
submit_begins None command m = λ h k. cc
submit_begins (Some fault) command m = λ h k. cc

begin_begins : (now : ℕ) (state : State) (m : Machine) → StaysIdle m (changed_unless (refused_unless_closed state) m (after_begin now m))
begin_begins now Closed m = λ h k. cc
begin_begins now _ m = λ h k. cc

retarget_begins : (f : Option ControllerFault) (address : ℕ) (m : Machine) → StaysIdle m (changed_unless f m (after_retarget address m))
retarget_begins None address m = λ h k. cc
retarget_begins (Some fault) address m = λ h k. cc

frame_begins : (p : Packet) (now : ℕ) (s : Session) → is_outstanding s.state ≡ false → is_outstanding (hears p now s).session.state ≡ true → false ≡ true
frame_begins p now s h k =
    let steps = frames_in_steps p now s in
    let same : is_outstanding (hears p now s).session.state ≡ is_outstanding s.state =
    ap (λ (e : Heard). is_outstanding e.session.state) (steps.not_outstanding h) in
    cc

pub begins_with_frame : (call : Call) (m : Machine) → BeginsWithFrame call m
begins_with_frame (Submit command) m = submit_begins (submit_refusal command m) command m
begins_with_frame (Begin now) m = begin_begins now m.session.state m
begins_with_frame (Retarget address) m = retarget_begins (retarget_refusal address m) address m
begins_with_frame Withdraw m = λ h k. cc
begins_with_frame (Tick now) m = tick_begins m.session.state (seen now m.session) m.waiting refl
begins_with_frame (Hear p now) m = frame_begins p now m.session

-- nothing is due

abbrev StillStays : Session → List Command → Ticked → Type 0
StillStays s w t = acts t.step ≡ false → t ≡ stays s w

still_stays : (state : State) (s : Session) (w : List Command) → StillStays s w (ticks_in state s w)
still_stays Closed s w = λ h. refl
still_stays (Quiet until) s w =
    either_way (StillStays s w) (nat_le until s.greatest) (begins Opening 0 s w) (stays s w) (λ b h. cc) (λ b h. refl)
still_stays (Idle due) s w = idle_way (StillStays s w) due s w (λ b h. cc) (λ b h. refl) (λ command rest e h. cc)
still_stays (Waiting until sends o) s w =
    either_way (StillStays s w) (nat_le until s.greatest) (tries_again sends o s w) (stays s w)
    (λ b. either_way (StillStays s w) (nat_lt sends s.config.sends) (sends_frame (sends + 1) o s w) (gives_up o s w) (λ c h. cc) (λ c h. cc))
    (λ b h. refl)
still_stays (Pausing until o) s w =
    either_way (StillStays s w) (nat_le until s.greatest) (sends_frame 1 o s w) (stays s w) (λ b h. cc) (λ b h. refl)

pub waits_until_due : (now : ℕ) (m : Machine) → WaitsUntilDue now m
waits_until_due now m = still_stays m.session.state (seen now m.session) m.waiting

-- the settings

abbrev SetBy : ControllerConfig → Option Report → ℕ → ControllerConfig → Type 0
SetBy c report greatest d = d ≡ record c { address = told_address report c.address }

set_by : (c : ControllerConfig) (greatest : ℕ) → HoldsOfKept (SetBy c) greatest c
set_by c greatest = record {
  same = λ report is. ap (λ (a : ℕ). record c { address = a }) (sym is);
  moved = λ command d device. refl;
}

abbrev AddressSet : Machine → ℕ → Machine → Type 0
AddressSet m address k = k.session.config ≡ record m.session.config { address = address }

submit_sets : (f : Option ControllerFault) (command : Command) (m : Machine) → AddressSet m m.session.config.address (changed_unless f m (after_submit command m))
submit_sets None command m = refl
submit_sets (Some fault) command m = refl

begin_sets : (now : ℕ) (f : Option ControllerFault) (m : Machine) → AddressSet m m.session.config.address (changed_unless f m (after_begin now m))
begin_sets now None m = refl
begin_sets now (Some fault) m = refl

retarget_sets : (f : Option ControllerFault) (address : ℕ) (m : Machine)
    → AddressSet m (if is_none f then address else m.session.config.address) (changed_unless f m (after_retarget address m))
retarget_sets None address m = refl
retarget_sets (Some fault) address m = refl

pub keeps_settings : (call : Call) (m : Machine) → KeepsSettings call m
keeps_settings (Submit command) m = submit_sets (submit_refusal command m) command m
keeps_settings (Begin now) m = begin_sets now (refused_unless_closed m.session.state) m
keeps_settings (Retarget address) m = retarget_sets (retarget_refusal address m) address m
keeps_settings Withdraw m = refl
keeps_settings (Tick now) m =
    let s = seen now m.session in tick_keeps (SetBy s.config) m.session.state s m.waiting (set_by s.config s.greatest)
keeps_settings (Hear p now) m =
    let s = seen now m.session in frame_keeps (SetBy s.config) p now m.session (set_by s.config s.greatest)
