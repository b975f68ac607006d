-- Each accepted command is asked and told once, by its place.
use Rattle.osdp_controller_laws.proofs.Common.{◌≡◌, ◌∙◌, ap, sym, subst, inl, inr, ℕ, ◌+◌, ◌≤◌, Bool, true, false, List, [], ◌∷◌, ◌++◌, Option, Some, None, refl, arith, append_assoc, append-nil, ne_eqb, Packet, next_sequence, Command, ControllerConfig, Exchange, Opening, Polling, Outstanding, ControllerFault, Report, Session, State, Closed, Quiet, Idle, Waiting, Pausing, CommandsByPlace, GoesOn, IsAnswered, accepted, accepted_by, asked, asked_by, asked_in, command_of, left, told, told_command, withdrawn, withdrawn_by, submitted_command, Heard, hears, exchange_in, IsMachine, IsState, Machine, after_begin, after_retarget, after_submit, changed_unless, is_outstanding, refused_unless_closed, retarget_refusal, sent_in, submit_refusal, Call, Submit, Begin, Retarget, Withdraw, Tick, Hear, after_call, after_calls, told_by, seen, is_some, on_its_way, Ticked, begins, gives_up, sends_frame, stays, ticks_in, tries_again, either_way}
use Rattle.std.specs.Prelude.{if◌then◌else◌, ◌&&◌, ◌==◌, nat_lt, nat_le, is_none, is_some, option_to_list, drop, slice_get, ◌⊎◌}
use Rattle.osdp_controller_laws.proofs.Endings.{frame_ends}
use Rattle.osdp_controller_laws.proofs.Stepwise.{frames_in_steps}
use Rattle.osdp_controller_laws.proofs.Well.{keeps_each}
use Rattle.osdp_controller.proofs.Idling.{idle_way}

abbrev listed : Option Command → List Command
listed o = option_to_list o

-- one call: what it asks or takes back leaves the waiting commands, and what is told was outstanding or is asked
record OneByPlace (before : Option Command) (w : List Command) (new ask back tell after : Option Command) (rest : List Command) : Type 0 where
  waits : listed ask ++ listed back ++ rest ≡ w ++ listed new
  tells : listed before ++ listed ask ≡ listed tell ++ listed after

-- a call that asks, accepts and tells nothing
nothing_new : (before after : Option Command) (w : List Command) → after ≡ before → OneByPlace before w None None None None after w
nothing_new before after w e = record {
  waits = sym (append-nil w);
  tells = append-nil (listed before) ∙ ap listed (sym e);
}

-- ticks

abbrev asked_after : Ticked → Option Command
asked_after t = if is_some t.step.frame && sent_in t.session.state == 1 then asked_in t.session.state else None

abbrev TickByPlace : Option Command → List Command → Ticked → Type 0
TickByPlace before w t = OneByPlace before w None (asked_after t) None (told_command t.step.report) (asked_in t.session.state) t.waiting

-- a frame that isn't the first asks nothing
not_first : (sent : ℕ) (o : Option Command) → 1 ≤ sent → (if sent + 1 == 1 then o else None) ≡ None
not_first sent o some = let no = ne_eqb (sent + 1) 1 (λ e. omega arith) in rw no refl

sends_again : (sends : ℕ) (o : Outstanding) (s : Session) (w : List Command) → 1 ≤ o.sent
    → TickByPlace (submitted_command o.exchange) w (sends_frame sends o s w)
sends_again sends o s w some =
    subst (λ (asks : Option Command). OneByPlace (submitted_command o.exchange) w None asks None None (submitted_command o.exchange) w)
    (sym (not_first o.sent (submitted_command o.exchange) some)) (nothing_new (submitted_command o.exchange) (submitted_command o.exchange) w refl)

gives_back : (o : Outstanding) (s : Session) (w : List Command) → TickByPlace (submitted_command o.exchange) w (gives_up o s w)
gives_back o s w = record { waits = sym (append-nil w); tells = refl }

tick_by_place : (c : ControllerConfig) (state : State) (s : Session) (w : List Command) → IsState c state → asked_in s.state ≡ asked_in state
    → TickByPlace (asked_in state) w (ticks_in state s w)
tick_by_place c Closed s w is same = nothing_new None (asked_in s.state) w same
tick_by_place c (Quiet until) s w is same =
    either_way (TickByPlace None w) (nat_le until s.greatest) (begins Opening 0 s w) (stays s w)
    (λ b. nothing_new None None w refl) (λ b. nothing_new None (asked_in s.state) w same)
tick_by_place c (Idle due) s w is same =
    idle_way (TickByPlace None w) due s w (λ b. nothing_new None None w refl) (λ b. nothing_new None (asked_in s.state) w same)
    (λ command rest e. rw e (record { waits = sym (append-nil (command ∷ rest)); tells = refl }))
tick_by_place c (Waiting until sends o) s w is same =
    either_way (TickByPlace (submitted_command o.exchange) w) (nat_le until s.greatest) (tries_again sends o s w) (stays s w)
    (λ b. either_way (TickByPlace (submitted_command o.exchange) w) (nat_lt sends s.config.sends) (sends_frame (sends + 1) o s w) (gives_up o s w)
    (λ f. let out = is.2 in sends_again (sends + 1) o s w out.some) (λ f. gives_back o s w))
    (λ b. nothing_new (submitted_command o.exchange) (asked_in s.state) w same)
tick_by_place c (Pausing until o) s w is same =
    either_way (TickByPlace (submitted_command o.exchange) w) (nat_le until s.greatest) (sends_frame 1 o s w) (stays s w)
    (λ b. sends_again 1 o s w is.some) (λ b. nothing_new (submitted_command o.exchange) (asked_in s.state) w same)

-- frames

told_of : (x : Exchange) (h : Heard) → GoesOn x h.session.state h.report ⊎ IsAnswered x h.session.state h.report
    → listed (submitted_command x) ++ [] ≡ listed (told_command h.report) ++ listed (asked_in h.session.state)
told_of x h (inl on) =
    append-nil (listed (submitted_command x))
    ∙ (ap (λ (e : Option Exchange). listed (command_of e)) (sym on.outstanding)
    ∙ ap (λ (r : Option Report). listed (told_command r) ++ listed (asked_in h.session.state)) (sym on.nothing))
told_of x h (inr end) =
    ap (λ (t : Option Command). listed t ++ []) (sym end.told)
    ∙ ap (λ (e : Option Exchange). listed (told_command h.report) ++ listed (command_of e)) (sym end.ended)

pub none_outstanding : (state : State) → exchange_in state ≡ None → is_outstanding state ≡ false
none_outstanding Closed h = refl
none_outstanding state h = cc

abbrev FrameTells : Option Command → Heard → Type 0
FrameTells before h = listed before ++ [] ≡ listed (told_command h.report) ++ listed (asked_in h.session.state)

frame_tells : (x : Option Exchange) (p : Packet) (now : ℕ) (s : Session) → exchange_in s.state ≡ x → FrameTells (asked_in s.state) (hears p now s)
frame_tells None p now s h =
    let steps = frames_in_steps p now s in
    subst (FrameTells (asked_in s.state)) (sym (steps.not_outstanding (none_outstanding s.state h))) (append-nil (listed (asked_in s.state)))
frame_tells (Some x) p now s h =
    ap (λ (e : Option Exchange). listed (command_of e) ++ []) h ∙ told_of x (hears p now s) (frame_ends x p now s h)

-- calls that may be refused

submit_by_place : (f : Option ControllerFault) (command : Command) (m : Machine)
    → OneByPlace (asked_in m.session.state) m.waiting (if is_none f then Some command else None) None None None
    (asked_in (changed_unless f m (after_submit command m)).session.state) (changed_unless f m (after_submit command m)).waiting
submit_by_place None command m = record { waits = refl; tells = append-nil (listed (asked_in m.session.state)) }
submit_by_place (Some fault) command m = nothing_new (asked_in m.session.state) (asked_in m.session.state) m.waiting refl

abbrev Unchanged : Machine → Machine → Type 0
Unchanged m k = OneByPlace (asked_in m.session.state) m.waiting None None None None (asked_in k.session.state) k.waiting

begin_by_place : (now : ℕ) (state : State) (m : Machine) → asked_in m.session.state ≡ asked_in state
    → Unchanged m (changed_unless (refused_unless_closed state) m (after_begin now m))
begin_by_place now Closed m same = nothing_new (asked_in m.session.state) None m.waiting (sym same)
begin_by_place now _ m same = nothing_new (asked_in m.session.state) (asked_in m.session.state) m.waiting refl

retarget_by_place : (f : Option ControllerFault) (address : ℕ) (m : Machine) → Unchanged m (changed_unless f m (after_retarget address m))
retarget_by_place None address m = nothing_new (asked_in m.session.state) (asked_in m.session.state) m.waiting refl
retarget_by_place (Some fault) address m = nothing_new (asked_in m.session.state) (asked_in m.session.state) m.waiting refl

withdraw_by_place : (b : Bool) (before : Option Command) (w : List Command)
    → OneByPlace before w None None (if b then None else slice_get w 0) None before (if b then w else drop 1 w)
withdraw_by_place true before w = nothing_new before before w refl
withdraw_by_place false before [] = nothing_new before before [] refl
withdraw_by_place false before (command ∷ w) = record { waits = sym (append-nil (command ∷ w)); tells = append-nil (listed before) }

-- each call

abbrev CallByPlace : Call → Machine → Type 0
CallByPlace call m =
    OneByPlace (asked_in m.session.state) m.waiting (accepted_by call m) (asked_by call m) (withdrawn_by call m) (told_command (told_by call m))
    (asked_in (after_call call m).session.state) (after_call call m).waiting

call_by_place : (call : Call) (m : Machine) → IsMachine m → CallByPlace call m
call_by_place (Submit command) m is = submit_by_place (submit_refusal command m) command m
call_by_place (Begin now) m is = begin_by_place now m.session.state m refl
call_by_place (Retarget address) m is = retarget_by_place (retarget_refusal address m) address m
call_by_place Withdraw m is = withdraw_by_place (is_some (on_its_way m.session.state)) (asked_in m.session.state) m.waiting
call_by_place (Tick now) m is = tick_by_place m.session.config m.session.state (seen now m.session) m.waiting is.session.state refl
call_by_place (Hear p now) m is = record { waits = sym (append-nil m.waiting); tells = frame_tells (exchange_in m.session.state) p now m.session refl }

-- all of them

-- two steps in a row are one
both_steps : (x a t y b u z : List Command) → x ++ a ≡ t ++ y → y ++ b ≡ u ++ z → x ++ (a ++ b) ≡ (t ++ u) ++ z
both_steps x a t y b u z e f =
    sym (append_assoc x a b) ∙ (ap (λ (l : List Command). l ++ b) e ∙ (append_assoc t y b ∙ (ap (λ (l : List Command). t ++ l) f ∙ sym (append_assoc t u z))))

both_waits : (a b last now next w x : List Command) → a ++ next ≡ w ++ now → b ++ last ≡ next ++ x → (a ++ b) ++ last ≡ w ++ (now ++ x)
both_waits a b last now next w x e f =
    append_assoc a b last ∙ (ap (λ (l : List Command). a ++ l) f ∙ (sym (append_assoc a next x) ∙ (ap (λ (l : List Command). l ++ x) e ∙ append_assoc w now x)))

leave_by_place : (m : Machine) (calls : List Call) → IsMachine m → left calls m ++ (after_calls calls m).waiting ≡ m.waiting ++ accepted calls m
leave_by_place m [] is = sym (append-nil m.waiting)
leave_by_place m (call ∷ calls) is =
    let one = call_by_place call m is in
    both_waits (listed (asked_by call m) ++ listed (withdrawn_by call m)) (left calls (after_call call m)) (after_calls calls (after_call call m)).waiting
    (listed (accepted_by call m)) (after_call call m).waiting m.waiting (accepted calls (after_call call m)) one.waits
    (leave_by_place (after_call call m) calls (keeps_each call m is))

tell_by_place : (m : Machine) (calls : List Call) → IsMachine m
    → listed (asked_in m.session.state) ++ asked calls m ≡ told calls m ++ listed (asked_in (after_calls calls m).session.state)
tell_by_place m [] is = append-nil (listed (asked_in m.session.state))
tell_by_place m (call ∷ calls) is =
    let one = call_by_place call m is in
    both_steps (listed (asked_in m.session.state)) (listed (asked_by call m)) (listed (told_command (told_by call m)))
    (listed (asked_in (after_call call m).session.state)) (asked calls (after_call call m)) (told calls (after_call call m))
    (listed (asked_in (after_calls calls (after_call call m)).session.state)) one.tells
    (tell_by_place (after_call call m) calls (keeps_each call m is))

-- where none is withdrawn those that leave are asked
none_back : (ask back : Option Command) (taken gone rest : List Command) → listed back ++ taken ≡ [] → (taken ≡ [] → gone ≡ rest)
    → listed ask ++ listed back ++ gone ≡ listed ask ++ rest
none_back ask None taken gone rest none same =
    ap (λ (l : List Command). l ++ gone) (append-nil (listed ask)) ∙ ap (λ (l : List Command). listed ask ++ l) (same none)
none_back ask (Some command) taken gone rest none same = cc

left_is_asked : (m : Machine) (calls : List Call) → withdrawn calls m ≡ [] → left calls m ≡ asked calls m
left_is_asked m [] none = refl
left_is_asked m (call ∷ calls) none =
    none_back (asked_by call m) (withdrawn_by call m) (withdrawn calls (after_call call m)) (left calls (after_call call m))
    (asked calls (after_call call m)) none (left_is_asked (after_call call m) calls)

pub commands_by_place : (m : Machine) (calls : List Call) → IsMachine m → CommandsByPlace m calls
commands_by_place m calls is = record {
  left_once = leave_by_place m calls is;
  asked_once =
      λ none. subst (λ (l : List Command). l ++ (after_calls calls m).waiting ≡ m.waiting ++ accepted calls m) (left_is_asked m calls none)
      (leave_by_place m calls is);
  told_once = tell_by_place m calls is;
}
