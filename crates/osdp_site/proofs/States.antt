-- All that is wanted are states that fit into the panel's room, whatever is called.
use Rattle.osdp_site.proofs.Common.{◌≡◌, ap, ℕ, zero, suc, ◌≤◌, arith, Bool, true, false, List, [], ◌∷◌, take, drop, Option, Some, None, refl, Result, Ok, Err, if◌then◌else◌, is_ok, nat_lt, ltb-false, remove, All, All-append, All-drop, All-nil, All-take, Command, BusState, Report, SiteFault, Acted, acts_at, begins_anew, begins_due, submits, submitted, Acts, Heeds, IsState, Move, Wants, after_move, after_moves, PlaceState, after_wants_of, changed_unless, due_of, heeds, is_due, is_online, is_too_long, new_place, room_refusal, wants_over, wants_refusal_of, without, first_about, subject_of, command_size}
use Rattle.osdp_controller.specs.declared.report.Report.TheVariants as report
use Rattle.osdp_site.specs.declared.fault.SiteFault.TheVariants.{TooLong}
use Rattle.osdp_site.specs.declared.subject.Subject.{Subject}

-- what is wanted of an entry whose panel has room for so many bytes
pub record IsWanted (bytes : ℕ) (c : Command) : Type 0 where
  pub state : IsState c
  pub fits : command_size c ≤ bytes

abbrev AllWanted : ℕ → List Command → Type 0
AllWanted bytes cs = All (IsWanted bytes) cs

pub record Wanting (bytes : ℕ) (p : PlaceState) : Type 0 where
  pub limit : p.bytes ≡ bytes
  pub all : All (IsWanted bytes) p.wanted

removed : (bytes : ℕ) (cs : List Command) (i : ℕ) → AllWanted bytes cs → AllWanted bytes (remove cs i)
removed bytes cs i all = All-append (IsWanted bytes) (take i cs) (drop (suc i) cs) (All-take (IsWanted bytes) i cs all) (All-drop (IsWanted bytes) (suc i) cs all)

taken_out : (bytes : ℕ) (earlier : Option ℕ) (cs : List Command) → AllWanted bytes cs → AllWanted bytes (without earlier cs)
taken_out bytes None cs all = all
taken_out bytes (Some i) cs all = removed bytes cs i all

one : (bytes : ℕ) (c : Command) → IsWanted bytes c → AllWanted bytes (c ∷ [])
one bytes c is zero d less = is
one bytes c is (suc k) d less = absurd (omega arith)

wants_if : (long : Bool) (r : Option SiteFault) (earlier : Option ℕ) (c : Command) (bytes : ℕ) (p : PlaceState) → nat_lt p.bytes (command_size c) ≡ long → IsState c
    → Wanting bytes p → Wanting bytes (changed_unless (if long then Some TooLong else r) p (wants_over earlier c p))
wants_if true r earlier c bytes p is state w = w
wants_if false (Some fault) earlier c bytes p is state w = w
wants_if false None earlier c bytes p is state w =
    let short : command_size c ≤ p.bytes = ltb-false p.bytes (command_size c) is in
    let wanted : IsWanted bytes c = record { state = state; fits = omega (arith, short, w.limit) } in
    record {
      limit = w.limit;
      all = All-append (IsWanted bytes) (without earlier p.wanted) (c ∷ []) (taken_out bytes earlier p.wanted w.all) (one bytes c wanted);
    }

wants_of : (r : Result Subject SiteFault) (c : Command) (bytes : ℕ) (p : PlaceState) → subject_of c ≡ r → Wanting bytes p
    → Wanting bytes (changed_unless (wants_refusal_of r c p) p (after_wants_of r c p))
wants_of (Err fault) c bytes p is w = w
wants_of (Ok s) c bytes p is w =
    let earlier = first_about 0 s p.wanted in
    wants_if (is_too_long c p) (room_refusal earlier p) earlier c bytes p refl (ap is_ok is) w

after_report : (pause now : ℕ) (r : Report) (bytes : ℕ) (p : PlaceState) → Wanting bytes p → Wanting bytes (heeds pause now r p)
after_report pause now (report.Opened id) bytes p w = record { limit = w.limit; all = w.all }
after_report pause now (report.Moved command answered) bytes p w = record { limit = w.limit; all = w.all }
after_report pause now (report.Lost cause command) bytes p w = record { limit = w.limit; all = w.all }
after_report pause now _ bytes p w = w

begun_if : (due : Bool) (entry now : ℕ) (x : Acted) (bytes : ℕ) → Wanting bytes x.place
    → Wanting bytes (if due then record { place = record x.place { begins = None }; panel = begins_anew entry now x.panel } else x).place
begun_if true entry now x bytes w = record { limit = w.limit; all = w.all }
begun_if false entry now x bytes w = w

refreshed_if : (online : Bool) (entry : ℕ) (x : Acted) (bytes : ℕ) → Wanting bytes x.place
    → Wanting bytes (if online then submitted x.place (submits entry (due_of x.place) x.panel) else x).place
refreshed_if true entry x bytes w = record { limit = w.limit; all = w.all }
refreshed_if false entry x bytes w = w

after_acts : (entry now : ℕ) (b : BusState) (bytes : ℕ) (p : PlaceState) → Wanting bytes p → Wanting bytes (acts_at entry now (record { place = p; panel = b })).place
after_acts entry now b bytes p w =
    let x : Acted = record { place = p; panel = b } in
    let y = begins_due entry now x in
    refreshed_if (is_online y.place.presence) entry y bytes (begun_if (is_due now p) entry now x bytes w)

moved : (entry pause : ℕ) (m : Move) (bytes : ℕ) (p : PlaceState) → Wanting bytes p → Wanting bytes (after_move entry pause m p)
moved entry pause (Wants c) bytes p w = wants_of (subject_of c) c bytes p refl w
moved entry pause (Heeds r now) bytes p w = after_report pause now r bytes p w
moved entry pause (Acts b now) bytes p w = after_acts entry now b bytes p w

over : (entry pause : ℕ) (ms : List Move) (bytes : ℕ) (p : PlaceState) → Wanting bytes p → Wanting bytes (after_moves entry pause ms p)
over entry pause [] bytes p w = w
over entry pause (m ∷ ms) bytes p w = over entry pause ms bytes (after_move entry pause m p) (moved entry pause m bytes p w)

pub all_wanted : (entry pause room bytes now : ℕ) (ms : List Move) → All (IsWanted bytes) (after_moves entry pause ms (new_place room bytes now)).wanted
all_wanted entry pause room bytes now ms =
    let w : Wanting bytes (after_moves entry pause ms (new_place room bytes now)) =
    over entry pause ms bytes (new_place room bytes now) (record { limit = refl; all = All-nil (IsWanted bytes) }) in
    w.all

pub all_states : (entry pause room bytes now : ℕ) (ms : List Move) → All IsState (after_moves entry pause ms (new_place room bytes now)).wanted
all_states entry pause room bytes now ms = λ k d less. (all_wanted entry pause room bytes now ms k d less).state
