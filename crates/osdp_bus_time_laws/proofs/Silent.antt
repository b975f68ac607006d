-- A device of which nothing is read: its exchange is a round of sends, and it is told lost in time.
use Rattle.osdp_bus_time_laws.proofs.Common.{◌≡◌, ◌∙◌, ap, sym, subst, inl, inr, ℕ, ◌+◌, Bool, true, false, List, [], ◌∷◌, Option, Some, None, refl, All, nat_le, nat_lt, All-cons, All-nil, Command, ControllerConfig, NoReply, Lost, Session, State, Waiting, Pausing, is_outstanding, seen_by, either_way, CallOf, round_time, TicksBy, IsNotBusy, no_busy, whole, whole_is, Phase, Entry, BusState, device_of, waiting_after, entry_ticks, holds, is_entry_due, step_of, controller_config, Call, after_call, IsOutstandingAt, Begins, has_one_exchange, stands_after, who, is_false, DoneBy, IsOwed, KeepsTime, ends_duty, exchange_of, NothingIsRead, IsLost, SilenceIsTold, SilenceIsToldInTime, ToldBy, round_of, EndsBy}
use Rattle.osdp_controller.specs.declared.report.LostCause.{LostCause}
use Rattle.osdp_controller.specs.Exchanges.{submitted_command}
use Rattle.osdp_controller.specs.Ticking.{Ticked, gives_up, sends_frame, stays, ticks_in, tries_again}
use Rattle.osdp_bus_time_laws.proofs.Devices.{Well, kept_asking, same_config, well_call}
use Rattle.osdp_bus_time_laws.proofs.InTime.{same_others}
use Rattle.osdp_bus_time_laws.proofs.Moments.{as_tick, ticks_of}
use Rattle.osdp_bus_time_laws.proofs.Outstanding.{On, ahead_on, exchanges_end, kept_on, near_end, on_then, only_then, sends_of, stands_begun, ticked_out}
use Rattle.osdp_bus_time_laws.proofs.Places.{AtPlace, one_device}
use Rattle.osdp_bus_time_laws.proofs.Told.{NeverAnswers, OwnTakes, never_told}
use Rattle.osdp_bus_time_laws.proofs.Turning.{is_there}
use Rattle.osdp_bus_time_laws.proofs.Unread.{Leaves, Same, leaves, none_begins}

-- ---- the moments of the calls alone: none of them is a BUSY

no_more : (limit : ℕ) → TicksBy limit []
no_more limit = tt

abbrev silent_moments : List Call → BusState → List CallOf
silent_moments calls b = ticks_of [] no_more calls b

tick_not_busy : (ticks : Bool) (now : ℕ) → IsNotBusy (as_tick ticks now)
tick_not_busy true now = tt
tick_not_busy false now = tt

none_busy : (calls : List Call) (b : BusState) → All IsNotBusy (silent_moments calls b)
none_busy [] b = All-nil IsNotBusy
none_busy (call ∷ calls) b =
    All-cons IsNotBusy (as_tick (ends_duty call b) (after_call call b).greatest) (silent_moments calls (after_call call b))
    (tick_not_busy (ends_duty call b) (after_call call b).greatest) (none_busy calls (after_call call b))

-- ---- its exchange ends after a round of sends

module _ (late e : ℕ) (c : ControllerConfig) (more : ℕ) (many : c.sends ≡ more + 1) where
  module _ (call : Call) (calls : List Call) (b : BusState) (entry : ℕ) (d : Entry) (well : Well b) (there : device_of entry b ≡ Some d) (stands : holds d ≡ true)
      (owed : (at : ℕ) → IsOwed at call b → DoneBy (at + late) (call ∷ calls) b) (config : d.controller.session.config ≡ c)
      (phase : Phase late e c more (Unit {0}) (silent_moments (call ∷ calls) b) d.controller.session.state b.greatest) where
    abbrev g : ℕ
    g = (after_call call b).greatest

    abbrev l : List CallOf
    l = silent_moments calls (after_call call b)

    abbrev x : CallOf
    x = as_tick (ends_duty call b) g

    on_same : (f : Entry) → Same g d f → On late e c more many (x ∷ l) g f
    on_same f same =
        let on = on_then late e c more many [] no_more call calls b entry d well there stands owed config phase in
        let now = on.1 stands in
        (same.reached, λ so. (same.config ∙ config, subst (λ state. Phase late e c more (Unit {0}) (x ∷ l) state g) (sym same.state) now.1))

    stays_by : (t : Bool) → ends_duty call b ≡ t → (f : Entry) → Same g d f → (ends_duty call b ≡ true → is_entry_due g f ≡ true → ⊥)
        → On late e c more many l g f
    stays_by false other f same never = kept_on late e c more many (ends_duty call b) g l other f (on_same f same)
    stays_by true ends f same never = ahead_on late e c more many x g l f (λ holding. never ends) (on_same f same)

    place_left : Leaves call b entry d → AtPlace entry (On late e c more many l g) (after_call call b).devices
    place_left (inl (f, at, (same, never))) = (f, at, stays_by (ends_duty call b) refl f same never)
    place_left (inr (f, same, due, at, told)) = (
      entry_ticks g f,
      at,
      ticked_out late e c more many x g l f (near_end late e c more many [] no_more call calls b entry d well there stands owed config phase)
          (ap is_outstanding same.state ∙ stands) (on_same f same),
    )

  ends_silent : (calls : List Call) (b : BusState) (entry : ℕ) → Well b → KeepsTime late calls b → NothingIsRead entry calls b
      → ((j : ℕ) → IsOutstandingAt j b → j ≡ entry) → AtPlace entry (On late e c more many (silent_moments calls b) b.greatest) b.devices → EndsBy e calls b
  ends_silent [] b entry well in_time nothing only place = tt
  ends_silent (call ∷ calls) b entry well in_time nothing only (d, there, on) = λ holding out.
      let same = only holding out in
      let one = one_device (device_of entry b) out.device d (ap (λ n. device_of n b) (sym same) ∙ out.there) there in
      let stands : holds d ≡ true = ap holds (sym one) ∙ out.outstanding in
      let now = on.1 stands in (
        near_end late e c more many [] no_more call calls b entry d well there stands in_time.0 now.0 now.1,
        λ none.
            ends_silent calls (after_call call b) entry (well_call call b well) in_time.1 nothing.1
            (only_then late e c more many call b entry none only (who call b well.first))
            (place_left call calls b entry d well there stands in_time.0 now.0 now.1 (leaves b entry d well there stands call nothing.0)),
      )

begun_silent : (late : ℕ) (call : Call) (calls : List Call) (b : BusState) (entry : ℕ) → Well b → KeepsTime late calls (after_call call b)
    → NothingIsRead entry calls (after_call call b) → Begins call entry b → EndsBy ((after_call call b).greatest + round_of b late) calls (after_call call b)
begun_silent late call calls b entry well in_time nothing begun =
    let k = after_call call b in
    let c = begun.next.due.device.controller.session.config in
    let kept = kept_asking begun.now b well entry begun.next.due.device begun.next.due.there in
    let sends = sends_of late 0 [] no_more call calls b entry well begun in
    let length_is : whole late sends.0 0 c ≡ round_of b late =
    whole_is late sends.0 0 c sends.1 ∙ no_busy (round_time c late) (c.busy_wait + late + round_time c late) ∙ ap (λ x. round_time x late) kept.config in
    let out = stands_after call entry b begun in
    subst (λ (n : ℕ). EndsBy (k.greatest + n) calls k) length_is
    (ends_silent late (k.greatest + whole late sends.0 0 c) c sends.0 sends.1 calls k entry (well_call call b well) in_time nothing
    (λ j other. (has_one_exchange k (well_call call b well).sound).one j entry other out)
    (stands_begun late 0 [] no_more call calls b entry well begun (inr (none_busy calls k))))

own_takes : (late round entry : ℕ) (calls : List Call) (b : BusState) → Well b → KeepsTime late calls b → NothingIsRead entry calls b → round_of b late ≡ round
    → OwnTakes round entry calls b
own_takes late round entry [] b well in_time nothing same = tt
own_takes late round entry (call ∷ calls) b well in_time nothing same = (
  λ begun. subst (λ (n : ℕ). EndsBy ((after_call call b).greatest + n) calls (after_call call b)) same (begun_silent late call calls b entry well in_time.1 nothing.1 begun),
  own_takes late round entry calls (after_call call b) (well_call call b well) in_time.1 nothing.1
      (ap (λ x. round_time (controller_config 0 x) late) (same_config call b) ∙ same),
)

-- ---- and where it ends the session is told lost

abbrev TellsLost : Ticked → Type 0
TellsLost t = is_outstanding t.session.state ≡ false → (cause : LostCause) × ((command : Option Command) × (t.step.report ≡ Some (Lost cause command)))

gives_lost : (state : State) (s : Session) (w : List Command) → is_outstanding state ≡ true → is_outstanding s.state ≡ true → TellsLost (ticks_in state s w)
gives_lost (Waiting until sends o) s w stands out =
    either_way TellsLost (nat_le until s.greatest) (tries_again sends o s w) (stays s w)
    (λ b. either_way TellsLost (nat_lt sends s.config.sends) (sends_frame (sends + 1) o s w) (gives_up o s w) (λ f free. cc)
    (λ f free. (NoReply, (submitted_command o.exchange, refl)))) (λ b free. cc)
gives_lost (Pausing until o) s w stands out =
    either_way TellsLost (nat_le until s.greatest) (sends_frame 1 o s w) (stays s w) (λ b free. cc) (λ b free. cc)
gives_lost _ s w stands out = cc

lost_by : (call : Call) (b : BusState) (entry : ℕ) (d : Entry) → holds d ≡ true → (IsOutstandingAt entry (after_call call b) → ⊥) → Leaves call b entry d
    → IsLost entry (after_call call b)
lost_by call b entry d stands free (inl (f, at, (same, never))) =
    absurd (free (record { device = f; there = at; outstanding = ap is_outstanding same.state ∙ stands }))
lost_by call b entry d stands free (inr (f, same, due, at, told)) = by_holds (after_call call b).greatest at told
  where
    stands_then : holds f ≡ true
    stands_then = ap is_outstanding same.state ∙ stands

    by_holds : (g : ℕ) → device_of entry (after_call call b) ≡ Some (entry_ticks g f)
        → (after_call call b).devices.report ≡ waiting_after entry (step_of g f).report None → IsLost entry (after_call call b)
    by_holds g at told =
        let ended = is_false (holds (entry_ticks g f)) (λ still. free (record { device = entry_ticks g f; there = at; outstanding = still })) in
        let lost = gives_lost f.controller.session.state (seen_by g f.controller.session) f.controller.waiting stands_then stands_then ended in
        record {
          cause = lost.0;
          command = lost.1.0;
          report = told ∙ ap (λ o. waiting_after entry o None) lost.1.1;
        }

never_answers : (entry : ℕ) (calls : List Call) (b : BusState) → Well b → NothingIsRead entry calls b → NeverAnswers entry calls b
never_answers entry [] b well nothing = tt
never_answers entry (call ∷ calls) b well nothing = (
  λ out. (
    none_begins b entry out.device well out.there out.outstanding call nothing.0,
    λ free. lost_by call b entry out.device out.outstanding free (leaves b entry out.device well out.there out.outstanding call nothing.0),
  ),
  never_answers entry calls (after_call call b) (well_call call b well) nothing.1,
)

-- ---- the laws

pub silence_is_told : (b : BusState) → Well b → SilenceIsTold b
silence_is_told b well late time n entry calls idle keeps nothing =
    never_told late (round_of b late) time n entry calls b well idle keeps (own_takes late (round_of b late) entry calls b well keeps.in_time nothing refl)
    (never_answers entry calls b well nothing)

pub silence_in_time : (b : BusState) → Well b → SilenceIsToldInTime b
silence_in_time b well late n entry calls idle in_time few nothing =
    let ends = exchanges_end b well in
    let within = is_there n entry idle.device calls b few idle.there in
    subst (λ (t : ℕ). ToldBy (b.greatest + (b.config.poll_interval + late + t + (round_of b late + late))) entry calls b)
    (same_others (exchange_of b late) late n entry within)
    (silence_is_told b well late (λ k. exchange_of b late) n entry calls idle
    (record { in_time = in_time; turns = ends.begun late calls in_time; outstanding = ends.outstanding late calls in_time; few = few }) nothing)
