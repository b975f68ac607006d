-- What a device that falls silent may take until it is told lost.
use Rattle.osdp_time_laws.proofs.Common.{◌≡◌, sym, subst, inr, ℕ, ◌+◌, ◌*◌, ◌≤◌, true, List, [], ◌∷◌, refl, arith, All, All-cons, All-head, All-nil, All-tail, Packet, ControllerConfig, ReplyMeaning, Session, State, Closed, Idle, Waiting, Pausing, meaning_of, Heard, answered, hears, is_outstanding, numbered_in, seen, is_idle, Call, Hear, after_call, after_calls, OfEach, either_frame, of_pause, of_wait, IsNotBusy, IsSilent, SilenceIsTold, is_in_session}
use Rattle.osdp_time_laws.proofs.Beginnings.{no_busy, on_from, one_less, round_is}
use Rattle.osdp_time_laws.proofs.Duties.{due_anew, until_of}
use Rattle.osdp_time_laws.proofs.Ends.{ends}
use Rattle.osdp_time_laws.proofs.Phases.{Phase, Ready, is_near, later_within}

-- an exchange ends: the next POLL is due after the interval
abbrev pub Rests : ControllerConfig → Heard → Type 0
Rests c h = is_idle h.session.state ≡ true → (h.session.config ≡ c) × (until_of h.session.state ≤ h.session.greatest + c.poll_interval)

not_idle : (state : State) → is_outstanding state ≡ true → is_idle state ≡ true → ⊥
not_idle Closed out idle = cc
not_idle _ out idle = cc

each_rests : (s : Session) → is_outstanding s.state ≡ true → OfEach (Rests s.config) s
each_rests s out = record {
  ignored = λ idle. absurd (not_idle s.state out idle);
  rested = λ told idle. (refl, later_within s.config.poll_interval s);
  moved = λ d command idle. cc;
  lost = λ cause o idle. cc;
}

numbered_rests : (state : State) (a : ReplyMeaning) (s : Session) → is_outstanding s.state ≡ true → Rests s.config (numbered_in state a s)
numbered_rests (Waiting until sends o) a s out = of_wait (Rests s.config) s (each_rests s out) a sends o (λ idle. cc) (λ idle. cc)
numbered_rests (Pausing until o) a s out = of_pause (Rests s.config) s (each_rests s out) a o
numbered_rests _ a s out = λ idle. absurd (not_idle s.state out idle)

pub frame_rests : (p : Packet) (now : ℕ) (s : Session) → is_outstanding s.state ≡ true → Rests s.config (hears p now s)
frame_rests p now s out =
    either_frame (Rests s.config) p now s (λ from number. numbered_rests s.state (meaning_of p) (seen now s) out)
    (λ idle. absurd (not_idle s.state out idle))

-- where nothing is read no BUSY is
one_silent : (call : Call) → IsSilent call → IsNotBusy call
one_silent (Hear p now) silent = absurd silent
one_silent _ silent = tt

all_silent : (calls : List Call) → All IsSilent calls → All IsNotBusy calls
all_silent [] silent = All-nil IsNotBusy
all_silent (call ∷ calls) silent =
    All-cons IsNotBusy call calls (one_silent call (All-head IsSilent call calls silent)) (all_silent calls (All-tail IsSilent call calls silent))

-- from the moment of the last answer
abbrev silent_end : ℕ → ℕ → ControllerConfig → ℕ → ℕ
silent_end late more c greatest = greatest + (c.poll_interval + late + ((c.reply_wait + late) + more * (c.reply_wait + late)))

rests_fits : (g wait late r : ℕ) → (g + wait) + late + r ≤ g + (wait + late + r)
rests_fits g wait late r = omega arith

idle_phase : (late end more : ℕ) (c : ControllerConfig) (calls : List Call) (state : State) (greatest : ℕ) → is_idle state ≡ true
    → Ready late end c more (Unit {0}) (until_of state) 0 greatest calls → Phase late end c more (Unit {0}) calls state greatest
idle_phase late end more c calls (Idle due) greatest idle ready = ready
idle_phase late end more c calls _ greatest idle ready = cc

silent_ready : (late more until greatest : ℕ) (c : ControllerConfig) (calls : List Call) → All IsSilent calls → until ≤ greatest + c.poll_interval
    → Ready late (silent_end late more c greatest) c more (Unit {0}) until 0 greatest calls
silent_ready late more until greatest c calls silent before =
    let r = (c.reply_wait + late) + more * (c.reply_wait + late) in
    let fits = rests_fits greatest c.poll_interval late r in
    record {
      by_moment = greatest + c.poll_interval;
      busies_left = 0;
      due = due_anew late until greatest c.poll_interval calls before;
      near = is_near (greatest + c.poll_interval + late) r (silent_end late more c greatest) fits;
      left = inr (all_silent calls silent);
      fits = λ counts. subst (λ (n : ℕ). greatest + c.poll_interval + late + n ≤ silent_end late more c greatest) (sym (no_busy r ((c.busy_wait + late) + r))) fits;
    }

pub silence_told : SilenceIsTold
silence_told late p now calls m f =
    let c = m.session.config in
    let k = after_call (Hear p now) m in
    let g = k.session.greatest in
    let sends = one_less c.sends f.machine.session.config.sends.0 in
    let rest = frame_rests p now m.session f.outstanding f.answered in
    let end = silent_end late sends.0 c g in
    let ready = idle_phase late end sends.0 c calls k.session.state g f.answered (silent_ready late sends.0 (until_of k.session.state) g c calls f.silent rest.1) in
    let last : (after_calls calls k).session.greatest ≤ end =
    ends late end c sends.0 (Unit {0}) is_in_session refl (λ until n o so. tt) sends.1 calls k (inr f.silent) f.lasts f.in_time
    (on_from g (c.poll_interval + late + ((c.reply_wait + late) + sends.0 * (c.reply_wait + late))), λ so. (rest.0, ready)) in
    subst (λ (n : ℕ). (after_calls calls k).session.greatest ≤ g + (c.poll_interval + late + n)) (sym (round_is late sends.0 c sends.1)) last
