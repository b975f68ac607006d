-- Whether the panel is gone is what the moment that came last says, line by line.
use Rattle.osdp_line_laws.proofs.Common.{◌≡◌, ◌∙◌, ap, sym, subst, refl, ℕ, zero, suc, ◌≤◌, max, Bool, true, false, cond, if◌then◌else◌, List, [], ◌∷◌, Option, Some, None, arith, AgesState, after_expiry, after_removal, expired_front, expires, Expired, DeviceStatus, ReaderState, LetGo, goes_first, keeps_all, lets_some_go, length, ReaderCall}
use Rattle.std.specs.Prelude.{◌-◌}
use Rattle.std.proofs.lemmas.Bool.{le-leb, leb-true}
use Rattle.osdp_device.specs.Ages.{after_arrival_if, is_offline, is_silent_since}
use Rattle.osdp_reader.specs.Queue.{has_room}
use Rattle.osdp_line_calls.specs.ReaderSessions.{Session, does, new_session}
use Rattle.osdp_line_calls.specs.ReaderTexts.{presence_text}
use Rattle.osdp_line_calls.specs.declared.reader_call.ReaderCall.TheVariants.{At, Bytes, Silence, Tick, Event}
use Rattle.osdp_line_laws.proofs.ReaderRuns.{runs_are_calls}
use Rattle.osdp_line_laws.specs.ReaderRuns.{after_all_said, after_said, moment_after}
use Rattle.osdp_line_laws.specs.Moments.{MomentsAlwaysGoOn, MomentsGoOn}

abbrev Known : Session → Type 0
Known s = s.gone ≡ is_offline s.now s.ages

-- ---- the moment of the last packet that was answered stays while events come and go

first_kept : (front : Option Expired) (g : LetGo) → (goes_first front g).ages.last_packet ≡ g.ages.last_packet
first_kept None g = refl
first_kept (Some e) g = refl

one_kept : (n now limit : ℕ) (r : ReaderState DeviceStatus) (a : AgesState)
    → (lets_some_go n now limit (after_expiry r) (after_removal false (length r.queue.events) a)).ages.last_packet ≡ a.last_packet
    → (lets_some_go (suc n) now limit r a).ages.last_packet ≡ a.last_packet
one_kept n now limit r a more = by_test (expires now limit (length r.queue.events) a)
  where
    rest : LetGo
    rest = lets_some_go n now limit (after_expiry r) (after_removal false (length r.queue.events) a)

    by_test : (test : Bool) → (cond test (goes_first (expired_front r.queue) rest) (keeps_all r a)).ages.last_packet ≡ a.last_packet
    by_test true = first_kept (expired_front r.queue) rest ∙ more
    by_test false = refl

packet_kept : (n now limit : ℕ) (r : ReaderState DeviceStatus) (a : AgesState) → (lets_some_go n now limit r a).ages.last_packet ≡ a.last_packet
packet_kept zero now limit r a = refl
packet_kept (suc n) now limit r a =
    one_kept n now limit r a (packet_kept n now limit (after_expiry r) (after_removal false (length r.queue.events) a))

arrival_kept : (fits : Bool) (now waiting : ℕ) (a : AgesState) → (after_arrival_if fits now waiting a).last_packet ≡ a.last_packet
arrival_kept true now waiting a = refl
arrival_kept false now waiting a = refl

-- ---- line by line

known_call : (call : ReaderCall) (s : Session) → Known s → (does call s).session.gone ≡ is_offline (moment_after call s.now) (does call s).session.ages
known_call (At later) s known =
    ap (is_silent_since (max s.now later))
    (sym (packet_kept (length s.reader.queue.events) (max s.now later) s.absence.expire s.reader s.ages))
known_call (Event event) s known =
    known ∙ ap (is_silent_since s.now) (sym (arrival_kept (has_room event s.reader.queue) s.now (length s.reader.queue.events) s.ages))
known_call (Bytes list) s known = refl
known_call Silence s known = refl
known_call Tick s known = refl
known_call call s known = known

known_said : (said : Option ReaderCall) (s : Session) → Known s → Known (after_said said s)
known_said None s known = known
known_said (Some call) s known = known_call call s known

known_all : (said : List (Option ReaderCall)) (s : Session) → Known s → Known (after_all_said said s)
known_all [] s known = known
known_all (one ∷ more) s known = known_all more (after_said one s) (known_said one s known)

-- ---- what this comes to

later_silent : (last : Option ℕ) (n m : ℕ) → n ≤ m → is_silent_since n last ≡ true → is_silent_since m last ≡ true
later_silent None n m h is = refl
later_silent (Some last) n m h is =
    let long : 8000 ≤ n - last = leb-true 8000 (n - last) is in
    le-leb 8000 (m - last) (omega (arith, h, long))

not_back : (call : ReaderCall) (s : Session) → s.now ≤ (does call s).session.now
not_back (At later) s = omega arith
not_back call s = omega arith

nothing_new : (told gone : Bool) → (if told then presence_text gone gone else []) ≡ []
nothing_new false gone = refl
nothing_new true true = refl
nothing_new true false = refl

goes_on : (s : Session) → Known s → MomentsGoOn s
goes_on s known = record {
  known = known;
  on = λ call. not_back call s;
  gone = λ later is. later_silent s.ages.last_packet s.now (max s.now later) (omega arith) (sym known ∙ is);
  again = λ later before.
      let same : max s.now later ≡ s.now = omega (arith, before) in
      ap (λ m. if s.absence.told then presence_text s.gone (is_offline m s.ages) else []) same
      ∙ ap (λ g. if s.absence.told then presence_text s.gone g else []) (sym known)
      ∙ nothing_new s.absence.told s.gone;
}

pub always_go_on : MomentsAlwaysGoOn
always_go_on config capacity gap absence lines text last spoken =
    let run = runs_are_calls (new_session config capacity gap absence) lines text last spoken in
    goes_on last (subst Known (sym run.3) (known_all run.0 (new_session config capacity gap absence) refl))
