-- Which events wait after calls, and when the oldest is taken off.
use Rattle.std.proofs.Common.{◌≡◌, ◌+◌, ◌<◌, ◌≤◌, ◌↔◌, inl, inr, ℕ, Bool, true, false, if◌then◌else◌, List, [], ◌∷◌, ◌++◌, drop, length, map, take, Option, None, Some, is_some, option_map, slice_get, refl, sym, ap, subst, ◌∙◌, arith}
use Rattle.std.proofs.lemmas.Bool.{cases_Bool, cond-false, cond-true, false≢true}
use Rattle.std.proofs.lemmas.List.Elements.{All-append, All-drop, All-take}
use Rattle.std.specs.List.{All}
use Rattle.std.specs.Prelude.{slice_index_or}
use Rattle.osdp_device.specs.declared.events.Expired.{Expired}
use Rattle.osdp_device.specs.Ages.{AgesState, after_arrival_if, after_expiry, after_removal, after_saying, expired, expired_front, expires, waiting_moments}
use Rattle.osdp_device.specs.AgesLaws.{ArrivesWithItsMoment, BeginsWithNone, Came, LeavesWithItsMoment, StaysWithItsMoment, Waits}
use Rattle.osdp_device.specs.OfflineLaws.{TakesOffWhatIsTooOld}
use Rattle.osdp_device.specs.Saying.{Said, after_item, said_of}
use Rattle.osdp_device.specs.Telling.{items_of, next_told, told_by, told_or}
use Rattle.osdp_frame.specs.Held.{Held, later}
use Rattle.osdp_frame.specs.Reading.{RunItem, PacketItem, SkippedItem, RefusedItem}
use Rattle.osdp_msg.specs.declared.command.Command.{Command}
use Rattle.osdp_msg.specs.declared.event.Event.{Event}
use Rattle.osdp_reader.specs.Queue.{Queue, has_room}
use Rattle.osdp_reader.specs.State.{ReaderState, after_lapse_event, after_submit_if, after_withdraw_event}
use Rattle.osdp_reader.specs.declared.handler.Answer.{Answer}
use Rattle.osdp_device_laws.specs.Calls.{Call, Kept, Take, Tick, Silence, Next, Pending, SubmitEvent, WithdrawEvent, LapseEvent, ExpireEvent, SetBusy, SetHandler, after_call, after_calls, answered_at, new_device}
use Rattle.osdp_device_laws.specs.Offline.{IsSilent, IsSubmitted, OldCardsLeave}
use Rattle.osdp_device_laws.proofs.Presence.{tells_offline}

-- these events wait, and of each this holds
record Waiting {H : Type 0} (Holds : Came → Type 0) (r : ReaderState H) (a : AgesState) : Type 0 where
  came : List Came
  waits : Waits came r a
  hold : All Holds came

-- it holds of each event that these calls submit
abbrev HoldsAt : {H : Type 0} → (Came → Type 0) → Call H → Type 0
HoldsAt Holds (SubmitEvent event now) = Holds (event, now)
HoldsAt Holds call = Unit {0}

abbrev Each : {H : Type 0} → (Came → Type 0) → List (Call H) → Type 0
Each Holds [] = Unit {0}
Each Holds (call ∷ calls) = HoldsAt Holds call × Each Holds calls

if_both : {X : Type 0} (P : X → Type 0) (b : Bool) (x y : X) → P x → P y → P (if b then x else y)
if_both P true x y one other = one
if_both P false x y one other = other

one : (Holds : Came → Type 0) (c : Came) → Holds c → All Holds (c ∷ [])
one Holds c holds k d below = subst (λ (j : ℕ). Holds (slice_index_or (c ∷ []) j d)) (let first : 0 ≡ k = omega (arith, below) in first) holds

module _ {H : Type 0} (answer_of : H → Command → Answer) (after : H → Command → H) (Holds : Came → Type 0)
    (arrives : ArrivesWithItsMoment H) (leaves : LeavesWithItsMoment H) (stays : StaysWithItsMoment answer_of after) where
  -- a packet
  heard : (part : RunItem) (r : ReaderState H) (a : AgesState) → Waiting Holds r a → Waiting Holds (after_item answer_of after part r) a
  heard (PacketItem p) r a w = elim (stays w.came r a p w.waits) [
    | inl gone ↦ record { came = drop 1 w.came; waits = gone; hold = All-drop Holds 1 w.came w.hold }
    | inr same ↦ record { came = w.came; waits = same; hold = w.hold }
  ]
  heard (SkippedItem byte) r a w = w
  heard (RefusedItem fault) r a w = w

  told : (parts : List RunItem) (r : ReaderState H) (held : Held) (a : AgesState) → Waiting Holds r a → Waiting Holds (told_by answer_of after parts r held).reader a
  told [] r held a w = w
  told (part ∷ parts) r held a w =
      let item = after_item answer_of after part r in
      by_said (said_of answer_of after part r) (heard part r a w) (told parts item (later held part) a (heard part r a w))
    where
      by_said : (said : Option Said) → Waiting Holds (after_item answer_of after part r) a
          → Waiting Holds (told_by answer_of after parts (after_item answer_of after part r) (later held part)).reader a
          → Waiting Holds (told_or answer_of after said (after_item answer_of after part r) (later held part) (told_by answer_of after parts (after_item answer_of after part r) (later held part))).reader a
      by_said (Some said) here more = here
      by_said None here more = more

  said : (some : Bool) (now : ℕ) (r : ReaderState H) (a : AgesState) → Waiting Holds r a → Waiting Holds r (after_saying some now a)
  said true now r a w = record { came = w.came; waits = record { events = w.waits.events; moments = w.waits.moments; room = w.waits.room; within = w.waits.within }; hold = w.hold }
  said false now r a w = w

  submitted : (fits : Bool) (event : Event) (now : ℕ) (r : ReaderState H) (a : AgesState) → has_room event r.queue ≡ fits → Holds (event, now)
      → Waiting Holds r a → Waiting Holds (after_submit_if fits event r) (after_arrival_if fits now (length r.queue.events) a)
  submitted true event now r a room holds w = record {
    came = w.came ++ (event, now) ∷ [];
    waits = arrives w.came r a event now w.waits room;
    hold = All-append Holds w.came ((event, now) ∷ []) w.hold (one Holds (event, now) holds);
  }
  submitted false event now r a room holds w = record {
    came = w.came;
    waits = record { events = w.waits.events; moments = w.waits.moments; room = w.waits.room; within = w.waits.within };
    hold = w.hold;
  }

  rest_holds : (second : Bool) (came : List Came) → All Holds came → All Holds (if second then take 1 came ++ drop 2 came else drop 1 came)
  rest_holds true came hold = All-append Holds (take 1 came) (drop 2 came) (All-take Holds 1 came hold) (All-drop Holds 2 came hold)
  rest_holds false came hold = All-drop Holds 1 came hold

  withdrawn : (r : ReaderState H) (a : AgesState) → Waiting Holds r a
      → Waiting Holds (after_withdraw_event r) (after_removal r.queue.ever_offered (length r.queue.events) a)
  withdrawn r a w = record {
    came = if r.queue.ever_offered then take 1 w.came ++ drop 2 w.came else drop 1 w.came;
    waits = (leaves w.came r a w.waits).0;
    hold = rest_holds r.queue.ever_offered w.came w.hold;
  }

  expiry : (r : ReaderState H) (a : AgesState) → Waiting Holds r a → Waiting Holds (after_expiry r) (after_removal false (length r.queue.events) a)
  expiry r a w = record { came = drop 1 w.came; waits = (leaves w.came r a w.waits).1; hold = All-drop Holds 1 w.came w.hold }

  lapsed : (r : ReaderState H) (a : AgesState) → Waiting Holds r a
      → Waiting Holds (after_lapse_event r) (if r.queue.ever_offered then after_removal false (length r.queue.events) a else a)
  lapsed r a w =
      let gone = after_removal false (length r.queue.events) a in
      elim (cases_Bool r.queue.ever_offered) [
        | inl was ↦
            subst (λ (x : ReaderState H). Waiting Holds x (if r.queue.ever_offered then gone else a)) (cond-true r.queue.ever_offered (after_lapse_event r) (after_withdraw_event r) was)
            (subst (λ (x : AgesState). Waiting Holds (after_expiry r) x) (sym (cond-true r.queue.ever_offered gone a was)) (expiry r a w))
        | inr never ↦
            subst (λ (q : Queue). Waiting Holds (record r { queue = q }) (if r.queue.ever_offered then gone else a)) (sym (cond-false r.queue.ever_offered _ r.queue never))
            (subst (λ (x : AgesState). Waiting Holds r x) (sym (cond-false r.queue.ever_offered gone a never)) w)
      ]

  same_queue : (r next : ReaderState H) (a : AgesState) → r.queue ≡ next.queue → Waiting Holds r a → Waiting Holds next a
  same_queue r next a is w = record {
    came = w.came;
    waits = record {
      events = ap (λ (q : Queue). q.events) (sym is) ∙ w.waits.events;
      moments = subst (λ (q : Queue). waiting_moments (length q.events) a ≡ map (λ (c : Came). c.1) w.came) is w.waits.moments;
      room = w.waits.room ∙ ap (λ (q : Queue). q.capacity) is;
      within = subst (λ (q : Queue). length q.events ≤ q.capacity) is w.waits.within;
    };
    hold = w.hold;
  }

  step : (call : Call H) (d : Kept H) → HoldsAt Holds call → Waiting Holds d.reader d.ages
      → Waiting Holds (after_call answer_of after call d).reader (after_call answer_of after call d).ages
  step (Take bytes now) d holds w = w
  step (Tick now) d holds w = w
  step (Silence now) d holds w = w
  step Next d holds w =
      let next = next_told answer_of after d.reader d.line.held in
      said (is_some next.said) d.line.greatest next.reader d.ages (told (items_of d.line.held) d.reader d.line.held d.ages w)
  step Pending d holds w = w
  step (SubmitEvent event now) d holds w = submitted (has_room event d.reader.queue) event now d.reader d.ages refl holds w
  step WithdrawEvent d holds w = withdrawn d.reader d.ages w
  step LapseEvent d holds w = lapsed d.reader d.ages w
  step (ExpireEvent now limit) d holds w =
      if_both (λ (x : Kept H). Waiting Holds x.reader x.ages) (expires now limit (length d.reader.queue.events) d.ages) _ d (expiry d.reader d.ages w) w
  step (SetBusy busy) d holds w = same_queue d.reader _ d.ages refl w
  step (SetHandler handler) d holds w = same_queue d.reader _ d.ages refl w

  all_wait : (calls : List (Call H)) (d : Kept H) → Each Holds calls → Waiting Holds d.reader d.ages
      → Waiting Holds (after_calls answer_of after calls d).reader (after_calls answer_of after calls d).ages
  all_wait [] d each w = w
  all_wait (call ∷ calls) d each w = all_wait calls (after_call answer_of after call d) each.1 (step call d each.0 w)

-- ---- each was submitted

submits : {H : Type 0} (all calls : List (Call H)) → ((c : Came) → IsSubmitted calls c → IsSubmitted all c) → Each (IsSubmitted all) calls
submits all [] are = tt
submits all (SubmitEvent event now ∷ calls) are = (are (event, now) (inl refl), submits all calls (λ c is. are c (inr is)))
submits all (Take bytes now ∷ calls) are = (tt, submits all calls are)
submits all (Tick now ∷ calls) are = (tt, submits all calls are)
submits all (Silence now ∷ calls) are = (tt, submits all calls are)
submits all (Next ∷ calls) are = (tt, submits all calls are)
submits all (Pending ∷ calls) are = (tt, submits all calls are)
submits all (WithdrawEvent ∷ calls) are = (tt, submits all calls are)
submits all (LapseEvent ∷ calls) are = (tt, submits all calls are)
submits all (ExpireEvent now limit ∷ calls) are = (tt, submits all calls are)
submits all (SetBusy busy ∷ calls) are = (tt, submits all calls are)
submits all (SetHandler handler ∷ calls) are = (tt, submits all calls are)

-- ---- when the oldest is taken off

none_off : (expires : Bool) (front : Option Expired) → expires ≡ false → is_some (if expires then front else None) ≡ false
none_off true front never = absurd (false≢true (sym never))
none_off false front never = refl

is_off : (expires : Bool) (front : Option Expired) → is_some front ≡ true → is_some (if expires then front else None) ≡ expires
is_off true front some = some
is_off false front some = refl

first_is : (q : Queue) (event : Event) (events : List Event) → q.events ≡ event ∷ events → is_some (expired_front q) ≡ true
first_is q event events is = ap (λ l. is_some (option_map (expired q.ever_offered) (slice_get l 0))) is

swap : {A B C D E : Type 0} → (A ↔ (B × C × D)) → (B ↔ E) → A ↔ (E × C × D)
swap one other = (
  (λ a. let all = one.0 a in (other.0 all.0, all.1, all.2)),
  (λ all. one.1 (other.1 all.0, all.1, all.2)),
)

pub old_cards_leave : {H : Type 0} (answer_of : H → Command → Answer) (after : H → Command → H)
    → BeginsWithNone H → ArrivesWithItsMoment H → LeavesWithItsMoment H → StaysWithItsMoment answer_of after → TakesOffWhatIsTooOld H
    → OldCardsLeave answer_of after
old_cards_leave {H} answer_of after begins arrives leaves stays old config handler room gap calls =
    let start = new_device config handler room gap in
    let d = after_calls answer_of after calls start in
    let w = all_wait answer_of after (IsSubmitted calls) arrives leaves stays calls start (submits calls calls (λ c is. is))
    (record { came = []; waits = begins config handler room; hold = λ k c below. absurd (omega (arith, below)) }) in
    record {
      came = w.came;
      events = w.waits.events;
      submitted = w.hold;
      none = λ is now limit.
          none_off (expires now limit (length d.reader.queue.events) d.ages) (expired_front d.reader.queue) ((old w.came d.reader d.ages now limit w.waits).none is);
      oldest = λ first later now limit is.
          subst (λ (b : Bool). (b ≡ true) ↔ (IsSilent (answered_at answer_of after 0 calls start) now × (0 < limit) × (first.1 + limit < now)))
          (sym (is_off (expires now limit (length d.reader.queue.events) d.ages) (expired_front d.reader.queue)
          (first_is d.reader.queue first.0 _ (w.waits.events ∙ ap (map (λ (c : Came). c.0)) is))))
          (swap ((old w.came d.reader d.ages now limit w.waits).oldest first later is) (tells_offline answer_of after config handler room gap calls now));
    }
