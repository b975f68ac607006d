-- When a device is offline, by its calls.
use Rattle.std.proofs.Common.{◌≡◌, ◌+◌, ◌-◌, ◌≤◌, ◌↔◌, ℕ, Bool, true, false, not, if◌then◌else◌, max, List, [], ◌∷◌, ◌++◌, length, Option, None, Some, is_some, refl, sym, ap, subst, ◌∙◌, arith, ◌&&◌, ◌||◌, ◌==◌}
use Rattle.std.proofs.lemmas.Bool.{le-leb, leb-true, false≢true}
use Rattle.std.specs.List.{list_any}
use Rattle.std.specs.Prelude.{nat_le}
use Rattle.osdp_device.specs.Ages.{AgesState, after_arrival_if, after_saying, expires, is_silent_since}
use Rattle.osdp_device.specs.Saying.{Said, after_item, is_answered, said_of, speaks, unless_silent}
use Rattle.osdp_device.specs.Telling.{items_of, next_told, told_by, told_or, Told}
use Rattle.osdp_device.proofs.Sayings.{stays}
use Rattle.osdp_frame.specs.Held.{Held, later}
use Rattle.osdp_frame.specs.Packet.{Packet, next_sequence}
use Rattle.osdp_frame.specs.Receiving.{Received, after_take, after_tick, ends_run, is_silent, seen}
use Rattle.osdp_reader.specs.Queue.{has_room}
use Rattle.osdp_frame.specs.Reading.{RunItem, PacketItem, SkippedItem, RefusedItem}
use Rattle.osdp_msg.specs.declared.command.Command.{Command}
use Rattle.osdp_reader.specs.State.{ReaderState}
use Rattle.osdp_reader.specs.Table.{is_for_another, kind_by_number, kind_of}
use Rattle.osdp_reader.specs.declared.handler.Answer.{Answer}
use Rattle.osdp_reader.specs.declared.kind.Kind.{Kind}
use Rattle.osdp_reader.specs.declared.kind.Kind.TheVariants.{Silent, Secured, Zero, Repeat, Taken, Busy, Wrong}
use Rattle.osdp_device_laws.specs.Calls.{Call, Kept, Take, Tick, Silence, Next, Pending, SubmitEvent, WithdrawEvent, LapseEvent, ExpireEvent, SetBusy, SetHandler, after_call, after_calls, answered_at, answers, is_for, moment_after, new_device}
use Rattle.osdp_device_laws.specs.Offline.{AnswersWhatIsForIt, IsSilent, TellsOffline}

-- ---- which packets are answered

-- every line of the table but the first speaks
if_speaks : (b : Bool) (k l : Kind) → speaks k ≡ true → speaks l ≡ true → speaks (if b then k else l) ≡ true
if_speaks true k l one other = one
if_speaks false k l one other = other

number_speaks : (last : Option ℕ) (sequence : ℕ) (busy : Bool) → speaks (kind_by_number last sequence busy) ≡ true
number_speaks None sequence busy = refl
number_speaks (Some last) sequence busy =
    if_speaks (sequence == last) Repeat _ refl (if_speaks (sequence == next_sequence last) _ Wrong (if_speaks busy Busy Taken refl refl) refl)

by_address : (b : Bool) (k : Kind) → speaks k ≡ true → speaks (if b then Silent else k) ≡ not b
by_address true k one = refl
by_address false k one = one

same_test : (reply here : Bool) → not (reply || not here) ≡ (not reply && here)
same_test true here = refl
same_test false true = refl
same_test false false = refl

module _ {H : Type 0} where
  packet_speaks : (r : ReaderState H) (p : Packet) → speaks (kind_of r p) ≡ is_for r.config.address (PacketItem p)
  packet_speaks r p =
      by_address (is_for_another r p) _
      (if_speaks p.block Secured _ refl (if_speaks (p.sequence == 0) _ _ (if_speaks r.busy Busy Zero refl refl) (number_speaks r.last p.sequence r.busy)))
      ∙ same_test p.reply (p.address == r.config.address || p.address == 127)

  item_speaks : (r : ReaderState H) (part : RunItem) → is_answered r part ≡ is_for r.config.address part
  item_speaks r (PacketItem p) = packet_speaks r p
  item_speaks r (SkippedItem byte) = refl
  item_speaks r (RefusedItem fault) = refl

some_said : (k : Kind) (said : Said) → is_some (unless_silent k said) ≡ speaks k
some_said Silent said = refl
some_said _ said = refl

module _ {H : Type 0} (answer_of : H → Command → Answer) (after : H → Command → H) where
  says : (part : RunItem) (r : ReaderState H) → is_some (said_of answer_of after part r) ≡ is_answered r part
  says (PacketItem p) r = some_said (kind_of r p) _
  says (SkippedItem byte) r = refl
  says (RefusedItem fault) r = refl

module _ {H : Type 0} (answer_of : H → Command → Answer) (after : H → Command → H) where
  any_speaks : (parts : List RunItem) (r : ReaderState H) (held : Held)
      → is_some (told_by answer_of after parts r held).said ≡ list_any (is_for r.config.address) parts
  any_speaks [] r held = refl
  any_speaks (part ∷ parts) r held = by_test (any_speaks parts (after_item answer_of after part r) (later held part)) (is_answered r part) refl
    where
      item : ReaderState H
      item = after_item answer_of after part r

      more : Told H
      more = told_by answer_of after parts item (later held part)

      here : (said : Option Said) → is_some said ≡ true → is_some (told_or answer_of after said item (later held part) more).said ≡ true
      here (Some said) some = refl
      here None some = absurd (false≢true some)

      on : (said : Option Said) → is_some said ≡ false → is_some (told_or answer_of after said item (later held part) more).said ≡ is_some more.said
      on (Some said) none = absurd (false≢true (sym none))
      on None none = refl

      by_test : is_some more.said ≡ list_any (is_for item.config.address) parts → (t : Bool) → is_answered r part ≡ t
          → is_some (told_by answer_of after (part ∷ parts) r held).said ≡ (is_for r.config.address part || list_any (is_for r.config.address) parts)
      by_test rest true is =
          here (said_of answer_of after part r) (says answer_of after part r ∙ is)
          ∙ sym (ap (λ b. b || list_any (is_for r.config.address) parts) (sym (item_speaks r part) ∙ is))
      by_test rest false is =
          on (said_of answer_of after part r) (says answer_of after part r ∙ is)
          ∙ rest
          ∙ ap (λ (s : ReaderState H). list_any (is_for s.config.address) parts) (sym (stays answer_of after part r is))
          ∙ sym (ap (λ b. b || list_any (is_for r.config.address) parts) (sym (item_speaks r part) ∙ is))

  pub answers_what_is_for_it : AnswersWhatIsForIt answer_of after
  answers_what_is_for_it r held = any_speaks (items_of held) r held

-- ---- the moment of the last one

-- after these, from the last one before them on
abbrev last_after : Option ℕ → List ℕ → Option ℕ
last_after last [] = last
last_after last (moment ∷ moments) = last_after (Some moment) moments

last-append : (last : Option ℕ) (xs ys : List ℕ) → last_after last (xs ++ ys) ≡ last_after (last_after last xs) ys
last-append last [] ys = refl
last-append last (x ∷ xs) ys = last-append (Some x) xs ys

silent_past : (moment now : ℕ) → (nat_le 8000 (now - moment) ≡ true) ↔ (moment + 8000 ≤ now)
silent_past moment now = (
  (λ so. let past : 8000 ≤ now - moment = leb-true 8000 (now - moment) so in omega (arith, past)),
  (λ past. le-leb 8000 (now - moment) (omega (arith, past))),
)

silent_since : (moment : ℕ) (moments : List ℕ) (now : ℕ) → (is_silent_since now (last_after (Some moment) moments) ≡ true) ↔ IsSilent (moment ∷ moments) now
silent_since moment [] now = silent_past moment now
silent_since moment (next ∷ moments) now = silent_since next moments now

silent_after : (moments : List ℕ) (now : ℕ) → (is_silent_since now (last_after None moments) ≡ true) ↔ IsSilent moments now
silent_after [] now = ((λ so. tt), (λ none. refl))
silent_after (moment ∷ moments) now = silent_since moment moments now

-- ---- what each call does to it

if_same : {X Y : Type 0} (f : X → Y) (b : Bool) (x y : X) (z : Y) → f x ≡ z → f y ≡ z → f (if b then x else y) ≡ z
if_same f true x y z one other = one
if_same f false x y z one other = other

ticked : (now : ℕ) (l : Received) → (after_tick now l).greatest ≡ max l.greatest now
ticked now l = if_same (λ (x : Received). x.greatest) (is_silent (seen now l)) (ends_run (seen now l)) (seen now l) (max l.greatest now) refl refl

taken : (bytes : List ℕ) (now : ℕ) (l : Received) → (after_take bytes now l).greatest ≡ max l.greatest now
taken [] now l = refl
taken (byte ∷ bytes) now l = ticked now l

arrived : (fits : Bool) (now waiting : ℕ) (a : AgesState) → (after_arrival_if fits now waiting a).last_packet ≡ a.last_packet
arrived true now waiting a = refl
arrived false now waiting a = refl

said_at : (said : Bool) (now : ℕ) (a : AgesState) → (after_saying said now a).last_packet ≡ last_after a.last_packet (if said then now ∷ [] else [])
said_at true now a = refl
said_at false now a = refl

module _ {H : Type 0} (answer_of : H → Command → Answer) (after : H → Command → H) where
  greatest_is : (call : Call H) (d : Kept H) → (after_call answer_of after call d).line.greatest ≡ moment_after call d.line.greatest
  greatest_is (Take bytes now) d = taken bytes now d.line
  greatest_is (Tick now) d = ticked now d.line
  greatest_is (Silence now) d = refl
  greatest_is Next d = refl
  greatest_is Pending d = refl
  greatest_is (SubmitEvent event now) d = refl
  greatest_is WithdrawEvent d = refl
  greatest_is LapseEvent d = refl
  greatest_is (ExpireEvent now limit) d =
      if_same (λ (x : Kept H). x.line.greatest) (expires now limit (length d.reader.queue.events) d.ages) _ d d.line.greatest refl refl
  greatest_is (SetBusy busy) d = refl
  greatest_is (SetHandler handler) d = refl

  last_is : (call : Call H) (d : Kept H)
      → (after_call answer_of after call d).ages.last_packet ≡ last_after d.ages.last_packet (if answers call d then d.line.greatest ∷ [] else [])
  last_is (Take bytes now) d = refl
  last_is (Tick now) d = refl
  last_is (Silence now) d = refl
  last_is Next d =
      said_at (is_some (next_told answer_of after d.reader d.line.held).said) d.line.greatest d.ages
      ∙ ap (λ (b : Bool). last_after d.ages.last_packet (if b then d.line.greatest ∷ [] else [])) (answers_what_is_for_it answer_of after d.reader d.line.held)
  last_is Pending d = refl
  last_is (SubmitEvent event now) d = arrived (has_room event d.reader.queue) now (length d.reader.queue.events) d.ages
  last_is WithdrawEvent d = refl
  last_is LapseEvent d = if_same (λ (a : AgesState). a.last_packet) d.reader.queue.ever_offered _ d.ages d.ages.last_packet refl refl
  last_is (ExpireEvent now limit) d =
      if_same (λ (x : Kept H). x.ages.last_packet) (expires now limit (length d.reader.queue.events) d.ages) _ d d.ages.last_packet refl refl
  last_is (SetBusy busy) d = refl
  last_is (SetHandler handler) d = refl

  pub last_of_all : (calls : List (Call H)) (d : Kept H)
      → (after_calls answer_of after calls d).ages.last_packet ≡ last_after d.ages.last_packet (answered_at answer_of after d.line.greatest calls d)
  last_of_all [] d = refl
  last_of_all (call ∷ calls) d =
      let next = after_call answer_of after call d in
      let here : List ℕ = if answers call d then d.line.greatest ∷ [] else [] in
      let more = answered_at answer_of after (moment_after call d.line.greatest) calls next in
      last_of_all calls next
      ∙ ap (λ moment. last_after next.ages.last_packet (answered_at answer_of after moment calls next)) (greatest_is call d)
      ∙ ap (λ last. last_after last more) (last_is call d)
      ∙ sym (last-append d.ages.last_packet here more)

  pub tells_offline : TellsOffline answer_of after
  tells_offline config handler room gap calls now =
      subst (λ (last : Option ℕ). (is_silent_since now last ≡ true) ↔ IsSilent (answered_at answer_of after 0 calls (new_device config handler room gap)) now)
      (sym (last_of_all calls (new_device config handler room gap))) (silent_after (answered_at answer_of after 0 calls (new_device config handler room gap)) now)
