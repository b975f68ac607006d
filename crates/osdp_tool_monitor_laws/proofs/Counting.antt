-- What is counted of any items, one after the other.
use Rattle.osdp_tool_monitor_laws.proofs.Common.{◌≡◌, inl, inr, ◌<◌, ◌+◌, ◌-◌, ◌^◌, ℕ, min, Bool, true, false, cond, eqb, ltb, ◌&&◌, not, List, [], ◌∷◌, length, get_or, set, drop, filter, count_by, Option, Some, None, Result, Ok, refl, sym, subst, ap, ◌∙◌, arith, cases_Bool, cond-false, cond-true, cond_both, eqb-false, eqb-true, ltb-false, ltb-true, ne_eqb, get_or-replicate, get_or-set_other, get_or-set_same, length-set, length-replicate, sum_by-cons, is_some, Packet, RunItem, PacketItem, SkippedItem, RefusedItem, Found, Notice, Opened, Moved, copies_last, no_knowledge, MsgFault, NakReason, SecurityConditions, Reply, Counts, after_any_packet, after_damage, after_packet, after_reply, after_sent, counts_after, counts_after_damage, kind_of_reason, kind_of_reply, more_if, no_counts, after_bad, hit_by, is_clean, Listening, heard_item, heard_items, nothing_heard, told_in}
use Rattle.osdp_frame.specs.declared.fault.FrameFault.{FrameFault}
use Rattle.osdp_monitor.specs.Saying.{asked, reply_told}
use Rattle.osdp_msg.specs.declared.command.Command.{Command}
use Rattle.osdp_msg.specs.declared.command.Command.TheVariants as command
use Rattle.osdp_msg.specs.declared.reply.Reply.TheVariants as reply
use Rattle.osdp_tool_monitor.specs.Counts as counts
use Rattle.osdp_tool_monitor.specs.InTurn.{after_all}
use Rattle.osdp_tool_monitor_laws.specs.Counting.{CountsEachKind, CountsForgotten, CountsTheLine, Entry, accused, answered, brought, busy, capped, entries, how_many_at, is_busy, is_event, is_moved, is_nak, is_opened, is_poll, judged, moved, opened, polled, refused, repeated, sent}

-- one more, up to a greatest number
pub more_to : (most : ℕ) (test : Bool) (n : ℕ) → cond (test && ltb (min n most) most) (min n most + 1) (min n most) ≡ min (n + cond test 1 0) most
more_to most false n = ap (λ m. min m most) (omega arith)
more_to most true n = cond_both (ltb (min n most) most) (min n most + 1) (min n most) (λ m. m ≡ min (n + 1) most)
    (λ below. let is = ltb-true (min n most) most below in omega (arith, is)) (λ full. let is = ltb-false (min n most) most full in omega (arith, is))

pub more : (test : Bool) (n : ℕ) → more_if test (capped n) ≡ capped (n + cond test 1 0)
more test n = more_to (2 ^ 64 - 1) test n

pub from_none : (n : ℕ) → 0 + n ≡ n
from_none n = omega arith

-- damage leaves the rows
pub kept_long : {a : ℕ} (o : Option ℕ) (cs : List Counts) → a < length cs → a < length (counts_after_damage o cs)
kept_long None cs within = within
kept_long {a} (Some b) cs within = subst (λ m. a < m) (sym (length-set cs b (after_damage (get_or cs b no_counts)))) within

-- a count in one row, and what adds to it, by what the row was
module _ (f : Counts → ℕ) (adds : Entry → Counts → Bool) (a : ℕ)
    (packet : (p : Packet) (clean copy : Bool) (found : Found) (c : Counts)
    → f (after_packet p clean copy found c) ≡ more_if (adds (record { packet = p; copy = copy; found = found }) c) (f c))
    (damage : (c : Counts) → f (after_damage c) ≡ f c) where
  abbrev at : List Counts → ℕ
  at cs = f (get_or cs a no_counts)

  pub damaged : (o : Option ℕ) (cs : List Counts) → a < length cs → at (counts_after_damage o cs) ≡ at cs
  damaged None cs within = refl
  damaged (Some b) cs within = elim (cases_Bool (eqb a b)) [
    | inl same ↦ subst (λ x. at (set cs x (after_damage (get_or cs x no_counts))) ≡ at cs) (eqb-true a b same)
        (ap f (get_or-set_same cs a (after_damage (get_or cs a no_counts)) no_counts within) ∙ damage (get_or cs a no_counts))
    | inr other ↦ ap f (get_or-set_other cs b a (after_damage (get_or cs b no_counts)) no_counts (eqb-false a b other))
  ]

  pub taken : (p : Packet) (clean copy : Bool) (found : Found) (cs : List Counts) → a < length cs
      → at (counts_after p clean copy found cs) ≡ more_if (eqb p.address a && adds (record { packet = p; copy = copy; found = found }) (get_or cs a no_counts)) (at cs)
  taken p clean copy found cs within = elim (cases_Bool (eqb p.address a)) [
    | inl same ↦
        subst (λ x. at (set cs x (after_packet p clean copy found (get_or cs x no_counts))) ≡ more_if (adds (record { packet = p; copy = copy; found = found }) (get_or cs a no_counts)) (at cs))
        (sym (eqb-true p.address a same))
        (ap f (get_or-set_same cs a (after_packet p clean copy found (get_or cs a no_counts)) no_counts within) ∙ packet p clean copy found (get_or cs a no_counts))
        ∙ ap (λ b. more_if (b && adds (record { packet = p; copy = copy; found = found }) (get_or cs a no_counts)) (at cs)) (sym same)
    | inr other ↦
        ap f (get_or-set_other cs p.address a (after_packet p clean copy found (get_or cs p.address no_counts)) no_counts (λ same. eqb-false p.address a other (sym same)))
        ∙ ap (λ b. more_if (b && adds (record { packet = p; copy = copy; found = found }) (get_or cs a no_counts)) (at cs)) (sym other)
  ]

-- what a packet is counted as
abbrev pub entry_of : Listening → Packet → Entry
entry_of l p = record { packet = p; copy = copies_last l.knowledge p; found = told_in l p }

pub long_after : (a : ℕ) (l : Listening) (p : Packet) → a < length l.counts → a < length (heard_item l (PacketItem p)).counts
long_after a l p within =
    subst (λ m. a < m)
    (sym (length-set l.counts p.address (after_packet p (is_clean l.trail.bad) (copies_last l.knowledge p) (told_in l p) (get_or l.counts p.address no_counts)))) within

-- one column of one row
module _ (f : Counts → ℕ) (kind : Entry → Bool) (a : ℕ)
    (packet : (p : Packet) (clean copy : Bool) (found : Found) (c : Counts)
    → f (after_packet p clean copy found c) ≡ more_if (kind (record { packet = p; copy = copy; found = found })) (f c))
    (damage : (c : Counts) → f (after_damage c) ≡ f c) where
  abbrev pub here : Entry → Bool
  here e = eqb e.packet.address a && kind e

  along : (items : List RunItem) (l : Listening) (n : ℕ) → a < length l.counts → f (get_or l.counts a no_counts) ≡ capped n
      → f (get_or (heard_items l items).counts a no_counts) ≡ capped (n + count_by here (entries l.standard l.knowledge items))
  unfolding after_all entries
  along [] l n within so_far = so_far ∙ ap capped (omega arith)
  along (PacketItem p ∷ items) l n within so_far =
      let e = entry_of l p in
      let rest = entries l.standard (heard_item l (PacketItem p)).knowledge items in
      along items (heard_item l (PacketItem p)) (n + cond (here e) 1 0) (long_after a l p within)
      (taken f (λ x _. kind x) a packet damage p (is_clean l.trail.bad) (copies_last l.knowledge p) (told_in l p) l.counts within
      ∙ ap (more_if (here e)) so_far ∙ more (here e) n)
      ∙ ap capped (let first = sum_by-cons (λ (x : Entry). cond (here x) 1 0) e rest in omega (arith, first))
  along (SkippedItem b ∷ items) l n within so_far =
      along items (heard_item l (SkippedItem b)) n (kept_long (hit_by l.trail (after_bad l.trail.bad)) l.counts within)
      (damaged f (λ x _. kind x) a packet damage (hit_by l.trail (after_bad l.trail.bad)) l.counts within ∙ so_far)
  along (RefusedItem fault ∷ items) l n within so_far =
      along items (heard_item l (RefusedItem fault)) n (kept_long (hit_by l.trail 7) l.counts within)
      (damaged f (λ x _. kind x) a packet damage (hit_by l.trail 7) l.counts within ∙ so_far)

  pub counts_it : (standard : Bool) (items : List RunItem) → a < 128 → f no_counts ≡ 0
      → f (get_or (heard_items (nothing_heard standard) items).counts a no_counts) ≡ how_many_at a kind (entries standard no_knowledge items)
  counts_it standard items within none =
      along items (nothing_heard standard) 0 (subst (λ m. a < m) (sym (length-replicate 128 no_counts)) within)
      (ap f (get_or-replicate 128 a no_counts no_counts within) ∙ none)
      ∙ ap capped (from_none (count_by here (entries standard no_knowledge items)))

-- ---- the columns

-- what a packet to a device adds, and what a reply does
pub by_reply : (P : Bool → Type 0) → P true → P false → (b : Bool) → P b
by_reply P reply command true = reply
by_reply P reply command false = command

-- the kinds by which a reply is counted
pub busy_same : (told : Result Reply MsgFault) → counts.is_busy (kind_of_reply told) ≡ is_busy told
busy_same (Ok reply.Busy) = refl
busy_same (Ok (reply.Nak n)) = by_reason n.reason
  where
    by_reason : (reason : NakReason) → counts.is_busy (kind_of_reason reason) ≡ false
    by_reason SecurityConditions = refl
    by_reason reason = refl
busy_same told = refl

pub nak_same : (told : Result Reply MsgFault) → counts.is_refused (kind_of_reply told) ≡ is_nak told
nak_same (Ok (reply.Nak n)) = by_reason n.reason
  where
    by_reason : (reason : NakReason) → counts.is_refused (kind_of_reason reason) ≡ true
    by_reason SecurityConditions = refl
    by_reason reason = refl
nak_same told = refl

event_same : (told : Result Reply MsgFault) → counts.is_event (kind_of_reply told) ≡ is_event told
event_same (Ok (reply.Raw r)) = refl
event_same (Ok (reply.Formatted f)) = refl
event_same (Ok (reply.Keypad k)) = refl
event_same (Ok (reply.Nak n)) = by_reason n.reason
  where
    by_reason : (reason : NakReason) → counts.is_event (kind_of_reason reason) ≡ false
    by_reason SecurityConditions = refl
    by_reason reason = refl
event_same told = refl

poll_same : (read : Result Command MsgFault) → counts.is_poll read ≡ is_poll read
poll_same (Ok command.Poll) = refl
poll_same read = refl

opened_same : (o : Option Notice) → counts.is_opened o ≡ is_opened o
opened_same (Some Opened) = refl
opened_same o = refl

moved_same : (o : Option Notice) → counts.is_moved o ≡ is_moved o
moved_same (Some (Moved place)) = refl
moved_same o = refl

module _ (p : Packet) (clean copy : Bool) (found : Found) (c : Counts) where
  abbrev pub before : Counts
  before = after_any_packet p clean c

  -- by whether it is a reply
  abbrev pub then_or : Bool → Counts
  then_or b = cond b (after_reply (kind_of_reply (reply_told p)) found before) (after_sent p copy found before)

  pub asked_step : (then_or p.reply).asked ≡ more_if (not p.reply) c.asked
  asked_step = by_reply (λ b. (then_or b).asked ≡ more_if (not b) c.asked) refl refl p.reply

  pub polls_step : (then_or p.reply).polls ≡ more_if (not p.reply && is_poll (asked p)) c.polls
  polls_step =
      by_reply (λ b. (then_or b).polls ≡ more_if (not b && is_poll (asked p)) c.polls) refl (ap (λ t. more_if t c.polls) (poll_same (asked p))) p.reply

  pub repeats_step : (then_or p.reply).repeats ≡ more_if (not p.reply && copy) c.repeats
  repeats_step = by_reply (λ b. (then_or b).repeats ≡ more_if (not b && copy) c.repeats) refl refl p.reply

  pub answered_step : (then_or p.reply).answered ≡ more_if (p.reply && (not (is_busy (reply_told p)) && not (is_nak (reply_told p)))) c.answered
  answered_step =
      by_reply (λ b. (then_or b).answered ≡ more_if (b && (not (is_busy (reply_told p)) && not (is_nak (reply_told p)))) c.answered)
      (ap (λ t. more_if (not t && not (counts.is_refused (kind_of_reply (reply_told p)))) c.answered) (busy_same (reply_told p))
      ∙ ap (λ t. more_if (not (is_busy (reply_told p)) && not t) c.answered) (nak_same (reply_told p))) refl p.reply

  pub busy_step : (then_or p.reply).busy ≡ more_if (p.reply && is_busy (reply_told p)) c.busy
  busy_step =
      by_reply (λ b. (then_or b).busy ≡ more_if (b && is_busy (reply_told p)) c.busy) (ap (λ t. more_if t c.busy) (busy_same (reply_told p))) refl p.reply

  pub nak_step : (then_or p.reply).nak ≡ more_if (p.reply && is_nak (reply_told p)) c.nak
  nak_step =
      by_reply (λ b. (then_or b).nak ≡ more_if (b && is_nak (reply_told p)) c.nak) (ap (λ t. more_if t c.nak) (nak_same (reply_told p))) refl p.reply

  pub events_step : (then_or p.reply).events ≡ more_if (p.reply && is_event (reply_told p)) c.events
  events_step =
      by_reply (λ b. (then_or b).events ≡ more_if (b && is_event (reply_told p)) c.events) (ap (λ t. more_if t c.events) (event_same (reply_told p))) refl
      p.reply

  pub opened_step : (then_or p.reply).opened ≡ more_if (p.reply && is_opened found.notice) c.opened
  opened_step =
      by_reply (λ b. (then_or b).opened ≡ more_if (b && is_opened found.notice) c.opened) (ap (λ t. more_if t c.opened) (opened_same found.notice)) refl
      p.reply

  pub moved_step : (then_or p.reply).moved ≡ more_if (p.reply && is_moved found.notice) c.moved
  moved_step =
      by_reply (λ b. (then_or b).moved ≡ more_if (b && is_moved found.notice) c.moved) (ap (λ t. more_if t c.moved) (moved_same found.notice)) refl
      p.reply

  pub judged_step : (then_or p.reply).judged ≡ more_if found.judged c.judged
  judged_step = by_reply (λ b. (then_or b).judged ≡ more_if found.judged c.judged) refl refl p.reply

  pub accused_step : (then_or p.reply).accused ≡ more_if (is_some found.accusation) c.accused
  accused_step = by_reply (λ b. (then_or b).accused ≡ more_if (is_some found.accusation) c.accused) refl refl p.reply

  pub forgot_step : (then_or p.reply).forgot ≡ more_if (not p.reply && (not found.judged && not (eqb c.asked 0))) c.forgot
  forgot_step = by_reply (λ b. (then_or b).forgot ≡ more_if (not b && (not found.judged && not (eqb c.asked 0))) c.forgot) refl refl p.reply

pub counts_each_kind : CountsEachKind
counts_each_kind standard items a within = record {
  asked = counts_it (λ c. c.asked) sent a asked_step (λ c. refl) standard items within refl;
  polls = counts_it (λ c. c.polls) polled a polls_step (λ c. refl) standard items within refl;
  repeats = counts_it (λ c. c.repeats) repeated a repeats_step (λ c. refl) standard items within refl;
  answered_are = counts_it (λ c. c.answered) answered a answered_step (λ c. refl) standard items within refl;
  busy_are = counts_it (λ c. c.busy) busy a busy_step (λ c. refl) standard items within refl;
  nak = counts_it (λ c. c.nak) refused a nak_step (λ c. refl) standard items within refl;
  events = counts_it (λ c. c.events) brought a events_step (λ c. refl) standard items within refl;
  opened_are = counts_it (λ c. c.opened) opened a opened_step (λ c. refl) standard items within refl;
  moved_are = counts_it (λ c. c.moved) moved a moved_step (λ c. refl) standard items within refl;
  judged_are = counts_it (λ c. c.judged) judged a judged_step (λ c. refl) standard items within refl;
  accused_are = counts_it (λ c. c.accused) accused a accused_step (λ c. refl) standard items within refl;
}

-- ---- what was not judged

module _ (a : ℕ) where
  -- a packet to the device
  abbrev goes : Entry → Bool
  goes e = eqb e.packet.address a && sent e

  abbrev unjudged : Entry → Bool
  unjudged e = not (judged e)

  abbrev forgotten : Entry → Counts → Bool
  forgotten e c = not e.packet.reply && (not e.found.judged && not (eqb c.asked 0))

  abbrev row : List Counts → Counts
  row cs = get_or cs a no_counts

  asked_now : (l : Listening) (p : Packet) → a < length l.counts
      → (row (heard_item l (PacketItem p)).counts).asked ≡ more_if (goes (entry_of l p)) (row l.counts).asked
  asked_now l p within =
      taken (λ c. c.asked) (λ e _. sent e) a asked_step (λ c. refl) p (is_clean l.trail.bad) (copies_last l.knowledge p) (told_in l p) l.counts within

  forgot_now : (l : Listening) (p : Packet) → a < length l.counts
      → (row (heard_item l (PacketItem p)).counts).forgot
      ≡ more_if (eqb p.address a && forgotten (entry_of l p) (row l.counts)) (row l.counts).forgot
  forgot_now l p within =
      taken (λ c. c.forgot) forgotten a forgot_step (λ c. refl) p (is_clean l.trail.bad) (copies_last l.knowledge p) (told_in l p) l.counts within

  same_asked : (o : Option ℕ) (cs : List Counts) → a < length cs → (row (counts_after_damage o cs)).asked ≡ (row cs).asked
  same_asked o cs within = damaged (λ c. c.asked) (λ e _. sent e) a asked_step (λ c. refl) o cs within

  same_forgot : (o : Option ℕ) (cs : List Counts) → a < length cs → (row (counts_after_damage o cs)).forgot ≡ (row cs).forgot
  same_forgot o cs within = damaged (λ c. c.forgot) forgotten a forgot_step (λ c. refl) o cs within

  count_more : (e : Entry) (es : List Entry) (m : ℕ) → (m + cond (unjudged e) 1 0) + count_by unjudged es ≡ m + count_by unjudged (e ∷ es)
  count_more e es m = let first = sum_by-cons (λ (x : Entry). cond (unjudged x) 1 0) e es in omega (arith, first)

  -- one more packet, after one that went there
  asked_above : (test : Bool) (n : ℕ) → eqb n 0 ≡ false → eqb (more_if test n) 0 ≡ false
  asked_above false n above = above
  asked_above true n above =
      cond_both (ltb n (2 ^ 64 - 1)) (n + 1) n (λ m. eqb m 0 ≡ false) (λ _. ne_eqb (n + 1) 0 (λ zero. omega (arith, zero))) (λ _. above)

  later : (items : List RunItem) (l : Listening) (m : ℕ) → a < length l.counts → (row l.counts).forgot ≡ capped m → eqb (row l.counts).asked 0 ≡ false
      → (row (heard_items l items).counts).forgot ≡ capped (m + count_by unjudged (filter goes (entries l.standard l.knowledge items)))
  unfolding after_all entries
  later [] l m within so_far above = so_far ∙ ap capped (omega arith)
  later (PacketItem p ∷ items) l m within so_far above =
      let e = entry_of l p in
      let next = heard_item l (PacketItem p) in
      let rest = filter goes (entries l.standard next.knowledge items) in
      let asked_next = ap (λ n. eqb n 0) (asked_now l p within) ∙ asked_above (goes e) (row l.counts).asked above in
      let adds : (row next.counts).forgot ≡ more_if (goes e && unjudged e) (capped m) =
      forgot_now l p within ∙ ap (λ b. more_if b (row l.counts).forgot) (by_both (eqb p.address a) p.reply e.found.judged (eqb (row l.counts).asked 0) above)
      ∙ ap (more_if (goes e && unjudged e)) so_far in
      elim (cases_Bool (goes e)) [
        | inl goes_there ↦
            later items next (m + cond (unjudged e) 1 0) (long_after a l p within)
            (adds ∙ ap (λ b. more_if (b && unjudged e) (capped m)) goes_there ∙ more (unjudged e) m) asked_next
            ∙ ap capped (count_more e rest m) ∙ ap (λ es. capped (m + count_by unjudged es)) (sym (cond-true (goes e) (e ∷ rest) rest goes_there))
        | inr away ↦
            later items next m (long_after a l p within) (adds ∙ ap (λ b. more_if (b && unjudged e) (capped m)) away) asked_next
            ∙ ap (λ es. capped (m + count_by unjudged es)) (sym (cond-false (goes e) (e ∷ rest) rest away))
      ]
    where
      by_both : (here reply judged_is none_before : Bool) → none_before ≡ false → (here && (not reply && (not judged_is && not none_before))) ≡ ((here && not reply) && not judged_is)
      by_both true true judged_is first_one none = refl
      by_both true false true first_one none = refl
      by_both true false false first_one none = ap not none
      by_both false reply judged_is first_one none = refl
  later (SkippedItem b ∷ items) l m within so_far above =
      let o = hit_by l.trail (after_bad l.trail.bad) in
      later items (heard_item l (SkippedItem b)) m (kept_long o l.counts within) (same_forgot o l.counts within ∙ so_far)
      (ap (λ n. eqb n 0) (same_asked o l.counts within) ∙ above)
  later (RefusedItem fault ∷ items) l m within so_far above =
      let o = hit_by l.trail 7 in
      later items (heard_item l (RefusedItem fault)) m (kept_long o l.counts within) (same_forgot o l.counts within ∙ so_far)
      (ap (λ n. eqb n 0) (same_asked o l.counts within) ∙ above)

  first : (items : List RunItem) (l : Listening) → a < length l.counts → (row l.counts).forgot ≡ 0 → (row l.counts).asked ≡ 0
      → (row (heard_items l items).counts).forgot ≡ capped (count_by unjudged (drop 1 (filter goes (entries l.standard l.knowledge items))))
  unfolding after_all entries
  first [] l within so_far none = so_far
  first (PacketItem p ∷ items) l within so_far none =
      let e = entry_of l p in
      let next = heard_item l (PacketItem p) in
      let rest = filter goes (entries l.standard next.knowledge items) in
      let adds : (row next.counts).forgot ≡ 0 =
      forgot_now l p within ∙ ap (λ n. more_if (eqb p.address a && (not p.reply && (not e.found.judged && not (eqb n 0)))) (row l.counts).forgot) none
      ∙ ap (λ b. more_if b (row l.counts).forgot) (nothing (eqb p.address a) p.reply e.found.judged) ∙ so_far in
      let asked_next : (row next.counts).asked ≡ more_if (goes e) 0 = asked_now l p within ∙ ap (more_if (goes e)) none in
      elim (cases_Bool (goes e)) [
        | inl goes_there ↦
            later items next 0 (long_after a l p within) adds (ap (λ n. eqb n 0) (asked_next ∙ ap (λ b. more_if b 0) goes_there))
            ∙ ap capped (from_none (count_by unjudged rest))
            ∙ ap (λ es. capped (count_by unjudged (drop 1 es))) (sym (cond-true (goes e) (e ∷ rest) rest goes_there))
        | inr away ↦
            first items next (long_after a l p within) adds (asked_next ∙ ap (λ b. more_if b 0) away)
            ∙ ap (λ es. capped (count_by unjudged (drop 1 es))) (sym (cond-false (goes e) (e ∷ rest) rest away))
      ]
    where
      nothing : (here reply judged_is : Bool) → (here && (not reply && (not judged_is && false))) ≡ false
      nothing true true judged_is = refl
      nothing true false true = refl
      nothing true false false = refl
      nothing false reply judged_is = refl
  first (SkippedItem b ∷ items) l within so_far none =
      let o = hit_by l.trail (after_bad l.trail.bad) in
      first items (heard_item l (SkippedItem b)) (kept_long o l.counts within) (same_forgot o l.counts within ∙ so_far) (same_asked o l.counts within ∙ none)
  first (RefusedItem fault ∷ items) l within so_far none =
      let o = hit_by l.trail 7 in
      first items (heard_item l (RefusedItem fault)) (kept_long o l.counts within) (same_forgot o l.counts within ∙ so_far) (same_asked o l.counts within ∙ none)

pub counts_forgotten : CountsForgotten
counts_forgotten standard items a within =
    first a items (nothing_heard standard) (subst (λ m. a < m) (sym (length-replicate 128 no_counts)) within)
    (ap (λ (c : Counts). c.forgot) (get_or-replicate 128 a no_counts no_counts within))
    (ap (λ (c : Counts). c.asked) (get_or-replicate 128 a no_counts no_counts within))

-- ---- the line

line_along : (f : Listening → ℕ) (kind : Entry → Bool)
    → ((l : Listening) (p : Packet) → f (heard_item l (PacketItem p)) ≡ more_if (kind (record { packet = p; copy = copies_last l.knowledge p; found = told_in l p })) (f l))
    → ((l : Listening) (b : ℕ) → f (heard_item l (SkippedItem b)) ≡ f l) → ((l : Listening) (fault : FrameFault) → f (heard_item l (RefusedItem fault)) ≡ f l)
    → (items : List RunItem) (l : Listening) (n : ℕ) → f l ≡ capped n → f (heard_items l items) ≡ capped (n + count_by kind (entries l.standard l.knowledge items))
unfolding after_all entries
line_along f kind packet skipped refuses [] l n so_far = so_far ∙ ap capped (omega arith)
line_along f kind packet skipped refuses (PacketItem p ∷ items) l n so_far =
    let e = entry_of l p in
    let rest = entries l.standard (heard_item l (PacketItem p)).knowledge items in
    line_along f kind packet skipped refuses items (heard_item l (PacketItem p)) (n + cond (kind e) 1 0) (packet l p ∙ ap (more_if (kind e)) so_far ∙ more (kind e) n)
    ∙ ap capped (let first = sum_by-cons (λ (x : Entry). cond (kind x) 1 0) e rest in omega (arith, first))
line_along f kind packet skipped refuses (SkippedItem b ∷ items) l n so_far =
    line_along f kind packet skipped refuses items (heard_item l (SkippedItem b)) n (skipped l b ∙ so_far)
line_along f kind packet skipped refuses (RefusedItem fault ∷ items) l n so_far =
    line_along f kind packet skipped refuses items (heard_item l (RefusedItem fault)) n (refuses l fault ∙ so_far)

pub counts_the_line : CountsTheLine
counts_the_line standard items = (
  line_along (λ l. l.judged) judged (λ l p. refl) (λ l b. refl) (λ l fault. refl) items (nothing_heard standard) 0 refl
      ∙ ap capped (from_none (count_by judged (entries standard no_knowledge items))),
  line_along (λ l. l.accused) accused (λ l p. refl) (λ l b. refl) (λ l fault. refl) items (nothing_heard standard) 0 refl
      ∙ ap capped (from_none (count_by accused (entries standard no_knowledge items))),
)
