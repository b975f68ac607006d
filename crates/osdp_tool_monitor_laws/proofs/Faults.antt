-- What is counted for the diagnoses alone, of any items, one after the other.
use Rattle.osdp_tool_monitor_laws.proofs.Common.{◌≡◌, inl, inr, ◌<◌, ◌+◌, ℕ, Bool, true, false, cond, eqb, ltb, ◌&&◌, ◌||◌, not, List, [], ◌∷◌, ◌++◌, length, get_or, count_by, Option, Some, Result, Ok, refl, sym, subst, ap, ◌∙◌, arith, cases_Bool, cond-false, cond-true, lt-ltb, get_or-replicate, length-replicate, sum_by-cons, Packet, RunItem, PacketItem, SkippedItem, RefusedItem, Found, Notice, Restarted, copies_last, reply_told, MsgFault, NakReason, SecurityConditions, Reply, Counts, after_damage, after_packet, counts_after, counts_after_damage, kind_of_reason, kind_of_reply, more_if, no_counts, after_bad, hit_by, is_clean, Listening, heard_item, heard_items, nothing_heard, told_in}
use Rattle.osdp_monitor.specs.declared.accusation.Accusation.{Accusation}
use Rattle.osdp_monitor.specs.declared.accusation.Accusation.TheVariants.{SecondReply}
use Rattle.osdp_msg.specs.declared.reply.Reply.TheVariants as reply
use Rattle.osdp_tool_monitor.specs.Counts as counts
use Rattle.osdp_tool_monitor.specs.InTurn.{after_all}
use Rattle.osdp_tool_monitor_laws.specs.Counting.{Entry, answered, busy, capped, entries, is_busy, is_nak, refused, sent}
use Rattle.osdp_tool_monitor_laws.specs.Faults.{CountsFaults, CountsRepliesOnce, demanded, demands_channel, doubled, is_channel, is_needless, is_restarted, is_second, is_whole, last_or, named_rate, rates, replied, restarted, secured, since_new, was_answered, with_earlier, with_last}
use Rattle.osdp_tool_monitor_laws.proofs.Damage.{clean_along, hit_along}
use Rattle.osdp_tool_monitor_laws.proofs.OneRow.{row, row_taken, undamaged, within_of}
use Rattle.osdp_tool_monitor_laws.proofs.Counting.{busy_same, by_reply, counts_it, entry_of, from_none, kept_long, long_after, more, nak_same, taken, then_or}

-- ---- the kinds

restarted_same : (o : Option Notice) → counts.is_restarted o ≡ is_restarted o
restarted_same (Some Restarted) = refl
restarted_same o = refl

second_same : (o : Option Accusation) → counts.is_second o ≡ is_second o
second_same (Some SecondReply) = refl
second_same o = refl

demand_same : (told : Result Reply MsgFault) → counts.is_demand (kind_of_reply told) ≡ demands_channel told
demand_same (Ok (reply.Nak n)) = by_reason n.reason
  where
    by_reason : (reason : NakReason) → counts.is_demand (kind_of_reason reason) ≡ is_channel reason
    by_reason SecurityConditions = refl
    by_reason reason = refl
demand_same told = refl

module _ (p : Packet) (clean copy : Bool) (found : Found) (c : Counts) where
  abbrev now : Bool → Counts
  now b = then_or p clean copy found c b

  restarted_step : (now p.reply).restarted ≡ more_if (p.reply && is_restarted found.notice) c.restarted
  restarted_step =
      by_reply (λ b. (now b).restarted ≡ more_if (b && is_restarted found.notice) c.restarted)
      (ap (λ t. more_if t c.restarted) (restarted_same found.notice)) refl p.reply

  seconds_step : (now p.reply).seconds ≡ more_if (p.reply && is_second found.accusation) c.seconds
  seconds_step =
      by_reply (λ b. (now b).seconds ≡ more_if (b && is_second found.accusation) c.seconds)
      (ap (λ t. more_if t c.seconds) (second_same found.accusation)) refl p.reply

  demands_step : (now p.reply).demands ≡ more_if (p.reply && demands_channel (reply_told p)) c.demands
  demands_step =
      by_reply (λ b. (now b).demands ≡ more_if (b && demands_channel (reply_told p)) c.demands)
      (ap (λ t. more_if t c.demands) (demand_same (reply_told p))) refl p.reply

  secured_step : (now p.reply).secured ≡ more_if p.block c.secured
  secured_step = by_reply (λ b. (now b).secured ≡ more_if p.block c.secured) refl refl p.reply

  needless_step : (now p.reply).needless ≡ more_if ((not p.reply && copy) && c.heard) c.needless
  needless_step = by_reply (λ b. (now b).needless ≡ more_if ((not b && copy) && c.heard) c.needless) refl refl p.reply

module _ (a : ℕ) where
  -- ---- copies of a packet that was answered

  abbrev answers : Entry → Bool
  answers e = eqb e.packet.address a && answered e

  abbrev is_new : Entry → Bool
  is_new e = eqb e.packet.address a && (sent e && not e.copy)

  was_more : (e : Entry) (earlier : List Entry) → was_answered a (e ∷ earlier) ≡ (not (is_new e) && (answers e || was_answered a earlier))
  unfolding since_new
  was_more e earlier = elim (cases_Bool (is_new e)) [
    | inl new ↦
        ap (λ es. ltb 0 (count_by answers es)) (cond-true (is_new e) [] (e ∷ since_new a earlier) new) ∙ sym (ap (λ t. not t && (answers e || was_answered a earlier)) new)
    | inr old ↦
        ap (λ es. ltb 0 (count_by answers es)) (cond-false (is_new e) [] (e ∷ since_new a earlier) old)
        ∙ ap (λ n. ltb 0 n) (sum_by-cons (λ (x : Entry). cond (answers x) 1 0) e (since_new a earlier))
        ∙ one_or (answers e) (count_by answers (since_new a earlier))
        ∙ sym (ap (λ t. not t && (answers e || was_answered a earlier)) old)
  ]
    where
      one_or : (t : Bool) (n : ℕ) → ltb 0 (cond t 1 0 + n) ≡ (t || ltb 0 n)
      one_or true n = lt-ltb 0 (1 + n) (omega arith)
      one_or false n = ap (ltb 0) (omega arith)

  heard_step : (p : Packet) (clean copy : Bool) (found : Found) (c : Counts)
      → (after_packet p clean copy found c).heard
      ≡ (not (not p.reply && not copy) && ((p.reply && (not (is_busy (reply_told p)) && not (is_nak (reply_told p)))) || c.heard))
  heard_step p clean copy found c =
      by_reply (λ b. (then_or p clean copy found c b).heard ≡ (not (not b && not copy) && ((b && (not (is_busy (reply_told p)) && not (is_nak (reply_told p)))) || c.heard)))
      (neither (counts.is_busy (kind_of_reply (reply_told p))) (counts.is_refused (kind_of_reply (reply_told p))) c.heard
      ∙ ap (λ t. (not t && not (counts.is_refused (kind_of_reply (reply_told p)))) || c.heard) (busy_same (reply_told p))
      ∙ ap (λ t. (not (is_busy (reply_told p)) && not t) || c.heard) (nak_same (reply_told p)))
      (copied copy c.heard) p.reply
    where
      neither : (x y z : Bool) → (z || not (x || y)) ≡ ((not x && not y) || z)
      neither true y true = refl
      neither true y false = refl
      neither false true true = refl
      neither false true false = refl
      neither false false true = refl
      neither false false false = refl

      copied : (x z : Bool) → (x && z) ≡ (not (not x) && z)
      copied true z = refl
      copied false z = refl

  heard_now : (l : Listening) (p : Packet) (earlier : List Entry) → within_of a l → (row a l.counts).heard ≡ was_answered a earlier
      → (row a (heard_item l (PacketItem p)).counts).heard ≡ was_answered a (entry_of l p ∷ earlier)
  heard_now l p earlier within so_far =
      ap (λ (c : Counts). c.heard) (row_taken a p (is_clean l.trail.bad) (copies_last l.knowledge p) (told_in l p) l.counts within)
      ∙ by_place (eqb p.address a) ∙ sym (was_more (entry_of l p) earlier)
    where
      by_place : (here : Bool)
          → (cond here (after_packet p (is_clean l.trail.bad) (copies_last l.knowledge p) (told_in l p) (row a l.counts)) (row a l.counts)).heard
          ≡ (not (here && (not p.reply && not (copies_last l.knowledge p))) && ((here && answered (entry_of l p)) || was_answered a earlier))
      by_place true =
          heard_step p (is_clean l.trail.bad) (copies_last l.knowledge p) (told_in l p) (row a l.counts)
          ∙ ap (λ h. not (not p.reply && not (copies_last l.knowledge p)) && (answered (entry_of l p) || h)) so_far
      by_place false = so_far

  needless_along : (items : List RunItem) (l : Listening) (earlier : List Entry) (n : ℕ) → within_of a l → (row a l.counts).needless ≡ capped n
      → (row a l.counts).heard ≡ was_answered a earlier
      → (row a (heard_items l items).counts).needless ≡ capped (n + count_by (is_needless a) (with_earlier earlier (entries l.standard l.knowledge items)))
  unfolding after_all entries with_earlier
  needless_along [] l earlier n within so_far heard = so_far ∙ ap capped (omega arith)
  needless_along (PacketItem p ∷ items) l earlier n within so_far heard =
      let e = entry_of l p in
      let rest = with_earlier (e ∷ earlier) (entries l.standard (heard_item l (PacketItem p)).knowledge items) in
      needless_along items (heard_item l (PacketItem p)) (e ∷ earlier) (n + cond (is_needless a (e, earlier)) 1 0) (long_after a l p within)
      (taken (λ c. c.needless) (λ x c. (not x.packet.reply && x.copy) && c.heard) a needless_step (λ c. refl) p (is_clean l.trail.bad) (copies_last l.knowledge p) (told_in l p) l.counts within
      ∙ ap (λ h. more_if (eqb p.address a && ((not p.reply && copies_last l.knowledge p) && h)) (row a l.counts).needless) heard
      ∙ ap (more_if (is_needless a (e, earlier))) so_far ∙ more (is_needless a (e, earlier)) n)
      (heard_now l p earlier within heard)
      ∙ ap capped (let first = sum_by-cons (λ (x : Entry × List Entry). cond (is_needless a x) 1 0) (e, earlier) rest in omega (arith, first))
  needless_along (SkippedItem b ∷ items) l earlier n within so_far heard =
      let o = hit_by l.trail (after_bad l.trail.bad) in
      needless_along items (heard_item l (SkippedItem b)) earlier n (kept_long o l.counts within)
      (undamaged a (λ c. c.needless) (λ c. refl) o l.counts within ∙ so_far) (undamaged a (λ c. c.heard) (λ c. refl) o l.counts within ∙ heard)
  needless_along (RefusedItem fault ∷ items) l earlier n within so_far heard =
      let o = hit_by l.trail 7 in
      needless_along items (heard_item l (RefusedItem fault)) earlier n (kept_long o l.counts within)
      (undamaged a (λ c. c.needless) (λ c. refl) o l.counts within ∙ so_far) (undamaged a (λ c. c.heard) (λ c. refl) o l.counts within ∙ heard)

  -- ---- the rate

  rate_step : (p : Packet) (clean copy : Bool) (found : Found) (c : Counts)
      → (after_packet p clean copy found c).rate ≡ last_or c.rate (cond p.reply (named_rate (reply_told p)) [])
  unfolding last_or
  rate_step p clean copy found c =
      by_reply (λ b. (then_or p clean copy found c b).rate ≡ last_or c.rate (cond b (named_rate (reply_told p)) [])) (named (reply_told p)) refl p.reply
    where
      named : (told : Result Reply MsgFault) → counts.rate_after (kind_of_reply told) c.rate ≡ last_or c.rate (named_rate told)
      named (Ok (reply.Com named_is)) = refl
      named (Ok (reply.Nak n)) = by_reason n.reason
        where
          by_reason : (reason : NakReason) → counts.rate_after (kind_of_reason reason) c.rate ≡ c.rate
          by_reason SecurityConditions = refl
          by_reason reason = refl
      named told = refl

  last_more : (none : ℕ) (xs ys : List ℕ) → last_or none (xs ++ ys) ≡ last_or (last_or none xs) ys
  unfolding last_or
  last_more none [] ys = refl
  last_more none (x ∷ xs) ys = last_more x xs ys

  rate_now : (l : Listening) (p : Packet) → within_of a l
      → (row a (heard_item l (PacketItem p)).counts).rate ≡ last_or (row a l.counts).rate (cond (eqb p.address a && p.reply) (named_rate (reply_told p)) [])
  unfolding last_or
  rate_now l p within =
      ap (λ (c : Counts). c.rate) (row_taken a p (is_clean l.trail.bad) (copies_last l.knowledge p) (told_in l p) l.counts within)
      ∙ by_place (eqb p.address a)
    where
      by_place : (here : Bool)
          → (cond here (after_packet p (is_clean l.trail.bad) (copies_last l.knowledge p) (told_in l p) (row a l.counts)) (row a l.counts)).rate
          ≡ last_or (row a l.counts).rate (cond (here && p.reply) (named_rate (reply_told p)) [])
      by_place true = rate_step p (is_clean l.trail.bad) (copies_last l.knowledge p) (told_in l p) (row a l.counts)
      by_place false = refl

  rate_along : (items : List RunItem) (l : Listening) → within_of a l → (row a (heard_items l items).counts).rate ≡ last_or (row a l.counts).rate (rates a items)
  unfolding after_all rates last_or
  rate_along [] l within = refl
  rate_along (PacketItem p ∷ items) l within =
      rate_along items (heard_item l (PacketItem p)) (long_after a l p within) ∙ ap (λ n. last_or n (rates a items)) (rate_now l p within)
      ∙ sym (last_more (row a l.counts).rate (cond (eqb p.address a && p.reply) (named_rate (reply_told p)) []) (rates a items))
  rate_along (SkippedItem b ∷ items) l within =
      let o = hit_by l.trail (after_bad l.trail.bad) in
      rate_along items (heard_item l (SkippedItem b)) (kept_long o l.counts within) ∙ ap (λ n. last_or n (rates a items)) (undamaged a (λ c. c.rate) (λ c. refl) o l.counts within)
  rate_along (RefusedItem fault ∷ items) l within =
      let o = hit_by l.trail 7 in
      rate_along items (heard_item l (RefusedItem fault)) (kept_long o l.counts within) ∙ ap (λ n. last_or n (rates a items)) (undamaged a (λ c. c.rate) (λ c. refl) o l.counts within)

-- ---- each count

pub counts_faults : CountsFaults
unfolding since_new
counts_faults standard items a within =
    let l = nothing_heard standard in
    let long : a < length l.counts = subst (λ m. a < m) (sym (length-replicate 128 no_counts)) within in
    let none : get_or l.counts a no_counts ≡ no_counts = get_or-replicate 128 a no_counts no_counts within in
    record {
      restarts = counts_it (λ c. c.restarted) restarted a restarted_step (λ c. refl) standard items within refl;
      seconds = counts_it (λ c. c.seconds) doubled a seconds_step (λ c. refl) standard items within refl;
      demands = counts_it (λ c. c.demands) demanded a demands_step (λ c. refl) standard items within refl;
      secured_are = counts_it (λ c. c.secured) secured a secured_step (λ c. refl) standard items within refl;
      needless =
          needless_along a items l [] 0 long (ap (λ (c : Counts). c.needless) none) (ap (λ (c : Counts). c.heard) none ∙ nothing_answered a)
          ∙ ap capped (from_none (count_by (is_needless a) (with_earlier [] (entries standard l.knowledge items))));
      damaged = hit_along a items l 0 long (ap (λ (c : Counts). c.damaged) none) ∙ ap capped (omega arith);
      clean = clean_along a items l [] 0 long (ap (λ (c : Counts). c.clean) none) refl ∙ ap capped (from_none (count_by (is_whole a) (with_last [] items)));
      rate = rate_along a items l long ∙ ap (λ n. last_or n (rates a items)) (ap (λ (c : Counts). c.rate) none);
    }
  where
    nothing_answered : (address : ℕ) → false ≡ was_answered address []
    nothing_answered address = refl

-- ---- each reply once

replies_once : CountsRepliesOnce
replies_once address [] = refl
replies_once address (e ∷ es) =
    let first = sum_by-cons (λ (x : Entry). cond (eqb x.packet.address address && answered x) 1 0) e es in
    let second = sum_by-cons (λ (x : Entry). cond (eqb x.packet.address address && busy x) 1 0) e es in
    let third = sum_by-cons (λ (x : Entry). cond (eqb x.packet.address address && refused x) 1 0) e es in
    let all = sum_by-cons (λ (x : Entry). cond (eqb x.packet.address address && replied x) 1 0) e es in
    let rest = replies_once address es in
    let one = one_of (eqb e.packet.address address) e.packet.reply (reply_told e.packet) in
    omega (arith, first, second, third, all, rest, one)
  where
    one_of : (here is_reply : Bool) (told : Result Reply MsgFault)
        → (cond (here && (is_reply && (not (is_busy told) && not (is_nak told)))) 1 0 + cond (here && (is_reply && is_busy told)) 1 0) + cond (here && (is_reply && is_nak told)) 1 0
        ≡ cond (here && is_reply) 1 0
    one_of false is_reply told = refl
    one_of true false told = refl
    one_of true true (Ok reply.Busy) = refl
    one_of true true (Ok (reply.Nak n)) = refl
    one_of true true told = refl

pub counts_replies_once : CountsRepliesOnce
counts_replies_once address es = replies_once address es
