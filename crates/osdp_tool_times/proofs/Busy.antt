-- BUSY, which is an answer whatever number it has.
use Rattle.osdp_tool_times.proofs.Common.{◌≡◌, ℕ, ◌-◌, ◌==◌, ◌&&◌, not, Bool, true, false, cond, List, None, Some, refl, sym, ap, ◌∙◌, eq-eqb, ne_eqb, after_reply, no_waits, told_reply, Sent, Times, InTime, Late, Nothing}
use Rattle.osdp_frame.specs.Packet.{Packet}
use Rattle.osdp_tool_times.specs.BusyLaws.{CountsNoBusy, IsAnAnswer, IsNoRestart, TellsBusy, TellsNoDoubt}
use Rattle.osdp_tool_times.specs.Laws.{Exchange, after_exchanges, sent}
use Rattle.osdp_tool_times.specs.Presence.{after_answer, after_asked, after_restart, has_lost, is_busy, is_number_refused, is_offline, presence_after}
use Rattle.osdp_tool_times.specs.Times.{after_missed, after_packet, after_told, answer_told, answered_number, packet_told}
use Rattle.osdp_tool_times.specs.Waits.{after_sent}
use Rattle.osdp_tool_times.specs.declared.presence.Presence.{Presence}
use Rattle.osdp_tool_times.specs.declared.waits.Told.{Told}
use Rattle.osdp_tool_times.specs.declared.waits.Waits.{Waits}
use Rattle.osdp_tool_times.proofs.Exchanges.{all_closed, answered_is, fresh, in_time_is, of}

number_is : (busy : Packet) (s : Sent) → is_busy busy ≡ true → answered_number busy (Some s) ≡ s.number
number_is busy s is = ap (λ b. cond b s.number busy.sequence) is

-- what is told of answers counts no packet without one
same_missed : (told : Told) (t : Times) → (after_told told t).missed ≡ t.missed
same_missed Nothing t = refl
same_missed (InTime time) t = refl
same_missed (Late took waited) t = refl

first_is : (number moment : ℕ) (s : Sent) → number ≡ s.number → (after_reply number moment (fresh s)).first ≡ Some moment
first_is number moment s is =
    ap (λ n. (after_reply n moment (fresh s)).first) is
    ∙ ap (λ b. (cond b (record { earlier = None; before = None; last = Some s; first = Some moment }) (fresh s)).first) (eq-eqb s.number s.number refl)

-- after a packet, by whether it is a reply
abbrev taken : Packet → ℕ → Times → Bool → Times
taken p moment t reply = cond reply (record (after_told (answer_told p moment t.waits) t) {
  waits = after_reply (answered_number p t.waits.last) moment t.waits;
  presence = presence_after p moment t.presence;
}) (record (after_missed t.waits.first t.waits.last moment t) {
  waits = after_sent (record { moment = moment; number = p.sequence }) t.waits;
  presence = presence_after p moment t.presence;
})

-- nor does a packet after an answer
no_missed : (next : Packet) (later : ℕ) (t : Times) (first : ℕ) → next.reply ≡ false → t.waits.first ≡ Some first → (after_packet next (Some later) t).missed ≡ t.missed
no_missed next later t first order is =
    ap (λ b. (taken next later t b).missed) order ∙ ap (λ o. (after_missed o t.waits.last later t).missed) is

module _ (busy : Packet) (e : Exchange) (t : Times) (reply : busy.reply ≡ true) (is : is_busy busy ≡ true) where
  -- the packet of the exchange was sent, and nothing else is owed
  abbrev pub asked_now : Times
  asked_now = record t { waits = fresh (of e) }

  abbrev told : Told
  told = answer_told busy e.answered (fresh (of e))

  pub time_is : packet_told busy (Some e.answered) asked_now ≡ InTime (e.answered - e.asked)
  time_is =
      ap (λ b. cond b told Nothing) reply
      ∙ ap (λ b. cond (b && false) Nothing (told_reply (fresh (of e)) (answered_number busy (Some (of e))) e.answered)) is
      ∙ ap (λ n. told_reply (fresh (of e)) n e.answered) (number_is busy (of e) is) ∙ in_time_is e

  pub waits_are : (after_packet busy (Some e.answered) asked_now).waits ≡ after_reply e.number e.answered (fresh (of e))
  waits_are = ap (λ b. (taken busy e.answered asked_now b).waits) reply ∙ ap (λ n. after_reply n e.answered (fresh (of e))) (number_is busy (of e) is)

  pub missed_is : (next : Packet) (later : ℕ) → next.reply ≡ false → (after_packet next (Some later) (after_packet busy (Some e.answered) asked_now)).missed ≡ t.missed
  missed_is next later order =
      no_missed next later (after_packet busy (Some e.answered) asked_now) e.answered order
      (ap (λ (w : Waits). w.first) waits_are ∙ first_is e.number e.answered (of e) refl)
      ∙ ap (λ b. (taken busy e.answered asked_now b).missed) reply ∙ same_missed told asked_now

pub tells_busy : TellsBusy
tells_busy busy next exchanges e later last t reply is packet order =
    let closed = all_closed exchanges no_waits (λ s. refl) (of e) in
    let again : Sent = record { moment = later; number = e.number } in
    let after : Exchange = record { number = e.number; asked = later; answered = last; in_turn = order } in
    record {
      time = ap (λ (w : Waits). packet_told busy (Some e.answered) (record t { waits = w })) closed ∙ time_is busy e t reply is;
      again =
          ap (λ (w : Waits). told_reply (sent e.number later (after_packet busy (Some e.answered) (record t { waits = w })).waits) e.number last) closed
          ∙ ap (λ (w : Waits). told_reply (sent e.number later w) e.number last) (waits_are busy e t reply is)
          ∙ ap (λ (w : Waits). told_reply w e.number last) (answered_is e again) ∙ in_time_is after;
      missed =
          ap (λ (w : Waits). (after_packet next (Some later) (after_packet busy (Some e.answered) (record t { waits = w }))).missed) closed
          ∙ missed_is busy e t reply is next later packet;
    }

-- an answer to the packet before is owed
abbrev both : Sent → Sent → Waits
both first second = record { earlier = None; before = Some first; last = Some second; first = None }

in_doubt : (busy : Packet) (first second : Sent) (moment : ℕ) → is_busy busy ≡ true → (first.number ≡ second.number → ⊥) → answer_told busy moment (both first second) ≡ Nothing
in_doubt busy first second moment is other =
    ap (λ b. cond (b && not (first.number == second.number)) Nothing (told_reply (both first second) (answered_number busy (Some second)) moment)) is
    ∙ ap (λ b. cond (not b) Nothing (told_reply (both first second) (answered_number busy (Some second)) moment)) (ne_eqb first.number second.number other)

pub tells_no_doubt : TellsNoDoubt
tells_no_doubt busy exchanges number next asked_at later answered t reply is other =
    let first : Sent = record { moment = asked_at; number = number } in
    let second : Sent = record { moment = later; number = next } in
    let waits = sent next later (sent number asked_at (after_exchanges no_waits exchanges)) in
    ap (λ b. cond b (answer_told busy answered waits) Nothing) reply
    ∙ ap (λ (w : Waits). answer_told busy answered (sent next later w)) (all_closed exchanges no_waits (λ s. refl) first)
    ∙ in_doubt busy first second answered is (λ e. other (sym e))

-- ---- its device

heard_as : (busy : Packet) (moment : ℕ) (w : Presence) → busy.reply ≡ true → is_busy busy ≡ true → presence_after busy moment w ≡ after_answer w.refused moment w
heard_as busy moment w reply is =
    ap (λ b. cond b (after_answer (has_lost busy w) moment w) (after_asked w)) reply ∙ ap (λ b. after_answer (cond b w.refused (is_number_refused busy)) moment w) is

never : (b : Bool) → (b && not b) ≡ false
never true = refl
never false = refl

no_restart : (moment : ℕ) (w : Presence) → (after_answer w.refused moment w).restarts ≡ w.restarts
no_restart moment w = ap (λ b. (cond b (after_restart moment w) w).restarts) (never w.refused)

pub counts_no_busy : CountsNoBusy
counts_no_busy busy moment between later w reply is = record {
  online = ap is_offline (heard_as busy between w reply is);
  restarts = ap (λ (x : Presence). x.restarts) (heard_as busy between w reply is) ∙ no_restart between w;
  row = ap (λ (x : Presence). (after_answer true later x).restarts) (heard_as busy between (after_answer true moment w) reply is);
}
