-- Items told and taken off one by one.
use Rattle.osdp_tool_show.proofs.Common.{◌≡◌, ℕ, ◌+◌, ◌*◌, ◌<◌, ◌≤◌, Bool, true, List, [], ◌∷◌, ◌++◌, length, drop, Option, Some, None, sym, subst, ap, ◌∙◌, arith, append_assoc, AreBytes, RunItem, item_size, total_size, Held, decided, after_advance, items, item_size-positive, item_size-decided, items_decided, tally_after, tally_after_all, counted, shown_lines, StopsWithin, Report, Tells, Drained}
use Rattle.osdp_tool_show.proofs.Lines.{tally_after_all-nil, tally_after_all-cons, shown_lines-append, counted-later}
use Rattle.osdp_tool_show.proofs.Beginnings.{stops_after}
use Rattle.osdp_tool_show.proofs.Reports.{tells_none, tells_more}
use Rattle.osdp_tool_show.proofs.Taking.{Taking, next_bytes, taken_all, taking_start, taking_step}

-- some of the items that the held bytes decide have been told and taken off
pub record Draining (start now : Held) (old new : Report) (before after : Option (List ℕ)) : Type 0 where
  pub parts : List RunItem
  pub tells : Tells old new before after parts
  pub taking : Taking start now parts
  pub counts : counted new.tally + 5 * length now.bytes ≤ counted old.tally + 5 * length start.bytes

pub draining_start : (start : Held) (old : Report) (before : Option (List ℕ)) → AreBytes start.bytes → (start.ended ≡ true → 0 < length start.bytes)
    → Draining start start old old before before
draining_start start old before fits some =
    record { parts = []; tells = tells_none old before; taking = taking_start start fits some; counts = omega arith }

pub draining_step : (start now next : Held) (old mid new : Report) (before middle after : Option (List ℕ)) (part : RunItem)
    → Draining start now old mid before middle → decided now.ended now.bytes ≡ Some part → next ≡ after_advance now
    → Tells mid new middle after (part ∷ []) → Draining start next old new before after
draining_step start now next old mid new before middle after part d is advanced tells =
    let some = item_size-positive part in
    let short = item_size-decided now.ended now.bytes part d.taking.bytes is in
    let left = drop (item_size part) now.bytes in
    let tally : new.tally ≡ tally_after mid.tally part = tells.tally ∙ tally_after_all-cons mid.tally part [] ∙ tally_after_all-nil (tally_after mid.tally part) in
    let grows : counted (tally_after mid.tally part) + 5 * length left ≤ counted mid.tally + 5 * length now.bytes = counted-later mid.tally part now.bytes some short in
    let tally_counts : counted new.tally ≡ counted (tally_after mid.tally part) = ap counted tally in
    let lengths : length next.bytes ≡ length left = ap length (next_bytes now next part is advanced) in
    let last = d.counts in
    record {
      parts = d.parts ++ part ∷ [];
      tells = tells_more old mid new before middle after d.parts (part ∷ []) d.tells tells;
      taking = taking_step start now next d.parts part d.taking is advanced;
      counts = omega arith;
    }

pub draining_end : (start now : Held) (old new : Report) (before after : Option (List ℕ)) → Draining start now old new before after
    → decided now.ended now.bytes ≡ None → Drained start now old new before after
draining_end start now old new before after d is =
    let t = taken_all start now d.parts d.taking is in
    record {
      tells = subst (λ l. Tells old new before after l) (sym t.whole) d.tells;
      held = ap (λ (l : List ℕ). record { bytes = l; ended = now.ended }) t.left
          ∙ ap (λ (e : Bool). record { bytes = drop (total_size (items start.ended start.bytes)) start.bytes; ended = e }) t.goes_on;
      settled = t.none;
      counts = d.counts;
    }

-- a call stopped at the next item
pub draining_stops : (start now : Held) (old mid : Report) (before middle written : Option (List ℕ)) (part : RunItem)
    → Draining start now old mid before middle → decided now.ended now.bytes ≡ Some part
    → StopsWithin middle written (shown_lines mid.detail mid.tally (part ∷ []))
    → StopsWithin before written (shown_lines old.detail old.tally (items start.ended start.bytes))
draining_stops start now old mid before middle written part d is stops =
    let rest = items now.ended (drop (item_size part) now.bytes) in
    let f = old.detail in
    let t = old.tally in
    let u = tally_after_all t d.parts in
    let front = shown_lines f t d.parts in
    let one = shown_lines f u (part ∷ []) in
    let more = shown_lines f (tally_after_all u (part ∷ [])) rest in
    let all_parts : items start.ended start.bytes ≡ d.parts ++ ((part ∷ []) ++ rest) =
    d.taking.whole ∙ ap (λ l. d.parts ++ l) (items_decided now.ended now.bytes part d.taking.bytes is) in
    let text : shown_lines f t (items start.ended start.bytes) ≡ (front ++ one) ++ more =
    ap (shown_lines f t) all_parts ∙ shown_lines-append f t d.parts ((part ∷ []) ++ rest)
    ∙ ap (λ l. front ++ l) (shown_lines-append f u (part ∷ []) rest) ∙ sym (append_assoc front one more) in
    let here : shown_lines mid.detail mid.tally (part ∷ []) ≡ one =
    ap (λ g. shown_lines g mid.tally (part ∷ [])) d.tells.detail ∙ ap (λ v. shown_lines f v (part ∷ [])) d.tells.tally in
    stops_after before middle written front one (shown_lines f t (items start.ended start.bytes)) more d.tells.lines
    (subst (StopsWithin middle written) here stops) text
