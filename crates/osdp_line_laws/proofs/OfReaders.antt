-- Lines to a reader's device as steps of its reader.
use Rattle.osdp_line_laws.proofs.Common.{◌≡◌, ◌∙◌, ◌⊎◌, ap, sym, refl, ℕ, zero, suc, Bool, true, cond, Option, Some, None, option_map, slice_get, List, [], ◌∷◌, ◌++◌, false, length, inl, inr, append-nil, append_assoc, AgesState, after_expiry, after_removal, expired, expired_front, expires, Expired, Heard, hears_bytes, reads_all, reads_on, then_reads, status_after, status_answer, DeviceStatus, items, RunItem, PacketItem, SkippedItem, RefusedItem, Speaks, Says, SaysNothing, ReaderState, after_lapse_event, after_withdraw_event, ReaderCall, LetGo, goes_first, keeps_all, lets_some_go, all_lines, expired_lines, said_lines, waiting_line}
use Rattle.osdp_device.specs.declared.events.Expired.TheVariants.{Withdrawn, InDoubt}
use Rattle.osdp_frame.specs.Receiving.{Received, ends_silent, seen, after_tick, after_silence}
use Rattle.osdp_device.specs.Saying.{Said}
use Rattle.osdp_device.specs.Telling.{after_items, items_of, said_to_all}
use Rattle.osdp_line_calls.specs.declared.reader_call.ReaderCall.TheVariants.{At, Bytes, Silence, Tick, Event}
use Rattle.osdp_line_calls.specs.ReaderCalls.{CallFits, call_words}
use Rattle.osdp_line_calls.specs.ReaderLines.{Answers, IsAnswered}
use Rattle.osdp_line_calls.specs.ReaderSessions.{Called, Session, comes, does, heard, looks, submit_text, tells_presence, then_does}
use Rattle.osdp_line_laws.proofs.Lines.{of_all}
use Rattle.osdp_line_laws.specs.ReaderLines.{Hears, Refused, Step, TakesSteps, after_step, after_steps, hears_held, hears_packets, hears_with, leaves, left_text, lets_go_steps, looks_step, looks_steps, ordered, step_text, steps_text}

abbrev Reader : Type 0
Reader = ReaderState DeviceStatus

-- ---- steps one after the other

after_more : (first more : List Step) (r : Reader) → after_steps (first ++ more) r ≡ after_steps more (after_steps first r)
after_more [] more r = refl
after_more (step ∷ first) more r = after_more first more (after_step step r)

text_more : (first more : List Step) (r : Reader) → steps_text (first ++ more) r ≡ steps_text first r ++ steps_text more (after_steps first r)
text_more [] more r = refl
text_more (step ∷ first) more r =
    ap (λ l. step_text step r ++ l) (text_more first more (after_step step r))
    ∙ sym (append_assoc (step_text step r) (steps_text first (after_step step r)) (steps_text more (after_steps first (after_step step r))))

lines_more : (first more : List Said) → all_lines (first ++ more) ≡ all_lines first ++ all_lines more
lines_more [] more = refl
lines_more (s ∷ first) more = ap (λ l. said_lines s ++ l) (lines_more first more) ∙ sym (append_assoc (said_lines s) (all_lines first) (all_lines more))

-- ---- what was heard: its packets are steps

-- these steps bring a reader to what is heard, and tell it
record Comes (r : Reader) (steps : List Step) (h : Heard DeviceStatus) : Type 0 where
  reader : h.reader ≡ after_steps steps r
  text : all_lines h.said ≡ steps_text steps r

after_packets : (parts : List RunItem) (r : Reader) → after_items status_answer status_after parts r ≡ after_steps (hears_packets parts) r
after_packets [] r = refl
after_packets (PacketItem p ∷ parts) r = after_packets parts (after_step (Hears p) r)
after_packets (SkippedItem byte ∷ parts) r = after_packets parts r
after_packets (RefusedItem fault ∷ parts) r = after_packets parts r

text_packets : (parts : List RunItem) (r : Reader) → all_lines (said_to_all status_answer status_after parts r) ≡ steps_text (hears_packets parts) r
text_packets [] r = refl
text_packets (PacketItem p ∷ parts) r =
    lines_more _ (said_to_all status_answer status_after parts (after_step (Hears p) r))
    ∙ ap (λ l. step_text (Hears p) r ++ l) (text_packets parts (after_step (Hears p) r))
text_packets (SkippedItem byte ∷ parts) r = text_packets parts r
text_packets (RefusedItem fault ∷ parts) r = text_packets parts r

all_read : (r : Reader) (l : Received) → Comes r (hears_held l) (reads_all status_answer status_after r l)
all_read r l = record { reader = after_packets (items_of l.held) r; text = text_packets (items_of l.held) r }

-- what the bytes decide after it
on_packets : List ℕ → Received → List Step
on_packets bytes l = hears_packets (items false (l.held.bytes ++ bytes))

on_read : (bytes : List ℕ) (r : Reader) (l : Received) → Comes r (on_packets bytes l) (reads_on status_answer status_after bytes r l)
unfolding on_packets
on_read bytes r l =
    let parts = items false (l.held.bytes ++ bytes) in
    record { reader = after_packets parts r; text = text_packets parts r }

both_read : (bytes : List ℕ) (r : Reader) (steps : List Step) (h : Heard DeviceStatus) → Comes r steps h
    → Comes r (steps ++ on_packets bytes h.line) (then_reads status_answer status_after bytes h)
both_read bytes r steps h first =
    let next = on_read bytes h.reader h.line in
    let more = on_packets bytes h.line in
    let on = reads_on status_answer status_after bytes h.reader h.line in
    record {
      reader = next.reader ∙ ap (after_steps more) first.reader ∙ sym (after_more steps more r);
      text = lines_more h.said on.said ∙ ap (λ t. t ++ all_lines on.said) first.text
          ∙ ap (λ t. steps_text steps r ++ t) (next.text ∙ ap (steps_text more) first.reader)
          ∙ sym (text_more steps more r);
    }

bytes_read : (bytes : List ℕ) (now : ℕ) (r : Reader) (l : Received) → Comes r (hears_with bytes (seen now l)) (hears_bytes status_answer status_after bytes now r l)
unfolding on_packets
bytes_read [] now r l = all_read r (seen now l)
bytes_read (byte ∷ bytes) now r l =
    let run = ends_silent (seen now l) in
    both_read (byte ∷ bytes) r (hears_held run) (reads_all status_answer status_after r run) (all_read r run)

-- ---- a call

-- the steps that a call orders are what it does, and tell what it does, without the count at the end
pub record Does (call : ReaderCall) (s : Session) : Type 0 where
  pub reader : (does call s).session.reader ≡ after_steps (ordered call s) s.reader
  pub text : (does call s).text ≡ steps_text (ordered call s) s.reader

-- ---- it is looked whether the panel is there

-- the events that leave are steps
record Leave (n now limit : ℕ) (r : Reader) (a : AgesState) : Type 0 where
  reader : (lets_some_go n now limit r a).reader ≡ after_steps (lets_go_steps n now limit r a) r
  text : expired_lines (lets_some_go n now limit r a).expired ≡ steps_text (lets_go_steps n now limit r a) r

after_leaving : (r : Reader) → after_expiry r ≡ after_step (leaves r.queue.ever_offered) r
after_leaving r = by_ever r.queue.ever_offered
  where
    by_ever : (ever : Bool) → cond ever (after_lapse_event r) (after_withdraw_event r) ≡ after_step (leaves ever) r
    by_ever true = refl
    by_ever false = refl

text_leaving : (r : Reader) → left_text (expired_front r.queue) ≡ step_text (leaves r.queue.ever_offered) r
text_leaving r = by_ever r.queue.ever_offered refl
  where
    by_ever : (ever : Bool) → r.queue.ever_offered ≡ ever
        → left_text (option_map (expired ever) (slice_get r.queue.events 0)) ≡ step_text (leaves ever) r
    by_ever true is = ap (λ b. left_text (option_map InDoubt (cond b (slice_get r.queue.events 0) None))) (sym is)
    by_ever false is = ap (λ b. left_text (option_map Withdrawn (slice_get r.queue.events (cond b 1 0)))) (sym is)

lines_first : (front : Option Expired) (g : LetGo) → expired_lines (goes_first front g).expired ≡ left_text front ++ expired_lines g.expired
lines_first None g = refl
lines_first (Some e) g = refl

reader_first : (front : Option Expired) (g : LetGo) → (goes_first front g).reader ≡ g.reader
reader_first None g = refl
reader_first (Some e) g = refl

abbrev later_ages : Reader → AgesState → AgesState
later_ages r a = after_removal false (length r.queue.events) a

-- one more
leave_more : (n now limit : ℕ) (r : Reader) (a : AgesState) → Leave n now limit (after_expiry r) (later_ages r a) → Leave (suc n) now limit r a
leave_more n now limit r a more =
    record { reader = reader_by (expires now limit (length r.queue.events) a); text = text_by (expires now limit (length r.queue.events) a) }
  where
    rest : LetGo
    rest = lets_some_go n now limit (after_expiry r) (later_ages r a)

    step : Step
    step = leaves r.queue.ever_offered

    steps : List Step
    steps = lets_go_steps n now limit (after_expiry r) (later_ages r a)

    reader_by : (test : Bool) → (cond test (goes_first (expired_front r.queue) rest) (keeps_all r a)).reader ≡ after_steps (cond test (step ∷ steps) []) r
    reader_by true = reader_first (expired_front r.queue) rest ∙ more.reader ∙ ap (after_steps steps) (after_leaving r)
    reader_by false = refl

    text_by : (test : Bool) → expired_lines (cond test (goes_first (expired_front r.queue) rest) (keeps_all r a)).expired ≡ steps_text (cond test (step ∷ steps) []) r
    text_by true =
        lines_first (expired_front r.queue) rest
        ∙ (λ i. text_leaving r i ++ (more.text ∙ ap (steps_text steps) (after_leaving r)) i)
    text_by false = refl

leave : (n now limit : ℕ) (r : Reader) (a : AgesState) → Leave n now limit r a
leave zero now limit r a = record { reader = refl; text = refl }
leave (suc n) now limit r a = leave_more n now limit r a (leave n now limit (after_expiry r) (later_ages r a))

-- so is all of it
look : (s : Session) → ((looks s).session.reader ≡ after_steps (looks_steps s) s.reader) × ((looks s).text ≡ steps_text (looks_steps s) s.reader)
look s =
    let l = leave (length s.reader.queue.events) s.now s.absence.expire s.reader s.ages in
    (l.reader, ap (λ t. (tells_presence s).text ++ t) l.text)

heard_steps : (call : ReaderCall) (s : Session) (h : Heard DeviceStatus) (steps : List Step) → Comes s.reader steps h
    → ordered call s ≡ steps ++ looks_step (heard h s).session ∷ [] → does call s ≡ then_does (heard h s) tells_presence → Does call s
heard_steps call s h steps comes orders is =
    let next = (heard h s).session in
    let last : List Step = looks_step next ∷ [] in
    record {
      reader = ap (λ (c : Called). c.session.reader) is ∙ comes.reader
          ∙ sym (after_more steps last s.reader) ∙ sym (ap (λ x. after_steps x s.reader) orders);
      text = ap (λ (c : Called). c.text) is ∙ ap (λ t. t ++ (tells_presence next).text) comes.text
          ∙ ap (λ t. steps_text steps s.reader ++ t) (sym (append-nil (tells_presence next).text))
          ∙ sym (text_more steps last s.reader) ∙ sym (ap (λ x. steps_text x s.reader) orders);
    }

pub call_steps : (call : ReaderCall) (s : Session) → Does call s
call_steps (At later) s = let l = look (comes later s) in record { reader = l.0; text = l.1 }
call_steps (Bytes list) s =
    heard_steps (Bytes list) s (hears_bytes status_answer status_after list.items s.now s.reader s.line) (hears_with list.items (seen s.now s.line))
    (bytes_read list.items s.now s.reader s.line) refl refl
call_steps Silence s =
    heard_steps Silence s (reads_all status_answer status_after s.reader (after_silence s.now s.line)) (hears_held (after_silence s.now s.line))
    (all_read s.reader (after_silence s.now s.line)) refl refl
call_steps Tick s =
    heard_steps Tick s (reads_all status_answer status_after s.reader (after_tick s.now s.line)) (hears_held (after_tick s.now s.line))
    (all_read s.reader (after_tick s.now s.line)) refl refl
call_steps (Event event) s = record { reader = refl; text = sym (append-nil (submit_text event s.reader)) }
call_steps _ s = record { reader = refl; text = refl }

pub of_line : (s : Session) (given text : List ℕ) (next : Session) (c : Called) → IsAnswered given s c → text ≡ c.text → next ≡ c.session
    → ((call : ReaderCall) × Says call_words CallFits given call × TakesSteps s (ordered call s) text next) ⊎ (SaysNothing call_words CallFits given × Refused s text next)
of_line s given text next c (inl (call, says, is)) text_is next_is =
    let d = call_steps call s in
    let next_is_done : next ≡ (does call s).session = next_is ∙ ap (λ (x : Called). x.session) is in
    let steps : TakesSteps s (ordered call s) text next = record {
      reader = ap (λ (x : Session). x.reader) next_is_done ∙ d.reader;
      told = text_is ∙ ap (λ (x : Called). x.text) is
          ∙ ap (λ t. t ++ waiting_line (length (does call s).session.reader.queue.events)) d.text
          ∙ ap (λ (x : Session). steps_text (ordered call s) s.reader ++ waiting_line (length x.reader.queue.events)) (sym next_is_done);
    } in
    inl (call, says, steps)
of_line s given text next c (inr (nothing, is)) text_is next_is =
    inr (nothing, record { same = next_is ∙ ap (λ (x : Called). x.session) is; told = text_is ∙ ap (λ (x : Called). x.text) is })

-- ---- any lines

steps_of_line : (s : Session) (given text : List ℕ) (next : Session) → Answers s given text next → (steps : List Step) × (next.reader ≡ after_steps steps s.reader)
steps_of_line s given text next a = elim (of_line s given text next a.called a.is a.text_is a.next_is) as (λ r. (steps : List Step) × (next.reader ≡ after_steps steps s.reader)) [
  | inl taken ↦ (ordered taken.0 s, taken.2.reader)
  | inr refused ↦ ([], ap (λ (x : Session). x.reader) refused.1.same)
]

pub of_lines : (first : Session) (lines : List (List ℕ)) (text : List ℕ) (last : Session) → Speaks Answers first lines text last
    → (steps : List Step) × (last.reader ≡ after_steps steps first.reader)
of_lines = of_all Answers (λ s. s.reader) after_steps (λ r. refl) after_more steps_of_line
