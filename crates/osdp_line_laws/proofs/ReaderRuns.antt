-- A run of lines to a reader's device, line by line.
use Rattle.osdp_line_laws.proofs.Common.{◌≡◌, ◌∙◌, ap, refl, ℕ, List, [], ◌∷◌, ◌++◌, length, Option, Some, None, inl, inr, heard, IsSaid, ReaderState, Received, status_after, status_answer, hears_bytes, DeviceStatus, ReaderCall, waiting_line}
use Rattle.osdp_frame.specs.Receiving.{seen}
use Rattle.osdp_line_calls.specs.declared.reader_call.ReaderCall.TheVariants.{At, Bytes}
use Rattle.osdp_line_calls.specs.ReaderCalls.{CallFits, call_words}
use Rattle.osdp_line_calls.specs.ReaderLines.{IsAnswered}
use Rattle.osdp_line_calls.specs.ReaderSessions.{Called, Session, does}
use Rattle.osdp_line_laws.proofs.OfReaders.{call_steps}
use Rattle.osdp_line_laws.specs.ReaderRuns.{RunsAreCalls, after_all_said, after_said, all_said_text, line_after, moment_after, said_text, with_bytes}

-- ---- the whole device after a call

line_with : (bytes : List ℕ) (now : ℕ) (r : ReaderState DeviceStatus) (l : Received)
    → (hears_bytes status_answer status_after bytes now r l).line ≡ with_bytes bytes (seen now l)
line_with [] now r l = refl
line_with (byte ∷ bytes) now r l = refl

pub line_is : (call : ReaderCall) (s : Session) → (does call s).session.line ≡ line_after call s.now s.line
line_is (Bytes list) s = line_with list.items s.now s.reader s.line
line_is call s = refl

now_is : (call : ReaderCall) (s : Session) → (does call s).session.now ≡ moment_after call s.now
now_is (At later) s = refl
now_is call s = refl

absence_is : (call : ReaderCall) (s : Session) → (does call s).session.absence ≡ s.absence
absence_is (At later) s = refl
absence_is call s = refl

whole : (call : ReaderCall) (s : Session) → (does call s).session ≡ after_said (Some call) s
whole call s =
    (λ i. record {
      reader = (call_steps call s).reader i;
      line = line_is call s i;
      ages = (does call s).session.ages;
      now = now_is call s i;
      absence = absence_is call s i;
      gone = (does call s).session.gone;
    })

-- ---- one line

record One (line : List ℕ) (s : Session) (text : List ℕ) (next : Session) : Type 0 where
  said : Option ReaderCall
  is : IsSaid call_words CallFits line said
  after : next ≡ after_said said s
  written : text ≡ said_text said s ++ waiting_line (length (after_said said s).reader.queue.events)

one : (line : List ℕ) (s : Session) (text : List ℕ) (next : Session) (c : Called) → IsAnswered (heard line) s c → text ≡ c.text → next ≡ c.session
    → One line s text next
one line s text next c (inl (call, says, is)) text_is next_is = record {
  said = Some call;
  is = says;
  after = next_is ∙ ap (λ (x : Called). x.session) is ∙ whole call s;
  written = text_is ∙ ap (λ (x : Called). x.text) is
      ∙ ap (λ t. t ++ waiting_line (length (does call s).session.reader.queue.events)) (call_steps call s).text
      ∙ ap (λ (x : Session). said_text (Some call) s ++ waiting_line (length x.reader.queue.events)) (whole call s);
}
one line s text next c (inr (nothing, is)) text_is next_is = record {
  said = None;
  is = nothing;
  after = next_is ∙ ap (λ (x : Called). x.session) is;
  written = text_is ∙ ap (λ (x : Called). x.text) is;
}

pub runs_are_calls : RunsAreCalls
runs_are_calls first [] text last spoken = ([], cc, spoken.0, spoken.1)
runs_are_calls first (line ∷ lines) text last (answer, rest, next, is, speaks, joined) =
    let o = one line first answer next is.called is.is is.text_is is.next_is in
    let more = runs_are_calls next lines rest last speaks in (
      o.said ∷ more.0,
      (o.is, more.1),
      (joined ∙ ap (λ l. l ++ rest) o.written
          ∙ ap (λ l. (said_text o.said first ++ waiting_line (length (after_said o.said first).reader.queue.events)) ++ l)
          (more.2 ∙ ap (all_said_text more.0) o.after)),
      more.3 ∙ ap (after_all_said more.0) o.after,
    )
