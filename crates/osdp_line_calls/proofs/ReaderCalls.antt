-- What calls come to, where they end well.
use Rattle.osdp_line_calls.proofs.Common.{◌≡◌, List, ◌++◌, ℕ, Result, Ok, Err, sym, subst, ap, ◌∙◌, append_assoc, OnOk, ReaderState, AgesState, after_saying, Heard, reads_all, IsAllRead, IsReceived, Received, status_after, status_answer, DeviceStatus, all_read, received_silence, received_tick, all_lines}
use Rattle.osdp_line_calls.specs.ReaderSessions.{Called, Comes, Session, heard, is_any, then_does}

module _ {A E : Type 0} where
  -- all that is held was read, and what is said written
  pub comes_read : (r : Result A E) (before after : List ℕ) (q r1 : ReaderState DeviceStatus) (m l1 l2 : Received) (g a1 : AgesState) (s : Session)
      → OnOk r (after ≡ before ++ all_lines (reads_all status_answer status_after r1 l1).said)
      → OnOk r (q ≡ (reads_all status_answer status_after r1 l1).reader) → OnOk r (m ≡ (reads_all status_answer status_after r1 l1).line)
      → OnOk r (g ≡ after_saying (is_any (reads_all status_answer status_after r1 l1).said) l1.greatest a1)
      → r1 ≡ s.reader → l1 ≡ l2 → a1 ≡ s.ages → IsReceived l2
      → OnOk r (Comes before after (record s { reader = q; line = m; ages = g }) (heard (reads_all status_answer status_after s.reader l2) s))
  comes_read (Ok x) before after q r1 m l1 l2 g a1 s text reader line when same lines kept is =
      let h : reads_all status_answer status_after r1 l1 ≡ reads_all status_answer status_after s.reader l2 =
      (λ i. reads_all status_answer status_after (same i) (lines i)) in
      let text_is : after ≡ before ++ all_lines (reads_all status_answer status_after s.reader l2).said =
      text ∙ ap (λ (x : Heard DeviceStatus). before ++ all_lines x.said) h in
      let reader_is : q ≡ (reads_all status_answer status_after s.reader l2).reader = reader ∙ ap (λ (x : Heard DeviceStatus). x.reader) h in
      let line_is : m ≡ (reads_all status_answer status_after s.reader l2).line = line ∙ ap (λ (x : Heard DeviceStatus). x.line) h in
      let when_is : g ≡ after_saying (is_any (reads_all status_answer status_after s.reader l2).said) l2.greatest s.ages =
      when ∙ (λ i. after_saying (is_any (h i).said) (lines i).greatest (kept i)) in
      record {
        text = text_is;
        session = (λ i. record s { reader = reader_is i; line = line_is i; ages = when_is i });
        read = subst IsAllRead (sym line_is) (all_read status_answer status_after s.reader l2 is);
      }
  comes_read (Err e) before after q r1 m l1 l2 g a1 s text reader line when same lines kept is = tt

  -- one after the other
  pub comes_then : (r : Result A E) (t0 t1 t2 : List ℕ) (mid next : Session) (c : Called) (more : Session → Called) → Comes t0 t1 mid c
      → OnOk r (Comes t1 t2 next (more mid)) → OnOk r (Comes t0 t2 next (then_does c more))
  comes_then (Ok x) t0 t1 t2 mid next c more first last = record {
    text = last.text ∙ ap (λ t. t ++ (more mid).text) first.text ∙ append_assoc t0 c.text (more mid).text
        ∙ ap (λ (m : Session). t0 ++ (c.text ++ (more m).text)) first.session;
    session = last.session ∙ ap (λ (m : Session). (more m).session) first.session;
    read = last.read;
  }
  comes_then (Err e) t0 t1 t2 mid next c more first last = tt

-- all that is held once a run has ended by a tick or a silence
pub ruleset reads_held = (comes_read, received_tick, received_silence)
