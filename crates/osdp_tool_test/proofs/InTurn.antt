-- What is told of a test of lines, however it ends.
use Rattle.osdp_tool_test.proofs.Common.{◌≡◌, ◌∙◌, ◌⊎◌, ◌↔◌, ℕ, ◌≤◌, Bool, true, false, List, ◌++◌, length, take, Option, Some, Result, Ok, Err, inl, inr, refl, sym, ap, subst, take-length, lines_of, ToolFault, NotHex, TooLong, BadWords, BadStep, HoldsPacket, NotQuiet, ReadFailed, WriteFailed, NoMemory, Ends, IsRead, Told, EndsInTurn, IsReportedInPart, IsToldInTurn, report_text, AsksNone, Tests, asking_words, Form}
use Rattle.osdp_tool_test.proofs.ByLines.{all_read, left_as_it_was}

no_fault : false ≡ true → ⊥
no_fault e = cc

module _ (Shows : Form → List (List ℕ) → List Told → Type 0) (Stops : List (List ℕ) → ℕ → Type 0) (limit : ℕ) (words : List (List ℕ)) (bytes start now : List ℕ)
    (left : Option (List ℕ)) (failed : Bool) where
  abbrev TellsSo : Result ℕ ToolFault → Type 0
  TellsSo result = IsToldInTurn Shows limit words bytes start now left failed result

  abbrev Part : Type 0
  Part = IsReportedInPart Shows limit words bytes start now left

  module _ (form : Form) (asked : words ≡ asking_words form) where
    part : (whole : IsRead limit (Some bytes) left) (entries : List Told) (count : ℕ) → Shows form (lines_of whole.read) entries
        → now ≡ start ++ take count (report_text form entries) → Part
    part whole entries count shown written =
        let read = all_read limit bytes left whole in record {
          form = form;
          asked = asked;
          entries = entries;
          shown = subst (λ (l : List ℕ). Shows form (lines_of l) entries) read.0 shown;
          within = subst (λ (l : List ℕ). length l ≤ limit) read.0 whole.within;
          ended = read.1;
          count = count;
          written = written;
        }

    asks_some : (result : Result ℕ ToolFault) → (result ≡ Err BadWords → ⊥) → (result ≡ Err BadWords) ↔ AsksNone words
    asks_some result good = (λ is. absurd (good is), λ none. absurd (none form asked))

    -- the output is well, and nothing was printed
    quiet : (result : Result ℕ ToolFault) → (result ≡ Err BadWords → ⊥) → (result ≡ Err WriteFailed → ⊥) → now ≡ start
        → (failed ≡ true → (result ≡ Err WriteFailed) ⊎ ((result ≡ Err NoMemory) ⊎ (result ≡ Err BadWords))) → TellsSo result
    quiet result good no_write same write = record {
      refused = asks_some result good;
      write = write;
      write_told = λ is. absurd (no_write is);
      told = inr (same, λ is. elim is [ inl bad ↦ absurd (good bad) | inr not_written ↦ absurd (no_write not_written) ]);
    }

    well : (result : Result ℕ ToolFault) → failed ≡ false → failed ≡ true → (result ≡ Err WriteFailed) ⊎ ((result ≡ Err NoMemory) ⊎ (result ≡ Err BadWords))
    well result is fault = absurd (no_fault (sym is ∙ fault))

    told_by : (result : Result ℕ ToolFault) → Ends (Shows form) Stops limit (Some bytes) left form (Some start) (Some now) failed result → TellsSo result
    told_by (Ok status) h =
        let report = h.0 in record {
          refused = asks_some (Ok status) (λ is. cc is);
          write = well (Ok status) h.1;
          write_told = λ is. cc is;
          told = inl (part report.whole report.entries (length (report_text form report.entries)) report.finds
              (report.written ∙ ap (λ (t : List ℕ). start ++ t) (sym (take-length (report_text form report.entries)))));
        }
    told_by (Err (BadStep number)) h = quiet (Err (BadStep number)) (λ is. cc is) (λ is. cc is) h.1 (well (Err (BadStep number)) h.2)
    told_by (Err TooLong) h = quiet (Err TooLong) (λ is. cc is) (λ is. cc is) h.1 (well (Err TooLong) h.2)
    told_by (Err ReadFailed) h = quiet (Err ReadFailed) (λ is. cc is) (λ is. cc is) h.0 (well (Err ReadFailed) h.1)
    told_by (Err NoMemory) h = quiet (Err NoMemory) (λ is. cc is) (λ is. cc is) h (λ is. inr (inl refl))
    told_by (Err WriteFailed) (inl h, is_failed) = record {
      refused = asks_some (Err WriteFailed) (λ is. cc is);
      write = λ is. inl refl;
      write_told = λ is. is_failed;
      told = inl (part h.whole h.entries h.count h.finds h.written);
    }
    told_by (Err WriteFailed) (inr h, is_failed) = record {
      refused = asks_some (Err WriteFailed) (λ is. cc is);
      write = λ is. inl refl;
      write_told = λ is. is_failed;
      told = inr (h.1, λ is. left_as_it_was bytes left h.0);
    }
    told_by (Err (NotHex number)) h = absurd h
    told_by (Err BadWords) h = absurd h
    told_by (Err (HoldsPacket number)) h = absurd h
    told_by (Err (NotQuiet number)) h = absurd h

  tells_so : (result : Result ℕ ToolFault) → Tests Shows Stops limit words (Some bytes) left (Some start) (Some now) failed result → TellsSo result
  tells_so result (inl h) = told_by h.0 h.1 result h.2
  tells_so result (inr h) = record {
    refused = (λ is. h.0, λ none. h.1.fault);
    write = λ is. inr (inr h.1.fault);
    write_told = λ is. cc (is, h.1.fault);
    told = inr (h.1.written, λ is. left_as_it_was bytes left h.1.read);
  }

pub in_turn : (Shows : Form → List (List ℕ) → List Told → Type 0) (Stops : List (List ℕ) → ℕ → Type 0) (limit : ℕ) → EndsInTurn Shows limit (Tests Shows Stops limit)
in_turn Shows Stops limit words bytes start now left failed result h = tells_so Shows Stops limit words bytes start now left failed result h
