-- How far an input was read and told, by the answer.
use Rattle.osdp_tool_show.proofs.Common.{◌≡◌, ℕ, ◌+◌, ◌≤◌, Bool, true, false, List, [], ◌∷◌, ◌++◌, length, Option, Some, Result, Ok, Err, inl, inr, refl, sym, ◌∙◌, arith, append-nil, length-append, Appends, Form, ToolFault, NotHex, TooLong, ReadFailed, WriteFailed, NoMemory, Detail, Ends, Stream, streamed, shown, shown_so_far, StopsWithin}
use Rattle.osdp_tool_show.specs.Stops.{EndsInTurn, IsReadInTurn, TellsFailures, TellsSome}
use Rattle.osdp_tool_show.proofs.Beginnings.{begun_all, stops_all}
use Rattle.osdp_tool_show.proofs.Whole.{consumed}

-- all of a text was written
all_of : (before after : Option (List ℕ)) (text : List ℕ) → Appends before after text → StopsWithin before after text
all_of before after text written = stops_all before after after text written (begun_all after)

-- ---- failures

no_fault : false ≡ true → ⊥
no_fault e = cc

tells_well : (input output : Stream) (result : Result Bool ToolFault) → (result ≡ Err ReadFailed → ⊥) → (result ≡ Err WriteFailed → ⊥)
    → input.failed ≡ false → output.failed ≡ false → TellsFailures input output result
tells_well input output result no_read no_write well well_too = record {
  read = (λ is. absurd (no_read is), λ is. absurd (no_fault (sym well ∙ is)));
  write = (λ is. absurd (no_write is), λ is. absurd (no_fault (sym well_too ∙ is.1)));
}

module _ (detail : Detail) (form : Form) (limit : ℕ) (bytes : List ℕ) (after : Option (List ℕ)) (failed : Bool) (output : Stream) where
  abbrev input : Stream
  input = streamed (Some bytes) after failed

  abbrev Done : Result Bool ToolFault → Type 0
  Done result = TellsFailures input output result × IsReadInTurn detail form limit bytes input output result

  at_end : (refused : Bool) → Ends detail form limit input output (Ok refused) → Done (Ok refused)
  at_end refused e =
      let c = consumed bytes e.read after e.taken in
      let fits = e.within in (
        tells_well input output (Ok refused) (λ is. cc is) (λ is. cc is) e.input_well e.output_well,
        record {
          read = e.read;
          rest = c.0;
          whole = c.2;
          left = c.1;
          within = omega (arith, fits);
          told = (e.read, [], sym (append-nil e.read), inr (all_of output.before output.after (shown detail form e.read) e.text));
          soon = λ line is. cc is;
          failed = λ is. cc is;
        },
      )

  at_bad_line : (line : ℕ) → Ends detail form limit input output (Err (NotHex line)) → Done (Err (NotHex line))
  at_bad_line line e =
      let read = e.read.earlier ++ e.read.piece in
      let c = consumed bytes read after e.read.taken in
      let fits = e.read.within in (
        tells_well input output (Err (NotHex line)) (λ is. cc is) (λ is. cc is) e.input_well e.output_well,
        record {
          read = read;
          rest = c.0;
          whole = c.2;
          left = c.1;
          within = omega (arith, fits);
          told = (read, [], sym (append-nil read), inr (all_of output.before output.after (shown detail form read) e.text));
          soon = λ number is. (e.read.earlier, e.read.piece, refl, e.read.one_piece, e.good);
          failed = λ is. cc is;
        },
      )

  past_limit : Ends detail form limit input output (Err TooLong) → Done (Err TooLong)
  past_limit e =
      let read = e.read.within ++ e.read.byte ∷ [] in
      let c = consumed bytes read after e.read.taken in
      let counts = e.read.whole in (
        tells_well input output (Err TooLong) (λ is. cc is) (λ is. cc is) e.input_well e.output_well,
        record {
          read = read;
          rest = c.0;
          whole = c.2;
          left = c.1;
          within = omega (arith, counts, length-append e.read.within (e.read.byte ∷ []));
          told = (e.read.within, e.read.byte ∷ [], refl, inl (all_of output.before output.after (shown_so_far detail form e.read.within) e.text));
          soon = λ line is. cc is;
          failed = λ is. cc is;
        },
      )

  at_failed_read : Ends detail form limit input output (Err ReadFailed) → Done (Err ReadFailed)
  at_failed_read e =
      let c = consumed bytes e.read after e.taken in
      let fits = e.within in (
        record {
          read = (λ is. e.input_failed, λ is. refl);
          write = (λ is. cc is, λ is. absurd (no_fault (sym is.0 ∙ e.input_failed)));
        },
        record {
          read = e.read;
          rest = c.0;
          whole = c.2;
          left = c.1;
          within = omega (arith, fits);
          told = (e.read, [], sym (append-nil e.read), inl e.part);
          soon = λ line is. cc is;
          failed = λ is. (e.good, e.text);
        },
      )

  -- part of the way, at a failed write or without memory
  part_read : (result : Result Bool ToolFault) → (read more : List ℕ) → (rest : List ℕ) × (after ≡ Some rest) × (bytes ≡ (read ++ more) ++ rest)
      → length (read ++ more) ≤ limit + 1 → TellsSome detail form read output → ((line : ℕ) → result ≡ Err (NotHex line) → ⊥) → (result ≡ Err ReadFailed → ⊥)
      → IsReadInTurn detail form limit bytes input output result
  part_read result read more c fits text no_line no_read = record {
    read = read ++ more;
    rest = c.0;
    whole = c.2;
    left = c.1;
    within = fits;
    told = (read, more, refl, text);
    soon = λ line is. absurd (no_line line is);
    failed = λ is. absurd (no_read is);
  }

  at_failed_write : Ends detail form limit input output (Err WriteFailed) → Done (Err WriteFailed)
  at_failed_write e =
      let part = e.2 in (
        record {
          read = (λ is. cc is, λ is. absurd (no_fault (sym e.0 ∙ is)));
          write = (λ is. (e.0, e.1), λ is. refl);
        },
        part_read (Err WriteFailed) part.read part.more (consumed bytes (part.read ++ part.more) after part.taken) part.within part.text (λ line is. cc is) (λ is. cc is),
      )

  no_memory : Ends detail form limit input output (Err NoMemory) → Done (Err NoMemory)
  no_memory e =
      let part = e.2 in (
        tells_well input output (Err NoMemory) (λ is. cc is) (λ is. cc is) e.0 e.1,
        part_read (Err NoMemory) part.read part.more (consumed bytes (part.read ++ part.more) after part.taken) part.within part.text (λ line is. cc is) (λ is. cc is),
      )

pub ends_in_turn : EndsInTurn
ends_in_turn detail form limit bytes after failed output (Ok refused) e = at_end detail form limit bytes after failed output refused e
ends_in_turn detail form limit bytes after failed output (Err (NotHex line)) e = at_bad_line detail form limit bytes after failed output line e
ends_in_turn detail form limit bytes after failed output (Err TooLong) e = past_limit detail form limit bytes after failed output e
ends_in_turn detail form limit bytes after failed output (Err ReadFailed) e = at_failed_read detail form limit bytes after failed output e
ends_in_turn detail form limit bytes after failed output (Err WriteFailed) e = at_failed_write detail form limit bytes after failed output e
ends_in_turn detail form limit bytes after failed output (Err NoMemory) e = no_memory detail form limit bytes after failed output e
ends_in_turn detail form limit bytes after failed output (Err fault) e = absurd e
