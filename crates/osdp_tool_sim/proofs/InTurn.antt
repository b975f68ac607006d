-- How `sim` ends, in the words of its reader.
use Rattle.std.proofs.Common.{◌≡◌, ◌∙◌, ◌↔◌, ℕ, ◌<◌, Bool, true, false, List, [], ◌∷◌, ◌++◌, length, take, drop, Some, Result, Ok, Err, inl, inr, refl, sym, ap, subst, arith, append-nil, append_assoc, length-append, take-append-drop}
use Rattle.osdp_script.specs.Reading.{IsBadLine}
use Rattle.osdp_tool_streams.specs.declared.fault.ToolFault.{ToolFault}
use Rattle.osdp_tool_streams.specs.declared.fault.ToolFault.TheVariants.{NotHex, TooLong, BadWords, BadStep, HoldsPacket, NotQuiet, ReadFailed, WriteFailed, NoMemory}
use Rattle.osdp_tool_sim.specs.Ending.{Ends, IsTold, IsToldInPart, IsWhole, IsWholeTold}
use Rattle.osdp_tool_sim.specs.InTurn.{DecidesByInput, EndsInTurn, IsBegun, IsDecided, IsPrinted, IsToldInTurn}
use Rattle.osdp_tool_sim.specs.Told.{Tells}

no_failure : false ≡ true → ⊥
no_failure e = cc

-- an answer that tells no failed stream
well : (r : Result (Unit {0}) ToolFault) (input output : Bool) → input ≡ false → output ≡ false → (r ≡ Err ReadFailed → ⊥) → (r ≡ Err WriteFailed → ⊥)
    → ((r ≡ Err ReadFailed) ↔ (input ≡ true)) × ((r ≡ Err WriteFailed) ↔ ((input ≡ false) × (output ≡ true)))
well r input output read written no_read no_write = (
  ((λ is. absurd (no_read is)), (λ did. absurd (no_failure (sym read ∙ did)))),
  ((λ is. absurd (no_write is)), (λ did. absurd (no_failure (sym written ∙ did.1)))),
)

-- an input that was read to its end is what was read
all_read : (all left read : List ℕ) → all ≡ read ++ left → left ≡ [] → read ≡ all
all_read all left read taken ended = sym (append-nil read) ∙ ap (λ (l : List ℕ). read ++ l) (sym ended) ∙ sym taken

-- so is one that is longer than the limit
past : (limit : ℕ) (all left read : List ℕ) (one_more : ℕ) → all ≡ (read ++ one_more ∷ []) ++ left → length read ≡ limit → limit < length all
past limit all left read one_more taken whole =
    omega (arith, ap (λ (l : List ℕ). length l) taken, length-append (read ++ one_more ∷ []) left, length-append read (one_more ∷ []), whole)

abbrev bad_number : Result (Unit {0}) ToolFault → ℕ
bad_number (Err (BadStep number)) = number
bad_number _ = 0

same_number : (number other : ℕ) → ◌≡◌ {A = Result (Unit {0}) ToolFault} (Err (BadStep number)) (Err (BadStep other)) → number ≡ other
same_number number other is = ap bad_number is

module _ (limit : ℕ) (all left start now : List ℕ) where
  printed_all : (end : Result (Unit {0}) ToolFault) → IsTold limit (Some all) (Some left) (Some start) (Some now) end → IsPrinted all start now end
  printed_all end h = record {
    text = h.text;
    tells = subst (λ (l : List ℕ). Tells l h.text end) (all_read all left h.read h.input.taken h.input.at_end) h.tells;
    written = h.written;
  }

  begun_all : (end : Result (Unit {0}) ToolFault) → IsPrinted all start now end → IsBegun all start now
  begun_all end h = record { text = h.text; end = end; tells = h.tells; rest = []; whole = sym h.written ∙ sym (append-nil now) }

  begun_part : IsToldInPart limit (Some all) (Some left) (Some start) (Some now) → IsBegun all start now
  begun_part h =
      let tells = subst (λ (l : List ℕ). Tells l h.text h.end) (all_read all left h.read h.input.taken h.input.at_end) h.tells in
      elim h.written [
        | inl written ↦ begun_all h.end (record { text = h.text; tells = tells; written = written })
        | inr part ↦ record {
          text = h.text;
          end = h.end;
          tells = tells;
          rest = drop part.0 h.text;
          whole =
              ap (λ (l : List ℕ). start ++ l) (sym (take-append-drop part.0 h.text))
              ∙ sym (append_assoc start (take part.0 h.text) (drop part.0 h.text))
              ∙ ap (λ (l : List ℕ). l ++ drop part.0 h.text) (sym part.2);
        }
      ]

  in_turn : (input output : Bool) (r : Result (Unit {0}) ToolFault) → Ends limit (Some all) (Some left) input (Some start) (Some now) output r
      → IsToldInTurn limit all start now input output r
  in_turn input output (Ok done) h =
      let so = well (Ok done) input output h.1.0 h.1.1 (λ is. cc) (λ is. cc) in
      let all_told = printed_all (Ok done) h.0 in record {
        answer = inl tt;
        read = so.0;
        write = so.1;
        done = λ is. all_told;
        bad = λ number is. absurd cc;
        long = λ is. absurd cc;
        silent = λ is. absurd is;
        printed = inr (begun_all (Ok done) all_told);
      }
  in_turn input output (Err (HoldsPacket step)) h =
      let so = well (Err (HoldsPacket step)) input output h.1.0 h.1.1 (λ is. cc) (λ is. cc) in
      let all_told = printed_all (Err (HoldsPacket step)) h.0 in record {
        answer = inl tt;
        read = so.0;
        write = so.1;
        done = λ is. all_told;
        bad = λ number is. absurd cc;
        long = λ is. absurd cc;
        silent = λ is. absurd is;
        printed = inr (begun_all (Err (HoldsPacket step)) all_told);
      }
  in_turn input output (Err (NotQuiet step)) h =
      let so = well (Err (NotQuiet step)) input output h.1.0 h.1.1 (λ is. cc) (λ is. cc) in
      let all_told = printed_all (Err (NotQuiet step)) h.0 in record {
        answer = inl tt;
        read = so.0;
        write = so.1;
        done = λ is. all_told;
        bad = λ number is. absurd cc;
        long = λ is. absurd cc;
        silent = λ is. absurd is;
        printed = inr (begun_all (Err (NotQuiet step)) all_told);
      }
  in_turn input output (Err (BadStep number)) h =
      let so = well (Err (BadStep number)) input output h.1.0 h.1.1 (λ is. cc) (λ is. cc) in
      let bad_line : IsBadLine all number =
      subst (λ (l : List ℕ). IsBadLine l number) (all_read all left h.0.read h.0.input.taken h.0.input.at_end) h.0.bad in record {
        answer = inr (inl tt);
        read = so.0;
        write = so.1;
        done = λ is. absurd is;
        bad = λ other is. subst (IsBadLine all) (same_number number other is) bad_line;
        long = λ is. absurd cc;
        silent = λ is. h.0.silent;
        printed = inl h.0.silent;
      }
  in_turn input output (Err TooLong) h =
      let so = well (Err TooLong) input output h.1.0 h.1.1 (λ is. cc) (λ is. cc) in record {
        answer = inr (inl tt);
        read = so.0;
        write = so.1;
        done = λ is. absurd is;
        bad = λ number is. absurd cc;
        long = λ is. past limit all left h.0.0.read h.0.0.one_more h.0.0.taken h.0.0.whole;
        silent = λ is. h.0.1;
        printed = inl h.0.1;
      }
  in_turn input output (Err ReadFailed) h = record {
    answer = inr (inl tt);
    read = ((λ is. h.1), (λ did. refl));
    write = ((λ is. absurd cc), (λ did. absurd (no_failure (sym did.0 ∙ h.1))));
    done = λ is. absurd is;
    bad = λ number is. absurd cc;
    long = λ is. absurd cc;
    silent = λ is. h.0.1;
    printed = inl h.0.1;
  }
  in_turn input output (Err WriteFailed) h = record {
    answer = inr (inr refl);
    read = ((λ is. absurd cc), (λ did. absurd (no_failure (sym h.1.0 ∙ did))));
    write = ((λ is. h.1), (λ did. refl));
    done = λ is. absurd is;
    bad = λ number is. absurd cc;
    long = λ is. absurd cc;
    silent = λ is. absurd is;
    printed = elim h.0 [
      | inl kept ↦ inl kept
      | inr part ↦ inr (begun_part part)
    ];
  }
  in_turn input output (Err NoMemory) h =
      let so = well (Err NoMemory) input output h.1.0 h.1.1 (λ is. cc) (λ is. cc) in record {
        answer = inr (inl tt);
        read = so.0;
        write = so.1;
        done = λ is. absurd is;
        bad = λ number is. absurd cc;
        long = λ is. absurd cc;
        silent = λ is. h.0;
        printed = inl h.0;
      }
  in_turn input output (Err (NotHex line)) h = absurd h.0
  in_turn input output (Err BadWords) h = absurd h.0

pub ends_in_turn : EndsInTurn
ends_in_turn limit all left start now input output r h = in_turn limit all left start now input output r h

-- ---- where the input decides

decided_told : (limit : ℕ) (all start now : List ℕ) (r : Result (Unit {0}) ToolFault) → IsWholeTold limit all (Some start) (Some now) r → IsDecided limit all start now r
decided_told limit all start now r h = record {
  long = λ over. absurd (omega (arith, over, h.within));
  within = λ is. inr (record { text = h.text; tells = h.tells; written = h.written });
}

decided : (limit : ℕ) (all start now : List ℕ) (r : Result (Unit {0}) ToolFault) → IsWhole limit all (Some start) (Some now) r → IsDecided limit all start now r
decided limit all start now (Ok done) h = decided_told limit all start now (Ok done) h
decided limit all start now (Err (HoldsPacket step)) h = decided_told limit all start now (Err (HoldsPacket step)) h
decided limit all start now (Err (NotQuiet step)) h = decided_told limit all start now (Err (NotQuiet step)) h
decided limit all start now (Err (BadStep number)) h = record {
  long = λ over. absurd (omega (arith, over, h.0));
  within = λ is. inl (number, refl, h.1, h.2);
}
decided limit all start now (Err TooLong) h = record {
  long = λ over. (refl, h.1);
  within = λ is. absurd (omega (arith, is, h.0));
}
decided limit all start now (Err ReadFailed) h = absurd h
decided limit all start now (Err WriteFailed) h = absurd h
decided limit all start now (Err NoMemory) h = absurd h
decided limit all start now (Err (NotHex line)) h = absurd h
decided limit all start now (Err BadWords) h = absurd h

pub decides_by_input : DecidesByInput
decides_by_input limit all start now r h memory = decided limit all start now r (h refl refl memory)
