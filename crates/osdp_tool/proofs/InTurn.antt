-- How `make` ends, in the words of its reader.
use Rattle.osdp_tool.proofs.Common.{◌≡◌, ◌∙◌, ◌↔◌, ℕ, Bool, true, false, List, [], ◌++◌, Some, Result, Ok, Err, inl, inr, refl, sym, ap, PacketOrder, order_line, BadWords, WriteFailed}
use Rattle.std.proofs.Common.{append-nil, append_assoc}
use Rattle.osdp_tool_streams.specs.declared.fault.ToolFault.{ToolFault}
use Rattle.osdp_tool_streams.specs.declared.fault.ToolFault.TheVariants.{NotHex, TooLong, BadStep, HoldsPacket, NotQuiet, ReadFailed, NoMemory}
use Rattle.osdp_tool.specs.Ending.{Ends, Order, OrderNone}
use Rattle.osdp_tool.specs.InTurn.{EndsInTurn, IsBegun, IsToldInTurn}
use Rattle.osdp_tool.proofs.Ordered.{one_order}

no_failure : false ≡ true → ⊥
no_failure e = cc

module _ (given : List (List ℕ)) (start now : List ℕ) where
  begun : (o : PacketOrder) → Order given o → (printed rest : List ℕ) → order_line o ≡ printed ++ rest → now ≡ start ++ printed → IsBegun given start now
  begun o ordered printed rest whole written = record {
    order = o;
    ordered = ordered;
    rest = rest;
    whole = ap (λ (l : List ℕ). start ++ l) whole ∙ sym (append_assoc start printed rest) ∙ ap (λ (l : List ℕ). l ++ rest) (sym written);
  }

  -- the work is done, or there is no memory: the words order a packet, and no write failed
  some_order : (o : PacketOrder) → Order given o → (failed : Bool) (r : Result (Unit {0}) ToolFault) → failed ≡ false → (r ≡ Err BadWords → ⊥) → (r ≡ Err WriteFailed → ⊥)
      → ((r ≡ Err BadWords) ↔ (OrderNone given × (failed ≡ false))) × ((r ≡ Err WriteFailed) ↔ (failed ≡ true))
  some_order o ordered failed r well good no_write =
      (((λ is. absurd (good is)), (λ none. absurd (none.0 o ordered))), ((λ is. absurd (no_write is)), (λ did. absurd (no_failure (sym well ∙ did)))))

  in_turn : (failed : Bool) (r : Result (Unit {0}) ToolFault) → Ends given (Some start) (Some now) failed r → IsToldInTurn given start now failed r
  in_turn failed (Ok done) h =
      let so = some_order h.0.order h.0.ordered failed (Ok done) h.1 (λ is. cc) (λ is. cc) in record {
        answer = tt;
        refused = so.0;
        write = so.1;
        done = λ o ordered. h.0.text ∙ ap (λ (q : PacketOrder). start ++ order_line q) (one_order given h.0.order o h.0.ordered ordered);
        memory = λ is. absurd cc;
        printed = inr (begun h.0.order h.0.ordered (order_line h.0.order) [] (sym (append-nil (order_line h.0.order))) h.0.text);
      }
  in_turn failed (Err BadWords) h = record {
    answer = tt;
    refused = ((λ is. (h.0, h.2)), (λ none. refl));
    write = ((λ is. absurd cc), (λ did. absurd (no_failure (sym h.2 ∙ did))));
    done = λ o ordered. tt;
    memory = λ is. absurd cc;
    printed = inl h.1;
  }
  in_turn failed (Err WriteFailed) h = record {
    answer = tt;
    refused = ((λ is. absurd cc), (λ none. absurd (no_failure (sym none.1 ∙ h.1))));
    write = ((λ is. h.1), (λ did. refl));
    done = λ o ordered. tt;
    memory = λ is. absurd cc;
    printed = elim h.0 [
      | inl kept ↦ inl kept
      | inr part ↦ inr (begun part.order part.ordered part.printed part.rest part.line part.text)
    ];
  }
  in_turn failed (Err NoMemory) h =
      let so = some_order h.0.order h.0.ordered failed (Err NoMemory) h.1 (λ is. cc) (λ is. cc) in record {
        answer = tt;
        refused = so.0;
        write = so.1;
        done = λ o ordered. tt;
        memory = λ is. h.0.kept;
        printed = inl h.0.kept;
      }
  in_turn failed (Err (NotHex line)) h = absurd h
  in_turn failed (Err TooLong) h = absurd h
  in_turn failed (Err (BadStep line)) h = absurd h
  in_turn failed (Err (HoldsPacket step)) h = absurd h
  in_turn failed (Err (NotQuiet step)) h = absurd h
  in_turn failed (Err ReadFailed) h = absurd h

pub ends_in_turn : EndsInTurn
ends_in_turn given start now failed r h = in_turn given start now failed r h
