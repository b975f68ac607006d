-- The answer, settled between the streams.
use Rattle.osdp_tool_sim.proofs.Common.{◌≡◌, ◌<◌, ◌≤◌, ℕ, Bool, true, false, List, [], ◌∷◌, ◌++◌, length, Option, Some, None, Result, Ok, Err, inl, inr, refl, sym, subst, ap, ◌∙◌, arith, append-nil, length-append, Appends, Consumes, IsAtEnd, Keeps, Appends-kept, IsBadLine, final_answer_of, ToolFault, NotHex, TooLong, BadWords, BadStep, HoldsPacket, NotQuiet, ReadFailed, WriteFailed, NoMemory, AreFailed, Ends, EndsWhole, IsTold, IsWhole, PrintedPart, Says, SaysOf, ReadsPastLimit, ReadsToEnd, Tells}
use Rattle.osdp_tool_sim.proofs.Ended.{end_of}

abbrev Answer : Type 0
Answer = Result (Unit {0}) ToolFault

-- ---- the work

told_whole : (limit : ℕ) (ib ia ob oa : Option (List ℕ)) (end : Answer) → IsTold limit ib ia ob oa end → Says limit ib ia ob oa end
told_whole limit ib ia ob oa (Ok done) told = told
told_whole limit ib ia ob oa (Err (HoldsPacket step)) told = told
told_whole limit ib ia ob oa (Err (NotQuiet step)) told = told
told_whole limit ib ia ob oa (Err (NotHex line)) told = absurd (end_of told.read told.text (Err (NotHex line)) told.tells)
told_whole limit ib ia ob oa (Err TooLong) told = absurd (end_of told.read told.text (Err TooLong) told.tells)
told_whole limit ib ia ob oa (Err BadWords) told = absurd (end_of told.read told.text (Err BadWords) told.tells)
told_whole limit ib ia ob oa (Err (BadStep number)) told = absurd (end_of told.read told.text (Err (BadStep number)) told.tells)
told_whole limit ib ia ob oa (Err ReadFailed) told = absurd (end_of told.read told.text (Err ReadFailed) told.tells)
told_whole limit ib ia ob oa (Err WriteFailed) told = absurd (end_of told.read told.text (Err WriteFailed) told.tells)
told_whole limit ib ia ob oa (Err NoMemory) told = absurd (end_of told.read told.text (Err NoMemory) told.tells)

pub says_of : (limit : ℕ) (bytes : List ℕ) (ib ia ob oa : Option (List ℕ)) (failed : Bool) (result : Answer) → ReadsToEnd limit ib ia bytes
    → SaysOf bytes ob oa failed result → Says limit ib ia ob oa result
says_of limit bytes ib ia ob oa failed result reads (inl (text, end, tells, inl (is, written, well))) =
    subst (Says limit ib ia ob oa) (sym is)
    (told_whole limit ib ia ob oa end (record { read = bytes; input = reads; text = text; tells = tells; written = written }))
says_of limit bytes ib ia ob oa failed result reads (inl (text, end, tells, inr (is, written, ill))) =
    subst (Says limit ib ia ob oa) (sym is)
    (inr (record { read = bytes; input = reads; text = text; end = end; tells = tells; written = inr written }))
says_of limit bytes ib ia ob oa failed result reads (inr (inl (number, is, bad, silent, well))) =
    subst (Says limit ib ia ob oa) (sym is) (record { read = bytes; input = reads; bad = bad; silent = silent })
says_of limit bytes ib ia ob oa failed result reads (inr (inr (is, silent, well))) =
    subst (Says limit ib ia ob oa) (sym is) silent

-- no stream has failed, but the output where the answer says so
end_well : (end : Answer) (text bytes : List ℕ) → Tells bytes text end → AreFailed false false end
end_well (Ok done) text bytes tells = (refl, refl)
end_well (Err (HoldsPacket step)) text bytes tells = (refl, refl)
end_well (Err (NotQuiet step)) text bytes tells = (refl, refl)
end_well (Err (NotHex line)) text bytes tells = absurd (end_of bytes text (Err (NotHex line)) tells)
end_well (Err TooLong) text bytes tells = absurd (end_of bytes text (Err TooLong) tells)
end_well (Err BadWords) text bytes tells = absurd (end_of bytes text (Err BadWords) tells)
end_well (Err (BadStep number)) text bytes tells = absurd (end_of bytes text (Err (BadStep number)) tells)
end_well (Err ReadFailed) text bytes tells = absurd (end_of bytes text (Err ReadFailed) tells)
end_well (Err WriteFailed) text bytes tells = absurd (end_of bytes text (Err WriteFailed) tells)
end_well (Err NoMemory) text bytes tells = absurd (end_of bytes text (Err NoMemory) tells)

pub failed_of : (bytes : List ℕ) (ob oa : Option (List ℕ)) (input failed : Bool) (result : Answer) → input ≡ false → SaysOf bytes ob oa failed result
    → AreFailed input failed result
failed_of bytes ob oa input failed result good (inl (text, end, tells, inl (is, written, well))) =
    subst (λ r. AreFailed input failed r) (sym is) (subst (λ i. AreFailed i failed end) (sym good) (subst (λ o. AreFailed false o end) (sym well) (end_well end text bytes tells)))
failed_of bytes ob oa input failed result good (inl (text, end, tells, inr (is, written, ill))) =
    subst (λ r. AreFailed input failed r) (sym is) (good, ill)
failed_of bytes ob oa input failed result good (inr (inl (number, is, bad, silent, well))) =
    subst (λ r. AreFailed input failed r) (sym is) (good, well)
failed_of bytes ob oa input failed result good (inr (inr (is, silent, well))) =
    subst (λ r. AreFailed input failed r) (sym is) (good, well)

-- ---- the flush

kept_twice : (a b c : Option (List ℕ)) → Keeps a b → Keeps b c → Keeps a c
kept_twice None b c h k = tt
kept_twice (Some x) None c h k = absurd h
kept_twice (Some x) (Some y) None h k = absurd k
kept_twice (Some x) (Some y) (Some z) h k = k ∙ h

part_kept : (text : List ℕ) (a b c : Option (List ℕ)) → PrintedPart text a b → Keeps b c → PrintedPart text a c
part_kept text a b c (inl whole) k = inl (Appends-kept a b c text whole k)
part_kept text a b c (inr part) k = inr (part.0, part.1, Appends-kept a b c _ part.2 k)

-- what a failed flush leaves
partly : (limit : ℕ) (ib ia a b c : Option (List ℕ)) (end : Answer) → IsTold limit ib ia a b end → Keeps b c → Says limit ib ia a c (Err WriteFailed)
partly limit ib ia a b c end told k = inr (record {
  read = told.read;
  input = told.input;
  text = told.text;
  end = end;
  tells = told.tells;
  written = inl (Appends-kept a b c told.text told.written k);
})

whole_kept : (limit : ℕ) (ib ia a b c : Option (List ℕ)) (end : Answer) → IsTold limit ib ia a b end → Keeps b c → IsTold limit ib ia a c end
whole_kept limit ib ia a b c end told k = record {
  read = told.read;
  input = told.input;
  text = told.text;
  tells = told.tells;
  written = Appends-kept a b c told.text told.written k;
}

written_kept : (limit : ℕ) (ib ia a b c : Option (List ℕ)) → Says limit ib ia a b (Err WriteFailed) → Keeps b c → Says limit ib ia a c (Err WriteFailed)
written_kept limit ib ia a b c (inl silent) k = inl (kept_twice a b c silent k)
written_kept limit ib ia a b c (inr part) k = inr (record {
  read = part.read;
  input = part.input;
  text = part.text;
  end = part.end;
  tells = part.tells;
  written = part_kept part.text a b c part.written k;
})

-- a flush that failed
flush_failed : (limit : ℕ) (ib ia a b c : Option (List ℕ)) (r : Answer) → Says limit ib ia a b r → Keeps b c → Says limit ib ia a c (Err WriteFailed)
flush_failed limit ib ia a b c (Ok done) says k = partly limit ib ia a b c (Ok done) says k
flush_failed limit ib ia a b c (Err (HoldsPacket step)) says k = partly limit ib ia a b c (Err (HoldsPacket step)) says k
flush_failed limit ib ia a b c (Err (NotQuiet step)) says k = partly limit ib ia a b c (Err (NotQuiet step)) says k
flush_failed limit ib ia a b c (Err (BadStep number)) says k = inl (kept_twice a b c says.silent k)
flush_failed limit ib ia a b c (Err TooLong) says k = inl (kept_twice a b c says.1 k)
flush_failed limit ib ia a b c (Err ReadFailed) says k = inl (kept_twice a b c says.1 k)
flush_failed limit ib ia a b c (Err WriteFailed) says k = written_kept limit ib ia a b c says k
flush_failed limit ib ia a b c (Err NoMemory) says k = inl (kept_twice a b c says k)
flush_failed limit ib ia a b c (Err (NotHex line)) says k = absurd says
flush_failed limit ib ia a b c (Err BadWords) says k = absurd says

-- .. and one that did not
says_kept : (limit : ℕ) (ib ia a b c : Option (List ℕ)) (r : Answer) → Says limit ib ia a b r → Keeps b c → Says limit ib ia a c r
says_kept limit ib ia a b c (Ok done) says k = whole_kept limit ib ia a b c (Ok done) says k
says_kept limit ib ia a b c (Err (HoldsPacket step)) says k = whole_kept limit ib ia a b c (Err (HoldsPacket step)) says k
says_kept limit ib ia a b c (Err (NotQuiet step)) says k = whole_kept limit ib ia a b c (Err (NotQuiet step)) says k
says_kept limit ib ia a b c (Err (BadStep number)) says k =
    record { read = says.read; input = says.input; bad = says.bad; silent = kept_twice a b c says.silent k }
says_kept limit ib ia a b c (Err TooLong) says k = (says.0, kept_twice a b c says.1 k)
says_kept limit ib ia a b c (Err ReadFailed) says k = (says.0, kept_twice a b c says.1 k)
says_kept limit ib ia a b c (Err WriteFailed) says k = written_kept limit ib ia a b c says k
says_kept limit ib ia a b c (Err NoMemory) says k = kept_twice a b c says k
says_kept limit ib ia a b c (Err (NotHex line)) says k = says
says_kept limit ib ia a b c (Err BadWords) says k = says

-- an input that failed is told
input_failed : (was : Bool) (r : Answer) → AreFailed true was r → r ≡ Err ReadFailed
input_failed was (Ok done) h = let ill = h.0 in cc
input_failed was (Err ReadFailed) h = refl
input_failed was (Err (HoldsPacket step)) h = let ill = h.0 in cc
input_failed was (Err (NotQuiet step)) h = let ill = h.0 in cc
input_failed was (Err (BadStep number)) h = let ill = h.0 in cc
input_failed was (Err TooLong) h = let ill = h.0 in cc
input_failed was (Err WriteFailed) h = let ill = h.0 in cc
input_failed was (Err NoMemory) h = let ill = h.0 in cc
input_failed was (Err (NotHex line)) h = let ill = h.0 in cc
input_failed was (Err BadWords) h = let ill = h.0 in cc

-- no stream failed in the end, so none is told
none_failed : (was : Bool) (r : Answer) → AreFailed false was r → (was ≡ true → false ≡ true) → AreFailed false false r
none_failed was (Ok done) h stays = (refl, refl)
none_failed was (Err ReadFailed) h stays = h
none_failed was (Err (HoldsPacket step)) h stays = (refl, refl)
none_failed was (Err (NotQuiet step)) h stays = (refl, refl)
none_failed was (Err (BadStep number)) h stays = (refl, refl)
none_failed was (Err TooLong) h stays = (refl, refl)
none_failed was (Err WriteFailed) h stays = (refl, stays h.1)
none_failed was (Err NoMemory) h stays = (refl, refl)
none_failed was (Err (NotHex line)) h stays = (refl, refl)
none_failed was (Err BadWords) h stays = (refl, refl)

pub ends_final : (limit : ℕ) (ib ia a b c : Option (List ℕ)) (input was failed : Bool) (r : Answer) → Says limit ib ia a b r → AreFailed input was r
    → Keeps b c → (was ≡ true → failed ≡ true) → Ends limit ib ia input a c failed (final_answer_of input failed r)
ends_final limit ib ia a b c true was failed r says h k stays =
    (says_kept limit ib ia a b c (Err ReadFailed) (subst (Says limit ib ia a b) (input_failed was r h) says) k, refl)
ends_final limit ib ia a b c false was true r says h k stays = (flush_failed limit ib ia a b c r says k, (refl, refl))
ends_final limit ib ia a b c false was false r says h k stays = (says_kept limit ib ia a b c r says k, none_failed was r h stays)

-- ---- known bytes

all_read : (bytes read : List ℕ) (after : Option (List ℕ)) → Consumes (Some bytes) after read → IsAtEnd after → bytes ≡ read
all_read bytes read None h e = absurd h
all_read bytes read (Some rest) h e = h ∙ ap (λ l. read ++ l) e ∙ append-nil read

longer : (limit : ℕ) (bytes : List ℕ) (after : Option (List ℕ)) → ReadsPastLimit limit (Some bytes) after → limit < length bytes
longer limit bytes None past = absurd past.taken
longer limit bytes (Some rest) past =
    let whole = past.whole in
    let parts = ap length past.taken in
    let front = length-append (past.read ++ past.one_more ∷ []) rest in
    let lengths = length-append past.read (past.one_more ∷ []) in
    omega arith

whole_told : (limit : ℕ) (bytes : List ℕ) (ia ob oa : Option (List ℕ)) (end : Answer) → IsTold limit (Some bytes) ia ob oa end
    → (length bytes ≤ limit) × ((text : List ℕ) × Tells bytes text end × Appends ob oa text)
whole_told limit bytes ia ob oa end told =
    let is = sym (all_read bytes told.read ia told.input.taken told.input.at_end) in (
      subst (λ (l : List ℕ). length l ≤ limit) is told.input.within,
      (told.text, subst (λ (l : List ℕ). Tells l told.text end) is told.tells, told.written),
    )

whole : (limit : ℕ) (bytes : List ℕ) (ia ob oa : Option (List ℕ)) (input failed : Bool) (r : Answer)
    → Ends limit (Some bytes) ia input ob oa failed r → input ≡ false → failed ≡ false → (r ≡ Err NoMemory → ⊥) → IsWhole limit bytes ob oa r
whole limit bytes ia ob oa input failed (Ok done) (says, h) well done_well some =
    let t = whole_told limit bytes ia ob oa (Ok done) says in record { within = t.0; text = t.1.0; tells = t.1.1; written = t.1.2 }
whole limit bytes ia ob oa input failed (Err (HoldsPacket step)) (says, h) well done_well some =
    let t = whole_told limit bytes ia ob oa (Err (HoldsPacket step)) says in record { within = t.0; text = t.1.0; tells = t.1.1; written = t.1.2 }
whole limit bytes ia ob oa input failed (Err (NotQuiet step)) (says, h) well done_well some =
    let t = whole_told limit bytes ia ob oa (Err (NotQuiet step)) says in record { within = t.0; text = t.1.0; tells = t.1.1; written = t.1.2 }
whole limit bytes ia ob oa input failed (Err (BadStep number)) (says, h) well done_well some =
    let is = sym (all_read bytes says.read ia says.input.taken says.input.at_end) in (
      subst (λ (l : List ℕ). length l ≤ limit) is says.input.within,
      subst (λ (l : List ℕ). IsBadLine l number) is says.bad,
      says.silent,
    )
whole limit bytes ia ob oa input failed (Err TooLong) (says, h) well done_well some = (longer limit bytes ia says.0, says.1)
whole limit bytes ia ob oa input failed (Err ReadFailed) (says, h) well done_well some = cc
whole limit bytes ia ob oa input failed (Err WriteFailed) (says, h) well done_well some = let ill = h.1 in cc
whole limit bytes ia ob oa input failed (Err NoMemory) (says, h) well done_well some = some refl
whole limit bytes ia ob oa input failed (Err (NotHex line)) (says, h) well done_well some = says
whole limit bytes ia ob oa input failed (Err BadWords) (says, h) well done_well some = says

pub ends_whole : (limit : ℕ) (ib ia ob oa : Option (List ℕ)) (input failed : Bool) (r : Answer) → Ends limit ib ia input ob oa failed r
    → EndsWhole limit ib input ob oa failed r
ends_whole limit None ia ob oa input failed r ends = tt
ends_whole limit (Some bytes) ia ob oa input failed r ends = λ well done_well some. whole limit bytes ia ob oa input failed r ends well done_well some
