-- A reader that answers late, by the rules: it is accused of nothing, and is told by name.
use Rattle.osdp_monitor_laws.proofs.Common.{◌≡◌, ◌≢◌, inl, inr, ℕ, ◌+◌, Bool, true, false, ◌||◌, List, [], ◌∷◌, ◌++◌, Some, None, refl, sym, subst, ap, ◌∙◌, and_parts, cond_both, eqb-true, or_cases, nat_lt, option_to_list, Packet, Sum, smallest, Found, Late, Known, nothing_known, after_packet, found_in, moves_to, no_knowledge, is_late, Answer, is_answer, said, AnyReader, accused_in}
use Rattle.osdp_monitor_laws.proofs.Agreeing.{none_some, zero_untaken}
use Rattle.osdp_monitor_laws.proofs.AnyReaders.{Stores, goes_sends, stores_none}
use Rattle.osdp_monitor_laws.proofs.Hearing.{IsSaid}
use Rattle.osdp_monitor_laws.proofs.Knowing.{at_address}
use Rattle.osdp_monitor_laws.proofs.Late.{says_answer}
use Rattle.osdp_monitor_laws.proofs.LateKnown.{AreApart, AreInOrder, AreLeft, AreNumbered, AreTo, Chain, HoldsAt, Steps, chain_restart, nothing_holds}
use Rattle.osdp_monitor_laws.proofs.LateOwn.{own_fine, own_holds, own_number, own_unknown}
use Rattle.osdp_monitor_laws.proofs.LateOlder.{is_late_by, late_both, late_unknown}
use Rattle.osdp_monitor_laws.proofs.LateLines.{Holds, came_fine, came_holds, forgotten, known_holds, repeats, sends, steps_stores}
use Rattle.osdp_monitor_laws.proofs.ReaderLines.{zero_after}
use Rattle.osdp_monitor_laws.proofs.Telling.{late_told, reply_found}
use Rattle.osdp_monitor_laws.specs.LateReader.{AccusesNoLateReader, AreAllowed, IsAllowed, LateLine, LateMove, Owed, TellsLateReaders, Restart, Send, Repeat, Others, AnswerComes, Skip, Forget, accusations, accused_by, after_answer, after_move, after_moves, after_owed, answers, comes, first_of, has_number, new_line, next_answer}

-- ---- the answers, one after the other

-- what its reader says is said by it
sent_by : (a : ℕ) (u next : AnyReader) (w : Owed) → u.address ≡ a → Stores u → (steps : Steps u w next) → IsSaid a w.reply
sent_by a u next w there stores steps =
    subst (λ b. IsSaid b w.reply) (steps.there ∙ there)
    ((goes_sends steps.way steps.start w.packet (Some w.reply) next (steps_stores u next w steps stores) steps.goes).sent w.reply refl)

next_stores : (u next : AnyReader) (w : Owed) → Stores u → Steps u w next → Stores next
next_stores u next w stores steps =
    (goes_sends steps.way steps.start w.packet (Some w.reply) next (steps_stores u next w steps stores) steps.goes).stores

module _ (a : ℕ) (l : LateLine) (holds : Holds a l) (w : Owed) (ws : List Owed) where
  abbrev k : Known
  k = l.known.devices a

  abbrev last_of : Bool
  last_of = l.answered || answers l.last w.reply

  -- one to the last packet
  module _ (none : l.older ≡ []) (has : l.owed ≡ w ∷ ws) where
    own_chain : Chain holds.from (w ∷ ws) l.reader
    own_chain = subst (λ vs. Chain holds.from vs l.reader) has (subst (λ vs. Chain holds.from (vs ++ l.owed) l.reader) none holds.chain)

    own_at : HoldsAt a k holds.from l.last l.answered [] (w ∷ ws)
    own_at = subst (λ vs. HoldsAt a k holds.from l.last l.answered [] vs) has
        (subst (λ vs. HoldsAt a k holds.from l.last l.answered vs l.owed) none holds.at)

    own_to : (x : Packet) → l.last ≡ Some x → AreTo (w ∷ ws) x
    own_to x is = subst (λ vs. AreTo vs x) has (holds.owed_to x is)

    own_came : Holds a (record (comes w.reply l) { owed = ws })
    own_came =
        let next = own_chain.0 in
        let steps = own_chain.1 in
        let stores = steps_stores holds.from next w steps holds.stores in
        record {
          zero = zero_after l.known w.reply holds.zero;
          place = holds.place;
          from = next;
          there = steps.stays ∙ steps.there ∙ holds.there;
          stores = next_stores holds.from next w holds.stores steps;
          chain = subst (λ vs. Chain next (vs ++ ws) l.reader) (sym none) own_chain.2;
          owed_to = λ x is. (own_to x is).1;
          none_owed = λ is. absurd (no_nil (sym has ∙ holds.none_owed is));
          none_older = holds.none_older;
          order = holds.order;
          zeros = λ _ _ _ _. subst (AreNumbered 0) (sym none) tt;
          apart = holds.apart;
          at = subst (λ vs. HoldsAt a ((after_packet l.known w.reply).devices a) next l.last last_of vs ws) (sym none)
              (came_holds (λ j. HoldsAt a j next l.last last_of [] ws) a l.known w.reply (sent_by a holds.from next w holds.there holds.stores steps)
              (nothing_holds a next l.last last_of [] ws)
              (own_unknown a k holds.from next l.last l.answered w ws steps stores (holds.zero a) own_at own_to)
              (own_holds a k holds.from next l.last l.answered w ws steps stores (holds.zero a) own_at own_to));
        }
      where
        no_nil : w ∷ ws ≡ [] → ⊥
        no_nil e = cc

    own_innocent : (found_in l.known w.reply).accusation ≡ None
    own_innocent =
        let next = own_chain.0 in
        let steps = own_chain.1 in
        came_fine a l.known w.reply (sent_by a holds.from next w holds.there holds.stores steps)
        (own_fine a k holds.from next l.last l.answered w ws steps (steps_stores holds.from next w steps holds.stores) (holds.zero a) own_at own_to)

  -- one to the packet before
  module _ (has : l.older ≡ w ∷ ws) where
    late_chain : Chain holds.from (w ∷ (ws ++ l.owed)) l.reader
    late_chain = subst (λ vs. Chain holds.from (vs ++ l.owed) l.reader) has holds.chain

    late_at : HoldsAt a k holds.from l.last l.answered (w ∷ ws) l.owed
    late_at = subst (λ vs. HoldsAt a k holds.from l.last l.answered vs l.owed) has holds.at

    late_order : AreInOrder (w ∷ ws)
    late_order = subst AreInOrder has holds.order

    late_apart : (x : Packet) → l.last ≡ Some x → AreApart (w ∷ ws) x
    late_apart x is = subst (λ vs. AreApart vs x) has (holds.apart x is)

    -- an answer to a packet with number 0: those to packets with other numbers have come
    late_zeros : (l.answered || answers l.last w.reply) ≡ true → (x : Packet) → l.last ≡ Some x → x.sequence ≡ 0 → AreNumbered 0 ws
    late_zeros answered x is zero = elim (or_cases l.answered (answers l.last w.reply) answered) [
      | inl was ↦ (subst (AreNumbered 0) has (holds.zeros was x is zero)).1
      | inr now ↦
          let steps = late_chain.1 in
          let both = and_parts (is_answer (said w.reply)) (has_number l.last w.reply.sequence) now in
          let says : said w.reply ≡ Answer = says_answer (said w.reply) both.0 in
          let same : x.sequence ≡ w.reply.sequence = eqb-true x.sequence w.reply.sequence (subst (λ o. has_number o w.reply.sequence ≡ true) is both.1) in
          late_order.0 (sym (own_number steps.way steps.start late_chain.0 w.packet w.reply (steps_stores holds.from late_chain.0 w steps holds.stores) steps.goes says) ∙ sym same ∙ zero)
    ]

    late_came : Holds a (record (comes w.reply l) { older = ws })
    late_came =
        let next = late_chain.0 in
        let steps = late_chain.1 in
        let stores = steps_stores holds.from next w steps holds.stores in
        record {
          zero = zero_after l.known w.reply holds.zero;
          place = holds.place;
          from = next;
          there = steps.stays ∙ steps.there ∙ holds.there;
          stores = next_stores holds.from next w holds.stores steps;
          chain = late_chain.2;
          owed_to = holds.owed_to;
          none_owed = holds.none_owed;
          none_older = λ is. absurd (no_nil (sym has ∙ holds.none_older is));
          order = late_order.1;
          zeros = late_zeros;
          apart = λ x is. (late_apart x is).1;
          at = came_holds (λ j. HoldsAt a j next l.last last_of ws l.owed) a l.known w.reply (sent_by a holds.from next w holds.there holds.stores steps)
              (nothing_holds a next l.last last_of ws l.owed)
              (late_unknown a k holds.from next l.last l.answered w ws l.owed steps stores (λ x is. (late_apart x is).0) late_order.0 late_at)
              (λ p is. (late_both a k holds.from next l.last l.answered w ws l.owed steps stores (λ x is. (late_apart x is).0) late_order.0 late_at p is).1);
        }
      where
        no_nil : w ∷ ws ≡ [] → ⊥
        no_nil e = cc

    late_innocent : (found_in l.known w.reply).accusation ≡ None
    late_innocent =
        let next = late_chain.0 in
        let steps = late_chain.1 in
        came_fine a l.known w.reply (sent_by a holds.from next w holds.there holds.stores steps)
        (λ p is. (late_both a k holds.from next l.last l.answered w ws l.owed steps (steps_stores holds.from next w steps holds.stores)
        (λ x is. (late_apart x is).0) late_order.0 late_at p is).0)

-- ---- whatever happens

owed_came : (a : ℕ) (l : LateLine) (owed : List Owed) → l.owed ≡ owed → l.older ≡ [] → Holds a l → Holds a (after_owed owed l)
owed_came a l [] has none holds = holds
owed_came a l (w ∷ ws) has none holds = own_came a l holds w ws none has

answer_came : (a : ℕ) (l : LateLine) (older : List Owed) → l.older ≡ older → Holds a l → Holds a (after_answer older l)
answer_came a l [] has holds = owed_came a l l.owed refl has holds
answer_came a l (w ∷ ws) has holds = late_came a l holds w ws has

others_say : (a : ℕ) (l : LateLine) (p : Packet) → p.address ≢ a → Holds a l → Holds a (record l { known = after_packet l.known p })
others_say a l p away holds =
    known_holds a l (after_packet l.known p) holds (zero_after l.known p holds.zero)
    (at_address (λ j. HoldsAt a j holds.from l.last l.answered l.older l.owed) l.known p a
    (nothing_holds a holds.from l.last l.answered l.older l.owed) (λ _. holds.at) (λ here. absurd (away here)) (λ here. absurd (away here)) (λ here. absurd (away here)))

restarted : (a : ℕ) (l : LateLine) (s : AnyReader) → s.last ≡ None → s.address ≡ l.reader.address → Holds a l → Holds a (record l { reader = s })
restarted a l s none there holds = record {
  zero = holds.zero;
  place = there ∙ holds.place;
  from = holds.from;
  there = holds.there;
  stores = holds.stores;
  chain = chain_restart (l.older ++ l.owed) holds.from l.reader s none there holds.chain;
  owed_to = holds.owed_to;
  none_owed = holds.none_owed;
  none_older = holds.none_older;
  order = holds.order;
  zeros = holds.zeros;
  apart = holds.apart;
  at = holds.at;
}

move_holds : (a : ℕ) (move : LateMove) (l : LateLine) → Holds a l → IsAllowed move l → Holds a (after_move move l)
move_holds a (Restart s) l holds allowed = restarted a l s allowed.0 allowed.1 holds
move_holds a (Send p read way o s) l holds allowed = sends a l p read way o s holds allowed
move_holds a (Repeat p read way o s) l holds allowed = repeats a l p read way o s holds allowed.0 allowed.1
move_holds a (Others p) l holds allowed = others_say a l p (λ here. allowed (here ∙ sym holds.place)) holds
move_holds a AnswerComes l holds allowed = answer_came a l l.older refl holds
move_holds a (Skip b) l holds allowed =
    cond_both (nat_lt (l.known.skipped + 1) (smallest Sum)) (record l.known { skipped = l.known.skipped + 1 }) no_knowledge
    (λ known. Holds a (record l { known = known }))
    (λ _. known_holds a l (record l.known { skipped = l.known.skipped + 1 }) holds holds.zero holds.at) (λ _. forgotten a l holds)
move_holds a Forget l holds allowed = forgotten a l holds

owed_innocent : (a : ℕ) (l : LateLine) (owed : List Owed) → l.owed ≡ owed → l.older ≡ [] → Holds a l → accused_in (first_of owed) l.known ≡ None
owed_innocent a l [] has none holds = refl
owed_innocent a l (w ∷ ws) has none holds = own_innocent a l holds w ws none has

answer_innocent : (a : ℕ) (l : LateLine) (older : List Owed) → l.older ≡ older → Holds a l → accused_in (next_answer older l.owed) l.known ≡ None
answer_innocent a l [] has holds = owed_innocent a l l.owed refl has holds
answer_innocent a l (w ∷ ws) has holds = late_innocent a l holds w ws has

move_innocent : (a : ℕ) (move : LateMove) (l : LateLine) → Holds a l → IsAllowed move l → accused_by move l ≡ None
move_innocent a AnswerComes l holds allowed = answer_innocent a l l.older refl holds
move_innocent a move l holds allowed = refl

all_innocent : (a : ℕ) (moves : List LateMove) (l : LateLine) → Holds a l → AreAllowed moves l → accusations moves l ≡ []
all_innocent a [] l holds allowed = refl
all_innocent a (move ∷ moves) l holds allowed =
    ap (λ o. option_to_list o ++ accusations moves (after_move move l)) (move_innocent a move l holds allowed.0)
    ∙ all_innocent a moves (after_move move l) (move_holds a move l holds allowed.0) allowed.1

all_hold : (a : ℕ) (moves : List LateMove) (l : LateLine) → Holds a l → AreAllowed moves l → Holds a (after_moves moves l)
all_hold a [] l holds allowed = holds
all_hold a (move ∷ moves) l holds allowed = all_hold a moves (after_move move l) (move_holds a move l holds allowed.0) allowed.1

first_holds : (r : AnyReader) → r.last ≡ None → Holds r.address (new_line r)
first_holds r none = record {
  zero = λ b. zero_untaken nothing_known refl;
  place = refl;
  from = r;
  there = refl;
  stores = stores_none r none;
  chain = record { is = inl refl; there = refl };
  owed_to = λ x is. absurd (none_some x is);
  none_owed = λ _. refl;
  none_older = λ _. refl;
  order = tt;
  zeros = λ _ _ _ _. tt;
  apart = λ _ _. tt;
  at = nothing_holds r.address r None false [] [];
}

pub accuses_no_late_reader : AccusesNoLateReader
accuses_no_late_reader r moves none allowed = all_innocent r.address moves (new_line r) (first_holds r none) allowed

-- ---- by name

pub tells_late_readers : TellsLateReaders
tells_late_readers r moves w rest p none allowed has last settled other device address reply number says plain stays =
    let l = after_moves moves (new_line r) in
    let holds = all_hold r.address moves (new_line r) (first_holds r none) allowed in
    let a = l.reader.address in
    let at_a : Holds a l = subst (λ b. Holds b l) (sym holds.place) holds in
    let k = l.known.devices a in
    let left = (subst (λ vs. AreLeft vs k p) has (at_a.at.knows p last).left).0 in
    let late : is_late k p w.reply ≡ true = is_late_by k p w left.number says number (λ same. other (sym same)) in
    reply_found (λ (f : Found). f.notice ≡ Some Late) l.known a p w.reply (reply, address) device plain last
    (late_told k p w.reply (moves_to (Some p) w.reply) stays late settled)
