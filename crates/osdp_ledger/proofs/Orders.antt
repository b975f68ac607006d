-- What holds of the commands after each step.
use Rattle.osdp_ledger.proofs.Common.{◌≡◌, ◌≤◌, ◌<◌, ◌+◌, ℕ, Bool, true, false, List, [], ◌∷◌, ◌++◌, length, Option, Some, None, refl, sym, subst, ap, ◌∙◌, inl, inr, arith, append_assoc, append-nil, length-append, map-append, All-append, All-cons, All-push, All-weaker, All-nil, Contains-push, Contains-append_right, all_pairs_push, All, AllPairs, Contains, map, drop, Reply, May, MayActOn, Order, Step, Submit, Withdraw, Open, Act, Settle, Doubt, Close, RestartPanel, acted_on, is_in_front, late_after, late_at_restart, panel_restarted, AreAllowed, CutOff, End, Forgotten, GivenBack, History, InDoubt, Settled, ends_at_restart, new_history, runs, steps_on, CountsFrom, KeepsOrders, OrdersHold}
use Rattle.osdp_ledger.proofs.Submitted.{were_submitted}
use Rattle.osdp_ledger.proofs.Acted.{OrdersAre, OffFront, Answered, Below, Comes, FrontIs, HasEnd, LateIs, Orders, Outcome, answered_more, below_more, bound, closed_comes, counts_push, front_pushed, late_more, move_over, none_acted, off_front, order_of, outcome_kept, outcome_more, places, same_front, same_reply}

-- ---- each step

submitted : (o : Order) (h : History) → o.place ≡ h.ledger.submitted → Orders h → Orders (steps_on (Submit o) h)
submitted o h is i = record {
  first = i.first;
  numbered = counts_push i.first h.ledger.ahead o i.numbered (omega (arith, is, i.total));
  total = omega (arith, i.total, length-append h.ledger.ahead (o ∷ []));
  whole = counts_push 0 h.accepted o i.whole (omega (arith, is, i.count));
  count = omega (arith, i.count, length-append h.accepted (o ∷ []));
  each = ap (λ os. os ++ o ∷ []) i.each ∙ append_assoc (map order_of h.ended) h.ledger.ahead (o ∷ []);
  once = i.once;
  below = i.below;
  front = front_pushed h.ledger.acted h.ledger.is_open h.ledger.ahead o h.acted i.front;
  late_is = i.late_is;
  answered = i.answered;
  outcomes = All-weaker (Outcome h.ended h.ledger.acted h.ledger.ahead) (Outcome h.ended h.ledger.acted (h.ledger.ahead ++ o ∷ []))
      (λ a. outcome_kept h.ended h.ledger.acted h.ledger.ahead h.ledger.acted (h.ledger.ahead ++ o ∷ []) a
      (λ comes. inr (inr (inr (comes.0, (comes.1.0 ++ o ∷ [], ap (λ os. os ++ o ∷ []) comes.1.1))))))
      h.acted i.outcomes;
}

-- an order in front ends so, and nothing is acted on after it; the one before it is known by its end, or there was none
ended_front : (o : Order) (how : End) (is_open : Bool) (late : Option Order) (submitted : ℕ) (ahead : List Order) (was_open : Bool) (acted : Option Reply) (was_late : Option Order)
    (accepted : List Order) (done : List (Order × Reply)) (ended : List (Order × End))
    → is_in_front o ahead
    → Answered done (o, how)
    → ((a : Order × Reply) → Comes acted ahead a → Outcome (ended ++ (o, how) ∷ []) None (drop 1 ahead) a)
    → ((first : ℕ) → o.place ≡ first → Below (bound acted first) done → LateIs was_late was_open first ended done
    → LateIs late is_open (first + 1) (ended ++ (o, how) ∷ []) done)
    → OrdersAre submitted ahead was_open acted was_late accepted done ended
    → OrdersAre submitted (drop 1 ahead) is_open None late accepted done (ended ++ (o, how) ∷ [])
ended_front o how is_open late submitted ahead was_open acted was_late accepted done ended front answered comes is_late i =
    let off : OffFront i.first o ahead = off_front i.first o ahead front i.numbered in
    let long : length ahead ≡ length (o ∷ drop 1 ahead) = ap length off.is in
    record {
      first = i.first + 1;
      numbered = off.numbered;
      total = omega (arith, i.total, long);
      whole = i.whole;
      count = i.count;
      each = i.each ∙ ap (λ os. map order_of ended ++ os) off.is ∙ sym (move_over ended o how (drop 1 ahead));
      once = i.once;
      below = below_more (bound acted i.first) (i.first + 1) done (bound_next acted i.first) i.below;
      front = tt;
      late_is = is_late i.first off.place i.below i.late_is;
      answered = All-push (Answered done) ended (o, how) i.answered answered;
      outcomes = All-weaker (Outcome ended acted ahead) (Outcome (ended ++ (o, how) ∷ []) None (drop 1 ahead))
          (λ a. outcome_more ended ((o, how) ∷ []) acted ahead None (drop 1 ahead) a (comes a)) done i.outcomes;
    }
  where
    bound_next : (acted : Option Reply) (first : ℕ) → bound acted first ≤ first + 1
    bound_next None first = omega arith
    bound_next (Some answer) first = omega arith

withdrawn : (o : Order) (h : History) → May (Withdraw o) h.ledger → Orders h → Orders (steps_on (Withdraw o) h)
withdrawn o h may i =
    let none : h.ledger.acted ≡ None = may.0 in
    subst (λ acted. OrdersAre h.ledger.submitted (drop 1 h.ledger.ahead) h.ledger.is_open acted h.ledger.late h.accepted h.acted (h.ended ++ (o, GivenBack) ∷ []))
    (sym none)
    (ended_front o GivenBack h.ledger.is_open h.ledger.late h.ledger.submitted h.ledger.ahead h.ledger.is_open h.ledger.acted h.ledger.late h.accepted h.acted h.ended
    may.1 (λ answer e. cc)
    (λ a comes. absurd (let some : h.ledger.acted ≡ Some a.1 = comes.0 in cc))
    (λ first is below late. late_more h.ledger.late h.ledger.is_open first (first + 1) h.ended ((o, GivenBack) ∷ []) h.acted (omega arith) late)
    i)

no_late : (late : Option Order) (is_open : Bool) (first : ℕ) (ended : List (Order × End)) (done : List (Order × Reply)) → is_open ≡ true
    → LateIs late is_open first ended done → late ≡ None
no_late None is_open first ended done e h = refl
no_late (Some o) is_open first ended done e h = cc

settled : (o : Order) (answer : Reply) (h : History) → May (Settle o answer) h.ledger → Orders h → Orders (steps_on (Settle o answer) h)
settled o answer h may i =
    ended_front o (Settled answer) h.ledger.is_open h.ledger.late h.ledger.submitted h.ledger.ahead h.ledger.is_open h.ledger.acted h.ledger.late h.accepted h.acted h.ended
    may.1
    (λ r e. let same : answer ≡ r = cc in subst (λ x. Contains h.acted (o, x)) same (was_acted h.ledger.acted may.2 i.front))
    (λ a comes. inl (subst (λ (x : Order × Reply). Contains (h.ended ++ (o, Settled answer) ∷ []) (x.0, Settled x.1)) (same a comes)
    (Contains-push h.ended (o, Settled answer))))
    (λ first is below late. late_more h.ledger.late h.ledger.is_open first (first + 1) h.ended ((o, Settled answer) ∷ []) h.acted (omega arith) late)
    i
  where
    was_acted : (acted : Option Reply) → acted ≡ Some answer → FrontIs acted h.ledger.is_open h.ledger.ahead h.acted → Contains h.acted (o, answer)
    was_acted None e f = cc
    was_acted (Some r) e f =
        subst (λ x. Contains h.acted (x, answer)) (same_front f.1.0 o h.ledger.ahead f.1.1 may.1)
        (subst (λ x. Contains h.acted (f.1.0, x)) (same_reply r answer e) f.1.2)

    same : (a : Order × Reply) → Comes h.ledger.acted h.ledger.ahead a → ◌≡◌ {A = Order × Reply} (o, answer) a
    same a comes = (λ j. (same_front o a.0 h.ledger.ahead may.1 comes.1 j, same_reply answer a.1 (sym may.2 ∙ comes.0) j))

doubted : (o : Order) (h : History) → May (Doubt o) h.ledger → Orders h → Orders (steps_on (Doubt o) h)
doubted o h may i =
    ended_front o InDoubt false (late_after h.ledger.acted o) h.ledger.submitted h.ledger.ahead h.ledger.is_open h.ledger.acted h.ledger.late h.accepted h.acted h.ended
    may.1
    (λ answer e. cc)
    (λ a comes. inr (inl (subst (λ x. Contains (h.ended ++ (o, InDoubt) ∷ []) (x, InDoubt)) (same_front o a.0 h.ledger.ahead may.1 comes.1) (Contains-push h.ended (o, InDoubt)))))
    (λ first is below late. late_is h.ledger.acted first is below)
    i
  where
    late_is : (acted : Option Reply) (first : ℕ) → o.place ≡ first → Below (bound acted first) h.acted
        → LateIs (late_after acted o) false (first + 1) (h.ended ++ (o, InDoubt) ∷ []) h.acted
    late_is None first is below =
        (refl, omega (arith, is), below_more first o.place h.acted (omega (arith, is)) below, inl (Contains-push h.ended (o, InDoubt)))
    late_is (Some answer) first is below = tt

acted_in_front : (o : Order) (answer : Reply) (h : History) → h.ledger.is_open ≡ true → is_in_front o h.ledger.ahead → h.ledger.acted ≡ None → Orders h
    → OrdersAre h.ledger.submitted h.ledger.ahead h.ledger.is_open (Some answer) h.ledger.late h.accepted (h.acted ++ (o, answer) ∷ []) h.ended
acted_in_front o answer h is_open front none i =
    let off : OffFront i.first o h.ledger.ahead = off_front i.first o h.ledger.ahead front i.numbered in
    let below : Below i.first h.acted = subst (λ acted. Below (bound acted i.first) h.acted) none i.below in
    record {
      first = i.first;
      numbered = i.numbered;
      total = i.total;
      whole = i.whole;
      count = i.count;
      each = i.each;
      once = all_pairs_push (λ (a b : Order × Reply). a.0.place < b.0.place) h.acted (o, answer) i.once
          (below_more i.first o.place h.acted (omega (arith, off.place)) below);
      below = All-push (λ (a : Order × Reply). a.0.place < i.first + 1) h.acted (o, answer) (below_more i.first (i.first + 1) h.acted (omega arith) below) (omega (arith, off.place));
      front = (is_open, (o, front, Contains-push h.acted (o, answer)));
      late_is = subst (λ late. LateIs late h.ledger.is_open i.first h.ended (h.acted ++ (o, answer) ∷ [])) (sym (no_late h.ledger.late h.ledger.is_open i.first h.ended h.acted is_open i.late_is)) tt;
      answered = answered_more h.acted ((o, answer) ∷ []) h.ended i.answered;
      outcomes = All-push (Outcome h.ended (Some answer) h.ledger.ahead) h.acted (o, answer)
          (All-weaker (Outcome h.ended h.ledger.acted h.ledger.ahead) (Outcome h.ended (Some answer) h.ledger.ahead)
          (λ a. outcome_kept h.ended h.ledger.acted h.ledger.ahead (Some answer) h.ledger.ahead a (λ comes. cc)) h.acted i.outcomes)
          (inr (inr (inr (refl, front))));
    }

acted_late : (o : Order) (answer : Reply) (h : History) → h.ledger.is_open ≡ false → h.ledger.late ≡ Some o → Orders h
    → OrdersAre h.ledger.submitted h.ledger.ahead h.ledger.is_open h.ledger.acted None h.accepted (h.acted ++ (o, answer) ∷ []) h.ended
acted_late o answer h closed late i =
    let was : LateIs (Some o) h.ledger.is_open i.first h.ended h.acted = subst (λ late. LateIs late h.ledger.is_open i.first h.ended h.acted) late i.late_is in
    let shut : FrontIs h.ledger.acted false h.ledger.ahead h.acted = subst (λ b. FrontIs h.ledger.acted b h.ledger.ahead h.acted) closed i.front in
    let none : h.ledger.acted ≡ None = none_acted h.ledger.acted h.ledger.ahead h.acted shut in
    record {
      first = i.first;
      numbered = i.numbered;
      total = i.total;
      whole = i.whole;
      count = i.count;
      each = i.each;
      once = all_pairs_push (λ (a b : Order × Reply). a.0.place < b.0.place) h.acted (o, answer) i.once was.2;
      below = All-push (λ (a : Order × Reply). a.0.place < bound h.ledger.acted i.first) h.acted (o, answer) i.below (omega (arith, was.1, at_bound h.ledger.acted i.first));
      front = subst (λ acted. FrontIs acted h.ledger.is_open h.ledger.ahead (h.acted ++ (o, answer) ∷ [])) (sym none) tt;
      late_is = tt;
      answered = answered_more h.acted ((o, answer) ∷ []) h.ended i.answered;
      outcomes = All-push (Outcome h.ended h.ledger.acted h.ledger.ahead) h.acted (o, answer) i.outcomes (by_end was.3);
    }
  where
    at_bound : (acted : Option Reply) (first : ℕ) → first ≤ bound acted first
    at_bound None first = omega arith
    at_bound (Some r) first = omega arith

    by_end : HasEnd h.ended o → Outcome h.ended h.ledger.acted h.ledger.ahead (o, answer)
    by_end (inl e) = inr (inl e)
    by_end (inr e) = inr (inr (inl e))

-- once the device has acted, on a line that is open or not
abbrev AfterAct : Order → Reply → History → Bool → Type 0
AfterAct o answer h is_open =
    (let l = acted_on is_open answer h.ledger in OrdersAre l.submitted l.ahead l.is_open l.acted l.late h.accepted (h.acted ++ (o, answer) ∷ []) h.ended)

acted_upon : (o : Order) (answer : Reply) (h : History) → MayActOn o h.ledger → Orders h → Orders (steps_on (Act o answer) h)
acted_upon o answer h (inl may) i = subst (AfterAct o answer h) (sym may.0) (acted_in_front o answer h may.0 may.1 may.2 i)
acted_upon o answer h (inr may) i = subst (AfterAct o answer h) (sym may.0) (acted_late o answer h may.0 may.1 i)

opened : (h : History) → h.ledger.is_open ≡ false → Orders h → Orders (steps_on Open h)
opened h closed i =
    let shut : FrontIs h.ledger.acted false h.ledger.ahead h.acted = subst (λ b. FrontIs h.ledger.acted b h.ledger.ahead h.acted) closed i.front in
    let none : h.ledger.acted ≡ None = none_acted h.ledger.acted h.ledger.ahead h.acted shut in
    record {
      first = i.first;
      numbered = i.numbered;
      total = i.total;
      whole = i.whole;
      count = i.count;
      each = i.each;
      once = i.once;
      below = subst (λ acted. Below (bound acted i.first) h.acted) none i.below;
      front = tt;
      late_is = tt;
      answered = i.answered;
      outcomes = subst (λ acted. All (Outcome h.ended acted h.ledger.ahead) h.acted) none i.outcomes;
    }

closed : (h : History) → May Close h.ledger → Orders h → Orders (steps_on Close h)
closed h may i = record {
  first = i.first;
  numbered = i.numbered;
  total = i.total;
  whole = i.whole;
  count = i.count;
  each = i.each;
  once = i.once;
  below = i.below;
  front = subst (λ acted. FrontIs acted false h.ledger.ahead h.acted) (sym may.1) tt;
  late_is = subst (λ late. LateIs late false i.first h.ended h.acted) (sym (no_late h.ledger.late h.ledger.is_open i.first h.ended h.acted may.0 i.late_is)) tt;
  answered = i.answered;
  outcomes = i.outcomes;
}

-- ---- the panel loses power

abbrev as_forgotten : Order → Order × End
as_forgotten o = (o, Forgotten)

orders_forgotten : (os : List Order) → map order_of (map as_forgotten os) ≡ os
orders_forgotten [] = refl
orders_forgotten (o ∷ os) = ap (λ xs. o ∷ xs) (orders_forgotten os)

forgotten_answered : (done : List (Order × Reply)) (os : List Order) → All (Answered done) (map as_forgotten os)
forgotten_answered done [] = All-nil (Answered done)
forgotten_answered done (o ∷ os) = All-cons (Answered done) (o, Forgotten) (map as_forgotten os) (λ answer e. cc) (forgotten_answered done os)

-- all that is ahead ends so
power_lost : (more : List (Order × End)) (late : Option Order) (submitted : ℕ) (ahead : List Order) (was_open : Bool) (acted : Option Reply) (was_late : Option Order)
    (accepted : List Order) (done : List (Order × Reply)) (ended : List (Order × End))
    → map order_of more ≡ ahead
    → All (Answered done) more
    → ((a : Order × Reply) → Comes acted ahead a → Outcome (ended ++ more) None [] a)
    → ((first : ℕ) → first + length ahead ≡ submitted → CountsFrom first (places ahead) → Below (bound acted first) done → LateIs was_late was_open first ended done
    → LateIs late false submitted (ended ++ more) done)
    → OrdersAre submitted ahead was_open acted was_late accepted done ended
    → OrdersAre submitted [] false None late accepted done (ended ++ more)
power_lost more late submitted ahead was_open acted was_late accepted done ended all answered comes is_late i = record {
  first = submitted;
  numbered = tt;
  total = omega arith;
  whole = i.whole;
  count = i.count;
  each = i.each ∙ ap (λ os. map order_of ended ++ os) (sym all) ∙ sym (map-append order_of ended more) ∙ sym (append-nil (map order_of (ended ++ more)));
  once = i.once;
  below = below_more (bound acted i.first) submitted done (bound_all acted i.front) i.below;
  front = tt;
  late_is = is_late i.first i.total i.numbered i.below i.late_is;
  answered = All-append (Answered done) ended more i.answered answered;
  outcomes = All-weaker (Outcome ended acted ahead) (Outcome (ended ++ more) None [])
      (λ a. outcome_more ended more acted ahead None [] a (comes a)) done i.outcomes;
}
  where
    bound_all : (acted : Option Reply) → FrontIs acted was_open ahead done → bound acted i.first ≤ submitted
    bound_all None f = omega (arith, i.total)
    bound_all (Some answer) f = let long : length ahead ≡ length (f.1.0 ∷ f.1.1.0) = ap length f.1.1.1 in omega (arith, i.total, long)

-- with its front on the wire, or where nothing was acted on
restarted_open : (on_wire : Bool) (h : History) → h.ledger.is_open ≡ true → May (RestartPanel on_wire) h.ledger → Orders h
    → OrdersAre h.ledger.submitted [] false None (late_at_restart on_wire h.ledger.acted h.ledger.ahead) h.accepted h.acted
    (h.ended ++ ends_at_restart true on_wire h.ledger.ahead)
restarted_open on_wire h is_open may i =
    power_lost (ends_at_restart true on_wire h.ledger.ahead) (late_at_restart on_wire h.ledger.acted h.ledger.ahead) h.ledger.submitted h.ledger.ahead h.ledger.is_open h.ledger.acted
    h.ledger.late h.accepted h.acted h.ended
    (all on_wire h.ledger.ahead) (answered on_wire h.ledger.ahead) (comes on_wire may h.ledger.ahead) (λ first total numbered below late. is_late on_wire h.ledger.ahead h.ledger.acted first total numbered below) i
  where
    all : (on_wire : Bool) (ahead : List Order) → map order_of (ends_at_restart true on_wire ahead) ≡ ahead
    all true [] = refl
    all true (o ∷ os) = ap (λ xs. o ∷ xs) (orders_forgotten os)
    all false ahead = orders_forgotten ahead

    answered : (on_wire : Bool) (ahead : List Order) → All (Answered h.acted) (ends_at_restart true on_wire ahead)
    answered true [] = All-nil (Answered h.acted)
    answered true (o ∷ os) = All-cons (Answered h.acted) (o, CutOff) (map as_forgotten os) (λ answer e. cc) (forgotten_answered h.acted os)
    answered false ahead = forgotten_answered h.acted ahead

    comes : (on_wire : Bool) → May (RestartPanel on_wire) h.ledger → (ahead : List Order) (a : Order × Reply) → Comes h.ledger.acted ahead a
        → Outcome (h.ended ++ ends_at_restart true on_wire ahead) None [] a
    comes false may ahead a c = cc
    comes true may [] a c = cc
    comes true may (o ∷ os) a c =
        inr (inr (inl (subst (λ x. Contains (h.ended ++ (o, CutOff) ∷ map as_forgotten os) (x, CutOff)) (same_front o a.0 (o ∷ os) (os, refl) c.1)
        (Contains-append_right h.ended ((o, CutOff) ∷ map as_forgotten os) (o, CutOff) (0, omega arith, refl)))))

    is_late : (on_wire : Bool) (ahead : List Order) (acted : Option Reply) (first : ℕ) → first + length ahead ≡ h.ledger.submitted → CountsFrom first (places ahead)
        → Below (bound acted first) h.acted
        → LateIs (late_at_restart on_wire acted ahead) false h.ledger.submitted (h.ended ++ ends_at_restart true on_wire ahead) h.acted
    is_late true (o ∷ os) None first total numbered below = (
      refl,
      omega (arith, numbered.0, total),
      below_more first o.place h.acted (omega (arith, numbered.0)) below,
      inr (Contains-append_right h.ended ((o, CutOff) ∷ map as_forgotten os) (o, CutOff) (0, omega arith, refl)),
    )
    is_late on_wire ahead acted first total numbered below = tt

restarted_closed : (on_wire : Bool) (h : History) → h.ledger.is_open ≡ false → Orders h
    → OrdersAre h.ledger.submitted [] h.ledger.is_open h.ledger.acted h.ledger.late h.accepted h.acted (h.ended ++ ends_at_restart false on_wire h.ledger.ahead)
restarted_closed on_wire h closed i =
    let shut : FrontIs h.ledger.acted false h.ledger.ahead h.acted = subst (λ b. FrontIs h.ledger.acted b h.ledger.ahead h.acted) closed i.front in
    let none : h.ledger.acted ≡ None = none_acted h.ledger.acted h.ledger.ahead h.acted shut in
    subst (λ b. OrdersAre h.ledger.submitted [] b h.ledger.acted h.ledger.late h.accepted h.acted (h.ended ++ ends_at_restart false on_wire h.ledger.ahead)) (sym closed)
    (subst (λ acted. OrdersAre h.ledger.submitted [] false acted h.ledger.late h.accepted h.acted (h.ended ++ ends_at_restart false on_wire h.ledger.ahead)) (sym none)
    (power_lost (map as_forgotten h.ledger.ahead) h.ledger.late h.ledger.submitted h.ledger.ahead h.ledger.is_open h.ledger.acted h.ledger.late h.accepted h.acted h.ended
    (orders_forgotten h.ledger.ahead) (forgotten_answered h.acted h.ledger.ahead)
    (λ a comes. absurd (closed_comes h.ledger.acted h.ledger.ahead h.acted a shut comes))
    (λ first total numbered below late.
    subst (λ b. LateIs h.ledger.late b h.ledger.submitted (h.ended ++ map as_forgotten h.ledger.ahead) h.acted) closed
    (late_more h.ledger.late h.ledger.is_open first h.ledger.submitted h.ended (map as_forgotten h.ledger.ahead) h.acted (omega (arith, total)) late))
    i))

restarted : (on_wire : Bool) (h : History) → May (RestartPanel on_wire) h.ledger → Orders h → Orders (steps_on (RestartPanel on_wire) h)
restarted on_wire h may i = by_state h.ledger.is_open refl
  where
    by_state : (b : Bool) → h.ledger.is_open ≡ b
        → (let l = panel_restarted on_wire b h.ledger in OrdersAre l.submitted l.ahead l.is_open l.acted l.late h.accepted h.acted (h.ended ++ ends_at_restart b on_wire h.ledger.ahead))
    by_state true e = restarted_open on_wire h e may i
    by_state false e = restarted_closed on_wire h e i

-- ---- all steps

keeps : (step : Step) (h : History) → May step h.ledger → Orders h → Orders (steps_on step h)
keeps (Submit o) h may i = submitted o h may i
keeps (Withdraw o) h may i = withdrawn o h may i
keeps Open h may i = opened h may i
keeps (Act o answer) h may i = acted_upon o answer h may.1 i
keeps (Settle o answer) h may i = settled o answer h may i
keeps (Doubt o) h may i = doubted o h may i
keeps Close h may i = closed h may i
keeps (RestartPanel on_wire) h may i = restarted on_wire h may i
keeps _ h may i = i

-- ---- sessions that ended over an order

-- a session under way has not ended yet
abbrev sessions_over : Bool → ℕ → ℕ
sessions_over true sessions = sessions
sessions_over false sessions = sessions + 1

pub record DoubtsAre (is_open : Bool) (sessions : ℕ) (doubts : List ℕ) : Type 0 where
  pub once : AllPairs (λ (m n : ℕ). m < n) doubts
  pub before : All (λ (m : ℕ). m < sessions_over is_open sessions) doubts

abbrev pub Doubts : History → Type 0
Doubts h = DoubtsAre h.ledger.is_open h.sessions h.doubts

all_before : (m n : ℕ) (doubts : List ℕ) → m ≤ n → All (λ (k : ℕ). k < m) doubts → All (λ (k : ℕ). k < n) doubts
all_before m n doubts le h = All-weaker (λ (k : ℕ). k < m) (λ (k : ℕ). k < n) (λ k b. omega (arith, b, le)) doubts h

over_closed : (is_open : Bool) (sessions : ℕ) (doubts : List ℕ) → DoubtsAre is_open sessions doubts → DoubtsAre false sessions doubts
over_closed true sessions doubts i = record { once = i.once; before = all_before sessions (sessions + 1) doubts (omega arith) i.before }
over_closed false sessions doubts i = i

doubts_keep : (step : Step) (h : History) → May step h.ledger → Doubts h → Doubts (steps_on step h)
doubts_keep Open h may i = record {
  once = i.once;
  before = subst (λ b. All (λ (m : ℕ). m < sessions_over b h.sessions) h.doubts) may i.before;
}
doubts_keep (Act o answer) h may i = elim h.ledger.is_open as (λ b. DoubtsAre (acted_on b answer h.ledger).is_open h.sessions h.doubts) [ true ↦ i | false ↦ i ]
doubts_keep (Doubt o) h may i =
    let before : All (λ (m : ℕ). m < h.sessions) h.doubts = subst (λ b. All (λ (m : ℕ). m < sessions_over b h.sessions) h.doubts) may.0 i.before in
    record {
      once = all_pairs_push (λ (m n : ℕ). m < n) h.doubts h.sessions i.once before;
      before = All-push (λ (m : ℕ). m < h.sessions + 1) h.doubts h.sessions (all_before h.sessions (h.sessions + 1) h.doubts (omega arith) before) (omega arith);
    }
doubts_keep Close h may i = over_closed h.ledger.is_open h.sessions h.doubts i
doubts_keep (RestartPanel on_wire) h may i = by_state h.ledger.is_open refl
  where
    by_state : (b : Bool) → h.ledger.is_open ≡ b → DoubtsAre (panel_restarted on_wire b h.ledger).is_open h.sessions h.doubts
    by_state true e = over_closed h.ledger.is_open h.sessions h.doubts i
    by_state false e = i
doubts_keep _ h may i = i

-- ---- any steps

hold : (steps : List Step) (h : History) → AreAllowed steps h → Orders h → Doubts h → OrdersHold (runs steps h)
hold [] h allowed i d = record {
  each = i.each;
  places = i.whole;
  submitted = were_submitted h i.each i.outcomes;
  once = i.once;
  answered = i.answered;
  outcomes = i.outcomes;
  doubts = d.once;
}
hold (step ∷ steps) h allowed i d =
    hold steps (steps_on step h) allowed.1 (keeps step h allowed.0 i) (doubts_keep step h allowed.0 d)

pub keeps_orders : KeepsOrders
keeps_orders steps allowed = hold steps new_history allowed
    (record {
      first = 0;
      numbered = tt;
      total = refl;
      whole = tt;
      count = refl;
      each = refl;
      once = λ i j d less below. let none : j < 0 = below in absurd (omega arith);
      below = All-nil (λ (a : Order × Reply). a.0.place < 0);
      front = tt;
      late_is = tt;
      answered = All-nil (Answered []);
      outcomes = All-nil (Outcome [] None []);
    })
    (record { once = λ i j d less below. let none : j < 0 = below in absurd (omega arith); before = All-nil (λ (m : ℕ). m < 1) })
