-- What holds of the orders of a session after each step since it began.
use Rattle.std.proofs.Common.{◌≡◌, ◌≤◌, ◌++◌, Bool, true, false, List, [], ◌∷◌, length, map, drop, Option, Some, None, refl, sym, subst, ap, ◌∙◌, inl, inr, arith, append_assoc}
use Rattle.std.proofs.lemmas.List.{append-nil, map-append}
use Rattle.std.proofs.lemmas.List.Elements.{All-head, All-tail, Contains-push}
use Rattle.std.specs.Prelude.{All}
use Rattle.osdp_msg.specs.declared.reply.Reply.{Reply}
use Rattle.osdp_ledger.specs.History.{AreAllowed, End, Forgotten, GivenBack, History, InDoubt, Settled, ends_at_restart, new_history, runs, steps_on}
use Rattle.osdp_ledger.specs.Ledger.{Act, Close, Doubt, May, MayActOn, Open, Order, RestartPanel, Settle, Step, Submit, Withdraw, acted_on, late_after, late_at_restart, panel_restarted}
use Rattle.osdp_ledger.specs.OneSession.{settled_in}
use Rattle.osdp_ledger.proofs.InTurn.{allowed_second, runs_then}
use Rattle.osdp_ledger.proofs.Settled.{settled_more}
use Rattle.osdp_ledger_laws.specs.Sessions.{AreActedFirst, AreTakenBackBetween, BeginsNone, EachSessionHolds, HoldsInSession, IsTakenBackBetween, OrdersAreABeginning, WithoutGivenBack}
use Rattle.osdp_ledger_laws.proofs.GivenBack.{ended_more, none_gone, order_goes, order_more}

abbrev pub asked : Order × Reply → Order
asked done = done.0

-- ---- lists

front_is : {A : Type 0} (x y : A) (xs ys zs : List A) → zs ≡ x ∷ xs → zs ≡ y ∷ ys → x ≡ y
front_is x y xs ys zs a b = let e : x ∷ xs ≡ y ∷ ys = sym a ∙ b in cc

put_front : (o : Order) (os ahead : List Order) → ahead ≡ o ∷ os → ahead ≡ o ∷ drop 1 ahead
put_front o os ahead front = front ∙ ap (λ xs. o ∷ xs) (sym (ap (drop 1) front))

forgets_none : (os : List Order) → settled_in (map (λ o. (o, Forgotten)) os) ≡ []
forgets_none [] = refl
forgets_none (o ∷ os) = forgets_none os

restart_settles_none : (is_open on_wire : Bool) (os : List Order) → settled_in (ends_at_restart is_open on_wire os) ≡ []
restart_settles_none true true (o ∷ os) = forgets_none os
restart_settles_none true true [] = refl
restart_settles_none true false os = forgets_none os
restart_settles_none false on_wire os = forgets_none os

-- ---- where the orders stand: these are not acted on yet, and these acted on and not settled

-- The session is under way: each that was acted on is settled, or the order in front was acted on. It is over: none is acted on any more, or an order may be
-- acted on yet. Then of those that waited some have gone.
abbrev pub Stands : Bool → Option Reply → Option Order → List Order → List Order → List (Order × Reply) → Type 0
Stands true None late ahead rest more = (late ≡ None) × (more ≡ []) × (rest ≡ ahead)
Stands true (Some answer) late ahead rest more = (late ≡ None) × (order : Order) × (more ≡ (order, answer) ∷ []) × (ahead ≡ order ∷ rest)
Stands false now None ahead rest more = (length more ≤ 1) × (gone : List Order) × (rest ≡ gone ++ ahead)
Stands false now (Some order) ahead rest more = (more ≡ []) × (gone : List Order) × (rest ≡ order ∷ gone ++ ahead)

one_waits : (b : Bool) (now : Option Reply) (late : Option Order) (o : Order) (ahead rest : List Order) (more : List (Order × Reply)) → Stands b now late ahead rest more
    → Stands b now late (ahead ++ o ∷ []) (rest ++ o ∷ []) more
one_waits true None late o ahead rest more (in_time, none, is) = (in_time, none, ap (λ os. os ++ o ∷ []) is)
one_waits true (Some answer) late o ahead rest more (in_time, order, one, front) = (in_time, order, one, ap (λ os. os ++ o ∷ []) front)
one_waits false now None o ahead rest more (few, gone, is) = (few, gone, ap (λ os. os ++ o ∷ []) is ∙ append_assoc gone ahead (o ∷ []))
one_waits false now (Some order) o ahead rest more (none, gone, is) =
    (none, gone, ap (λ os. os ++ o ∷ []) is ∙ ap (λ os. order ∷ os) (append_assoc gone ahead (o ∷ [])))

some_go : (now : Option Reply) (late : Option Order) (first left ahead rest : List Order) (more : List (Order × Reply)) → ahead ≡ first ++ left
    → Stands false now late ahead rest more → Stands false now late left rest more
some_go now None first left ahead rest more e (few, gone, is) = (few, gone ++ first, is ∙ ap (λ os. gone ++ os) e ∙ sym (append_assoc gone first left))
some_go now (Some order) first left ahead rest more e (none, gone, is) =
    (none, gone ++ first, is ∙ ap (λ os. order ∷ gone ++ os) e ∙ ap (λ os. order ∷ os) (sym (append_assoc gone first left)))

-- it ends over the order in front, and after it these go
ends_over : (now : Option Reply) (late : Option Order) (o : Order) (gone left ahead rest : List Order) (more : List (Order × Reply)) → ahead ≡ o ∷ gone ++ left
    → Stands true now late ahead rest more → Stands false None (late_after now o) left rest more
ends_over None late o gone left ahead rest more e (in_time, none, is) = (none, gone, is ∙ e)
ends_over (Some answer) late o gone left ahead rest more e (in_time, order, one, front) = (omega (arith, ap length one), gone, ap (drop 1) (sym front ∙ e))

at_most_one : (b : Bool) (now : Option Reply) (late : Option Order) (ahead rest : List Order) (more : List (Order × Reply)) → Stands b now late ahead rest more → length more ≤ 1
at_most_one true None late ahead rest more (in_time, none, is) = omega (arith, ap length none)
at_most_one true (Some answer) late ahead rest more (in_time, order, one, front) = omega (arith, ap length one)
at_most_one false now None ahead rest more (few, gone, is) = few
at_most_one false now (Some order) ahead rest more (none, gone, is) = omega (arith, ap length none)

-- where it is asked, orders are taken back only while no session is under way
abbrev Between : Bool → List Step → History → Type 0
Between true steps h = AreTakenBackBetween steps h
Between false steps h = Unit {0}

between_first : (strict : Bool) (step : Step) (steps : List Step) (h : History) → Between strict (step ∷ steps) h → strict ≡ true → IsTakenBackBetween step h
between_first true step steps h between is = between.0
between_first false step steps h between is = absurd cc

between_then : (strict : Bool) (step : Step) (steps : List Step) (h : History) → Between strict (step ∷ steps) h → Between strict steps (steps_on step h)
between_then true step steps h between = between.1
between_then false step steps h between = tt

module _ (strict : Bool) (began : History) where
  -- of these accepted, acted on and ended, with the ledger's fields
  pub record SessionIs (is_open : Bool) (ahead : List Order) (now : Option Reply) (late : Option Order) (all : List Order) (done : List (Order × Reply)) (over : List (Order × End)) : Type 0 where
    pub accepted : List Order
    pub acted : List (Order × Reply)
    pub ended : List (Order × End)
    pub accepted_since : all ≡ began.accepted ++ accepted
    pub acted_since : done ≡ began.acted ++ acted
    pub ended_since : over ≡ began.ended ++ ended
    pub rest : List Order
    pub more : List (Order × Reply)
    pub each : WithoutGivenBack ended (map asked acted ++ rest) (began.ledger.ahead ++ accepted)
    pub whole : strict ≡ true → began.ledger.ahead ++ accepted ≡ map asked acted ++ rest
    pub settled : acted ≡ settled_in ended ++ more
    pub stand : Stands is_open now late ahead rest more

  abbrev Session : History → Type 0
  Session h = SessionIs h.ledger.is_open h.ledger.ahead h.ledger.acted h.ledger.late h.accepted h.acted h.ended

  abbrev StandsAs : (h : History) → Session h → Bool → Option Reply → Option Order → Type 0
  StandsAs h i b now late = Stands b now late h.ledger.ahead i.rest i.more

  -- ---- the panel

  submitted : (o : Order) (h : History) → Session h → Session (steps_on (Submit o) h)
  submitted o h i = record {
    acted = i.acted;
    ended = i.ended;
    acted_since = i.acted_since;
    ended_since = i.ended_since;
    more = i.more;
    settled = i.settled;
    accepted = i.accepted ++ o ∷ [];
    accepted_since = ap (λ os. os ++ o ∷ []) i.accepted_since ∙ append_assoc began.accepted i.accepted (o ∷ []);
    rest = i.rest ++ o ∷ [];
    each = subst (λ os. WithoutGivenBack i.ended (map asked i.acted ++ (i.rest ++ o ∷ [])) os) (append_assoc began.ledger.ahead i.accepted (o ∷ []))
        (subst (λ os. WithoutGivenBack i.ended os ((began.ledger.ahead ++ i.accepted) ++ o ∷ [])) (append_assoc (map asked i.acted) i.rest (o ∷ []))
        (order_more o i.ended (map asked i.acted ++ i.rest) (began.ledger.ahead ++ i.accepted) i.each));
    whole = λ is. sym (append_assoc began.ledger.ahead i.accepted (o ∷ [])) ∙ ap (λ os. os ++ o ∷ []) (i.whole is)
        ∙ append_assoc (map asked i.acted) i.rest (o ∷ []);
    stand = one_waits h.ledger.is_open h.ledger.acted h.ledger.late o h.ledger.ahead i.rest i.more i.stand;
  }

  -- some more have ended: of those that were acted on they settle all but these
  ends_so : (new : List (Order × End)) (more : List (Order × Reply)) (b : Bool) (ahead : List Order) (now : Option Reply) (late : Option Order) (over : List (Order × End)) (h : History) (i : Session h)
      → over ≡ h.ended ++ new → i.more ≡ settled_in new ++ more → Stands b now late ahead i.rest more → SessionIs b ahead now late h.accepted h.acted over
  ends_so new more b ahead now late over h i is but stand = record {
    accepted = i.accepted;
    acted = i.acted;
    accepted_since = i.accepted_since;
    acted_since = i.acted_since;
    rest = i.rest;
    each = ended_more i.ended new (map asked i.acted ++ i.rest) (began.ledger.ahead ++ i.accepted) i.each;
    whole = i.whole;
    ended = i.ended ++ new;
    ended_since = is ∙ ap (λ es. es ++ new) i.ended_since ∙ append_assoc began.ended i.ended new;
    more = more;
    settled = i.settled ∙ ap (λ ds. settled_in i.ended ++ ds) but ∙ sym (append_assoc (settled_in i.ended) (settled_in new) more)
        ∙ ap (λ ds. ds ++ more) (sym (settled_more i.ended new));
    stand = stand;
  }

  -- .. of those that wait in a session the front has gone
  goes_back : (o : Order) (os : List Order) (h : History) (i : Session h) → (strict ≡ true → h.ledger.is_open ≡ false) → h.ledger.is_open ≡ true → h.ledger.acted ≡ None
      → h.ledger.ahead ≡ o ∷ os → Session (steps_on (Withdraw o) h)
  goes_back o os h i closed going none front =
      let l = h.ledger in
      let s : StandsAs h i true None l.late = subst (λ (x : Bool × Option Reply). StandsAs h i x.0 x.1 l.late) (λ j. (going j, none j)) i.stand in
      let first : i.rest ≡ o ∷ os = s.2 ∙ front in
      let ended = i.ended ++ (o, GivenBack) ∷ [] in
      let all = began.ledger.ahead ++ i.accepted in
      record {
        accepted = i.accepted;
        acted = i.acted;
        accepted_since = i.accepted_since;
        acted_since = i.acted_since;
        ended = ended;
        ended_since = ap (λ es. es ++ (o, GivenBack) ∷ []) i.ended_since ∙ append_assoc began.ended i.ended ((o, GivenBack) ∷ []);
        rest = os;
        more = i.more;
        each = order_goes ended o (map asked i.acted) os all (Contains-push i.ended (o, GivenBack))
            (subst (λ r. WithoutGivenBack ended (map asked i.acted ++ r) all) first
            (ended_more i.ended ((o, GivenBack) ∷ []) (map asked i.acted ++ i.rest) all i.each));
        whole = λ is. absurd (let e : true ≡ false = sym going ∙ closed is in cc);
        settled = i.settled ∙ ap (λ ds. ds ++ i.more) (sym (append-nil (settled_in i.ended)) ∙ sym (settled_more i.ended ((o, GivenBack) ∷ [])));
        stand = subst (λ (x : Bool × Option Reply). Stands x.0 x.1 l.late (drop 1 l.ahead) os i.more) (λ j. (sym going j, sym none j)) (s.0, s.1, sym (ap (drop 1) front));
      }

  withdraws : (o : Order) (h : History) → (strict ≡ true → h.ledger.is_open ≡ false) → May (Withdraw o) h.ledger → Session h → Session (steps_on (Withdraw o) h)
  withdraws o h between (none, (os, front)) i = by_state h.ledger.is_open refl
    where
      by_state : (b : Bool) → h.ledger.is_open ≡ b → Session (steps_on (Withdraw o) h)
      by_state true going = goes_back o os h i between going none front
      by_state false closed =
          let l = h.ledger in
          ends_so ((o, GivenBack) ∷ []) i.more l.is_open (drop 1 l.ahead) l.acted l.late (h.ended ++ (o, GivenBack) ∷ []) h i refl refl
          (subst (λ b. Stands b l.acted l.late (drop 1 l.ahead) i.rest i.more) (sym closed)
          (some_go l.acted l.late (o ∷ []) (drop 1 l.ahead) l.ahead i.rest i.more (put_front o os l.ahead front) (subst (λ b. StandsAs h i b l.acted l.late) closed i.stand)))

  settles : (o : Order) (answer : Reply) (h : History) → May (Settle o answer) h.ledger → Session h → Session (steps_on (Settle o answer) h)
  settles o answer h (going, (os, front), now) i =
      let l = h.ledger in
      let s : StandsAs h i true (Some answer) l.late = subst (λ (x : Bool × Option Reply). StandsAs h i x.0 x.1 l.late) (λ j. (going j, now j)) i.stand in
      let order : s.1 ≡ o = front_is s.1 o i.rest os l.ahead s.3 front in
      ends_so ((o, Settled answer) ∷ []) [] l.is_open (drop 1 l.ahead) None l.late (h.ended ++ (o, Settled answer) ∷ []) h i refl
      (s.2 ∙ (λ j. (order j, answer) ∷ []))
      (subst (λ b. Stands b None l.late (drop 1 l.ahead) i.rest []) (sym going) (s.0, refl, sym (ap (drop 1) s.3)))

  doubts : (o : Order) (h : History) → May (Doubt o) h.ledger → Session h → Session (steps_on (Doubt o) h)
  doubts o h (going, (os, front)) i =
      let l = h.ledger in
      ends_so ((o, InDoubt) ∷ []) i.more false (drop 1 l.ahead) None (late_after l.acted o) (h.ended ++ (o, InDoubt) ∷ []) h i refl refl
      (ends_over l.acted l.late o [] (drop 1 l.ahead) l.ahead i.rest i.more (put_front o os l.ahead front) (subst (λ b. StandsAs h i b l.acted l.late) going i.stand))

  closes : (h : History) → May Close h.ledger → Session h → Session (steps_on Close h)
  closes h (going, none) i =
      let l = h.ledger in
      let s : StandsAs h i true None l.late = subst (λ (x : Bool × Option Reply). StandsAs h i x.0 x.1 l.late) (λ j. (going j, none j)) i.stand in
      ends_so [] i.more false l.ahead l.acted l.late h.ended h i (sym (append-nil h.ended)) refl
      (subst (StandsAs h i false l.acted) (sym s.0) (omega (arith, ap length s.1), [], s.2))

  -- ---- power of the panel

  abbrev After : Bool → History → Bool → Type 0
  After on_wire h b = let l = panel_restarted on_wire b h.ledger in
      SessionIs l.is_open l.ahead l.acted l.late h.accepted h.acted (h.ended ++ ends_at_restart b on_wire h.ledger.ahead)

  -- none waits any more, and what has ended by it isn't settled
  restarted_so : (on_wire b : Bool) (h : History) (i : Session h)
      → (let l = panel_restarted on_wire b h.ledger in Stands l.is_open l.acted l.late l.ahead i.rest i.more) → After on_wire h b
  restarted_so on_wire b h i stand =
      let l = panel_restarted on_wire b h.ledger in
      let new = ends_at_restart b on_wire h.ledger.ahead in
      ends_so new i.more l.is_open l.ahead l.acted l.late (h.ended ++ new) h i refl
      (ap (λ ds. ds ++ i.more) (sym (restart_settles_none b on_wire h.ledger.ahead))) stand

  restarts : (on_wire : Bool) (h : History) → May (RestartPanel on_wire) h.ledger → Session h → Session (steps_on (RestartPanel on_wire) h)
  restarts true h (going, o, (os, front)) i =
      let l = h.ledger in
      subst (After true h) (sym going) (restarted_so true true h i
      (subst (λ xs. Stands false None (late_at_restart true l.acted xs) [] i.rest i.more) (sym front)
      (ends_over l.acted l.late o os [] l.ahead i.rest i.more (front ∙ ap (λ xs. o ∷ xs) (sym (append-nil os))) (subst (λ b. StandsAs h i b l.acted l.late) going i.stand))))
  restarts false h none i = by_state h.ledger.is_open refl
    where
      by_state : (b : Bool) → h.ledger.is_open ≡ b → After false h b
      by_state true going =
          let s : StandsAs h i true None h.ledger.late = subst (λ (x : Bool × Option Reply). StandsAs h i x.0 x.1 h.ledger.late) (λ j. (going j, none j)) i.stand in
          restarted_so false true h i (omega (arith, ap length s.1), h.ledger.ahead, s.2 ∙ sym (append-nil h.ledger.ahead))
      by_state false closed =
          let l = h.ledger in
          restarted_so false false h i (subst (λ b. Stands b l.acted l.late [] i.rest i.more) (sym closed)
          (some_go l.acted l.late l.ahead [] l.ahead i.rest i.more (sym (append-nil l.ahead)) (subst (λ b. StandsAs h i b l.acted l.late) closed i.stand)))

  -- ---- the device

  -- one more is acted on, where all that were acted on before are settled
  acts_so : (o : Order) (answer : Reply) (b : Bool) (now : Option Reply) (late : Option Order) (after : List Order) (h : History) (i : Session h) → i.more ≡ [] → i.rest ≡ o ∷ after
      → Stands b now late h.ledger.ahead after ((o, answer) ∷ []) → SessionIs b h.ledger.ahead now late h.accepted (h.acted ++ (o, answer) ∷ []) h.ended
  acts_so o answer b now late after h i none front stand = record {
    accepted = i.accepted;
    ended = i.ended;
    accepted_since = i.accepted_since;
    ended_since = i.ended_since;
    acted = i.acted ++ (o, answer) ∷ [];
    acted_since = ap (λ ds. ds ++ (o, answer) ∷ []) i.acted_since ∙ append_assoc began.acted i.acted ((o, answer) ∷ []);
    rest = after;
    more = (o, answer) ∷ [];
    each = subst (λ os. WithoutGivenBack i.ended os (began.ledger.ahead ++ i.accepted)) one_later i.each;
    whole = λ is. i.whole is ∙ one_later;
    settled = ap (λ ds. ds ++ (o, answer) ∷ []) (i.settled ∙ ap (λ ds. settled_in i.ended ++ ds) none ∙ append-nil (settled_in i.ended));
    stand = stand;
  }
    where
      one_later : map asked i.acted ++ i.rest ≡ map asked (i.acted ++ (o, answer) ∷ []) ++ after
      one_later = ap (λ os. map asked i.acted ++ os) front ∙ sym (append_assoc (map asked i.acted) (o ∷ []) after)
          ∙ ap (λ os. os ++ after) (sym (map-append asked i.acted ((o, answer) ∷ [])))

  abbrev Acted : Order → Reply → History → Bool → Type 0
  Acted o answer h b = let l = acted_on b answer h.ledger in SessionIs l.is_open l.ahead l.acted l.late h.accepted (h.acted ++ (o, answer) ∷ []) h.ended

  acts : (o : Order) (answer : Reply) (h : History) → MayActOn o h.ledger → Session h → Session (steps_on (Act o answer) h)
  acts o answer h (inl (going, (os, front), none)) i =
      let l = h.ledger in
      let s : StandsAs h i true None l.late = subst (λ (x : Bool × Option Reply). StandsAs h i x.0 x.1 l.late) (λ j. (going j, none j)) i.stand in
      subst (Acted o answer h) (sym going) (acts_so o answer l.is_open (Some answer) l.late os h i s.1 (s.2 ∙ front)
      (subst (λ b. Stands b (Some answer) l.late l.ahead os ((o, answer) ∷ [])) (sym going) (s.0, o, refl, front)))
  acts o answer h (inr (closed, late)) i =
      let l = h.ledger in
      let s : StandsAs h i false l.acted (Some o) = subst (λ (x : Bool × Option Order). StandsAs h i x.0 l.acted x.1) (λ j. (closed j, late j)) i.stand in
      subst (Acted o answer h) (sym closed) (acts_so o answer l.is_open l.acted None (s.1 ++ l.ahead) h i s.0 s.2
      (subst (λ b. Stands b l.acted None l.ahead (s.1 ++ l.ahead) ((o, answer) ∷ [])) (sym closed) (omega arith, s.1, refl)))

  -- ---- any step

  keeps : (step : Step) (h : History) → BeginsNone step → (strict ≡ true → IsTakenBackBetween step h) → May step h.ledger → Session h → Session (steps_on step h)
  keeps (Submit o) h none between may i = submitted o h i
  keeps (Withdraw o) h none between may i = withdraws o h between may i
  keeps Open h none between may i = absurd none
  keeps (Act o answer) h none between may i = acts o answer h may.1 i
  keeps (Settle o answer) h none between may i = settles o answer h may i
  keeps (Doubt o) h none between may i = doubts o h may i
  keeps Close h none between may i = closes h may i
  keeps (RestartPanel on_wire) h none between may i = restarts on_wire h may i
  keeps _ h none between may i = i

  hold : (steps : List Step) (h : History) → All BeginsNone steps → Between strict steps h → AreAllowed steps h → Session h → Session (runs steps h)
  hold [] h none between allowed i = i
  hold (step ∷ steps) h none between allowed i =
      hold steps (steps_on step h) (All-tail BeginsNone step steps none) (between_then strict step steps h between) allowed.1
      (keeps step h (All-head BeginsNone step steps none) (between_first strict step steps h between) allowed.0 i)

  -- as it begins
  opens : Session (steps_on Open began)
  opens = record {
    accepted = [];
    acted = [];
    ended = [];
    accepted_since = sym (append-nil began.accepted);
    acted_since = sym (append-nil began.acted);
    ended_since = sym (append-nil began.ended);
    rest = began.ledger.ahead;
    more = [];
    each = subst (λ os. WithoutGivenBack [] began.ledger.ahead os) (sym (append-nil began.ledger.ahead)) (none_gone [] began.ledger.ahead);
    whole = λ is. append-nil began.ledger.ahead;
    settled = refl;
    stand = (refl, refl, refl);
  }

  since_open : (since : List Step) → AreAllowed since (steps_on Open began) → All BeginsNone since → Between strict since (steps_on Open began)
      → Session (runs since (steps_on Open began))
  since_open since allowed none between = hold since (steps_on Open began) none between allowed opens

module _ (began : History) where
  pub holds : (since : List Step) → AreAllowed since (steps_on Open began) → All BeginsNone since → HoldsInSession began (runs since (steps_on Open began))
  holds since allowed none =
      let h = runs since (steps_on Open began) in
      let i = since_open false began since allowed none tt in
      record {
        accepted = i.accepted;
        acted = i.acted;
        ended = i.ended;
        accepted_since = i.accepted_since;
        acted_since = i.acted_since;
        ended_since = i.ended_since;
        beginning = (i.rest, i.each);
        settled = (i.more, i.settled, at_most_one h.ledger.is_open h.ledger.acted h.ledger.late h.ledger.ahead i.rest i.more i.stand);
      }

  pub acted_first : (since : List Step) → AreAllowed since (steps_on Open began) → All BeginsNone since → AreTakenBackBetween since (steps_on Open began)
      → AreActedFirst began (runs since (steps_on Open began))
  acted_first since allowed none between =
      let i = since_open true began since allowed none between in
      record {
        accepted = i.accepted;
        acted = i.acted;
        accepted_since = i.accepted_since;
        acted_since = i.acted_since;
        beginning = (i.rest, i.whole refl);
      }

-- ---- after any steps

pub each_session_holds : EachSessionHolds
each_session_holds before since allowed none =
    let began = runs before new_history in
    subst (λ (h : History). HoldsInSession began h) (sym (runs_then before (Open ∷ since) new_history))
    (holds began since (allowed_second before (Open ∷ since) new_history allowed).1 none)

pub orders_are_a_beginning : OrdersAreABeginning
orders_are_a_beginning before since allowed none between =
    let began = runs before new_history in
    subst (λ (h : History). AreActedFirst began h) (sym (runs_then before (Open ∷ since) new_history))
    (acted_first began since (allowed_second before (Open ∷ since) new_history allowed).1 none between)
