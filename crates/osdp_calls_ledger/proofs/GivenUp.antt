-- An event leaves by a call of its device's program only where that call gives it up.
use Rattle.osdp_calls_ledger.proofs.Common.{◌≡◌, ◌+◌, ◌==◌, ℕ, Bool, true, false, cond, List, [], ◌∷◌, ◌++◌, map, All, Option, Some, None, refl, sym, subst, ap, ◌∙◌, inl, inr, append_assoc, append-nil, Command, Event, Answer, Card, Ledger, History, Left, ThrownAway, new_history, runs, steps_on, new_ledger, IsPlain, both, each_all, each_of, Each, after_steps, lapses_event, queued_before, withdraws_event, site_at, Call, NewDevice, NewPanel, OfPanel, Step, LapseEvent, WithdrawEvent, after_call, InUse, Station, LeftSo, in_doubt, never_offered, steps_along, steps_at, steps_from, steps_of}
use Rattle.std.specs.Prelude.{flat_map, nat_lt}
use Rattle.std.specs.List.{AllZip}
use Rattle.std.proofs.lemmas.Grind.{flat_map-append}
use Rattle.osdp_bus_laws.specs.Calls as bus
use Rattle.osdp_ledger.specs.History.{AfterReport, Exit, Lapsed, TakenBack}
use Rattle.osdp_ledger.specs.Ledger as ledger
use Rattle.osdp_link_ledger.specs.Steps.{card_at}
use Rattle.osdp_calls_ledger.specs.GivenUp.{LeavesBy, all_given_up, given_up_as, given_up_by, gives, lapsed_at, taken_back_at}
use Rattle.osdp_calls_ledger.proofs.Allowing.{Allows, AllowsPanel, call_holds}

abbrev pub gone_of : List Left → List (Card × Exit)
gone_of = flat_map (λ (w : Left). given_up_as w.card w.why)

-- ---- what steps let go

abbrev pub gone_in : List ledger.Step → List (Card × Exit)
gone_in [] = []
gone_in (ledger.WithdrawEvent card ∷ steps) = (card, TakenBack) ∷ gone_in steps
gone_in (ledger.Lapse card ∷ steps) = (card, Lapsed) ∷ gone_in steps
gone_in (_ ∷ steps) = gone_in steps

pub gone_more : (xs ys : List ledger.Step) → gone_in (xs ++ ys) ≡ gone_in xs ++ gone_in ys
gone_more [] ys = refl
gone_more (ledger.WithdrawEvent card ∷ xs) ys = ap (λ ws. (card, TakenBack) ∷ ws) (gone_more xs ys)
gone_more (ledger.Lapse card ∷ xs) ys = ap (λ ws. (card, Lapsed) ∷ ws) (gone_more xs ys)
gone_more (_ ∷ xs) ys = gone_more xs ys

none_thrown : (session : ℕ) (cards : List Card) → gone_of (map (λ c. record { session = session; card = c; why = ThrownAway }) cards) ≡ []
none_thrown session [] = refl
none_thrown session (c ∷ cs) = none_thrown session cs

-- one more has left
one_gone : (steps : List ledger.Step) (left : List Left) (w : Left)
    → gone_of (left ++ w ∷ []) ++ gone_in steps ≡ gone_of left ++ (given_up_as w.card w.why ++ gone_in steps)
one_gone steps left w =
    ap (λ ws. ws ++ gone_in steps) (flat_map-append (λ (v : Left). given_up_as v.card v.why) left (w ∷ []))
    ∙ append_assoc (gone_of left) (given_up_as w.card w.why ++ []) (gone_in steps)
    ∙ ap (λ ws. gone_of left ++ (ws ++ gone_in steps)) (append-nil (given_up_as w.card w.why))

pub runs_gone : (steps : List ledger.Step) (h : History) → gone_of (runs steps h).left ≡ gone_of h.left ++ gone_in steps
runs_gone [] h = sym (append-nil (gone_of h.left))
runs_gone (ledger.Leave card ∷ steps) h =
    runs_gone steps (steps_on (ledger.Leave card) h) ∙ one_gone steps h.left (record { session = h.sessions; card = card; why = AfterReport })
runs_gone (ledger.WithdrawEvent card ∷ steps) h =
    runs_gone steps (steps_on (ledger.WithdrawEvent card) h) ∙ one_gone steps h.left (record { session = h.sessions; card = card; why = TakenBack })
runs_gone (ledger.Lapse card ∷ steps) h =
    runs_gone steps (steps_on (ledger.Lapse card) h) ∙ one_gone steps h.left (record { session = h.sessions; card = card; why = Lapsed })
runs_gone (ledger.RestartDevice ∷ steps) h =
    runs_gone steps (steps_on ledger.RestartDevice h)
    ∙ ap (λ ws. ws ++ gone_in steps)
    (flat_map-append (λ (v : Left). given_up_as v.card v.why) h.left (map (λ c. record { session = h.sessions; card = c; why = ThrownAway }) h.ledger.cards)
    ∙ ap (λ ws. gone_of h.left ++ ws) (none_thrown h.sessions h.ledger.cards) ∙ append-nil (gone_of h.left))
runs_gone (step ∷ steps) h = runs_gone steps (steps_on step h)

-- ---- steps by which nothing is given up

abbrev pub GivesUpNone : ledger.Step → Type 0
GivesUpNone (ledger.WithdrawEvent card) = ⊥
GivesUpNone (ledger.Lapse card) = ⊥
GivesUpNone _ = Unit {0}

pub plain_gives_none : (step : ledger.Step) → IsPlain step → GivesUpNone step
plain_gives_none (ledger.WithdrawEvent card) plain = absurd plain
plain_gives_none (ledger.Lapse card) plain = absurd plain
plain_gives_none _ plain = tt

pub none_gone : (steps : List ledger.Step) → Each GivesUpNone steps → gone_in steps ≡ []
none_gone [] none = refl
none_gone (ledger.WithdrawEvent card ∷ steps) none = absurd none.0
none_gone (ledger.Lapse card ∷ steps) none = absurd none.0
none_gone (_ ∷ steps) none = none_gone steps none.1

before_gone : (place : ℕ) (es : List Event) → gone_in (queued_before place es) ≡ []
before_gone place [] = refl
before_gone place (e ∷ es) = before_gone (place + 1) es

-- ---- the calls of a device's program

event_at : (cards : List Card) (e : Event) → (card_at cards e).event ≡ e
event_at [] e = refl
event_at (c ∷ cs) e = refl

abbrev pub LeaveBy : List (Event × Exit) → List (Card × Exit) → Type 0
LeaveBy = AllZip LeavesBy

withdrawn_gone : (o : Option Event) (ever : Bool) (g : Ledger) → LeaveBy (gives o TakenBack) (gone_in (withdraws_event o ever g))
withdrawn_gone None ever g = tt
withdrawn_gone (Some event) ever g = ((event_at _ event, inl refl), tt)

lapsed_gone : (o : Option Event) (g : Ledger) → LeaveBy (gives o Lapsed) (gone_in (lapses_event o g))
lapsed_gone None g = tt
lapsed_gone (Some event) g =
    let card = card_at g.cards event in
    both (λ (step : ledger.Step). LeaveBy ((event, Lapsed) ∷ []) (gone_in (step ∷ []))) (nat_lt card.place g.shown) (ledger.Lapse card) (ledger.WithdrawEvent card)
    ((event_at g.cards event, inl refl), tt) ((event_at g.cards event, inr refl), tt)

pub zip_append : {A B : Type 0} (R : A → B → Type 0) (xs zs : List A) (ys ws : List B) → AllZip R xs ys → AllZip R zs ws → AllZip R (xs ++ zs) (ys ++ ws)
zip_append R [] zs [] ws all more = more
zip_append R [] zs (y ∷ ys) ws all more = absurd all
zip_append R (x ∷ xs) zs [] ws all more = absurd all
zip_append R (x ∷ xs) zs (y ∷ ys) ws all more = (all.0, zip_append R xs zs ys ws all.1 more)

module _ {H : Type 0} (answer_of : H → Command → Answer) (after : H → Command → H) (k : ℕ) where
  withdrawn_at : (i : ℕ) (b : Bool) (o : Option (Station H)) (g : Ledger)
      → LeaveBy (cond b (taken_back_at o) []) (gone_in (cond b (steps_at answer_of after (WithdrawEvent i) o g) []))
  withdrawn_at i false o g = tt
  withdrawn_at i true None g = tt
  withdrawn_at i true (Some t) g = withdrawn_gone (never_offered t.reader.queue) t.reader.queue.ever_offered g

  lapses_at : (i : ℕ) (b : Bool) (o : Option (Station H)) (g : Ledger)
      → LeaveBy (cond b (lapsed_at o) []) (gone_in (cond b (steps_at answer_of after (LapseEvent i) o g) []))
  lapses_at i false o g = tt
  lapses_at i true None g = tt
  lapses_at i true (Some t) g = lapsed_gone (in_doubt t.reader.queue) g

  -- no other call gives one up
  abbrev IsOther : Call H → Type 0
  IsOther (WithdrawEvent i) = ⊥
  IsOther (LapseEvent i) = ⊥
  IsOther _ = Unit {0}

  pub other_panel : (call : bus.Call) → AllowsPanel GivesUpNone plain_gives_none k call
  other_panel (bus.Withdraw i) = λ same order. tt
  other_panel _ = tt

  other_allows : (call : Call H) → IsOther call → Allows GivesUpNone plain_gives_none k answer_of after call
  other_allows (OfPanel call) other = other_panel call
  other_allows (WithdrawEvent i) other = absurd other
  other_allows (LapseEvent i) other = absurd other
  other_allows (NewDevice i config handler room gap) other = λ same. tt
  other_allows (NewPanel config addresses) other = λ on_wire. tt
  other_allows _ other = tt

  other_gone : (call : Call H) (l : InUse H) (g : Ledger) → IsOther call → LeaveBy [] (gone_in (steps_of answer_of after k call l g))
  other_gone call l g other =
      let steps = steps_of answer_of after k call l g in
      subst (LeaveBy []) (sym (none_gone steps (call_holds GivesUpNone plain_gives_none k answer_of after call l g (other_allows call other)))) tt

  pub call_gone : (call : Call H) (l : InUse H) (g : Ledger) → LeaveBy (given_up_by k call l) (gone_in (steps_of answer_of after k call l g))
  call_gone (WithdrawEvent i) l g = withdrawn_at i (i == k) (site_at k l.stations) g
  call_gone (LapseEvent i) l g = lapses_at i (i == k) (site_at k l.stations) g
  call_gone call l g = other_gone call l g tt

  -- ---- lists of calls

  along_gone : (steps : List (Step H)) (l : InUse H) (g : Ledger) → LeaveBy (all_given_up answer_of after k steps l) (gone_in (steps_along answer_of after k steps l g))
  along_gone [] l g = tt
  along_gone (step ∷ steps) l g =
      let now = steps_of answer_of after k step.call l g in
      let next = after_call answer_of after step.call step.places l in
      let more = steps_along answer_of after k steps next (after_steps now g) in
      subst (LeaveBy (all_given_up answer_of after k (step ∷ steps) l)) (sym (gone_more now more))
      (zip_append LeavesBy (given_up_by k step.call l) (all_given_up answer_of after k steps next) (gone_in now) (gone_in more) (call_gone step.call l g)
      (along_gone steps next (after_steps now g)))

-- what events that waited before, and then steps, come to
pub gone_from : (calls : List (Event × Exit)) (es : List Event) (steps : List ledger.Step) → LeaveBy calls (gone_in steps)
    → LeaveBy calls (gone_of (runs (queued_before 0 es ++ steps) new_history).left)
gone_from calls es steps all =
    let before = queued_before 0 es in
    subst (LeaveBy calls) (sym (runs_gone (before ++ steps) new_history ∙ gone_more before steps ∙ ap (λ ws. ws ++ gone_in steps) (before_gone 0 es))) all

pub all_gone : {H : Type 0} (answer_of : H → Command → Answer) (after : H → Command → H) (k : ℕ) (first : Station H) (steps : List (Step H)) (l : InUse H)
    → LeaveBy (all_given_up answer_of after k steps l) (gone_of (runs (steps_from answer_of after k first steps l) new_history).left)
all_gone answer_of after k first steps l =
    let g0 = after_steps (queued_before 0 first.reader.queue.events) new_ledger in
    gone_from (all_given_up answer_of after k steps l) first.reader.queue.events (steps_along answer_of after k steps l g0) (along_gone answer_of after k steps l g0)

-- ---- where a program lets none lapse, none has

taken_back : (calls : List (Event × Exit)) (ws : List (Card × Exit)) → LeaveBy calls ws → Each (λ (call : Event × Exit). call.1 ≡ TakenBack) calls
    → Each (λ (w : Card × Exit). w.1 ≡ TakenBack) ws
taken_back [] [] by all = tt
taken_back [] (w ∷ ws) by all = absurd by
taken_back (call ∷ calls) [] by all = absurd by
taken_back (call ∷ calls) (w ∷ ws) by all = (elim by.0.1 [ inl same ↦ same ∙ all.0 | inr back ↦ back ], taken_back calls ws by.1 all.1)

abbrev AreBack : List (Card × Exit) → Type 0
AreBack = Each (λ (w : Card × Exit). w.1 ≡ TakenBack)

so_one : (w : Left) (ws : List Left) (why : Exit) → w.why ≡ why → (AreBack (gone_of ws) → Each LeftSo ws) → AreBack (given_up_as w.card why ++ gone_of ws)
    → LeftSo w × Each LeftSo ws
so_one w ws AfterReport is rest all = (inl is, rest all)
so_one w ws TakenBack is rest all = (inr (inl is), rest all.1)
so_one w ws Lapsed is rest all = absurd (let e = all.0 in cc)
so_one w ws ThrownAway is rest all = (inr (inr is), rest all)

left_so : (left : List Left) → AreBack (gone_of left) → Each LeftSo left
left_so [] all = tt
left_so (w ∷ ws) all = so_one w ws w.why refl (left_so ws) all

pub exits_so : (calls : List (Event × Exit)) (left : List Left) → LeaveBy calls (gone_of left) → All (λ (call : Event × Exit). call.1 ≡ TakenBack) calls → All LeftSo left
exits_so calls left by all =
    each_all LeftSo left (left_so left (taken_back calls (gone_of left) by (each_of (λ (call : Event × Exit). call.1 ≡ TakenBack) calls all)))
