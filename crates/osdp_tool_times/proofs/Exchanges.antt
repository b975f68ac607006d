-- Packets that are answered before the panel sends its next one.
use Rattle.osdp_tool_times.proofs.Common.{◌≡◌, ◌≢◌, ◌≤◌, ◌-◌, ℕ, Bool, cond, List, [], ◌∷◌, Some, None, refl, sym, ap, ◌∙◌, eq-eqb, le-leb, ne_eqb, after_reply, after_sent, in_time, no_waits, told_reply, Sent, InTime, Late, Nothing}
use Rattle.osdp_tool_times.specs.Laws.{Exchange, NeverTellsLate, TellsLate, after_exchanges, sent}
use Rattle.osdp_tool_times.specs.declared.waits.Waits.{Waits}

-- a packet after which nothing is owed but its answer
abbrev pub fresh : Sent → Waits
fresh s = record { earlier = None; before = None; last = Some s; first = None }

abbrev pub of : Exchange → Sent
of e = record { moment = e.asked; number = e.number }

-- whatever packet is sent, no answer is owed before it
abbrev pub Ready : Waits → Type 0
Ready w = (s : Sent) → after_sent s w ≡ fresh s

pub answered_is : (e : Exchange) → Ready (after_reply e.number e.answered (fresh (of e)))
answered_is e = λ s.
    ap (λ (t : Bool). after_sent s (cond t (record { earlier = None; before = None; last = Some (of e); first = Some e.answered }) (fresh (of e))))
    (eq-eqb e.number e.number refl)

closed : (e : Exchange) (w : Waits) → Ready w → Ready (after_reply e.number e.answered (sent e.number e.asked w))
closed e w ready = λ s. ap (λ x. after_sent s (after_reply e.number e.answered x)) (ready (of e)) ∙ answered_is e s

pub all_closed : (exchanges : List Exchange) (w : Waits) → Ready w → Ready (after_exchanges w exchanges)
unfolding after_exchanges
all_closed [] w ready = ready
all_closed (e ∷ exchanges) w ready = all_closed exchanges (after_reply e.number e.answered (sent e.number e.asked w)) (closed e w ready)

pub in_time_is : (e : Exchange) → told_reply (fresh (of e)) e.number e.answered ≡ InTime (e.answered - e.asked)
in_time_is e =
    ap (λ t. cond t (in_time e.asked e.answered) Nothing) (eq-eqb e.number e.number refl)
    ∙ ap (λ t. cond t (InTime (e.answered - e.asked)) Nothing) (le-leb e.asked e.answered e.in_turn)

pub never_late : NeverTellsLate
never_late exchanges e =
    ap (λ x. told_reply x e.number e.answered) (all_closed exchanges no_waits (λ s. refl) (of e)) ∙ in_time_is e

late_is : (number next asked later answered : ℕ) → next ≢ number → asked ≤ later → later ≤ answered
    → told_reply (sent next later (fresh (record { moment = asked; number = number }))) number answered ≡ Late (answered - asked) (later - asked)
late_is number next asked later answered other first second =
    rw (eq-eqb number number refl, ne_eqb number next (λ e. other (sym e)), le-leb asked later first, le-leb later answered second) refl

pub late_one : TellsLate
late_one exchanges number next asked later answered other first second =
    ap (λ x. told_reply (sent next later x) number answered) (all_closed exchanges no_waits (λ s. refl) (record { moment = asked; number = number }))
    ∙ late_is number next asked later answered other first second
