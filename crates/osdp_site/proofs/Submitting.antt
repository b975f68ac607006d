-- What is submitted where an entry acts, and what is left.
use Rattle.osdp_site.proofs.Common.{◌≡◌, ◌∙◌, ap, sym, subst, ℕ, zero, suc, ◌+◌, ◌≤◌, Bool, true, false, ◌&&◌, List, [], ◌∷◌, ◌++◌, length, take, drop, Option, Some, None, refl, arith, if◌then◌else◌, nat_le, leb-true, Command, BusState, after_submit_at, order_refusal_at, Acted, Submitted, submits, submitted, unless_refused, IsTaken, StopsAt, SubmittedOnce, Takes, refreshed, refreshed_over, sent, sent_over, PlaceState, due_of, is_online, is_refreshed, opens}
use Rattle.std.proofs.lemmas.List.{take-append-drop}
use Rattle.osdp_bus.specs.declared.fault.BusFault.{BusFault}

drop_nothing : (n : ℕ) → ◌≡◌ {A = List Command} (drop n []) []
drop_nothing zero = refl
drop_nothing (suc n) = refl

drop_on : (m n : ℕ) (cs : List Command) → drop n (drop m cs) ≡ drop (m + n) cs
drop_on zero n cs = ap (λ k. drop k cs) (let e : n ≡ 0 + n = omega arith in e)
drop_on (suc m) n [] = drop_nothing n ∙ sym (drop_nothing (suc m + n))
drop_on (suc m) n (c ∷ cs) = drop_on m n cs ∙ ap (λ k. drop k (c ∷ cs)) (let e : suc (m + n) ≡ suc m + n = omega arith in e)

drop_all : (cs : List Command) (n : ℕ) → length cs ≤ n → drop n cs ≡ []
drop_all [] zero h = refl
drop_all [] (suc n) h = refl
drop_all (c ∷ cs) zero h = absurd (omega arith)
drop_all (c ∷ cs) (suc n) h = drop_all cs n (omega arith)

-- ---- one act

-- where the device is online or not
abbrev sent_if : Bool → ℕ → BusState → PlaceState → List Command
sent_if online entry b p = if online then take (submits entry (due_of p) b).count (due_of p) else []

abbrev after_if : Bool → ℕ → BusState → PlaceState → Acted
after_if online entry b p = if online then submitted p (submits entry (due_of p) b) else record { place = p; panel = b }

order_if : (online : Bool) (entry : ℕ) (b : BusState) (p : PlaceState) → sent_if online entry b p ++ due_of (after_if online entry b p).place ≡ due_of p
order_if false entry b p = refl
order_if true entry b p =
    let n = (submits entry (due_of p) b).count in
    sym (ap (λ cs. take n (due_of p) ++ cs) (drop_on p.done n p.wanted)) ∙ take-append-drop n (due_of p)

-- what is submitted, and then what is left, was due
pub order_sent : (entry : ℕ) (b : BusState) (p : PlaceState) → sent entry b p ++ due_of (refreshed entry b p) ≡ due_of p
order_sent entry b p = order_if (is_online p.presence) entry b p

wanted_if : (online : Bool) (entry : ℕ) (b : BusState) (p : PlaceState) → (after_if online entry b p).place.wanted ≡ p.wanted
wanted_if false entry b p = refl
wanted_if true entry b p = refl

pub wanted_refreshed : (entry : ℕ) (b : BusState) (p : PlaceState) → (refreshed entry b p).wanted ≡ p.wanted
wanted_refreshed entry b p = wanted_if (is_online p.presence) entry b p

takes_step : (o : Option BusFault) (entry : ℕ) (c : Command) (cs : List Command) (b : BusState) (more : Submitted) → order_refusal_at entry c b ≡ o
    → Takes entry (take more.count cs) (after_submit_at entry c b) more.panel
    → Takes entry (take (unless_refused o b more).count (c ∷ cs)) b (unless_refused o b more).panel
takes_step (Some fault) entry c cs b more is taken = refl
takes_step None entry c cs b more is taken = (is, taken)

takes_due : (entry : ℕ) (cs : List Command) (b : BusState) → Takes entry (take (submits entry cs b).count cs) b (submits entry cs b).panel
takes_due entry [] b = refl
takes_due entry (c ∷ cs) b =
    let after = after_submit_at entry c b in
    takes_step (order_refusal_at entry c b) entry c cs b (submits entry cs after) refl (takes_due entry cs after)

stops_step : (o : Option BusFault) (entry : ℕ) (c : Command) (cs : List Command) (b : BusState) (more : Submitted) → order_refusal_at entry c b ≡ o
    → StopsAt entry (drop more.count cs) more.panel
    → StopsAt entry (drop (unless_refused o b more).count (c ∷ cs)) (unless_refused o b more).panel
stops_step (Some fault) entry c cs b more is stops = λ none. let e : Some fault ≡ None = sym is ∙ none in absurd cc
stops_step None entry c cs b more is stops = stops

stops_due : (entry : ℕ) (cs : List Command) (b : BusState) → StopsAt entry (drop (submits entry cs b).count cs) (submits entry cs b).panel
stops_due entry [] b = tt
stops_due entry (c ∷ cs) b =
    let after = after_submit_at entry c b in
    stops_step (order_refusal_at entry c b) entry c cs b (submits entry cs after) refl (stops_due entry cs after)

takes_if : (online : Bool) (entry : ℕ) (b : BusState) (p : PlaceState) → Takes entry (sent_if online entry b p) b (after_if online entry b p).panel
takes_if false entry b p = refl
takes_if true entry b p = takes_due entry (due_of p) b

stops_if : (online : Bool) (entry : ℕ) (b : BusState) (p : PlaceState) → online ≡ true
    → StopsAt entry (due_of (after_if online entry b p).place) (after_if online entry b p).panel
stops_if false entry b p is = absurd cc
stops_if true entry b p is =
    let s = submits entry (due_of p) b in
    subst (λ cs. StopsAt entry cs s.panel) (drop_on p.done s.count p.wanted) (stops_due entry (due_of p) b)

pub is_taken : (entry : ℕ) (b : BusState) (p : PlaceState) → IsTaken entry b p
is_taken entry b p = record {
  takes = takes_if (is_online p.presence) entry b p;
  stops = stops_if (is_online p.presence) entry b p;
  wanted = wanted_refreshed entry b p;
}

-- ---- one after the other

append_on : (xs ys zs : List Command) → (xs ++ ys) ++ zs ≡ xs ++ (ys ++ zs)
append_on [] ys zs = refl
append_on (x ∷ xs) ys zs = ap (λ cs. x ∷ cs) (append_on xs ys zs)

order_over : (entry : ℕ) (bs : List BusState) (p : PlaceState) → sent_over entry bs p ++ due_of (refreshed_over entry bs p) ≡ due_of p
order_over entry [] p = refl
order_over entry (b ∷ bs) p =
    let q = refreshed entry b p in
    append_on (sent entry b p) (sent_over entry bs q) (due_of (refreshed_over entry bs q))
    ∙ ap (λ cs. sent entry b p ++ cs) (order_over entry bs q)
    ∙ order_if (is_online p.presence) entry b p

second_true : (a b : Bool) → (a && b) ≡ true → b ≡ true
second_true true b h = h
second_true false b h = absurd cc

pub none_due : (p : PlaceState) → is_refreshed p ≡ true → due_of p ≡ []
none_due p is =
    let all = second_true (is_online p.presence) (nat_le (length p.wanted) p.done) is in
    let h : length p.wanted ≤ p.done = leb-true (length p.wanted) p.done all in
    drop_all p.wanted p.done h

append_nothing : (xs : List Command) → xs ++ [] ≡ xs
append_nothing [] = refl
append_nothing (x ∷ xs) = ap (λ cs. x ∷ cs) (append_nothing xs)

pub submitted_once : (entry now : ℕ) (bs : List BusState) (p : PlaceState) → SubmittedOnce entry now bs p
submitted_once entry now bs p =
    let o = opens now p in
    let order = order_over entry bs o in
    record {
      order = order;
      done = λ is. sym (append_nothing (sent_over entry bs o))
          ∙ sym (ap (λ cs. sent_over entry bs o ++ cs) (none_due (refreshed_over entry bs o) is))
          ∙ order;
    }
