-- What holds of the commands: of their places, of those acted on, and of those that have ended.
use Rattle.osdp_ledger.proofs.Common.{◌≡◌, ◌≤◌, ◌<◌, ◌+◌, ◌⊎◌, ℕ, Bool, true, false, List, [], ◌∷◌, ◌++◌, length, Option, Some, None, refl, sym, subst, ap, inl, inr, arith, All-weaker, Contains-append_left, All, AllPairs, Contains, map, drop, Reply, Order, is_in_front, CutOff, End, History, InDoubt, Settled, CountsFrom}

abbrev pub order_of : Order × End → Order
order_of e = e.0

abbrev pub places : List Order → List ℕ
places = map (λ o. o.place)

-- before which place the device may act on none any more
abbrev pub bound : Option Reply → ℕ → ℕ
bound None first = first
bound (Some answer) first = first + 1

abbrev pub Below : ℕ → List (Order × Reply) → Type 0
Below n done = All (λ (a : Order × Reply). a.0.place < n) done

abbrev pub FrontIs : Option Reply → Bool → List Order → List (Order × Reply) → Type 0
FrontIs None is_open ahead done = Unit {0}
FrontIs (Some answer) is_open ahead done = (is_open ≡ true) × ((o : Order) × is_in_front o ahead × Contains done (o, answer))

abbrev pub HasEnd : List (Order × End) → Order → Type 0
HasEnd ended o = Contains ended (o, InDoubt) ⊎ Contains ended (o, CutOff)

abbrev pub LateIs : Option Order → Bool → ℕ → List (Order × End) → List (Order × Reply) → Type 0
LateIs None is_open first ended done = Unit {0}
LateIs (Some o) is_open first ended done = (is_open ≡ false) × (o.place < first) × Below o.place done × HasEnd ended o

abbrev pub Comes : Option Reply → List Order → Order × Reply → Type 0
Comes acted ahead a = (acted ≡ Some a.1) × is_in_front a.0 ahead

abbrev pub Outcome : List (Order × End) → Option Reply → List Order → Order × Reply → Type 0
Outcome ended acted ahead a =
    Contains ended (a.0, Settled a.1) ⊎ (Contains ended (a.0, InDoubt) ⊎ (Contains ended (a.0, CutOff) ⊎ Comes acted ahead a))

abbrev pub Answered : List (Order × Reply) → Order × End → Type 0
Answered done e = (answer : Reply) → e.1 ≡ Settled answer → Contains done (e.0, answer)

pub record OrdersAre (submitted : ℕ) (ahead : List Order) (is_open : Bool) (acted : Option Reply) (late : Option Order)
    (accepted : List Order) (done : List (Order × Reply)) (ended : List (Order × End)) : Type 0 where
  pub first : ℕ
  pub numbered : CountsFrom first (places ahead)
  pub total : first + length ahead ≡ submitted
  pub whole : CountsFrom 0 (places accepted)
  pub count : length accepted ≡ submitted
  pub each : accepted ≡ map order_of ended ++ ahead
  pub once : AllPairs (λ (a b : Order × Reply). a.0.place < b.0.place) done
  pub below : Below (bound acted first) done
  pub front : FrontIs acted is_open ahead done
  pub late_is : LateIs late is_open first ended done
  pub answered : All (Answered done) ended
  pub outcomes : All (Outcome ended acted ahead) done

abbrev pub Orders : History → Type 0
Orders h = OrdersAre h.ledger.submitted h.ledger.ahead h.ledger.is_open h.ledger.acted h.ledger.late h.accepted h.acted h.ended

-- ---- lists

pub counts_push : (n : ℕ) (os : List Order) (o : Order) → CountsFrom n (places os) → o.place ≡ n + length os → CountsFrom n (places (os ++ o ∷ []))
counts_push n [] o h e = (omega (arith, e), tt)
counts_push n (x ∷ xs) o h e = (h.0, counts_push (n + 1) xs o h.1 (omega (arith, e)))

pub record OffFront (first : ℕ) (o : Order) (ahead : List Order) : Type 0 where
  pub place : o.place ≡ first
  pub numbered : CountsFrom (first + 1) (places (drop 1 ahead))
  pub is : ahead ≡ o ∷ drop 1 ahead

pub off_front : (first : ℕ) (o : Order) (ahead : List Order) → is_in_front o ahead → CountsFrom first (places ahead) → OffFront first o ahead
off_front first o ahead f h =
    subst (λ os. CountsFrom first (places os) → OffFront first o os) (sym f.1) (λ g. record { place = g.0; numbered = g.1; is = refl }) h

pub move_over : (ended : List (Order × End)) (o : Order) (how : End) (rest : List Order)
    → map order_of (ended ++ (o, how) ∷ []) ++ rest ≡ map order_of ended ++ (o ∷ rest)
move_over [] o how rest = refl
move_over (x ∷ xs) o how rest = ap (λ os. x.0 ∷ os) (move_over xs o how rest)

-- ---- what stays where a list grows

pub below_more : (m n : ℕ) (done : List (Order × Reply)) → m ≤ n → Below m done → Below n done
below_more m n done le h = All-weaker (λ (a : Order × Reply). a.0.place < m) (λ (a : Order × Reply). a.0.place < n) (λ a b. omega (arith, b, le)) done h

pub has_end_more : (ended more : List (Order × End)) (o : Order) → HasEnd ended o → HasEnd (ended ++ more) o
has_end_more ended more o (inl h) = inl (Contains-append_left ended more (o, InDoubt) h)
has_end_more ended more o (inr h) = inr (Contains-append_left ended more (o, CutOff) h)

pub late_more : (late : Option Order) (is_open : Bool) (m n : ℕ) (ended more : List (Order × End)) (done : List (Order × Reply)) → m ≤ n
    → LateIs late is_open m ended done → LateIs late is_open n (ended ++ more) done
late_more None is_open m n ended more done le h = tt
late_more (Some o) is_open m n ended more done le h = (h.0, omega (arith, h.1, le), h.2, has_end_more ended more o h.3)

pub outcome_more : (ended more : List (Order × End)) (acted : Option Reply) (ahead : List Order) (later : Option Reply) (left : List Order) (a : Order × Reply)
    → (Comes acted ahead a → Outcome (ended ++ more) later left a) → Outcome ended acted ahead a → Outcome (ended ++ more) later left a
outcome_more ended more acted ahead later left a f (inl h) = inl (Contains-append_left ended more (a.0, Settled a.1) h)
outcome_more ended more acted ahead later left a f (inr (inl h)) = inr (inl (Contains-append_left ended more (a.0, InDoubt) h))
outcome_more ended more acted ahead later left a f (inr (inr (inl h))) = inr (inr (inl (Contains-append_left ended more (a.0, CutOff) h)))
outcome_more ended more acted ahead later left a f (inr (inr (inr h))) = f h

pub outcome_kept : (ended : List (Order × End)) (acted : Option Reply) (ahead : List Order) (later : Option Reply) (left : List Order) (a : Order × Reply)
    → (Comes acted ahead a → Outcome ended later left a) → Outcome ended acted ahead a → Outcome ended later left a
outcome_kept ended acted ahead later left a f (inl h) = inl h
outcome_kept ended acted ahead later left a f (inr (inl h)) = inr (inl h)
outcome_kept ended acted ahead later left a f (inr (inr (inl h))) = inr (inr (inl h))
outcome_kept ended acted ahead later left a f (inr (inr (inr h))) = f h

pub answered_more : (done more : List (Order × Reply)) (ended : List (Order × End)) → All (Answered done) ended → All (Answered (done ++ more)) ended
answered_more done more ended h =
    All-weaker (Answered done) (Answered (done ++ more)) (λ e g answer is. Contains-append_left done more (e.0, answer) (g answer is)) ended h

-- ---- the front

pub none_acted : (acted : Option Reply) (ahead : List Order) (done : List (Order × Reply)) → FrontIs acted false ahead done → acted ≡ None
none_acted None ahead done f = refl
none_acted (Some answer) ahead done f = cc

pub closed_comes : (acted : Option Reply) (ahead : List Order) (done : List (Order × Reply)) (a : Order × Reply) → FrontIs acted false ahead done
    → Comes acted ahead a → ⊥
closed_comes acted ahead done a f comes = let none : acted ≡ None = none_acted acted ahead done f in cc

pub same_reply : (x y : Reply) → Some x ≡ Some y → x ≡ y
same_reply x y e = cc

pub same_front : (x y : Order) (ahead : List Order) → is_in_front x ahead → is_in_front y ahead → x ≡ y
same_front x y ahead f g = cc

pub front_pushed : (acted : Option Reply) (is_open : Bool) (ahead : List Order) (o : Order) (done : List (Order × Reply))
    → FrontIs acted is_open ahead done → FrontIs acted is_open (ahead ++ o ∷ []) done
front_pushed None is_open ahead o done f = tt
front_pushed (Some answer) is_open ahead o done f =
    (f.0, (f.1.0, (f.1.1.0 ++ o ∷ [], ap (λ os. os ++ o ∷ []) f.1.1.1), f.1.2))
