-- What is acted on was submitted.
use Rattle.std.proofs.Common.{◌≡◌, List, [], ◌∷◌, ◌++◌, map, refl, sym, subst, inl, inr, arith}
use Rattle.osdp_ledger.proofs.Common.{All, Contains, All-cons, All-contains, All-nil, All-weaker, Contains-append_left, Contains-append_right, Reply, Order, End, History, HasOutcome}
use Rattle.osdp_ledger.proofs.Acted.{order_of}

abbrev IsAmong : List Order → Order × End → Type 0
IsAmong orders e = Contains orders e.0

all_ended : (es : List (Order × End)) → All (IsAmong (map order_of es)) es
all_ended [] = All-nil (IsAmong [])
all_ended (e ∷ es) =
    All-cons (IsAmong (e.0 ∷ map order_of es)) e es (0, omega arith, refl)
    (All-weaker (IsAmong (map order_of es)) (IsAmong (e.0 ∷ map order_of es)) (λ x. Contains-append_right (e.0 ∷ []) (map order_of es) x.0) es (all_ended es))

pub were_submitted : (h : History) → h.accepted ≡ map order_of h.ended ++ h.ledger.ahead → All (HasOutcome h) h.acted
    → All (λ (done : Order × Reply). Contains h.accepted done.0) h.acted
were_submitted h each outcomes =
    All-weaker (HasOutcome h) (λ (done : Order × Reply). Contains h.accepted done.0)
    (λ done has. subst (λ os. Contains os done.0) (sym each) (by_outcome done has)) h.acted outcomes
  where
    ended : (order : Order) (how : End) → Contains h.ended (order, how) → Contains (map order_of h.ended ++ h.ledger.ahead) order
    ended order how there =
        Contains-append_left (map order_of h.ended) h.ledger.ahead order
        (All-contains (IsAmong (map order_of h.ended)) h.ended (order, how) (all_ended h.ended) there)

    by_outcome : (done : Order × Reply) → HasOutcome h done → Contains (map order_of h.ended ++ h.ledger.ahead) done.0
    by_outcome done (inl there) = ended done.0 _ there
    by_outcome done (inr (inl there)) = ended done.0 _ there
    by_outcome done (inr (inr (inl there))) = ended done.0 _ there
    by_outcome done (inr (inr (inr front))) =
        Contains-append_right (map order_of h.ended) h.ledger.ahead done.0
        (subst (λ os. Contains os done.0) (sym front.1.1) (0, omega arith, refl))
